-- The words of the proofs: definitions and lemmas of std, of the crates below and of this one, each under one name.
pub use Rattle.std.specs.List.{All, slice_get, sum_by}
pub use Rattle.std.specs.Mem.Slots.{slots_items, slots_len, slots_filled}
pub use Rattle.std.specs.Vec.Iter.{into_iter_items, into_iter_len}
pub use Rattle.std.proofs.Common.{◌≡◌, ℕ, ◌-◌, ◌<◌, zero, suc, inl, inr, Bool, false, set, List, [], ◌∷◌, ◌++◌, map, length, get_or, take, replicate, sym, refl, ap, ◌∙◌, subst, arith, append_assoc, Some, ◌+◌, ◌≤◌, ◌≢◌, true, cond, eqb, drop, min, ⊎_elim, length-set, Option, None, ◌==◌, count_by, append-nil, not, filter, ◌↔◌, IsTrue, IfSome, IsSomeAnd, is_none, is_some, ◌&&◌, slice_index_or, vec_capacity, vec_len, rules, slice_index}
pub use Rattle.std.proofs.Math.Dec.{eqb-suc-zero}
pub use Rattle.std.proofs.lemmas.Bool.{eqb-false, eqb-true, eq-eqb}
pub use Rattle.std.proofs.lemmas.Bool.Decides.{nat_tests}
pub use Rattle.std.proofs.lemmas.Grind.{common_steps}
pub use Rattle.std.proofs.lemmas.List.{map-append, get_or-set_other, get_or-set_same, get_or_default, length-append, length-replicate, get_or-map, get_or_read_under, map-set, length-map}
pub use Rattle.std.proofs.lemmas.Option.{slice_get-get_or}
pub use Rattle.std.proofs.lemmas.List.Elements.{All-pop, All-push, All-same}
pub use Rattle.std.proofs.lemmas.List.Sums.{sum_by-cons, sum_by-append, sum_by_push, sum_by-take-drop, sum_by-set}
pub use Rattle.atomic_table.proofs.Lists.{set_else, set_here, set_again, at_snoc, some_there, exchanged, at_set}
pub use Rattle.atomic_table.specs.Table.{State, Me, Act, rest, Valid, carried_after, step, keeps, takes, gives, stepped, Allows, Splits, Joins, opening}
pub use Rattle.space_model.specs.declared.Answer.{Answer}
pub use Rattle.space_model.specs.declared.Answer.TheVariants.{Refused, Done, Placed}
pub use Rattle.space_model.specs.declared.Heard.{Heard}
pub use Rattle.space_model.specs.declared.entries.Op.{Op}
pub use lib.ListN.{get_elem?}
pub use lib.Seq.{set-get_or}
pub use mathlib.Core.Logic.{dite}
pub use mathlib.Core.Option.{some, some-injective, some-ne-none, none}
pub use native.Mathlib.Decide.{dec_le, ℕ_discrete, dec_lt}
pub use prog.Atomic.{either}
pub use Rattle.hook_api.specs.Asked.{AskFacts, heard_in, by_box, is_refusal}
pub use Rattle.hook_api.specs.Chain.{AskChain, AskChainAtEachBox, BoxChain, Chain, ChainAtEachBox, Event, EventStep, Made, PlanSet, TellsAll, asks_in, asks_of}
pub use Rattle.hook_api.specs.Counts.{greatest, capped}
pub use Rattle.hook_api.specs.Deeds.{Bare, bare_of, carried, nothing, with_heard}
pub use Rattle.hook_api.specs.Filling.{FillsIn, filled_in}
pub use Rattle.hook_api.specs.Hooks.{Account, Tells}
pub use Rattle.hook_api.specs.Kept.{IsKept, KeptFacts, heard_of}
pub use Rattle.hook_api.specs.Kepts.{IsPaired, asks_after, kept_of, paired}
pub use Rattle.hook_api.specs.Orders.{AreInForce, AreOf, IsByPlanOf, IsLeftOf, no_order, no_orders, plan_for}
pub use Rattle.hook_api.specs.Plans.{PlanRefusesNth, next_plan, plan_after, plan_of, refuses, refuses_next, kind_index, kind_of, plan_at, plans_after}
pub use Rattle.hook_api.specs.Seats.{refused_at, tallies_of}
pub use Rattle.hook_api.specs.ShareSteps.{first_part, idle, both_tallies, later_part, spent, most, with_refusal, HasBox, came_home, counted, having, took, waited, Took}
pub use Rattle.hook_api.specs.Shared.{HasCounted, IsAskOfSome, IsSeatOf, IsNewSeat}
pub use Rattle.hook_api.specs.Sharing.{Covers, Rule, blank, clients_of, refused_by, refused_in, opening_sight, taken_is, takers}
pub use Rattle.hook_api.specs.Shelf.{BoxState, no_account, no_box, AskStep, BoxStep, PlanStep, Shelf, box_at, count_of, new_book}
pub use Rattle.hook_api.specs.declared.books.Book.{Book}
pub use Rattle.hook_api.specs.declared.plans.Kind.{Kind}
pub use Rattle.hook_api.specs.declared.orders.Order.{Order}
pub use Rattle.hook_api.specs.declared.orders.Orders.{Orders}
pub use Rattle.hook_api.specs.declared.plans.Plan.{Plan}
pub use Rattle.hook_api.specs.declared.plans.Plan.TheVariants.{Pass, After}
pub use Rattle.hook_api.specs.declared.seat.AskSeat.{AskSeat}
pub use Rattle.hook_api.specs.declared.sights.Began.{Began}
pub use Rattle.hook_api.specs.declared.sights.Sight.{Sight}
pub use Rattle.hook_api.specs.declared.sights.Taken.{Taken}
pub use Rattle.hook_api.specs.declared.sights.Tally.{Tally}
