-- The words of the proofs: definitions and lemmas of std, of the crates below and of this one, each under one name.
pub use Rattle.std.specs.List.{All, AllPairs, flat_map, sum_by, range_with_len, filter}
pub use Rattle.std.proofs.Common.{◌≡◌, ℕ, ◌+◌, ◌-◌, ◌<◌, ◌≤◌, ◌≢◌, suc, List, [], ◌∷◌, ◌++◌, length, set, sym, refl, ap, ◌∙◌, subst, lt_of_not-le, arith, append_assoc, append-nil, Bool, cond, eqb, map, ne_eqb, eq-eqb, ◌%◌, ◌^◌, ◌⊎◌, zero, true, false, ltb, get_or, take, drop, Some, inl, inr, ⊎_elim, length-append, Result, Ok, Err, IfOk, OnErr, rules, vec_len}
pub use Rattle.std.proofs.Math.Nat.{mod-add-mod}
pub use Rattle.std.proofs.lemmas.Bool.Decides.{nat_tests}
pub use Rattle.std.proofs.lemmas.Grind.{flat_map-append}
pub use Rattle.std.proofs.lemmas.List.{append_cancel_left, map-append}
pub use Rattle.std.proofs.lemmas.List.Elements.{All-nil, All-cons, All-tail, filter-append}
pub use Rattle.std.proofs.lemmas.List.Kept.{AllPairs-cons}
pub use Rattle.std.proofs.lemmas.List.Sums.{sum_by-cons, fold-append}
pub use Rattle.std.proofs.lemmas.Result.{IfOk-weaker}
pub use Rattle.atomic_table.proofs.Lists.{at_longer, at_set, set_again, set_else, at_snoc, one_turn}
pub use Rattle.atomic_table.specs.Table.{State, Me, step, keeps, takes, gives, stepped, rest, Allows, Splits, Joins, opening}
pub use lib.ListN.{get_elem?}
pub use lib.Seq.{set-get_or}
pub use mathlib.Core.List.{IsPrefix}
pub use mathlib.Core.Logic.{dite}
pub use mathlib.Core.Option.{some, Option, none, some-injective, some-ne-none}
pub use native.Mathlib.Decide.{dec_le, ℕ_discrete}
pub use Rattle.turn_lock.specs.History.{entries_by, replay_turns, turn_of, entries, IsLegal}
pub use Rattle.turn_lock.specs.Locks.{number, held, HasMade, IsWhole, IsPassOf, spare}
pub use Rattle.turn_lock.specs.Rule.{total, times, number_count, has, IsClaim, Rule, tickets_in, ticket_of, is_serving, is_idle, StandsIn, tickets, staged, IsTrueView, Slot, opening_view}
pub use Rattle.turn_lock.specs.Steps.{spent, drew, looked, with_turn, entry_added, nothing_added, first_part, later_part, both_views, Sat, Enters}
pub use Rattle.turn_lock.specs.Views.{seen_by, first_numbers, Served}
pub use Rattle.turn_lock.specs.declared.lock.Pass.{Pass}
pub use Rattle.turn_lock.specs.declared.machine.Machine.{Ghosts}
pub use Rattle.turn_lock.specs.declared.view.Claim.{Claim}
pub use Rattle.turn_lock.specs.declared.view.Stage.{Stage}
pub use Rattle.turn_lock.specs.declared.view.Stage.TheVariants.{Idle, Waiting, Serving}
pub use Rattle.turn_lock.specs.declared.view.Turn.{Turn}
pub use Rattle.turn_lock.specs.declared.view.View.{View}
