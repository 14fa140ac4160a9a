-- The words of the proofs: definitions and lemmas of std, of the crates below and of this one, each under one name.
pub use Rattle.std.specs.Arc.{arc_value}
pub use Rattle.std.specs.List.{All, range_with_len, sum_by}
pub use Rattle.std.specs.Option.{option_map_or}
pub use Rattle.std.specs.Prelude.{IsOk, if◌then◌else◌, slice_get, slice_index, slice_set}
pub use Rattle.std.specs.declared.snapshot.Snapshot.{Snapshot}
pub use Rattle.std.proofs.Common.{◌≡◌, ◌≢◌, ◌⊎◌, inl, inr, ℕ, ◌+◌, ◌-◌, ◌<◌, ◌≤◌, ◌==◌, ◌&&◌, ◌++◌, ◌∷◌, [], ◌∙◌, Bool, true, false, cond, eqb, List, Option, None, Some, Result, Ok, Err, IsTrue, append-nil, append_assoc, ap, arith, filter, get_or, length, length-append, lt-ltb, map, refl, replicate, subst, suc, sym, take, zero}
pub use Rattle.std.proofs.lemmas.Bool.{cases_lt, eq-eqb, ne_eqb}
pub use Rattle.std.proofs.lemmas.Bool.Decides.{nat_tests}
pub use Rattle.std.proofs.lemmas.List.{append_cancel_left, append_cancel_right, get_or-set_other, get_or-set_same, length-set, map-append}
pub use Rattle.std.proofs.lemmas.List.Elements.{All-append, All-cons, All-head, All-nil, All-tail, filter-append}
pub use Rattle.std.proofs.lemmas.List.FromFn.{get_or-map-range_with_len, length-map-range_with_len}
pub use Rattle.std.proofs.lemmas.List.Sums.{sum_by-cons}
pub use Rattle.std.proofs.lemmas.Option.{get_or_from_slice_get, slice_get-get_or, slice_get_within}
pub use mathlib.Core.List.{IsPrefix}
pub use mathlib.Core.Logic.{dite}
pub use native.Mathlib.Decide.{ℕ_discrete}
pub use Rattle.arena_core.specs.Arenas.{entry_of, opens, room_of}
pub use Rattle.atomic_table.specs.Seated.{TableId}
pub use Rattle.call_plan.proofs.Credits.{begin-is_call}
pub use Rattle.call_plan.proofs.Naming.{begins_named}
pub use Rattle.call_plan.proofs.Standing.{wants-stand}
pub use Rattle.call_plan.specs.Calls.{CallFacts, HasRoomToHold, moment_at, moment_of, named_call, started}
pub use Rattle.call_plan.specs.Desks.{meant, ready}
pub use Rattle.call_plan.specs.Items.{Item, Replied, Told as Heard, Starved}
pub use Rattle.call_plan.specs.Knows.{Knows}
pub use Rattle.call_plan.specs.Laws.{IsInRange, Stands as StandsWanted, with_found}
pub use Rattle.call_plan.specs.Needs.{IsGiving, IsPointOrEnd, NeedIs, NeedsWant, named}
pub use Rattle.call_plan.specs.Reads.{ended_by, heard_next}
pub use Rattle.call_plan.specs.Runs.{Moment, after, begin, begin_stage}
pub use Rattle.call_plan.specs.Stages.{Ends, Go, Next, Point, Stage, Turns}
pub use Rattle.call_plan.specs.Table.{Want, WantAsk, WantTurn, is_marked, want}
pub use Rattle.call_plan.specs.declared.needs.Answered.{Answered}
pub use Rattle.call_plan.specs.declared.needs.Need.TheVariants.{Ask as NeedsAsk, Done as NeedsNoMore, Starved as NeedsNothing, Turn as NeedsTurn}
pub use Rattle.call_plan.specs.declared.needs.Request.{Request}
pub use Rattle.call_plan.specs.declared.needs.Turn.{Turn as NeededTurn}
pub use Rattle.call_plan.specs.declared.points.TurnPoint.TheVariants.{Giving}
pub use Rattle.chunk_table.specs.declared.table.ChunkTable.{ChunkTable}
pub use Rattle.deeds.proofs.Boxes.{asks_there, begin_turns, box_after, box_asked, box_lacked}
pub use Rattle.deeds.proofs.Leading.{asks_more, last_more, led_more, next_more}
pub use Rattle.deeds.specs.Dids.{Asked, Did, HasBox, HaveNext, IsWanted, IsWantedAt, Lacked, Led, Took, asks_next, asks_of, deed_of, item_of, told_last}
pub use Rattle.deeds.specs.declared.deeds.Deed.{Deed}
pub use Rattle.deeds.specs.declared.deeds.Doing.{Doing}
pub use Rattle.deeds.specs.declared.deeds.Told.{Told}
pub use Rattle.heap_runs.specs.Heaps.{Gains, counted_by, IsAsPlanned, IsCtxOf, MayCall, Runs, Stands, Steps, log_of, shelf_id, turns_of}
pub use Rattle.heap_runs.specs.Histories.{told_in, told_to}
pub use Rattle.heap_runs.specs.Ways.{AreLocks, AreWays, client_of, known, seal, seen_at, state_of, taken_in, told_of, took_in, turns_in}
pub use Rattle.heap_runs.specs.declared.heaps.Ctx.{Ctx}
pub use Rattle.heap_runs.specs.declared.heaps.SharedHeap.{SharedHeap}
pub use Rattle.heap_shared.specs.Shared.{Facts, Logs, MayStand, Owned, after_deed, after_entry, opening_facts, owned_by}
pub use Rattle.hook_api.specs.Asked.{AskFacts, by_box}
pub use Rattle.hook_api.specs.Counts.{capped}
pub use Rattle.hook_api.specs.Hooks.{Answers as AnswersTo}
pub use Rattle.hook_api.specs.Plans.{kind_of}
pub use Rattle.hook_api.specs.ShareSteps.{one_more}
pub use Rattle.hook_api.specs.Orders.{IsByPlanOf}
pub use Rattle.hook_api.specs.Shared.{plan_of_kind}
pub use Rattle.hook_api.specs.declared.shared.SharedShelf.{SharedShelf}
pub use Rattle.recorded_arena.proofs.Turning.{replayed_sound}
pub use Rattle.recorded_arena.specs.Records.{Record, record_after}
pub use Rattle.sits.proofs.Begins.{starts-sit}
pub use Rattle.sits.proofs.Clients.{found_is, turns-lead_on}
pub use Rattle.sits.proofs.Indexes.{at_or_else, past}
pub use Rattle.sits.proofs.Turns.{asks-sit, own-sits, starves-sit, turns-sit}
pub use Rattle.sits.specs.Arenas.{AreArenas, after_found, no_record, record_at, reply_in, room_in}
pub use Rattle.sits.specs.Clients.{CanTake, mine_in}
pub use Rattle.sits.specs.Seats.{Seat, open_call, seat_of}
pub use Rattle.sits.specs.Sitting.{Comes, IsAtRest, IsSeated, SeatSound, Sits, SitsAt}
pub use Rattle.space_model.specs.Own.{Mine, mine}
pub use Rattle.space_model.specs.Sound.{Sound}
pub use Rattle.space_model.specs.Step.{op_stands, reply_to, stands}
pub use Rattle.space_model.specs.declared.asks.Ask.{Ask}
pub use Rattle.space_model.specs.declared.entries.Op.{Op}
pub use Rattle.space_model.specs.declared.entries.Op.TheVariants.{GrowDone, OfferDone}
pub use Rattle.space_model.specs.declared.entries.Reply.{Reply}
pub use Rattle.space_model.specs.declared.spaces.Space.{Space}
pub use Rattle.call_plan.specs.Clients.{DeskFacts}
pub use Rattle.turn_lock.specs.History.{entries, entries_by, replay_turns, turn_of, IsLegal}
pub use Rattle.turn_lock.specs.Locks.{first, number, seen, spare, IsPassOf, Turned}
pub use Rattle.turn_lock.specs.declared.lock.Pass.{Pass}
pub use Rattle.turn_lock.specs.declared.lock.TurnLock.{TurnLock}
pub use Rattle.turn_lock.specs.declared.machine.Machine.{Ghosts}
pub use Rattle.turn_lock.specs.declared.view.Turn.{Turn}
pub use Rattle.heap_shared.specs.contracts.machine.ArenaTurnsMachine.TheImpl.{ghosts}
pub use Rattle.heap_shared.specs.declared.machine.ArenaTurns.{ArenaTurns}

-- a lock of an arena
abbrev pub Lock : Type 0
Lock = TurnLock ArenaTurns Facts Doing (Snapshot Deed) Told Owned

-- a pass of one
abbrev pub Way : Type 0
Way = Pass ArenaTurns Facts Doing (Snapshot Deed) Told Owned ghosts
