-- The words of the proofs: definitions and lemmas of std, of the crates below and of this one, each under one name.
pub use Rattle.std.specs.List.{count_by, list_any, range_with_len, slice_get}
pub use Rattle.std.specs.Option.{option_map}
pub use Rattle.std.proofs.Common.{All, Bool, Err, IfNone, IfSome, IsOk, IsSomeAnd, IsTrue, List, None, Ok, OnErr, OnOk, Option, Result, Some, [], ap, arith, cond, drop, false, find, get_or, inl, inr, is_some, length, length-append, lt-ltb, map, max, nat_lt, not, refl, replicate, rules, slice_set, subst, suc, sym, take, true, vec_capacity, zero, zero-add, ℕ, ◌%◌, ◌&&◌, ◌*◌, ◌++◌, ◌+◌, ◌-◌, ◌/◌, ◌<◌, ◌==◌, ◌^◌, ◌||◌, ◌∙◌, ◌∷◌, ◌≡◌, ◌≢◌, ◌≤◌, ◌⊎◌}
pub use Rattle.std.proofs.Math.Bool.{or-false, or_assoc}
pub use Rattle.std.proofs.Math.ListN.{get_or-map}
pub use Rattle.std.proofs.lemmas.Grind.{same_number_lists}
pub use Rattle.std.proofs.lemmas.List.{get_or-replicate, get_or-set_other, get_or-set_same, get_or_default, length-drop, length-map, length-replicate, length-set, map-set, set-get_or, take_all}
pub use Rattle.std.proofs.lemmas.List.Elements.{All-cons, All-head, All-nil, All-tail}
pub use Rattle.std.proofs.lemmas.List.FromFn.{get_or-map-range_with_len, get_or-range_with_len, map-range_with_len_more}
pub use Rattle.std.proofs.lemmas.List.Quantifiers.{position-Some}
pub use Rattle.std.proofs.lemmas.List.Sums.{sum_by-cons, sum_by-set}
pub use Rattle.arena_core.proofs.Emptying.{any_counts}
pub use Rattle.arena_core.proofs.Words.{Publish, emptied_by_op, holders, is_in, keep_offer, room_after}
pub use Rattle.call_plan.proofs.Beginning.{batches-know}
pub use Rattle.call_plan.proofs.Naming.{begins_named}
pub use Rattle.call_plan.proofs.Own.{live_where, region_found}
pub use Rattle.call_plan.proofs.Steps.{never_starves}
pub use Rattle.call_plan.proofs.Words.{BatchFacts, Grown, IsPlaced, Kept, Nothing, Part, Sound, after_grow, after_offer, both_true, cases_lt, end_of, grow_unless, holds_at, ltb-true, nat_tests, op_keeps, op_stands, started, step_of, without_offer}
pub use Rattle.call_plan.specs.Desks.{desk_fed}
pub use Rattle.call_plan.specs.Knows.{Alone, Flies, Gets, GivesBack, HasOffered, HasPair, Idle, Knows, KnowsAsk, KnowsTurn, is_held}
pub use Rattle.call_plan.specs.Laws.{IsInRange, KnowsNext, Ready, with_found}
pub use Rattle.call_plan.specs.Needs.{Goes, NeedIs, NeedsWant, named}
pub use Rattle.call_plan.specs.Reads.{aimed, ended_by, heard_next, taken_next}
pub use Rattle.call_plan.specs.Rooms.{flying, needed_at}
pub use Rattle.call_plan.specs.Runs.{Moment, after, batch_goes, begin, begin_desk, begin_stage, closed, moved, stage, step_next}
pub use Rattle.call_plan.specs.Table.{Want, WantAsk, WantTurn, is_marked, step, told, want}
pub use Rattle.call_plan.specs.declared.needs.Need.TheVariants.{Ask as NeedsAsk, Turn as NeedsTurn}
pub use Rattle.heap_core.specs.Arenas.{AreRecorded, IsArenas, journal_of, opening_records, spaces_of}
pub use Rattle.heap_core.specs.Chunks.{Apart, met_by_alloc, met_by_dalloc, met_in, others_of, owns_chunk, space_at, with_chunk_found}
pub use Rattle.heap_core.specs.Clients.{AsksLeadOn, CanTurn, OthersStay, TurnsLeadOn, after_turn}
pub use Rattle.heap_core.specs.Feeding.{FedTo}
pub use Rattle.heap_core.specs.Heaps.{HeapFacts, IsStep, IsSure, holder_for, holding_client, region_in_seat}
pub use Rattle.heap_core.specs.Logs.{LogFacts, last_asked, owed_to}
pub use Rattle.heap_core.specs.Owing.{IsHeap, asks_at, asks_next, owing}
pub use Rattle.heap_core.specs.Seats.{answer_of, asked_for, first_seat, heard_by, holder_of, seat_at}
pub use Rattle.heap_core.specs.Sitting.{AimsSit, AsksSit, Comes, HasRegions, HoldersPublish, IsSeated, OpeningSits, OthersSit, SeatSound, Sits, SitsAt, StartsSit, StarvesSit, TurnsSit}
pub use Rattle.heap_core.specs.Stepping.{HolderIs, IsMarked, MadeTurn, Needs, StarvesAt, StarvesNext, TakesAt, TurnFacts, item_of, replied_by, with_ask}
pub use Rattle.heap_core.specs.Words.{Alloc, Answer, Answered, AnswersTo, Ask, AskFacts, AskPoint, Asks, CallFacts, Change, Dalloc, DeskFacts, Destroying, Ends, Filling, Flush, Giving, Go, GrowDone, HasRoomToHold, Held, Item, Journal, Landing, Looking, Mine, Need, Next, NoMemory, OfferDone, Op, InArena, Placed, Point, Publishing, Replied, Reply, Request, Resetting, Setting, Shelf, Skipping, Space, Span, Stage, Starved, Tells, AfterFlight, Told, Turn, TurnPoint, Turns, Wish, absent_space, all_rooms, chunk_span, chunks_of, counts_of, entry_of, first_space, has_page, held_at, is_in_space, is_live, lent, meets, mine, moment_at, moment_of, named_call, opens, replay, room_of, stands}
pub use Rattle.heap_core.specs.declared.heaps.Did.TheVariants.{Turn as DidTurn}
pub use Rattle.hook_api.specs.Journals.{IsByIndex}
pub use Rattle.recorded_arena.specs.Records.{IsReplayed, Record, opening_record, opening_space, record_after}
pub use Rattle.sits.specs.Arenas.{AreApart, AreArenas, no_record, record_at, records_turned, reply_in, room_in}
pub use Rattle.sits.specs.Clients.{CanTake, IsIdle, WaitsNext, mine_in}
pub use Rattle.sits.specs.Seats.{Seat, open_call, seat_of}
pub use Rattle.sits.specs.Sitting.{is_region}
pub use Rattle.sits.specs.Suits.{IsTheHand, Suits, SuitsAsk, SuitsChange, SuitsGet, SuitsThen, SuitsTurn}
pub use Rattle.space_model.proofs.Lists.{ones}
pub use Rattle.space_model.proofs.Words.{granted_by, is_in_dalloc, is_owned}
pub use Rattle.space_model.specs.declared.entries.Why.TheVariants.{Meets, OffSpace, Unaligned}
pub use Rattle.call_plan.specs.Clients.{kept, not_holding}
