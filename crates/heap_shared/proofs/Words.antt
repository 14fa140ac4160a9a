-- The words of the proofs: definitions and lemmas of std, of the crates below and of this one, each under one name.
pub use Rattle.std.specs.Arc.{arc_value}
pub use Rattle.std.specs.List.{flat_map, list_any, range_with_len}
pub use Rattle.std.specs.Option.{option_map}
pub use Rattle.std.specs.declared.snapshot.Snapshot.{Snapshot}
pub use Rattle.std.proofs.Common.{◌≡◌, ◌⊎◌, inl, inr, ℕ, ◌+◌, ◌*◌, ◌-◌, ◌/◌, ◌%◌, ◌<◌, ◌≤◌, ◌==◌, ◌&&◌, ◌||◌, Bool, true, false, not, cond, List, Option, None, Some, find, max, refl, sym, ◌∙◌, ap, subst, arith, nat_lt, All, suc, zero, ◌≢◌, ◌++◌, IsTrue, [], ◌∷◌, length, nat_le, Result, Ok, Err, IfOk}
pub use Rattle.std.proofs.Common.{append-nil, map}
pub use Rattle.std.proofs.lemmas.Grind.{flat_map-append}
pub use Rattle.std.proofs.lemmas.Bool.{ltb-true}
pub use Rattle.std.proofs.lemmas.Bool.Decides.{nat_tests}
pub use Rattle.std.proofs.lemmas.List.{get_or-set_other, get_or-set_same, length-set, map-append}
pub use Rattle.std.proofs.lemmas.List.Elements.{All-push}
pub use Rattle.std.proofs.lemmas.List.Folds.{Any-from_list_any, list_any-from_Any}
pub use Rattle.arena_core.specs.Arenas.{opens, Standing, entry_of, room_after, room_of, rooms_after}
pub use Rattle.chunk_table.proofs.Keeps.{any_without}
pub use Rattle.chunk_table.specs.Rule.{owns}
pub use Rattle.chunk_table.specs.Steps.{with_freed, with_looked}
pub use Rattle.chunk_table.specs.Tables.{failed, share_of}
pub use Rattle.chunk_table.specs.declared.table.ChunkTable.{ChunkTable}
pub use Rattle.chunk_table.specs.declared.table.ChunkSeat.{ChunkSeat}
pub use Rattle.chunk_table.specs.declared.view.Share.{Share}
pub use Rattle.chunk_table.specs.declared.view.Taken.{Taken}
pub use Rattle.space_model.proofs.Lists.{any_counts, counted_any, ones}
pub use Rattle.space_model.proofs.Pieces.{both_true}
pub use Rattle.space_model.proofs.Steps.{op_keeps}
pub use Rattle.space_model.specs.Counts.{counts_of}
pub use Rattle.space_model.specs.Journal.{granted_by, is_in_dalloc}
pub use Rattle.space_model.specs.Own.{mine, Mine}
pub use Rattle.space_model.specs.Part.{holders}
pub use Rattle.space_model.specs.Purging.{after_offer, keep_offer, without_offer}
pub use Rattle.space_model.specs.Sound.{Sound, IsQuiet}
pub use Rattle.space_model.specs.Span.{IsPlaced, chunk_span, chunks_of, end_of, has_page, meets}
pub use Rattle.space_model.specs.Step.{after_grow, grow_unless, is_in_space, is_owned, op_stands, step_of, space_after, reply_to, stands, is_live, stays}
pub use Rattle.space_model.specs.declared.asks.Answer.{Answer}
pub use Rattle.space_model.specs.declared.asks.Answer.TheVariants.{Placed}
pub use Rattle.space_model.specs.declared.asks.Ask.{Ask}
pub use Rattle.space_model.specs.declared.asks.Ask.TheVariants.{Alloc, Dalloc}
pub use Rattle.space_model.specs.declared.entries.Entry.{Entry}
pub use Rattle.space_model.specs.declared.entries.Op.{Op}
pub use Rattle.space_model.specs.declared.entries.Op.TheVariants.{GrowDone, Offer, OfferDone, DestroyTake, Counts}
pub use Rattle.space_model.specs.declared.entries.Reply.{Reply}
pub use Rattle.space_model.specs.declared.entries.Reply.TheVariants.{Doomed, Grown, Kept, Counted, NoArena}
pub use Rattle.space_model.specs.declared.entries.Why.TheVariants.{OffSpace, Unaligned, Meets}
pub use Rattle.space_model.specs.declared.parts.Part.{Part}
pub use Rattle.space_model.specs.declared.parts.Span.{Span}
pub use Rattle.space_model.specs.declared.spaces.Life.{Life}
pub use Rattle.space_model.specs.declared.spaces.Life.TheVariants.{Absent, Dying, Live}
pub use Rattle.space_model.specs.declared.spaces.Space.{Space}
pub use Rattle.turn_lock.specs.History.{replay_turns}
pub use Rattle.turn_lock.specs.Locks.{first, number, seen, Turned as LockTurned, spare, IsPassOf}
pub use Rattle.turn_lock.specs.declared.lock.Pass.{Pass}
pub use Rattle.turn_lock.specs.declared.lock.TurnLock.{TurnLock}
pub use Rattle.turn_lock.specs.declared.machine.Machine.{Ghosts}
pub use Rattle.turn_lock.specs.declared.view.Turn.{Turn}
pub use mathlib.Core.Logic.{dite}
pub use native.Mathlib.Decide.{ℕ_discrete}
pub use Rattle.heap_shared.specs.Claims.{AreOthers, Claimed, Fails, HasFound, IsElsewhere, IsSettled, OwnsMet, found_list, founds, IsBefore, Released, found_in, granted_span, is_met_by, is_met, refused_span, touched, wanted}
pub use Rattle.call_plan.specs.Laws.{with_found}
pub use Rattle.heap_shared.specs.Shared.{Facts, IsSure, Logs, MayStand, after_deed, after_entry, facts_of, owned_by, Owned}
pub use Rattle.heap_shared.specs.Turns.{Turned, space_of_history}
pub use Rattle.deeds.specs.Dids.{deed_of}
pub use Rattle.deeds.specs.declared.deeds.Deed.{Deed}
pub use Rattle.deeds.specs.declared.deeds.Doing.{Doing}
pub use Rattle.deeds.specs.declared.deeds.Told.{Told}
pub use Rattle.heap_shared.specs.Touches.{touched_with}
pub use Rattle.hook_api.specs.Kept.{IsKept, KeptFacts, heard_of}
pub use Rattle.hook_api.specs.Asked.{AskFacts}
pub use Rattle.recorded_arena.specs.Records.{IsReplayed, Record, record_after}
pub use Rattle.recorded_arena.proofs.Turning.{replayed_sound}
pub use Rattle.heap_shared.specs.declared.claims.Claims.{Claims}
