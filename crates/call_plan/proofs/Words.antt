-- The words of the proofs: definitions and lemmas of std, of the crates below and of this one, each under one name.
pub use Rattle.std.specs.Bool.{beq}
pub use Rattle.std.specs.Int.{is_power_of_two, next_multiple_of}
pub use Rattle.std.specs.List.{range_with_len, list_any, remove, position_or_len, list_all}
pub use Rattle.std.specs.Option.{option_or, option_map}
pub use Rattle.std.proofs.Common.{◌≡◌, ℕ, ◌+◌, ◌^◌, ◌<◌, ◌≤◌, ◌==◌, inl, inr, max, true, false, cond, ◌&&◌, get_or, sym, zero-add, refl, ◌∙◌, ap, arith, leb, ltb, Bool, min, List, [], ◌∷◌, suc, zero, Option, None, Some, nat_le, Contains, ◌-◌, ◌++◌, subst, append_assoc, append-nil, sum_by, count_by, not, Result, OnOk, OnErr, nat_lt, IsTrue, is_some, ◌*◌, ◌||◌, All, filter, find, length, add-zero, ◌≢◌, count_ones, ◌%◌, rules, slice_get, ◌/◌, ◌⊎◌, lt-ltb, map, le-leb, eq-eqb, take, drop, vec_len, IsSomeAnd}
pub use Rattle.std.proofs.Math.Bool.{and-true, and_comm, and_assoc}
pub use Rattle.std.proofs.Math.ListN.{length-append}
pub use Rattle.std.proofs.Math.Nat.{pow-le-pow_right, add-mod-mod, div-add-mod, dvd-mul_left, mod-lt, mod_self, mul-add-mod_self_left, mul-dvd-mul_left}
pub use Rattle.std.proofs.lemmas.Bool.{cases_lt, eqb-true, cond_both, leb-true, not-false, ltb-true, and_parts, or_right, not-true}
pub use Rattle.std.proofs.lemmas.Bool.Decides.{nat_tests}
pub use Rattle.std.proofs.lemmas.List.Elements.{Contains-append_left, Contains-append_right, All-filter, All-head, filter-append, filter_passes}
pub use Rattle.std.proofs.lemmas.List.Filters.{length-filter_both}
pub use Rattle.std.proofs.lemmas.List.Folds.{Any-from_list_any, list_any_at, find-append}
pub use Rattle.std.proofs.lemmas.List.FromFn.{get_or-range_with_len, length-range_with_len}
pub use Rattle.std.proofs.lemmas.List.Sums.{sum_by_push, fold-append, sum_by-cons, length-filter}
pub use Rattle.std.proofs.lemmas.Nat.{ones_le_self, pow_pos}
pub use Rattle.std.proofs.lemmas.Nat.Gcd.{dvd_of_mod-eq-zero, dvd_trans, mod-eq-zero_of_dvd}
pub use Rattle.std.proofs.lemmas.Option.{get_or_from_slice_get, slice_get_within}
pub use Prim.Native.Nat.{◌∣◌}
pub use Rattle.hook_api.specs.Asked.{heard_in}
pub use Rattle.size_classes.proofs.Alignment.{aligned_divides}
pub use Rattle.size_classes.proofs.Least.{class_for_exists}
pub use Rattle.size_classes.proofs.Table.{passes_below, at, slab_filled, pages_bounds}
pub use Rattle.space_model.proofs.Exchange.{find_passes, find_has, filter-begins_at}
pub use Rattle.space_model.proofs.Fills.{Spot, lowest_spots}
pub use Rattle.space_model.proofs.Found.{found_span, span_is}
pub use Rattle.space_model.proofs.Lists.{find-le-sum_by, filter-without, filter_nothing, none_counted, nothing_sum, or_false}
pub use Rattle.space_model.proofs.Moves.{itself}
pub use Rattle.space_model.proofs.Outcomes.{belongs}
pub use Rattle.space_model.proofs.Pieces.{both_true, fit_best, neighbour_side, put_down-nobody, listed-nobody}
pub use Rattle.space_model.proofs.Settled.{some_pages}
pub use Rattle.space_model.proofs.Steps.{op_keeps}
pub use Rattle.space_model.proofs.Turned.{turned_sum}
pub use Rattle.space_model.specs.Ending.{reset_stands, after_reset, after_destroy, doom_at}
pub use Rattle.space_model.specs.Fit.{fit}
pub use Rattle.space_model.specs.Flights.{lost, won, flight}
pub use Rattle.space_model.specs.Pace.{after_advance}
pub use Rattle.space_model.specs.Part.{exchanged, begins_at, is_flight, is_flight_at, is_listed, is_backed, rest_of, listed, taken_out, put_down, is_active, moved_to, turned as turned_parts, turned_in_order}
pub use Rattle.space_model.specs.Purging.{after_lazy, offer_at, offer_of, without_offer, is_offer, is_regranted, after_offer, after_decommit, after_purge_take, purge_at, count_listed, is_purgeable}
pub use Rattle.space_model.specs.Region.{region_of, is_held_by}
pub use Rattle.space_model.specs.Settings.{after_set, setting_stands}
pub use Rattle.space_model.specs.Slabs.{after_fill}
pub use Rattle.space_model.specs.Sound.{IsQuiet, is_in_flight}
pub use Rattle.space_model.specs.Span.{IsPlaced, meets, run_start, holds_run}
pub use Rattle.space_model.specs.Step.{rises_from, after_cut, after_commit, after_grow, why_not, next_flight, cut_at, kept_piece, other_piece, after_look, look_at, grow_unless, new_part, commit_at, is_live, step_of, is_customer, holds_at, is_purged, is_like, is_right_of, is_left_of, neighbour, put_at, put_at_rest, put_beside, may_merge, join_at, after_merge, after_back, apart_at, op_stands, is_yes_or_no, is_range_or_no}
pub use Rattle.space_model.specs.Stepped.{stays, is_lazy, Stepped, whole_at, joined, begins_either, replaced}
pub use Rattle.space_model.specs.declared.Life.{Life}
pub use Rattle.space_model.specs.declared.Offered.{Offered}
pub use Rattle.space_model.specs.declared.Op.TheVariants.{CutDone, GrowDone}
pub use Rattle.space_model.specs.declared.Region.{Region}
pub use Rattle.space_model.specs.declared.State.{State}
pub use Rattle.space_model.specs.declared.State.TheVariants.{Dirty, Flight}
pub use Rattle.call_plan.proofs.Going.{batch_is, cached_is_flat, taken_is_in}
pub use Rattle.call_plan.specs.Clients.{gave, freed_hand, gaining, hitting, reclassing, resizing, gain_held, kept, addrs_in, has_slot, older_count, rising_from, before_last}
unfoldable pub use lib.Count.{ones}
pub use Rattle.call_plan.specs.Aligned.{IsCacheAligned, MemalignsAreAligned}
pub use Rattle.call_plan.specs.Bounds.{is_told, is_turn, brings, is_malloc, most_asks, AsksAreFew, IsShort, MallocsAreShort, is_free, is_purge, Stride, Strides, Follows, Walks, emptied_by, emptied_by_all, asks, purges, FreesAreFew, taken_by, taken_of, found_by, found_of, PurgesAreFew}
pub use Rattle.call_plan.specs.Calls.{IsCall, gets_at, gets_then, frees_at, may_hold, one_if, places, HasRoomToHold, CallFacts, moment_at, started, gets_ask}
pub use Rattle.call_plan.specs.Causes.{DoneCause, Empties, TellsTime, TakenBelow, FullCause, Extent, extent_after, extent_of, NothingFits, AllCame, Came, extent, WasGranted, IsNeeded, IsWishOf, RegionCause, GivenCause, CauseIn, AnswersHaveCauses}
pub use Rattle.call_plan.specs.Desks.{flushes, taking_place, desk_turned, desk_closed, desk_ended, desk_told, desk_fed, address_behind, held_region, landed_behind, sharing}
pub use Rattle.call_plan.specs.Items.{lent}
pub use Rattle.call_plan.specs.Knows.{IsCalm, IsResize, Widens, Narrows, is_held_of, IsWish, Idle, Gets, is_held, Flies, Droppable, HasOffered, IsThen, IsVisit, HasLeft, in_flight, Knows, KnowsTurn, Alone, is_served, HasPair, Settled, KnowsAsk, Heard, IsChange, is_of_arena}
pub use Rattle.call_plan.specs.Laws.{Ready, KnowsNext, MovesKnow, BatchesKnow, BeginsKnow, Has, unheard, Keeps, stages_then, stages_later, left, left_then, left_visit, stages_visit, left_turn, left_ask, flights_of, Moves, stages, with_found, IsNearer, looks_left, purges_left, stages_ask, WantsStand, stages_turn, stages_change, StepsKeep}
pub use Rattle.call_plan.specs.Reads.{ended_by}
pub use Rattle.call_plan.specs.Needs.{Goes, IsPointOrEnd, IsGiving, GivesNone, HasFewAddresses, IsFewAddresses, NamesFreely, named, named_addrs, named_next}
pub use Rattle.call_plan.specs.Points.{IsSizedPoint, IsSizedNext, IsFewPages}
pub use Rattle.call_plan.specs.Refusals.{AfterDalloc, AfterRefusal, HoldsExtent, Rests, RefusalsStand}
pub use Rattle.call_plan.specs.Rooms.{flying, empties, needed_ask, needed_next, needed_turn, room_then, RoomsSuffice}
pub use Rattle.call_plan.specs.Runs.{page_align, all_done, all_goes, gives, desk_moved, move_stage, are_large, resize_to, resize_at, begin_resize, begin_realloc, desk_resized, desk_realloced, desk_led, batch_goes, closed, moved, begin_flush, begin_free, begin_get, begin_malloc, begin_memalign, begin_publish, get, share, wish_for, begin, Moment, after, run, settle, step_next, begin_stage, small_hit, stage, begin_desk}
unfoldable pub use Rattle.call_plan.specs.Runs.{is_alignment}
pub use Rattle.call_plan.specs.Table.{own_span, lacks, behind, alloc_behind, back, spare, move, extend, got, narrowed, extended, spared, backed, widened, answered_span, decommitted, eased, forced, put_purged, returned, takes_left, turn_replied, done_at, is_marked, op_at, starved, step, told, want, commit, grant, grow, trim, skip_to, alloc_of, ask_at, chunks_for, whole_chunks, look_on, merged, onward, put_next, visited, took_over, need_chunks, skipped, trimmed, grown, needed, grant_split, committed, WantTurn, visit_gives}
pub use Rattle.call_plan.specs.Words.{Realloc, Resize, Moving, Widening, Narrowing, Cutting, Extending, Sparing, Backing, Joining, Move, Stops, Leaves, IsAlignment, aligned_for, class_for, Malloc, Memalign, Free, Publish, Flush, Cache, Mine, Held, DeskFacts, most_regions, cached_in, BatchFacts, batch_of, freeing, going, caching, going_with, held_at, is_cacheable, Request, Item, Answered, Finished, Ok, NoSuchArena, TurnPoint, Filling, Looking, Landing, Giving, Finding, Offering, Point, Turns, Asks, Tells, Next, Go, InArena, NextBatch, NotLive, Ends, Nowhere, Stage, AskPoint, Skipping, Trimming, Growing, SplittingGrown, GrowingExactly, SplittingExact, Committing, Merging, PurgingLazily, Returning, Decommitting, Forcing, Alloc, Commit, Split, Answer, Placed, Whole, Bad, Grown, Space, Span, Why, hit, Visit, AfterFlight, Visiting, Taking, Dalloc, Decommit, PurgeLazy, Done, Noted, Kept, Abandoned, Rest, Part, Sound, mine, same_span, AnswersTo, Replied, Told, Starved, Batches, Owning, Reply, AskFacts, Wish, Cut, end_of, land_at, Took, Grow, Landed, Regions, align_at, fill_at, lowest_free, max_series, NoMemory, Merge, Purge, FreeForeign, Take, Refused, BadAnswer, NotHeld, Change, Visits, Changing, NoArena, Nothing, Owned, Joined, Op, Advancing, Making, Resetting, Destroying, Dooming, Publishing, pages_at, Doomed, Setting, Taken}
