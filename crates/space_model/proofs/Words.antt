-- The words of the proofs: definitions of std and of this crate, the types, and lemmas of std.
pub use Rattle.std.specs.Bool.{beq}
pub use Rattle.std.specs.Int.{is_power_of_two}
pub use Rattle.std.specs.List.{sum_by, list_any, position_or_len, range_with_len, count_by, find, position, remove, flat_map, insert, AllByRecursion}
pub use Rattle.std.specs.Option.{option_map, option_or, is_none, is_some, option_and_then}
pub use Rattle.std.proofs.Math.Nat.{mul-le-mul, mul-le-mul_left, div-le_self, div-add-mod, mul-add-mod_self_left}
pub use Rattle.std.proofs.lemmas.Bool.{and_parts, leb-true, cases_lt, eqb-true, not-false, not-true, ltb-true}
pub use Rattle.std.proofs.lemmas.Bool.Decides.{nat_tests}
pub use Rattle.std.proofs.lemmas.List.{nil_from_length, get_or-take, length-take, take-append-drop, length-map, get_or_past}
pub use Rattle.std.proofs.lemmas.List.Edits.{fill_by_more}
pub use Rattle.std.proofs.lemmas.List.Elements.{All-weaker, All-cons, All-nil, All-head, All-tail, All-append, All-filter, filter_passes, All-map, All-take, All-drop, filter-append, recursion_from_All, All-from_recursion, All-push}
pub use Rattle.std.proofs.lemmas.List.Filters.{sum_by-filter_both}
pub use Rattle.std.proofs.lemmas.List.Folds.{list_any-append, Any-from_list_any, find-append, list_any_at, fold-map}
pub use Rattle.std.proofs.lemmas.List.FromFn.{get_or-range_with_len, length-range_with_len, map-range_with_len_more, fill_by_all}
pub use Rattle.std.proofs.lemmas.List.Kept.{AllPairs-cons, AllPairs-filter}
pub use Rattle.std.proofs.lemmas.List.Quantifiers.{all_pairs_push}
pub use Rattle.std.proofs.lemmas.List.Sums.{sum_by-cons, sum_by-insert, get_or-le-sum_by, sum_by-append, sum_by_more_le, sum_by-le-sum_by, length-filter, fold_push}
pub use Rattle.std.proofs.lemmas.Map.Steps.{length-le_from_distinct_below}
pub use Rattle.std.proofs.lemmas.Nat.{row_fits, mul-mod_first, ones_le_self}
pub use Rattle.size_classes.proofs.Table.{size_bounds, slab_filled, passes_below, at, large_size, align_divides}
pub use Rattle.size_classes.specs.Classes.{size_at, pages_at, regions_at, align_at}
pub use Rattle.space_model.specs.Types.{Ask, Split, Merge, Dalloc, Decommit, PurgeLazy, PurgeForced, Answer, Done, Heard, Op, Look, CutDone, GrowDone, CommitDone, Land, Back, PutLook, MergeDone, Fill, Advance, PurgeTake, LazyDone, Offer, OfferDone, DecommitDone, ForcedDone, Publish, TakeOver, Reset, Destroy, DestroyTake, Counts, Set, Widen, JoinDone, Trim, TrimDone, Noted, Nothing, Purge, Busy, Abandoned, Kept, Setting, MakeLive, Part, Region, Rest, Span, Flight, Space, Offered, Reply, Life, Live, Pace, Added, State, Active, Retained, Absent, Dying, Landed, OffSpace, Unaligned, Meets, Entry, NoArena, Whole, Alloc, Commit, Placed, Why, Dirty, Muzzy, DirtyMs, MuzzyMs, HookBox, Bind, Unbind, GrowLimit, Refused, Bad, Counted}
pub use Rattle.space_model.specs.Clients.{is_in, with_client, without_client, IsRoster}
pub use Rattle.space_model.specs.Counts.{bytes_of, bytes_where, region_bytes, region_bytes_where, is_mapped, regions_by_class}
pub use Rattle.space_model.specs.Ending.{held_count, flight_count, if_free, emptied, after_reset, ended, after_destroy, doom_at, reset_stands, after_destroy_take}
pub use Rattle.space_model.specs.Fit.{fit, fit_of, is_best, is_candidate}
pub use Rattle.space_model.specs.Flights.{flight, lost, won}
pub use Rattle.space_model.specs.Holding.{is_published_at, take_over_at, is_held_at, after_publish, after_take_over}
pub use Rattle.space_model.specs.Journal.{granted_by, Good, replay, all_stand, turns_of, granted, is_in_dalloc}
pub use Rattle.space_model.specs.Laws.{FirstReplaysAreGood, AbsentReplaysAreGood, ReplaysKeepGood, ReplaysKeepOthers, PartsAreApart, RegionsAreApart, RegionsRise, RegionsHaveHomes, RegionsAreGranted, BytesFitSpace}
pub use Rattle.space_model.specs.Opening.{first_space, absent_space, new_pace}
pub use Rattle.space_model.specs.Outcome.{Outcome, Flying, LandLanded, BackNext, FillRegions, FillNothing, FillNoArena, AdvanceLimits, AdvanceNoArena, PurgeTaken, PurgeNothing, PurgeNoArena, LazyDid, OfferNoted, OfferNext, OfferAbandoned, OfferKept, DecommitDid, ForcedNoted, PublishNoted, TakeOwned, TakeNothing, TakeNoArena, ResetNoted, ResetPurge, ResetBusy, ResetNoArena, DestroyNoted, DestroyBusy, DestroyNoArena, DoomDoomed, DoomNothing, CountsCounted, CountsNoArena, SetNoted, SetNothing, SetNoArena, WidenTook, WidenNoted, WidenNothing, JoinLanded, JoinWhole, TrimNoted, TrimCut, TrimWhole, PutDown, NextFlies, kept_span, LookTook, LookNone, LookNoArena, CutKept, CutWhole, GrowRefused, GrowBad, GrowGrown, CommitNoted, CommitWhole, PutRight, PutLeft, PutPurge, PutNext, MergeJoined}
pub use Rattle.space_model.specs.Own.{Mine, mine, is_dying}
pub use Rattle.space_model.specs.Pace.{weighed, limit_at, with_new, passed, passed_if_any, advanced_in, advance_all, after_advance}
pub use Rattle.space_model.specs.Part.{begins_at, is_flight, is_flight_at, is_listed, is_backed, listed, rest_of, taken_out, next_flight, pages_listed, holders, exchanged, is_active, is_in_flight, moved_to, turned, turned_in_order, put_down, is_unused, placed}
pub use Rattle.space_model.specs.Purging.{is_purgeable, purge_at, after_purge_take, lazy_at, after_lazy, lazy_stands, offer_of, offer_at, is_offer, without_offer, is_regranted, after_offer, offer_stands, decommit_at, after_decommit, decommit_stands, forced_stands}
pub use Rattle.space_model.specs.Region.{address_of, inserted, landing, region_of, is_held_by, held_anew, starts_at, houses, is_held_by_other, homes, residents, covers, sharers, lies_in, is_slab, is_published, fills, regions_from}
pub use Rattle.space_model.specs.Resizing.{is_large_class, large_home, has_large, is_spare, is_open, widen_by, widen_at, widened_at, after_join, join_stands, trimmed_at, after_trim_done, trim_done_stands, is_large_at, with_home, reclassed, after_widen, after_trim}
pub use Rattle.space_model.specs.Settings.{is_absent, made_live, with_setting, after_set, is_decay_time, setting_stands}
pub use Rattle.space_model.specs.Slabs.{lowest_free, land_at, fill_at, most_regions, land_stands, places, free_places, slabs_of, after_fill, fill_stands}
pub use Rattle.space_model.specs.Sound.{Sound, IsQuiet, IsPaced, IsInSlab}
pub use Rattle.space_model.specs.Span.{end_of, same_span, IsPlaced, has_page, max_series, pages_end, meets, chunk_span, chunks_of, run_start, holds_run}
pub use Rattle.space_model.specs.Step.{holds_at, step_of, op_stands, is_given_back, staying, is_emptied, after_back, is_owned, is_found, is_in_space, why_not, space_after, reply_to, stands, look_at, after_look, kept_piece, other_piece, cut_at, after_cut, cut_stands, new_part, grow_unless, after_grow, grow_stands, commit_at, after_commit, commit_stands, is_like, is_right_of, is_left_of, neighbour, is_purged, put_at_rest, put_beside, put_at, join_at, apart_at, after_merge, merge_stands, both_merge, may_merge, with_regions, rises_from}
pub use Rattle.space_model.specs.Stepped.{Stepped, stays, is_live, is_dirty_time_over, is_lazy, low_piece, high_piece, found_passes, is_yes_or_no, replaced, whole_at, if_live, joined, begins_either, IsMade}
