-- The words of the proofs: definitions and lemmas of std, of the crates below and of this one, each under one name.
pub use Rattle.std.specs.List.{AllByRecursion as Every, list_all}
pub use Rattle.std.proofs.Common.{ap, ◌∙◌, ◌≡◌, arith, rules, refl, sym, subst, length, OnOk, ◌≤◌, ℕ, ◌+◌, ◌-◌, ◌*◌, ◌<◌, zero, suc, Bool, true, false, not, ◌||◌, leb, ◌∷◌, Contains, filter, map, inl, inr, ◌≢◌, ◌/◌, cond, List, [], ◌++◌, append-nil, get_or, All, max, ◌&&◌, eqb, ltb, lt-ltb, find, Some, ◌⊎◌, Option, None, ltb as nat_lt, leb as nat_le, take, drop, IsTrue, if◌then◌else◌, slice_get, IfSome, IsSome, replicate, fold, ◌^◌, ◌↔◌, Result, Ok, Err, IfOk, OnErr, slice_set, append_assoc, add-one, drop-cons, length-set, le-ltb}
pub use Rattle.space_model.proofs.Words.{list_any, range_with_len, sum_by, flat_map, position_or_len, count_by, option_map, mul-le-mul_left, cases_lt, eqb-true, leb-true, ltb-true, not-true, nat_tests, nil_from_length, take-append-drop, length-map, All-append, All-cons, All-filter, filter-append, All-map, All-nil, All-head, All-tail, filter_passes, recursion_from_All, All-weaker, All-push, sum_by-filter_both, list_any-append, length-range_with_len, sum_by-cons, sum_by-le-sum_by, length-filter, sum_by-insert, get_or-le-sum_by, sum_by-append, row_fits, size_bounds, slab_filled, large_size, regions_at, size_at, pages_at, region_bytes, bytes_of, bytes_where, is_mapped, region_bytes_where, doom_at, emptied, ended, flight_count, held_count, reset_stands, fit, is_held_at, is_published_at, take_over_at, Good, new_pace, absent_space, first_space, mine, is_dying, begins_at, is_active, turned_in_order, is_flight_at, taken_out, exchanged, holders, is_flight, placed, turned, is_listed, next_flight, pages_listed, put_down, rest_of, is_in_flight, listed, moved_to, after_decommit, after_lazy, after_offer, after_purge_take, decommit_at, is_regranted, lazy_at, offer_at, purge_at, without_offer, address_of, landing, region_of, regions_from, starts_at, houses, is_slab, lies_in, held_anew, inserted, residents, covers, homes, fills, is_held_by, is_published, large_home, is_spare, has_large, is_large_at, reclassed, trim_done_stands, trimmed_at, after_join, after_trim_done, is_large_class, join_stands, widened_at, widen_at, widen_by, is_in, without_client, after_set, is_absent, made_live, places, land_at, slabs_of, after_fill, fill_at, land_stands, lowest_free, most_regions, free_places, Sound, IsInSlab, IsQuiet, end_of, has_page, pages_end, IsPlaced, same_span, meets, chunk_span, is_live, op_stands, step_of, after_back, holds_at, is_emptied, is_given_back, staying, is_left_of, is_like, is_right_of, is_yes_or_no, merge_stands, reply_to, space_after, stands, rises_from, after_commit, after_cut, after_grow, after_look, after_merge, apart_at, begins_either, commit_at, cut_at, grow_unless, high_piece, is_purged, join_at, joined, look_at, low_piece, neighbour, put_at, put_at_rest, put_beside, why_not, cut_stands, Stepped, found_passes, if_live, stays, is_lazy, whole_at, is_unused}
pub use Rattle.space_model.specs.declared.asks.Answer.{Answer}
pub use Rattle.space_model.specs.declared.asks.Answer.TheVariants.{Done, Placed}
pub use Rattle.space_model.specs.declared.asks.Ask.{Ask}
pub use Rattle.space_model.specs.declared.asks.Ask.TheVariants.{Merge, Split, Alloc, Commit, Dalloc, Decommit, PurgeLazy}
pub use Rattle.space_model.specs.declared.entries.Entry.{Entry}
pub use Rattle.space_model.specs.declared.entries.Op.{Op}
pub use Rattle.space_model.specs.declared.entries.Op.TheVariants.{Look, CutDone, GrowDone, CommitDone, Land, PutLook, MergeDone, Fill, Advance, PurgeTake, LazyDone, Offer, OfferDone, DecommitDone, ForcedDone, Publish, TakeOver, Reset, Destroy, DestroyTake, Counts, Set, Widen, JoinDone, Trim, TrimDone, Back}
pub use Rattle.space_model.specs.declared.entries.Reply.{Reply}
pub use Rattle.space_model.specs.declared.entries.Reply.TheVariants.{Busy, NoArena, Nothing, Regions, Abandoned, Kept, Noted, Purge, Owned, Landed, Counted, Next}
pub use Rattle.space_model.specs.declared.entries.Setting.{Setting}
pub use Rattle.space_model.specs.declared.entries.Setting.TheVariants.{Live as MakeLive}
pub use Rattle.space_model.specs.declared.entries.Why.{Why}
pub use Rattle.space_model.specs.declared.parts.Offered.{Offered}
pub use Rattle.space_model.specs.declared.parts.Part.{Part}
pub use Rattle.space_model.specs.declared.parts.Region.{Region}
pub use Rattle.space_model.specs.declared.parts.Rest.{Rest}
pub use Rattle.space_model.specs.declared.parts.Span.{Span}
pub use Rattle.space_model.specs.declared.parts.State.{State}
pub use Rattle.space_model.specs.declared.parts.State.TheVariants.{Active, Flight}
pub use Rattle.space_model.specs.declared.spaces.Life.{Life}
pub use Rattle.space_model.specs.declared.spaces.Life.TheVariants.{Live, Absent, Dying}
pub use Rattle.space_model.specs.declared.spaces.Space.{Space}
pub use Rattle.bin_book.proofs.Words.{eq-eqb, false_from_ne_true, cases_Bool, map-append, get_or-set_other, get_or-set_same, Contains-append_right, length-map-range_with_len, sum_by-set, place, BinSlab, meets_slab, slab_with_out, with_slab, with_regions_out, is_among, is_all_free, is_out, with_free, free_of, any_has, any_map, any_none, filter_map_is, filter_same, map_has, range_from, range_has, any_from, map_from, map_same, any_false, filter_both, head, map_both, filter_all_of, filter_from, filter_has, contains_cases, pages_bounds, dite, ℕ_discrete}
pub use Rattle.std.proofs.lemmas.List.{ext_get_or, map-id, drop_all}
pub use Rattle.std.proofs.lemmas.List.Elements.{All-contains, All-contains_itself}
pub use Rattle.std.proofs.lemmas.List.Filters.{length-filter_both}
pub use Rattle.std.proofs.lemmas.List.Folds.{flat_map-map, list_any_none}
pub use Rattle.std.proofs.lemmas.List.Sums.{sum_by_push}
pub use Rattle.bin_book.proofs.Places.{same_place}
pub use Rattle.bin_book.specs.Bins.{of_class}
pub use Rattle.list_facts.proofs.Members.{count_same, filter_swap, found, filter_none_of, find_is}
pub use Rattle.ordered_set.proofs.Sorted.{filter_none, every_filter, every_map}
pub use Rattle.part_book.specs.Books.{AreBeside, IsThere, active_pages, all_pages, pages_of}
pub use Rattle.region_book.proofs.ByClass.{at_tally, tally, both_bytes}
pub use Rattle.region_book.specs.RegionLists.{CanBeSlab, CanCome}
pub use Rattle.region_book.specs.Slabs.{slabs_landed, is_last, slabs_returned}
pub use Rattle.space_model.proofs.Bounds.{cached_least, held_apart}
pub use Rattle.space_model.proofs.Changes.{one_left, lawful_sound}
pub use Rattle.space_model.proofs.Exchange.{filter-begins_at, share, All-exchanged, sum_by-exchanged, sum_by-replaced}
pub use Rattle.space_model.proofs.Fills.{Spot, lowest_spots}
pub use Rattle.space_model.proofs.Giving.{back_does}
pub use Rattle.space_model.proofs.Growth.{free-holders, why_not-free}
pub use Rattle.space_model.proofs.Intervals.{lengths-le}
pub use Rattle.space_model.proofs.Landing.{eqb_itself, lies_between}
pub use Rattle.space_model.proofs.LawLemmas.{absent_replays_are_good, first_replays_are_good}
pub use Rattle.space_model.proofs.Lists.{only_one, nothing_sum, sum_nothing, all_sum_le, not_true, find_has, find_passes, find-le-sum_by, filter_nothing, filter-without, sum_by-either}
pub use Rattle.space_model.proofs.Moves.{live_is}
pub use Rattle.space_model.proofs.Outcomes.{on_found}
pub use Rattle.space_model.proofs.Pieces.{both_true, cut_shares, joined_share, fit-listed, neighbour_side, flight-idle, two_left, Listed, listed-idle, put_down-idle}
pub use Rattle.space_model.proofs.Resizes.{home_found, housed, Home, Housed}
pub use Rattle.space_model.proofs.Settled.{some_pages, serves, serves-le-share, idle-serves}
pub use Rattle.space_model.proofs.Steps.{op_keeps, Outcome, Outcome-good, Outcome-others, Outcome-sound, joined_fits}
pub use Rattle.space_model.proofs.Sums.{region_bytes_fits, bytes_le, bytes_pages, listed_fit_space, mapped_sum, whole_sum}
pub use Rattle.space_model.proofs.Turned.{All-turned, turned_first, turned_sum}
pub use Rattle.space_model.specs.Counts.{counts_of, slabs_by_class}
pub use Rattle.space_model.specs.Purging.{keep_offer}
pub use Rattle.space_model.specs.Resizing.{trim_answered}
pub use Rattle.space_model.specs.Step.{taken_in_order}
pub use Rattle.arena_core.specs.Arenas.{all_rooms, emptied_by_return, Standing, emptied_by_op, given_by, is_return, opens, IsBody, IsReady, Turns, entry_of, room_after, room_of, rooms_after, rooms_made, standing_of}
pub use Rattle.arena_core.specs.Booked.{LandsTakeTheFirst, booked_slab, AreBooked, BooksStayWhereHoldersChange, BooksStayWhileExtentsDo, FillsTakeTheLowest, ReturnsAreFree, filled, OrderGrows, OrderStays}
pub use Rattle.part_book.specs.Rows.{IsApart}
pub use Rattle.arena_core.specs.Ends.{goes_to}
pub use Rattle.arena_core.specs.Indexes.{Does, HasPlaces, Takes, space_of}
pub use Rattle.arena_core.specs.Slabs.{IsBooked, CanFollow, slabs_begun, slabs_filled, slabs_followed, slabs_left, slabs_taken, NothingIsBooked}
pub use Rattle.arena_core.specs.declared.indexes.Indexes.{Indexes}
pub use Rattle.arena_core.specs.declared.steps.Body.{Body}
