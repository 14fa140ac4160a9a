-- The words of the proofs: definitions and lemmas of std, of the crates below and of this one, each under one name.
pub use Rattle.std.specs.Cmp.{unsigned_tied, nat_cmp_total}
pub use Rattle.std.specs.List.{range_with_len, list_any, AllByRecursion as Every}
unfoldable pub use Rattle.std.specs.List.Sorted.{IsStrictlySortedBy}
pub use Rattle.std.specs.Option.{option_or}
pub use Rattle.std.specs.Ordering.{ordering_reverse}
pub use Rattle.std.proofs.Common.{IsTrue, ◌≡◌, ◌≢◌, ℕ, ◌+◌, ◌-◌, ◌/◌, ◌^◌, ◌<◌, ◌≤◌, Bool, true, false, cond, eqb, ltb, ◌||◌, List, [], ◌∷◌, ◌++◌, map, filter, find, length, count_by, Option, Some, None, is_some, option_map, set as set_at, vec_len, vec_capacity, inl, inr, refl, sym, ap, ◌∙◌, subst, arith, All, length-append, Contains, option_to_list, nat_cmp, sum_by, not, IsSome, append_assoc, IfSome, min, ◌*◌, ◌%◌, ◌&&◌, slice_get, Ordering, Less, Equal, Greater, is_gt, get_or, zero, rules, ltb as nat_lt, leb}
pub use Rattle.std.proofs.lemmas.Bool.{cases_Bool, eq-eqb, false_from_ne_true, eqb-true, not-true, not_from_false, and_left, and_parts, cases_lt, ne_eqb, true_from_ne_false, or_left, or_right}
pub use Rattle.std.proofs.lemmas.Bool.Decides.{nat_tests}
pub use Rattle.std.proofs.lemmas.Cmp.{tied_itself}
pub use Rattle.std.proofs.lemmas.Grind.{get_or_default_zero}
pub use Rattle.std.proofs.lemmas.List.{get_or-set_other, get_or-set_same, length-map, length-set, map-append, set-get_or}
pub use Rattle.std.proofs.lemmas.List.Elements.{All-contains, All-filter, All-map, All-push, All-weaker, filter-append, filter_agree, All-head, All-nil, All-tail, Contains-get_or, Contains-append_left, Contains-push, Contains-push_cases}
pub use Rattle.std.proofs.lemmas.List.Filters.{sum_by-filter_both}
pub use Rattle.std.proofs.lemmas.List.Folds.{find-append, list_any-from_Any, list_any_none, find_at}
pub use Rattle.std.proofs.lemmas.List.FromFn.{get_or-range_with_len, length-range_with_len}
pub use Rattle.std.proofs.lemmas.List.Kept.{IsStrictlySortedBy-filter}
pub use Rattle.std.proofs.lemmas.List.Sums.{count_by-le-length, length-filter, sum_by-le-sum_by, sum_by-append, sum_by-cons, sum_by_push, get_or-le-sum_by, position_or_len_is, sum_by-le}
pub use Rattle.std.proofs.lemmas.Nat.{mul-le}
pub use Rattle.std.proofs.lemmas.Option.{get_or_from_slice_get, slice_get-get_or, slice_get_within}
pub use Rattle.std.proofs.lemmas.Result.{on_ok_weaker}
pub use Rattle.list_facts.proofs.Members.{all_from, bit, count_some, find_none, map_has, map_same, count_less_one, count_kept, count_map, filter_all_of, filter_map_is, filter_none_of, filter_swap, find_kept, found, kept_length, only, find_is, filter_neither, head, map_from, mapped_some, none_found, find_map, mapped_none, find_closer, only_one, count_none, filter_same}
pub use Rattle.ordered_set.proofs.KeyOrder.{key_tie, key_total}
pub use Rattle.ordered_set.proofs.Members.{filter_from, filter_has, contains_later, with_from, with_keeps, with_self, without_from, without_keeps, contains_cases}
pub use Rattle.ordered_set.proofs.Orders.{from_start, less_from_parts, less_major, start, start_from, last_greatest, major_less}
pub use Rattle.ordered_set.proofs.Sorted.{every_member, every_map, filter_all}
pub use Rattle.ordered_set.specs.Keys.{IsAscending, is_above, is_from, key_cmp, is_below, last_of, without_key}
pub use Rattle.ordered_set.specs.declared.key.Key.{Key}
pub use Rattle.page_map.specs.Pages.{Pages}
pub use Rattle.page_map.specs.declared.table.TheConstants.{LEAVES}
pub use Rattle.space_model.specs.Fit.{fit, fit_of, is_best, is_better, is_candidate}
pub use Rattle.space_model.specs.Part.{is_active, is_listed, begins_at, exchanged, is_flight, is_flight_at, is_unused}
pub use Rattle.space_model.specs.Resizing.{is_spare}
pub use Rattle.space_model.specs.Sound.{is_in_flight}
pub use Rattle.space_model.specs.Span.{IsPlaced, end_of, meets, has_page, holds_run, pages_end}
pub use Rattle.space_model.specs.Step.{begins_either, low_piece, high_piece, is_left_of, is_like, is_right_of}
pub use Rattle.space_model.specs.declared.parts.Part.{Part}
pub use Rattle.space_model.specs.declared.parts.Rest.{Rest}
pub use Rattle.space_model.specs.declared.parts.Span.{Span}
pub use Rattle.space_model.specs.declared.parts.State.{State}
pub use Rattle.space_model.specs.declared.parts.State.TheVariants.{Active, Dirty, Muzzy, Retained, Flight}
pub use borrow.Author.Count.{below_more}
pub use Rattle.space_model.specs.Stepped.{joined}
pub use Rattle.part_book.specs.Books.{AreBeside, Book, IsFirstFrom, IsThere, is_beside, found_if, active_pages, all_pages, ends_at}
pub use Rattle.part_book.specs.Leaves.{HasMore, leaves_for, HasLeaves}
unfoldable pub use Rattle.part_book.specs.Leaves.{missing}
pub use Rattle.part_book.specs.Lists.{CanList, GainsPages, GainsRow, CanUnlist, LosesRow, AgesGrow}
pub use Rattle.part_book.specs.Rows.{ArePieces, IsApart, IsKeyed, Row, first_key, is_edge, keys_with, listed_in, numbers_of, part_at, rank_of, ranked_key, row_at, size_key, with_edges, keys_without, without_edges, Own, key_span, pages_of_rows, rank, IsLastBelow, flights_in, no_part}
pub use Rattle.part_book.specs.Tables.{ArePagesOf, CanEnter, CanLower, GainsLists, HasEdges, HasListRoom, HasRoomFor, HaveRows, IsIndexed, IsListOf, IsRowTable, IsSlotted, KeepsExtents, KeepsOthers, Lists, LosesLists, lists_of, parts_of}
unfoldable pub use Rattle.part_book.specs.Tables.{rows_of}
pub use Rattle.part_book.specs.declared.table.AgeList.{AgeList}
pub use Rattle.part_book.specs.declared.table.PageSums.{PageSums}
pub use Rattle.part_book.specs.declared.table.Table.{Table}
