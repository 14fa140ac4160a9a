-- The words of the proofs: definitions and lemmas of std, of the crates below and of this one, each under one name.
pub use Rattle.std.specs.Cmp.{nat_cmp_total, unsigned_tied}
pub use Rattle.std.specs.List.{list_any, range_with_len, flat_map, position_or_len}
unfoldable pub use Rattle.std.specs.List.Sorted.{IsStrictlySortedBy}
pub use Rattle.std.specs.Option.{MatchOption, option_eq, option_map, option_or}
pub use Rattle.std.proofs.Common.{Some, None, ◌≡◌, ◌≢◌, ℕ, ◌+◌, ◌-◌, ◌*◌, ◌^◌, ◌<◌, ◌≤◌, Bool, false, eqb, ltb, List, [], ◌∷◌, ◌++◌, length, length-set, map, filter, find, get_or, set, count_by, ◌⊎◌, inl, inr, refl, sym, ap, ◌∙◌, subst, arith, Contains, vec_len, vec_capacity, zero, slice_get, not, IfSome, append-nil, append_assoc, take, leb, ◌/◌, true, if◌then◌else◌, cond, ◌||◌, nat_cmp, suc, Option, IfNone, ◌%◌, ◌&&◌, is_lt, position, Less, length-append, Equal, is_some, IsSome, is_eq, option_to_list, replicate}
pub use Rattle.std.proofs.Math.Nat.{mul-div_cancel, mul-mod_left, mul-le-mul_right}
pub use Rattle.std.proofs.lemmas.Bool.{cases_eq, cases_lt, eq-eqb, leb-true, eqb-true, false_from_ne_true, cases_Bool}
pub use Rattle.std.proofs.lemmas.Bool.Decides.{nat_tests}
pub use Rattle.std.proofs.lemmas.Cmp.{tied_itself}
pub use Rattle.std.proofs.lemmas.Grind.{get_or-set_at}
pub use Rattle.std.proofs.lemmas.List.{get_or-set_other, get_or-set_same, get_or_past, length-map, map-append, get_or_append_left, length_push, length-take-le, take_at, get_or_read_under, get_or-replicate}
pub use Rattle.std.proofs.lemmas.List.Elements.{Contains-append_left, Contains-push, Contains-push_cases, Contains-append_cases, Contains-append_right}
pub use Rattle.std.proofs.lemmas.List.Folds.{list_any-append, sum_by-replicate}
pub use Rattle.std.proofs.lemmas.List.FromFn.{length-range_with_len, length-map-range_with_len, get_or-map-range_with_len}
pub use Rattle.std.proofs.lemmas.List.Kept.{IsStrictlySortedBy-filter}
pub use Rattle.std.proofs.lemmas.List.Quantifiers.{position-Some}
pub use Rattle.std.proofs.lemmas.List.Sums.{count_by-le-length, sum_by-append, sum_by-cons, length-filter, fails_before_first, sum_by-set}
pub use Rattle.std.proofs.lemmas.Nat.{div-add-mod'}
pub use Rattle.std.proofs.lemmas.Option.{get_or_from_slice_get, slice_get_within, slice_get-get_or, MatchOption-at_some}
pub use Rattle.list_facts.proofs.ByKey.{not_found, same_members, rising_changed, rising_filter, member_found, behind_members, rising_both, Landed, found_member, lands, rising_distinct}
pub use Rattle.list_facts.proofs.Members.{count_none, any_false, bit, count_map, count_same, count_some, filter_map_is, filter_same, map_from, map_has, map_same, range_from, range_has, head, any_from, any_has, any_map, any_none, filter_both, filter_all_of, map_both, found, is_some_find}
pub use Rattle.list_facts.specs.ByKey.{AreNew, IsRising}
pub use Rattle.ordered_set.proofs.Calls.{length_with, length_without, some_is, some_same}
pub use Rattle.ordered_set.proofs.KeyOrder.{key_tie, key_total}
pub use Rattle.ordered_set.proofs.Members.{every_from, filter_from, with_from, with_keeps, with_self, without_from, without_keeps, contains_cases, filter_has, contains_later, other_from}
pub use Rattle.ordered_set.proofs.Orders.{last_greatest, less_from_parts, less_parts, start, less_major, first_of, start_from}
pub use Rattle.ordered_set.proofs.Sorted.{absent, others_is, parts, present, every_member, less_from_lt}
pub use Rattle.ordered_set.specs.Keys.{IsAscending, is_above, is_below, is_from, with_key, without_key, is_other, last_of, KeySet}
unfoldable pub use Rattle.ordered_set.specs.Keys.{key_cmp}
pub use Rattle.ordered_set.specs.declared.key.Key.{Key}
pub use Rattle.page_map.proofs.TableLemmas.{reads_more}
pub use Rattle.page_map.specs.Pages.{Pages}
pub use Rattle.size_classes.proofs.Table.{pages_bounds, size_bounds, slab_filled, at, passes_below}
pub use Rattle.size_classes.specs.Classes.{pages_at, regions_at, size_at}
unfoldable pub use Rattle.size_classes.specs.Classes.{class_sizes, least_pages}
pub use Rattle.slab_bits.specs.Slabs.{AreFreeFrom, Slab as Bits}
pub use Rattle.space_model.specs.Region.{landing, region_of, regions_from, starts_at, inserted, held_anew}
pub use Rattle.space_model.specs.declared.parts.Region.{Region}
pub use mathlib.Core.Logic.{dite}
pub use native.Mathlib.Decide.{ℕ_discrete}
pub use Rattle.bin_book.specs.Bins.{addr_of, meets_slab, place, slab_with_out, with_slab, Bins, free_of, is_all_free, with_free, with_regions_out, BinSlab, is_among, is_out, slab_places}
pub use Rattle.bin_book.specs.Charts.{HasPage, Grows, first_at}
pub use Rattle.bin_book.specs.ClassSets.{AreLowest, IsLeast, IsLowest}
pub use Rattle.bin_book.specs.Holders.{AreBlocks, block_of, code_at, holder_at}
unfoldable pub use Rattle.bin_book.specs.Holders.{codes_in}
pub use Rattle.bin_book.specs.Tables.{AreCounts, AreFreeSlots, IsBinned, IsCharted, AreSlabKeys, IsSlabIn, IsSlabTable, bin_key, bin_of, bits_at, is_open, left_of, ones, slab_region, regions_in, slab_at, slab_of, slabs_without, IsOutAt, no_bits, regions_without, HasOut, IsLastKeyBelow, IsMoved, out_of, zeros, IsLowestOpen}
unfoldable pub use Rattle.bin_book.specs.Tables.{open_in, out_of_slabs, slabs_in}
pub use Rattle.bin_book.specs.declared.chart.Chart.{Chart}
pub use Rattle.bin_book.specs.declared.table.Table.{Table}
