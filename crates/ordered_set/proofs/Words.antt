-- The words of the proofs: definitions and lemmas of std, of the crates below and of this one, each under one name.
pub use Rattle.std.specs.Cmp.{IsTotalOrder, nat_cmp_total, on_total, then_total}
pub use Rattle.std.specs.List.{Contains, insert, remove, AllByRecursion as Every, find, flat_map}
pub use Rattle.std.specs.List.Sorted.{IsPartitionedBy, IsPartitionPoint}
unfoldable pub use Rattle.std.specs.List.Sorted.{IsStrictlySortedBy}
pub use Rattle.std.specs.Option.{option_eq}
pub use Rattle.std.specs.Ordering.{ordering_then, MatchOrdering, ordering_reverse}
pub use Rattle.std.specs.Slice.{IsGetResult}
pub use Rattle.std.proofs.Common.{◌≡◌, ◌+◌, ◌-◌, ◌<◌, suc, zero, Bool, true, ◌&&◌, eqb, List, [], ◌∷◌, ◌++◌, length, get_or, drop, filter, Option, Some, None, slice_get, refl, sym, ap, ◌∙◌, arith, length-append, add-one, ℕ, ◌*◌, ◌≤◌, take, set, append_assoc, subst, not, Bor, option_copied, Ordering, Less, Equal, Greater, nat_cmp, is_gt, is_lt, ltb, ◌||◌, inl, inr, cond, is_eq, ◌≢◌, ◌⊎◌, false, ◌/◌, map, vec_len, vec_capacity, rules}
pub use Rattle.std.proofs.lemmas.Bool.{and_parts, eqb-true, eq-eqb, cond_both, not-true, cases_Bool, cond-true, cases_order, lt-ltb, cases_lt, cond-false, iff_false}
pub use Rattle.std.proofs.lemmas.Bool.Decides.{nat_tests}
pub use Rattle.std.proofs.lemmas.Cmp.{ranked, tied_itself}
pub use Rattle.std.proofs.lemmas.List.{take_all, drop_more, drop_all, get_or-take, length-drop, length-take-le, map-set, take-append-drop, take_at, drop_at, get_or_at, append-nil, take-take, drop-append-le, drop-take, drop-drop, length_push, get_or-append_right, take_more, get_or-set_other, get_or-set_same, length-set, length-map, set-get_or, set_split, set-set, get_or_read, get_or-drop, get_or_default, take_rest, nil_from_length}
pub use Rattle.std.proofs.lemmas.List.Concat.{flat_map-append}
pub use Rattle.std.proofs.lemmas.List.Edits.{length-insert, length-remove, get_or-remove_below}
pub use Rattle.std.proofs.lemmas.List.Elements.{recursion_from_All, All-contains_itself, Contains-append_left, Contains-append_right, Contains-append_cases, filter-append}
pub use Rattle.std.proofs.lemmas.List.Sums.{length-filter, count_by-le-length}
pub use Rattle.std.proofs.lemmas.Map.Keys.{Less-from_sorted}
pub use Rattle.std.proofs.lemmas.Option.{slice_get_within, get_or_from_slice_get, slice_get_past, slice_get_read, slice_get-get_or}
pub use mir.Val.{bool_byte}
pub use Rattle.ordered_set.specs.Blocks.{IsPacked, PartsAt, all_keys, first_keys, keys_from, AreHalf, halved, merged_with_next, no_key, keys_before, IsPlace, index_keys, IsIndex, pool_of}
pub use Rattle.ordered_set.specs.Keys.{IsAscending, is_above, is_below, is_from, last_of, with_key, without_key, is_other, ComputesTest}
unfoldable pub use Rattle.ordered_set.specs.Keys.{key_cmp}
pub use Rattle.ordered_set.specs.declared.index.Place.{Place}
pub use Rattle.ordered_set.specs.declared.key.Key.{Key}
