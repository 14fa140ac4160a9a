-- The words of the proofs: definitions and lemmas of std, of the crates below and of this one, each under one name.
pub use Rattle.std.specs.BTreeSet.{insert_key}
pub use Rattle.std.specs.List.{Contains, flat_map, list_all, list_any, position, position_or_len, prefix_len, range_with_len, slice_get}
pub use Rattle.std.specs.Option.{option_map}
pub use Rattle.std.specs.Ordering.{match_ordering, nat_cmp}
pub use Rattle.std.specs.declared.cmp.Ordering.TheVariants.{Less, Equal, Greater}
pub use Rattle.std.proofs.Common.{◌≡◌, ℕ, ◌+◌, ◌-◌, ◌/◌, ◌<◌, ◌≤◌, ◌==◌, ◌&&◌, ◌⊎◌, inl, inr, Bool, true, false, cond, List, [], ◌∷◌, ◌++◌, length, take, drop, map, filter, not, fold, min, Option, None, Some, refl, sym, ap, subst, ◌∙◌, arith, nat_lt, suc, zero, le-leb, get_or, remove, replicate, IfSome, lt-ltb, ◌||◌, rules, ◌*◌, count_by, vec_capacity, IsSome, IfNone}
pub use Rattle.std.proofs.Math.ListN.{set}
pub use Rattle.std.proofs.Math.Seq.{map-set_same}
pub use Rattle.std.proofs.lemmas.Bool.{ltb-true, eqb-true, cases_Bool}
pub use Rattle.std.proofs.lemmas.Bool.Decides.{nat_tests}
pub use Rattle.std.proofs.lemmas.Fn.{filter_same}
pub use Rattle.std.proofs.lemmas.Grind.{replicate_next}
pub use Rattle.std.proofs.lemmas.List.{get_or-set_same, get_or-take, length-append, length-drop, length-take, length-take-le, append_assoc, drop_more, take_more, get_or-map, length-map, map-append, map-id, map-set, get_or-append_right, get_or-drop, set-append_right, get_or_append_left, set-get_or}
pub use Rattle.std.proofs.lemmas.List.Concat.{flat_map-cons}
pub use Rattle.std.proofs.lemmas.List.Edits.{remove-append_right}
pub use Rattle.std.proofs.lemmas.List.Elements.{filter-append, Contains-append_left, Contains-append_right}
pub use Rattle.std.proofs.lemmas.List.Folds.{list_any_at}
pub use Rattle.std.proofs.lemmas.List.FromFn.{get_or-range_with_len, length-range_with_len, map-range_with_len_more}
pub use Rattle.std.proofs.lemmas.List.Quantifiers.{position-Some}
pub use Rattle.std.proofs.lemmas.Map.Made.{filter_same_pairs}
pub use Rattle.std.proofs.lemmas.Option.{get_or_from_slice_get, slice_get_within}
pub use Rattle.size_classes.specs.Classes.{slots_at}
pub use Rattle.thread_cache.specs.Caches.{cached_in, gone_from, is_elsewhere, is_in_arena, is_empty, Listed, IsByClass, addrs_of, changed_at, dropped, has_at, is_at, is_cached, regions_of, without, without_place, IsStack}
pub use Rattle.thread_cache.specs.declared.Held.{Held}
