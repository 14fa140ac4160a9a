-- The words of the proofs: definitions and lemmas of std, of the crates below and of this one, each under one name.
pub use Rattle.std.specs.List.{AllByRecursion as Every, list_any, range_with_len, position_or_len, sum_by}
pub use Rattle.std.proofs.Common.{◌≡◌, ℕ, ◌+◌, ◌-◌, ◌*◌, ◌<◌, ◌≤◌, ◌^◌, Bool, true, false, not, List, [], ◌∷◌, ◌++◌, length-append, map, filter, find, length, Option, None, Some, refl, sym, ◌∙◌, ap, subst, arith, ltb as nat_lt, leb as nat_le, ◌&&◌, inl, inr, ◌≢◌, cond, ltb, length-set, get_or, set, take, drop, eqb, eqb-true, count_by, Contains, is_some, eq-eqb, ne_eqb}
pub use Rattle.std.proofs.lemmas.List.{ext_get_or, get_or-set_same, get_or-set_other}
pub use Rattle.space_model.proofs.Words.{option_or, nat_tests, length-range_with_len, sum_by-cons, sum_by-insert, sum_by-le-sum_by, size_bounds, size_at, region_bytes, region_bytes_where, regions_by_class, is_published_at, inserted, landing, region_of, regions_from, starts_at, is_held_by, is_held_by_other, held_anew, holds_at, is_given_back, staying}
pub use Rattle.bin_book.proofs.Words.{length-map-range_with_len, get_or-map-range_with_len, Bins, BinSlab, is_all_free, with_free, free_of, dite, ℕ_discrete}
pub use Rattle.space_model.specs.declared.parts.Region.{Region}
pub use Rattle.region_book.proofs.Listing.{held_by}
pub use Rattle.region_book.specs.Larges.{IsHolder, addr_of}
pub use Rattle.list_facts.proofs.ByKey.{absent_changed, absent_filter, change_both, changed_is, drop_both, every_changed, every_landing, found_there, land_left, land_right, Landed, merged, new_apart, taken_out, distinct_new, found_alone, member_found, every_inserted}
pub use Rattle.list_facts.proofs.Members.{every_member, found, any_from, bit, filter_same, find_closer, is_some_find}
pub use Rattle.list_facts.specs.ByKey.{AreApart, IsRising, changed, AreDistinct, AreNew}
pub use Rattle.list_facts.specs.Codes.{code_of}
pub use Rattle.ordered_set.proofs.Sorted.{every_map, every_filter}
pub use Rattle.region_book.specs.Books.{IsRegionBook, all_regions}
pub use Rattle.region_book.specs.RegionLists.{CanCome, IsOf, found_held, if_published, Regions}
pub use Rattle.region_book.specs.Slabs.{is_last, slabs_returned}
pub use Rattle.region_book.specs.Totals.{AreMore, AreTotals, CanGrow, CanShrink, IsMoreAt, small_size_at}
pub use Rattle.region_book.specs.declared.RegionBook.TheInside.{Inside}
pub use Rattle.region_book.specs.declared.totals.Totals.{Totals}
