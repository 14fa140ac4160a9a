-- The slabs of an arena's regions as these come and go.
use Rattle.std.specs.Prelude.{ℕ, Bool, true, not, nat_lt, List, filter, map, if◌then◌else◌}
use Rattle.std.specs.List.{list_any}
use Rattle.bin_book.specs.Bins.{BinSlab, is_all_free, slab_with_out, with_free, with_slab}

-- the slabs after regions landed in an extent, which is one more slab if their class is small
abbrev pub slabs_landed : ℕ → ℕ → ℕ → List BinSlab → List BinSlab
slabs_landed class first count slabs = if nat_lt class 36 then with_slab slabs (slab_with_out class first count) else slabs

-- whether a region that is given back is the last one of its extent, as a large one always is
abbrev pub is_last : ℕ → ℕ → List BinSlab → Bool
is_last class addr slabs = if nat_lt class 36 then list_any is_all_free (map (with_free addr) slabs) else true

-- the slabs after a region was given back, without one that then has none out
abbrev pub slabs_returned : ℕ → ℕ → List BinSlab → List BinSlab
slabs_returned class addr slabs = if nat_lt class 36 then filter (λ x. not (is_all_free x)) (map (with_free addr) slabs) else slabs
