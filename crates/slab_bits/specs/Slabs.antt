-- A slab as contracts see it: which of its regions are free.
use Rattle.std.specs.Prelude.{ℕ, ◌≡◌, ◌<◌, ◌≤◌, ◌&&◌, Bool, false, List, count_by, length, nat_le, nat_lt, slice_index_or}
use Rattle.size_classes.specs.Classes.{regions_at}
use Rattle.lane_scan.specs.Bits.{bits_of}

-- the class of a slab, and of each of 512 places whether a free region is there
pub record Slab : Type 0 where
  pub class : ℕ
  pub free : List Bool

-- what contracts see of the words of a class
abbrev pub shown : ℕ → List ℕ → Slab
shown class words = record { class = class; free = bits_of words }

-- the class is a small one, there are eight words, no place behind its regions is free, and the free ones are counted
pub record IsSlab (class left : ℕ) (words : List ℕ) : Type 0 where
  pub small : class < 36
  pub long : length words ≡ 8
  pub behind : (i : ℕ) → regions_at class ≤ i → slice_index_or (bits_of words) i false ≡ false
  pub counted : left ≡ count_by (λ free. free) (bits_of words)

-- the regions from one number on are free, and no others
abbrev pub AreFreeFrom : ℕ → Slab → Type 0
AreFreeFrom out s = (i : ℕ) → slice_index_or s.free i false ≡ (nat_le out i && nat_lt i (regions_at s.class))
