-- What a set of keys by class shows, and what it keeps.
use Rattle.std.specs.Prelude.{◌≡◌, length}
use Rattle.ordered_set.specs.Keys.{KeySet}
use Rattle.bin_book.specs.declared.class_set.ClassSet.TheInside.{Inside}
use Rattle.bin_book.specs.ClassSets.{AreLowest}

-- the set itself
abbrev pub set_of : Inside → KeySet
set_of inside = inside.set

-- the lowest key of each class is kept
pub record IsClassSet (inside : Inside) : Type 0 where
  pub classes : length inside.lows ≡ 36
  pub lowest : AreLowest inside.set.keys inside.lows
