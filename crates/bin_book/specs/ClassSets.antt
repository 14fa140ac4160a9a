-- The lowest keys of a set.
use Rattle.std.specs.Prelude.{◌≡◌, ◌≢◌, ℕ, ◌<◌, ◌≤◌, List, Option, None, Contains, MatchOption, slice_index_or}
use Rattle.ordered_set.specs.declared.key.Key.{Key}

-- the key is the lowest one with the major number
pub record IsLeast (keys : List Key) (major : ℕ) (key : Key) : Type 0 where
  pub there : Contains keys key
  pub at : key.major ≡ major
  pub least : (k : Key) → Contains keys k → k.major ≡ major → key.minor ≤ k.minor

-- the lowest key with a major number, if there is one
abbrev pub IsLowest : List Key → ℕ → Option Key → Type 0
IsLowest keys major lowest = MatchOption lowest ((k : Key) → Contains keys k → k.major ≢ major) (IsLeast keys major)

-- the lowest key of each class, if there is one
abbrev pub AreLowest : List Key → List (Option Key) → Type 0
AreLowest keys lows = (class : ℕ) → class < 36 → IsLowest keys class (slice_index_or lows class None)
