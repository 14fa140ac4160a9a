-- What a contract sees of a reader that is a source.
use Rattle.std.specs.Prelude.{ℕ, List, Option, Bool}

-- the bytes that are left where the reader tells them, the faults, whether the end was met, and whether a read has begun while
-- bytes waited in the sink that it was shown
pub record ReaderFacts : Type 0 where
  pub left : Option (List ℕ)
  pub faults : ℕ
  pub ended : Bool
  pub hasty : Bool
