-- What a contract sees of a source and a sink in memory, which fail at planned calls.
use Rattle.std.specs.Prelude.{ℕ, ◌+◌, List, Bool, Contains}

-- the bytes that are left, how many a read gives at most, the ordinals of the calls that fail, the calls so far, the faults,
-- whether the end was met, and whether a read has begun while bytes waited in the sink that it was shown
pub record PlannedSource : Type 0 where
  pub left : List ℕ
  pub most : ℕ
  pub fail : List ℕ
  pub calls : ℕ
  pub faults : ℕ
  pub ended : Bool
  pub hasty : Bool

-- the bytes that are held, how many a write takes at most, the ordinals of the calls that fail, the calls so far, the faults,
-- and whether bytes were written behind the last flush
pub record PlannedSink : Type 0 where
  pub held : List ℕ
  pub most : ℕ
  pub fail : List ℕ
  pub calls : ℕ
  pub faults : ℕ
  pub waits : Bool

-- the call after so many is one of those that fail
abbrev pub FailsNext : List ℕ → ℕ → Type 0
FailsNext fail calls = Contains fail (calls + 1)
