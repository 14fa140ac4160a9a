-- What is told of a source and a sink.
use Rattle.std.specs.Prelude.{ℕ, Bool, List, Option}

-- what is told of a source: the bytes that are left, where it tells them, whether its end was met, and its count of faults
pub record SourceFacts : Type 0 where
  pub left : Option (List ℕ)
  pub ended : Bool
  pub faults : ℕ

-- what is told of a sink: the bytes that it holds, where it tells them, its count of faults, and whether bytes may wait in it
pub record SinkFacts : Type 0 where
  pub held : Option (List ℕ)
  pub faults : ℕ
  pub waits : Bool

-- a source, as it tells itself
abbrev pub source_facts : Option (List ℕ) → Bool → ℕ → SourceFacts
source_facts left ended faults = record { left = left; ended = ended; faults = faults }

-- a sink, as it tells itself
abbrev pub sink_facts : Option (List ℕ) → ℕ → Bool → SinkFacts
sink_facts held faults waits = record { held = held; faults = faults; waits = waits }
