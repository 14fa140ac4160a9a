-- What reads and writes do to the bytes of a source and a sink, and to their counts of faults.
use Rattle.std.specs.Prelude.{◌==◌, ℕ, ◌-◌, ◌^◌, ◌<◌, ◌≤◌, ◌⊎◌, List, length, take, drop, Option, Bool, false, ◌&&◌, nat_lt, Result, Ok, Err}
pub use Rattle.std.specs.Io.KnownBytes.{Consumes, Appends, Keeps, IsAtEnd}

-- the count rose, or stands at the greatest `u64`
abbrev pub Rose : ℕ → ℕ → Type 0
Rose before now = (before < now) ⊎ (2 ^ 64 - 1 ≤ now)

-- whether this answer to a read into a buffer of so many bytes is the end: 0, where the buffer isn't empty
abbrev pub is_end : {E : Type 0} → Result ℕ E → ℕ → Bool
is_end (Ok n) room = n == 0 && nat_lt 0 room
is_end (Err e) room = false

-- known bytes grow by the beginning of a text
abbrev pub AppendsPrefix : Option (List ℕ) → Option (List ℕ) → List ℕ → Type 0
AppendsPrefix old new text = (n : ℕ) × (n ≤ length text) × Appends old new (take n text)

-- the bytes that were taken: what was left before, less what is left after
abbrev pub taken : List ℕ → List ℕ → List ℕ
taken before after = take (length before - length after) before

-- the bytes that were written: what is held after, behind what was held before
abbrev pub written : List ℕ → List ℕ → List ℕ
written before after = drop (length before) after
