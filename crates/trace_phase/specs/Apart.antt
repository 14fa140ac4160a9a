-- Within a phase a name stands in the calls of one client alone, so the order of clients doesn't matter there.
use Rattle.std.specs.Prelude.{◌≡◌, ◌≢◌, ℕ, Bool, true, false, List, [], ◌∷◌, Option, None, Some}
use Rattle.std.specs.List.{AllByRecursion, list_any}
use Rattle.std.specs.Str.{bytes_eq}
use Rattle.trace_phase.specs.declared.parts.NumberedLine.{NumberedLine}
use Rattle.trace_phase.specs.declared.parts.Part.{Part}
use Rattle.trace_phase.specs.declared.parts.Part.TheVariants as part
use Rattle.trace_phase.specs.declared.parts.PhaseCall.{PhaseCall}
use Rattle.trace_phase.specs.declared.parts.PhaseCall.TheVariants.{Malloc, Memalign, Free, Publish, Take, Flush, Purge, Decay}
use Rattle.trace_phase.specs.declared.parts.Work.{Work}
use Rattle.trace_phase.specs.Rule.{first_fault, opening, phases_of}

-- a call names a region so
abbrev pub names_it : List ℕ → PhaseCall → Bool
names_it name (Malloc other size) = bytes_eq name other
names_it name (Memalign other align size) = bytes_eq name other
names_it name (Free other) = bytes_eq name other
names_it name (Publish other) = bytes_eq name other
names_it name (Take other) = bytes_eq name other
names_it name call = false

-- a call of a client names a region so
abbrev pub is_named_in : List ℕ → Work → Bool
is_named_in name work = list_any (names_it name) work.calls

-- these are works of two clients, and no name stands in both
pub record AreApart (work other : Work) : Type 0 where
  pub clients : work.client ≢ other.client
  pub names : (name : List ℕ) → is_named_in name work ≡ true → is_named_in name other ≡ true → ⊥

-- each two of them are so
abbrev pub AllApart : List Work → Type 0
AllApart [] = Unit {0}
AllApart (work ∷ works) = AllByRecursion (AreApart work) works × AllApart works

-- a phase in which each name is one client's
abbrev pub IsFair : Part → Type 0
IsFair (part.Setting setting) = Unit {0}
IsFair (part.Phase phase) = AllApart phase.works

-- where every line can stand, each phase is so
abbrev pub PhasesAreFair : Type 0
PhasesAreFair = (lines : List NumberedLine) → first_fault opening lines ≡ None → AllByRecursion IsFair (phases_of lines).parts
