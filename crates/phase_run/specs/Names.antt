-- The names of a trace, each with the region that its last malloc or memalign got, in the order in which they were first bound.
use Rattle.std.specs.Prelude.{◌≡◌, ℕ, List, [], ◌∷◌, Option, None, Some, IfSome}
use Rattle.std.specs.Map.{lookup}
use Rattle.std.specs.Option.{unwrap_or}
use Rattle.std.specs.Str.{bytes_eq}
use Rattle.indexmap.specs.IndexMap.{insert_entry}
use Rattle.trace_phase.specs.Parts.{call_name}
use Rattle.trace_phase.specs.declared.parts.PhaseCall.{PhaseCall}
use Rattle.phase_run.specs.declared.names.Place.{Place}

-- where a name stands for that was never bound: address 0 of arena 0
abbrev pub nowhere : Place
nowhere = record { addr = 0; arena = 0 }

-- where the region of a name lies
abbrev pub place_in : List (List ℕ × Place) → List ℕ → Place
place_in names name = unwrap_or (lookup (bytes_eq name) names) nowhere

-- the names with this one bound to a place: where it was bound before, and else at the end
abbrev pub named : List (List ℕ × Place) → List ℕ → Place → List (List ℕ × Place)
named names name place = insert_entry bytes_eq names name place

-- the names with one bound, if there is one, to where its region lies among others
abbrev pub learnt : List (List ℕ × Place) → List (List ℕ × Place) → Option (List ℕ) → List (List ℕ × Place)
learnt others names None = names
learnt others names (Some name) = named names name (place_in others name)

-- each of some names that is bound lies where it lies among others
abbrev pub AreLearnt : List (List ℕ × Place) → List (List ℕ × Place) → Type 0
AreLearnt others names = (name : List ℕ) → IfSome (lookup (bytes_eq name) names) (λ place. place ≡ place_in others name)

-- the names with those bound that a worker bound in its phase
abbrev pub merged : List (List ℕ × Place) → List (List ℕ × Place) → List (List ℕ × Place)
merged names [] = names
merged names ((name, place) ∷ own) = merged (named names name place) own

-- some names, with those that some calls have, each with where its region lies among others
abbrev pub known_from : List (List ℕ × Place) → List (List ℕ × Place) → List PhaseCall → List (List ℕ × Place)
known_from others names [] = names
known_from others names (call ∷ calls) = known_from others (learnt others names (call_name call)) calls

-- the names that some calls have, each with where its region lies among others
abbrev pub known_to : List (List ℕ × Place) → List PhaseCall → List (List ℕ × Place)
known_to others calls = known_from others [] calls
