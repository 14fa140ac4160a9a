-- The workers of a phase, and what they leave.
use Rattle.std.specs.Prelude.{◌≡◌, ◌++◌, List, [], ◌∷◌, Result, Ok, Err}
use Rattle.hook_api.specs.declared.shared.SharedShelf.{SharedShelf}
use Rattle.heap_runs.specs.declared.heaps.SharedHeap.{SharedHeap}
use Rattle.phase_run.specs.Shifts.{HasWorked}
use Rattle.phase_run.specs.declared.workers.Shift.{Shift}
use Rattle.phase_run.specs.declared.workers.Worker.{Worker}

-- two lists are of one length, and what stands at one place in both is so
abbrev pub Pairwise : {X Y : Type 0} → (X → Y → Type 0) → List X → List Y → Type 0
Pairwise P [] [] = Unit {0}
Pairwise P (x ∷ xs) (y ∷ ys) = P x y × Pairwise P xs ys
Pairwise P xs ys = ⊥

-- each worker carried all its calls out
abbrev pub HaveWorked : {H : Type 0} → SharedShelf H → SharedHeap → List Worker → List Shift → Type 0
HaveWorked shelf heap workers shifts = Pairwise (HasWorked shelf heap) workers shifts

-- each of some groups was given, and these are all that is in them, in order
abbrev pub AreJoined : {V E X : Type 0} → (V → List X) → List (Result V E) → List X → Type 0
AreJoined items [] all = all ≡ []
AreJoined {V} {E} {X} items (Ok group ∷ groups) all = (rest : List X) × AreJoined items groups rest × (all ≡ items group ++ rest)
AreJoined items (Err e ∷ groups) all = ⊥
