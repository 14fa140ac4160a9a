-- What a worker in the background asks for, and what came of it.
use Rattle.std.specs.Prelude.{◌≡◌, ℕ, ◌++◌, ◌∷◌, [], List, Bool, true, false, map}
use Rattle.std.specs.List.{All}
use Rattle.hook_api.specs.declared.shared.SharedShelf.{SharedShelf}
use Rattle.call_plan.specs.declared.needs.Answered.{Answered}
use Rattle.call_plan.specs.declared.needs.Answered.TheVariants.{Ok}
use Rattle.call_plan.specs.declared.needs.Request.{Request}
use Rattle.call_plan.specs.declared.needs.Request.TheVariants.{Decay}
use Rattle.heap_runs.specs.declared.heaps.Ctx.{Ctx}
use Rattle.heap_runs.specs.declared.heaps.SharedHeap.{SharedHeap}
use Rattle.heap_runs.specs.Walks.{Done, Worked}
use Rattle.trace_phase.specs.Expanded.{rounds_over}

-- a decay of each of some arenas, in order, at a moment
abbrev pub one_round : ℕ → List ℕ → List Request
one_round now arenas = map (λ i. Decay i now) arenas

-- so many rounds, one behind the other
abbrev pub decays : ℕ → List ℕ → ℕ → List Request
decays now arenas rounds = one_round now (rounds_over arenas rounds)

-- an answer is Ok
abbrev pub is_ok : Answered → Bool
is_ok (Ok given) = true
is_ok answer = false

-- a call was answered Ok
abbrev pub WentWell : Done → Type 0
WentWell done = is_ok done.answer ≡ true

-- These requests were carried out, in order and by nothing else, and each was answered Ok.
pub record Made {H : Type 0} (shelf : SharedShelf H) (heap : SharedHeap) (old : Ctx) (requests : List Request) (new : Ctx) : Type 0 where
  pub worked : Worked shelf heap old requests new
  pub well : All WentWell worked.calls

-- The first of these requests were carried out, up to one that wasn't answered Ok, but so.
pub record Stops {H : Type 0} (shelf : SharedShelf H) (heap : SharedHeap) (old : Ctx) (requests : List Request) (answer : Answered) (new : Ctx) : Type 0 where
  pub first : List Request
  pub last : Request
  pub later : List Request
  pub beginning : requests ≡ first ++ last ∷ later
  pub worked : Worked shelf heap old (first ++ last ∷ []) new
  pub well : List Done
  pub calls : (done : Done) × (worked.calls ≡ well ++ done ∷ []) × (done.answer ≡ answer)
  pub all_well : All WentWell well
  pub bad : is_ok answer ≡ false
