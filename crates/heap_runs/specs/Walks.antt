-- The calls of a client, one behind the other, and what the journals of a heap have of them.
use Rattle.std.specs.Prelude.{◌≡◌, ◌⊎◌, ℕ, ◌++◌, List, [], ◌∷◌, Some, map, slice_get}
use Rattle.std.specs.List.{All}
use Rattle.hook_api.specs.declared.shared.SharedShelf.{SharedShelf}
use Rattle.call_plan.specs.Clients.{DeskFacts}
use Rattle.call_plan.specs.declared.needs.Answered.{Answered}
use Rattle.call_plan.specs.declared.needs.Answered.TheVariants.{NoMemory}
use Rattle.call_plan.specs.Laws.{IsInRange}
use Rattle.call_plan.specs.Runs.{begin}
use Rattle.call_plan.specs.declared.needs.Request.{Request}
use Rattle.heap_runs.specs.declared.heaps.Ctx.{Ctx}
use Rattle.heap_runs.specs.declared.heaps.SharedHeap.{SharedHeap}
use Rattle.heap_runs.specs.declared.phases.Job.{Job}
use Rattle.deeds.specs.Dids.{Did, IsCall}
use Rattle.heap_runs.specs.Heaps.{Gains, MayCall, shelf_id}
use Rattle.heap_runs.specs.Meets.{AllMeet}

-- A call that was carried out: what was asked for, what it did, and its answer.
pub record Done : Type 0 where
  pub request : Request
  pub dids : List Did
  pub answer : Answered

-- the call is one from what the client had to what it has then, and met what it had to; or memory was wanting before it did anything
abbrev pub IsDone : ℕ → DeskFacts → Done → DeskFacts → Type 0
IsDone c had done has =
    (IsCall c had done.request done.dids done.answer has × AllMeet c (begin done.request had) done.dids) ⊎ ((done.dids ≡ []) × (done.answer ≡ NoMemory) × (has ≡ had))

-- the calls follow one another, from what the client had to what it has then
abbrev pub Walk : ℕ → DeskFacts → List Done → DeskFacts → Type 0
Walk c had [] has = has ≡ had
Walk c had (done ∷ later) has = (mid : DeskFacts) × IsDone c had done mid × Walk c mid later has

-- what they were asked for
abbrev pub requests_of : List Done → List Request
requests_of calls = map (λ d. d.request) calls

-- all that they did, in order
abbrev pub dids_of : List Done → List Did
dids_of [] = []
dids_of (done ∷ later) = done.dids ++ dids_of later

-- A client carried these requests out, in order: its context went from the one to the other by them and by nothing else.
pub record Worked {H : Type 0} (shelf : SharedShelf H) (heap : SharedHeap) (old : Ctx) (requests : List Request) (new : Ctx) : Type 0 where
  pub calls : List Done
  pub asked : requests_of calls ≡ requests
  pub walk : Walk new.client old.desk.facts calls new.desk.facts
  pub gains : Gains shelf heap old new (dids_of calls)
  pub may : MayCall (shelf_id shelf) heap new

-- a worker may begin: its context is one of the heap, whose client rests, and each request is in range
pub record MayWork {H : Type 0} (shelf : SharedShelf H) (heap : SharedHeap) (job : Job) : Type 0 where
  pub may : MayCall (shelf_id shelf) heap job.ctx
  pub range : All IsInRange job.requests.items

-- each worker carried its requests out
abbrev pub AllWorked : {H : Type 0} → SharedShelf H → SharedHeap → List Job → List Ctx → Type 0
AllWorked shelf heap jobs ctxs = (i : ℕ) (job : Job) (ctx : Ctx) → slice_get jobs i ≡ Some job → slice_get ctxs i ≡ Some ctx → Worked shelf heap job.ctx job.requests.items ctx
