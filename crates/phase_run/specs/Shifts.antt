-- What a client's worker does in a phase.
use Rattle.std.specs.Prelude.{◌≡◌, ◌≢◌, ℕ, ◌≤◌, ◌++◌, ◌∷◌, [], List, length, map}
use Rattle.atomic_table.specs.Seated.{TableId}
use Rattle.call_plan.specs.declared.needs.Answered.{Answered}
use Rattle.call_plan.specs.declared.needs.Answered.TheVariants.{NoMemory}
use Rattle.call_plan.specs.declared.needs.Request.{Request}
use Rattle.call_plan.specs.Runs.{begin}
use Rattle.deeds.specs.Dids.{IsCall}
use Rattle.heap_runs.specs.Heaps.{Gains, MayCall, shelf_id}
use Rattle.heap_runs.specs.Meets.{AllMeet}
use Rattle.heap_runs.specs.Walks.{Done, dids_of}
use Rattle.heap_runs.specs.declared.heaps.SharedHeap.{SharedHeap}
use Rattle.hook_api.specs.declared.shared.SharedShelf.{SharedShelf}
use Rattle.call_plan.specs.Clients.{DeskFacts}
use Rattle.trace_phase.specs.Expanded.{rounds_over}
use Rattle.trace_phase.specs.declared.parts.PhaseCall.{PhaseCall}
use Rattle.trace_phase.specs.declared.parts.PhaseCall.TheVariants.{Decay}
use Rattle.phase_run.specs.Requests.{names_after, request_of}
use Rattle.phase_run.specs.Tally.{no_answers, tally_with, tallied}
use Rattle.phase_run.specs.Walks.{WalksLines}
use Rattle.phase_run.specs.declared.names.Place.{Place}
use Rattle.phase_run.specs.declared.workers.Shift.{Shift}
use Rattle.phase_run.specs.declared.workers.Worker.{Worker}

-- what a call that was carried out was asked for
abbrev pub asked_for : Done → Request
asked_for done = done.request

-- its answer
abbrev pub answer_to : Done → Answered
answer_to done = done.answer

-- a call of a client was carried out whole, from what it had to what it has, and memory wasn't wanting; each turn met a sound space in which
-- the client owned what the call has to know there, and each ask had an answer of its kind
abbrev pub IsMade : ℕ → DeskFacts → Done → DeskFacts → Type 0
IsMade c had done has = IsCall c had done.request done.dids done.answer has × (done.answer ≢ NoMemory) × AllMeet c (begin done.request had) done.dids

-- the calls of a client in a phase at a moment were carried out, from the names that were known and what the client had to those
-- that are known and what it has
abbrev pub MakesLines : ℕ → ℕ → List (List ℕ × Place) → DeskFacts → List PhaseCall → List Done → DeskFacts → List (List ℕ × Place) → Type 0
MakesLines c now names had calls dones has names' = WalksLines asked_for answer_to (IsMade c) now names had calls dones has names'

-- the calls of so many rounds over some arenas
abbrev pub background : List ℕ → ℕ → List PhaseCall
background arenas rounds = map (λ i. Decay i) (rounds_over arenas rounds)

-- A worker carried a call of a phase out.
pub record Carries {H : Type 0} (shelf : SharedShelf H) (heap : SharedHeap) (now : ℕ) (call : PhaseCall) (old new : Shift) : Type 0 where
  pub done : Done
  pub asked : done.request ≡ request_of now old.names call
  pub made : IsMade old.ctx.client old.ctx.desk.facts done new.ctx.desk.facts
  pub names : new.names ≡ names_after old.names call done.answer new.ctx.desk.facts
  pub tally : new.tally ≡ tallied old.tally done.answer
  pub gains : Gains shelf heap old.ctx new.ctx done.dids
  pub may : MayCall (shelf_id shelf) heap new.ctx

-- A worker carried some calls of a phase out, in order: its context gained what they did and nothing else.
pub record Shifted {H : Type 0} (shelf : SharedShelf H) (heap : SharedHeap) (now : ℕ) (calls : List PhaseCall) (old new : Shift) : Type 0 where
  pub dones : List Done
  pub makes : MakesLines old.ctx.client now old.names old.ctx.desk.facts calls dones new.ctx.desk.facts new.names
  pub tally : new.tally ≡ tally_with old.tally (map answer_to dones)
  pub gains : Gains shelf heap old.ctx new.ctx (dids_of dones)
  pub may : MayCall (shelf_id shelf) heap new.ctx

-- what a worker has before its first call
abbrev pub first_shift : Worker → Shift
first_shift worker = record { ctx = worker.ctx; names = worker.job.names; tally = no_answers }

-- all calls of a worker: those of its client's lines, and its rounds
abbrev pub calls_of : Worker → List PhaseCall
calls_of worker = worker.job.calls ++ background worker.arenas.items worker.rounds

-- A worker may begin: its context is one of the heap, whose client rests, and a round has at most as many arenas as there are.
pub record MayWork (shelf : TableId) (heap : SharedHeap) (worker : Worker) : Type 0 where
  pub may : MayCall shelf heap worker.ctx
  pub few : length worker.arenas.items ≤ 32

-- a worker carried all its calls out
abbrev pub HasWorked : {H : Type 0} → SharedShelf H → SharedHeap → Worker → Shift → Type 0
HasWorked shelf heap worker shift = Shifted shelf heap worker.job.moment (calls_of worker) (first_shift worker) shift
