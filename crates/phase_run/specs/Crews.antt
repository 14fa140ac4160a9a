-- The contexts of a trace's clients, and what they gain.
use Rattle.std.specs.Prelude.{◌≡◌, ℕ, ◌+◌, ◌<◌, ◌++◌, Bool, List, [], ◌∷◌, Some, length, map, slice_get, slice_index_or}
use Rattle.std.specs.List.{All}
use Rattle.atomic_table.specs.Seated.{TableId}
use Rattle.deeds.specs.Dids.{Did, HaveNext, asks_of}
use Rattle.heap_runs.specs.Heaps.{MayCall, counted_by, shelf_id, turns_of}
use Rattle.heap_runs.specs.Walks.{Done, dids_of}
use Rattle.heap_runs.specs.Ways.{took_in}
use Rattle.heap_runs.specs.declared.heaps.Ctx.{Ctx}
use Rattle.heap_runs.specs.declared.heaps.SharedHeap.{SharedHeap}
use Rattle.hook_api.specs.Shared.{orders_of, same_locks}
use Rattle.hook_api.specs.declared.orders.Orders.{Orders}
use Rattle.hook_api.specs.declared.shared.SharedShelf.{SharedShelf}
use Rattle.call_plan.specs.Clients.{DeskFacts}
use Rattle.trace_phase.specs.declared.parts.Part.{Part}
use Rattle.trace_phase.specs.declared.parts.Phase.{Phase}
use Rattle.phase_run.specs.Names.{known_to, merged}
use Rattle.phase_run.specs.Shifts.{calls_of}
use Rattle.phase_run.specs.Stands.{Stand, WalksPart, WalksParts, calls_by, calls_in, opening_stand}
use Rattle.phase_run.specs.declared.crews.Crew.{Crew}
use Rattle.phase_run.specs.declared.names.Place.{Place}
use Rattle.phase_run.specs.Tally.{added}
use Rattle.phase_run.specs.declared.workers.Shift.{Shift}
use Rattle.phase_run.specs.declared.workers.Worker.{Worker}

-- the contexts are those of the clients from one on, by rising numbers
abbrev pub AreFrom : ℕ → List Ctx → Type 0
AreFrom c [] = Unit {0}
AreFrom c (ctx ∷ ctxs) = (ctx.client ≡ c) × AreFrom (c + 1) ctxs

-- what a context's client has
abbrev pub desk_of : Ctx → DeskFacts
desk_of ctx = ctx.desk.facts

-- how the clients stand, where these plans were set last for the boxes
abbrev pub stand_of : List Orders → Crew → Stand
stand_of orders crew = record { desks = map desk_of crew.ctxs.items; names = crew.names; live = crew.live; orders = orders; tally = crew.tally }

-- The crew has a context for each of the 32 clients, each of which may call.
pub record IsReady (shelf : TableId) (heap : SharedHeap) (crew : Crew) : Type 0 where
  pub clients : AreFrom 0 crew.ctxs.items
  pub count : length crew.ctxs.items ≡ 32
  pub may : All (MayCall shelf heap) crew.ctxs.items

-- What a context gained: each pass its own of the turns, in order, each with what it told, and the seat the places of the asks, and
-- how many of them each box refused by itself.
pub record HasGained (heap : SharedHeap) (old : Ctx) (dids : List Did) (new : Ctx) : Type 0 where
  pub client : new.client ≡ old.client
  pub turns : (i : ℕ) → i < 32 → turns_of heap new i ≡ turns_of heap old i ++ took_in i dids
  pub asks : HaveNext old.seat.places (asks_of dids) new.seat.places
  pub refused : new.seat.refused ≡ counted_by old.seat.refused (asks_of dids)

-- each context gained what its client's calls did
abbrev pub HaveGained : SharedHeap → List Ctx → List (List Done) → List Ctx → Type 0
HaveGained heap olds dones news = (c : ℕ) (old new : Ctx) → slice_get olds c ≡ Some old → slice_get news c ≡ Some new → HasGained heap old (dids_of (slice_index_or dones c [])) new

-- A worker is that of a context in a phase: it has the calls of its client, and knows of the names what they have.
pub record IsWorker (all : List (List ℕ × Place)) (live : List Bool) (phase : Phase) (ctx : Ctx) (worker : Worker) : Type 0 where
  pub same : worker.ctx ≡ ctx
  pub moment : worker.job.moment ≡ phase.moment
  pub names : worker.job.names ≡ known_to all (calls_by ctx.client phase.works)
  pub calls : calls_of worker ≡ calls_in live phase ctx.client

-- A crew took back in what a worker leaves.
pub record IsWith (old : Crew) (shift : Shift) (new : Crew) : Type 0 where
  pub ctxs : new.ctxs.items ≡ old.ctxs.items ++ shift.ctx ∷ []
  pub names : new.names ≡ merged old.names shift.names
  pub live : new.live ≡ old.live
  pub tally : new.tally ≡ added old.tally shift.tally

-- a crew took back in what workers leave, one behind the other
abbrev pub AreWith : Crew → List Shift → Crew → Type 0
AreWith old [] new = new ≡ old
AreWith old (shift ∷ shifts) new = (mid : Crew) × IsWith old shift mid × AreWith mid shifts new

-- A part of a trace was carried out: each client made its calls, and its context gained what they did.
pub record Carried {H : Type 0} (shelf : SharedShelf H) (heap : SharedHeap) (old : Crew) (part : Part) (shelf' : SharedShelf H) (new : Crew) : Type 0 where
  pub dones : List (List Done)
  pub walks : WalksPart (stand_of (orders_of shelf) old) part dones (stand_of (orders_of shelf') new)
  pub gained : HaveGained heap old.ctxs.items dones new.ctxs.items
  pub ready : IsReady (shelf_id shelf') heap new
  pub locks : same_locks shelf shelf'

-- All parts of a trace were carried out, one behind the other, by clients that had done nothing before.
pub record AllCarried {H : Type 0} (shelf : SharedShelf H) (heap : SharedHeap) (olds : List Ctx) (parts : List Part) (shelf' : SharedShelf H) (new : Crew) : Type 0 where
  pub dones : List (List Done)
  pub walks : WalksParts (opening_stand (orders_of shelf)) parts dones (stand_of (orders_of shelf') new)
  pub gained : HaveGained heap olds dones new.ctxs.items
  pub ready : IsReady (shelf_id shelf') heap new
  pub locks : same_locks shelf shelf'
