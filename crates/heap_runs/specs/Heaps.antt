-- What a context knows of its heap, and what a call of its client does.
use Rattle.std.specs.Prelude.{◌≡◌, ◌⊎◌, ℕ, ◌<◌, ◌++◌, List, [], ◌∷◌, Option, None, IsTrue, false, true, if◌then◌else◌}
use Rattle.std.specs.List.{All}
use Rattle.std.specs.Arc.{arc_value}
use Rattle.std.specs.declared.snapshot.Snapshot.{Snapshot}
use Rattle.turn_lock.specs.declared.view.Turn.{Turn}
use Rattle.atomic_table.specs.Seated.{TableId}
use Rattle.hook_api.specs.Asked.{AskFacts, by_box}
use Rattle.hook_api.specs.Plans.{kind_of}
use Rattle.hook_api.specs.ShareSteps.{one_more}
use Rattle.hook_api.specs.Orders.{IsByPlanOf}
use Rattle.hook_api.specs.Shared.{plan_of_kind}
use Rattle.hook_api.specs.declared.shared.SharedShelf.{SharedShelf}
use Rattle.call_plan.specs.Calls.{CallFacts, HasRoomToHold, moment_at}
use Rattle.call_plan.specs.Runs.{Moment, after, begin}
use Rattle.call_plan.specs.Stages.{Ends}
use Rattle.call_plan.specs.declared.needs.Answered.{Answered}
use Rattle.call_plan.specs.declared.needs.Answered.TheVariants.{NoMemory}
use Rattle.call_plan.specs.declared.needs.Request.{Request}
use Rattle.deeds.specs.Dids.{Did, HasBox, Follows, HaveNext, IsCall, Led, asks_of, item_of, told_by, told_last}
use Rattle.deeds.specs.declared.deeds.Deed.{Deed}
use Rattle.deeds.specs.declared.deeds.Told.{Told}
use Rattle.sits.specs.Arenas.{AreArenas}
use Rattle.sits.specs.Sitting.{Comes, IsAtRest}
use Rattle.heap_runs.specs.Meets.{AllMeet, Meets}
use Rattle.heap_runs.specs.Ways.{AreWays, known, seen_at, turns_in, took_in}
use Rattle.heap_runs.specs.declared.heaps.Ctx.{Ctx}
use Rattle.heap_runs.specs.declared.heaps.SharedHeap.{SharedHeap}

-- the history of an arena that a context's pass has seen
abbrev pub log_of : Ctx → ℕ → List (Turn (Snapshot Deed))
log_of ctx i = seen_at ctx.passes.items i

-- the entries of a context's client in an arena, each with what its turn told
abbrev pub turns_of : SharedHeap → Ctx → ℕ → List (Snapshot Deed × Told)
turns_of heap ctx i = turns_in (arc_value heap.table) ctx.client i (log_of ctx i)

-- which shelf it is: its seats are those of its locks
abbrev pub shelf_id : {H : Type 0} → SharedShelf H → TableId
shelf_id shelf = shelf.locks.table.shared.table_id

-- A context is one of the heap, with a seat of the shelf. It knows each arena as its pass has seen it, and so each at a moment of its own.
pub record IsCtxOf (shelf : TableId) (heap : SharedHeap) (ctx : Ctx) : Type 0 where
  pub ways : AreWays heap.locks.items ctx.client ctx.passes.items
  pub seat : ctx.seat.badge.table_id ≡ shelf
  pub arenas : AreArenas false (known (arc_value heap.table) (log_of ctx))

-- a context's client has no open call, and what it has is so among the arenas as it knows them
abbrev pub Rests : SharedHeap → Ctx → Type 0
Rests heap ctx = IsAtRest false (known (arc_value heap.table) (log_of ctx)) ctx.client ctx.desk.facts

-- A context's client may begin a call.
pub record MayCall (shelf : TableId) (heap : SharedHeap) (ctx : Ctx) : Type 0 where
  pub is : IsCtxOf shelf heap ctx
  pub rests : Rests heap ctx

-- A call of a context's client came to where it stands, with all that it has to know there.
pub record Stands (heap : SharedHeap) (ctx : Ctx) (call : CallFacts) : Type 0 where
  pub client : call.client ≡ ctx.client
  pub comes : Comes false (known (arc_value heap.table) (log_of ctx)) ctx.client (moment_at call ctx.desk.facts)
  pub room : HasRoomToHold ctx.desk.facts ctx.desk.room call.stage.next

-- whether an ask was refused as planned is what is left of the plan that was set last on the shelf for its box and kind tells
abbrev pub IsAsPlanned : {H : Type 0} → SharedShelf H → AskFacts → Type 0
IsAsPlanned shelf asked = IsByPlanOf (plan_of_kind shelf asked.box_no (kind_of asked.ask)) asked.planned

-- how many asks each box refused by itself, with those of some asks more
abbrev pub counted_by : List ℕ → List AskFacts → List ℕ
counted_by refused [] = refused
counted_by refused (a ∷ asks) = counted_by (if by_box a then one_more a.box_no refused else refused) asks

-- What a context gains by some turns and asks: each pass its own of the turns and no others, in order, each with what it told; and
-- its seat moves on by just these asks, counts those that a box refused by itself, and each is refused as planned just where the plans say so.
pub record Gains {H : Type 0} (shelf : SharedShelf H) (heap : SharedHeap) (old new : Ctx) (dids : List Did) : Type 0 where
  pub client : new.client ≡ old.client
  pub turns : (i : ℕ) → i < 32 → turns_of heap new i ≡ turns_of heap old i ++ took_in i dids
  pub asks : HaveNext old.seat.places (asks_of dids) new.seat.places
  pub refused : new.seat.refused ≡ counted_by old.seat.refused (asks_of dids)
  pub planned : All (IsAsPlanned shelf) (asks_of dids)

-- What one step of a call did, where the last turn was this one, and what it met.
pub record Steps {H : Type 0} (shelf : SharedShelf H) (heap : SharedHeap) (old new : Ctx) (at : Moment) (last : Option (ℕ × ℕ)) (at' : Moment) (box_no : ℕ) : Type 0 where
  pub did : Did
  pub follows : Follows new.client at last did
  pub meets : Meets new.client at.stage.next did
  pub goes : at' ≡ after at (item_of did)
  pub box : HasBox at'.stage (told_by last did) box_no
  pub gains : Gains shelf heap old new (did ∷ [])

-- What a call has done so far, and what it met.
pub record Runs {H : Type 0} (shelf : SharedShelf H) (heap : SharedHeap) (old new : Ctx) (at at' : Moment) (box_no : ℕ) : Type 0 where
  pub dids : List Did
  pub led : Led new.client at None dids at'
  pub met : AllMeet new.client at dids
  pub box : HasBox at'.stage (told_last None dids) box_no
  pub gains : Gains shelf heap old new dids

-- An open call ran to its end from this moment, with this answer, and met what it had to.
pub record Ran {H : Type 0} (shelf : SharedShelf H) (heap : SharedHeap) (old new : Ctx) (at : Moment) (answer : Answered) : Type 0 where
  pub dids : List Did
  pub last : Moment
  pub led : Led new.client at None dids last
  pub met : AllMeet new.client at dids
  pub ends : last.stage.next ≡ Ends answer
  pub leaves : last.desk ≡ new.desk.facts
  pub gains : Gains shelf heap old new dids

-- What a whole call did: the passes of its context gained just the turns of one run from what the client had to what it has, with
-- its answer; each of its asks is of the box that the last turn told. Each turn met a sound space, in which the client owned what the call
-- has to know there, and each ask had an answer of its kind.
pub record Called {H : Type 0} (shelf : SharedShelf H) (heap : SharedHeap) (old new : Ctx) (request : Request) (answer : Answered) : Type 0 where
  pub dids : List Did
  pub call : IsCall new.client old.desk.facts request dids answer new.desk.facts
  pub met : AllMeet new.client (begin request old.desk.facts) dids
  pub gains : Gains shelf heap old new dids

-- Memory was wanting before anything was done: the client has what it had.
pub record Refrained {H : Type 0} (shelf : SharedShelf H) (heap : SharedHeap) (old new : Ctx) (answer : Answered) : Type 0 where
  pub gains : Gains shelf heap old new []
  pub desk : new.desk.facts ≡ old.desk.facts
  pub told : answer ≡ NoMemory

-- what a call did: a whole run of its request, or nothing, since memory was wanting
abbrev pub CallDid : {H : Type 0} → SharedShelf H → SharedHeap → Ctx → Ctx → Request → Answered → Type 0
CallDid shelf heap old new request answer = Called shelf heap old new request answer ⊎ Refrained shelf heap old new answer
