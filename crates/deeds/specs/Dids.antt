-- What a call did: its turns and its asks, in order.
use Rattle.std.specs.Prelude.{◌≡◌, ℕ, ◌+◌, Bool, true, false, List, [], ◌∷◌, ◌++◌, Option, None, Some, slice_index, slice_set}
use Rattle.call_plan.specs.Items.{Item, Replied, Told as Heard, Starved}
use Rattle.call_plan.specs.Laws.{with_found}
use Rattle.call_plan.specs.Runs.{Moment, after, begin}
use Rattle.call_plan.specs.Stages.{Point, Asks, Tells, Next, Go, Ends, Stage}
use Rattle.call_plan.specs.Table.{Want, WantTurn, WantAsk, want, is_marked}
use Rattle.call_plan.specs.declared.needs.Answered.{Answered}
use Rattle.call_plan.specs.declared.needs.Answered.TheVariants.{Refused}
use Rattle.call_plan.specs.declared.needs.Request.{Request}
use Rattle.hook_api.specs.Asked.{AskFacts}
use Rattle.hook_api.specs.Counts.{capped}
use Rattle.call_plan.specs.Clients.{DeskFacts}
use Rattle.deeds.specs.declared.deeds.Deed.{Deed}
use Rattle.deeds.specs.declared.deeds.Doing.{Doing}
use Rattle.deeds.specs.declared.deeds.Told.{Told}

-- the entry of an operation of a client, with the chunk that was found for it
abbrev pub deed_of : ℕ → Doing → Option ℕ → Deed
deed_of c doing chunk = record { client = c; op = with_found chunk doing.op; asked = doing.asked }

-- A turn of an arena, with its entry and what it told; an ask for an arena; or a turn that found no memory and left no entry.
pub data Did : Type 0 where
  Took : ℕ → Deed → Told → Did
  Asked : ℕ → AskFacts → Did
  Lacked : Did

-- what the call is fed that did it
abbrev pub item_of : Did → Item
item_of (Took arena deed told) = Replied told.reply
item_of (Asked arena asked) = Heard asked
item_of Lacked = Starved

-- it is what the call of a client wants there
abbrev pub IsWanted : ℕ → ℕ → Want → Did → Type 0
IsWanted c arena (WantTurn op asked) (Took a deed told) = (a ≡ arena) × ((chunk : Option ℕ) × (deed ≡ deed_of c (record { op = op; asked = asked }) chunk))
IsWanted c arena (WantTurn op asked) Lacked = is_marked op ≡ true
IsWanted c arena (WantAsk ask) (Asked a asked) = (a ≡ arena) × (asked.ask ≡ ask)
IsWanted c arena want did = ⊥

-- it is what a call wants that waits, and nothing where the call has ended
abbrev pub IsWantedAt : ℕ → ℕ → Next → Did → Type 0
IsWantedAt c arena (Go point) did = IsWanted c arena (want point) did
IsWantedAt c arena next did = ⊥

-- the arena of the last turn, and the box of hooks that it told
abbrev pub told_by : Option (ℕ × ℕ) → Did → Option (ℕ × ℕ)
told_by last (Took arena deed told) = Some (arena, told.box_no)
told_by last did = last

-- an ask is of the box that the last turn told, of the same arena
abbrev pub IsOfBox : Option (ℕ × ℕ) → Did → Type 0
IsOfBox last (Asked arena asked) = last ≡ Some (arena, asked.box_no)
IsOfBox last did = Unit {0}

-- One thing that a call did, where the last turn was this one: the table wants it there, and an ask is of the arena's own box.
pub record Follows (c : ℕ) (at : Moment) (last : Option (ℕ × ℕ)) (did : Did) : Type 0 where
  pub wanted : IsWantedAt c at.stage.arena at.stage.next did
  pub box : IsOfBox last did

-- a call of a client came from one moment to another by what it did
abbrev pub Led : ℕ → Moment → Option (ℕ × ℕ) → List Did → Moment → Type 0
Led c at last [] new = new ≡ at
Led c at last (did ∷ dids) new = Follows c at last did × Led c (after at (item_of did)) (told_by last did) dids new

-- A whole call of a client: from what it had to what it has, with its answer.
pub record IsCall (c : ℕ) (had : DeskFacts) (request : Request) (dids : List Did) (answer : Answered) (has : DeskFacts) : Type 0 where
  pub last : Moment
  pub led : Led c (begin request had) None dids last
  pub ends : last.stage.next ≡ Ends answer
  pub leaves : last.desk ≡ has

-- a whole call has one answer and leaves its client one thing, and nothing comes behind what it did
abbrev pub CallsEndOnce : Type 0
CallsEndOnce = (c : ℕ) (had has last : DeskFacts) (request : Request) (dids more : List Did) (answer other : Answered)
    → IsCall c had request dids answer has → IsCall c had request (dids ++ more) other last → (more ≡ []) × (other ≡ answer) × (last ≡ has)

-- ---- its asks

-- the asks, in order
abbrev pub asks_of : List Did → List AskFacts
asks_of [] = []
asks_of (Asked arena asked ∷ dids) = asked ∷ asks_of dids
asks_of (did ∷ dids) = asks_of dids

-- asks have the next places of a seat, each of its box
abbrev pub HaveNext : List ℕ → List AskFacts → List ℕ → Type 0
HaveNext old [] new = new ≡ old
HaveNext old (a ∷ later) new = (a.place ≡ slice_index old a.box_no) × HaveNext (slice_set old a.box_no (capped (slice_index old a.box_no + 1))) later new

-- whether an ask comes at a point
abbrev pub asks_point : Point → Bool
asks_point (Asks point None) = true
asks_point (Tells span is_committed) = true
asks_point point = false

-- whether an ask comes next
abbrev pub asks_next : Next → Bool
asks_next (Go point) = asks_point point
asks_next next = false

-- the arena of the last turn and its box, after all that was done
abbrev pub told_last : Option (ℕ × ℕ) → List Did → Option (ℕ × ℕ)
told_last last [] = last
told_last last (did ∷ dids) = told_last (told_by last did) dids

-- where an ask comes next, the last turn was one of its arena, and told this box
abbrev pub HasBox : Stage → Option (ℕ × ℕ) → ℕ → Type 0
HasBox at last box_no = asks_next at.next ≡ true → last ≡ Some (at.arena, box_no)

-- ---- a refusal

-- the ask that an entry carries
abbrev pub carried : Did → Option AskFacts
carried (Took arena deed told) = deed.asked
carried did = None

-- the ask that the last one of all carries
abbrev pub carried_last : List Did → Option AskFacts
carried_last [] = None
carried_last (did ∷ []) = carried did
carried_last (did ∷ more ∷ dids) = carried_last (more ∷ dids)

-- a refused call tells the ask that its last entry carries
abbrev pub RefusalsAreLast : Type 0
RefusalsAreLast = (c : ℕ) (had : DeskFacts) (request : Request) (dids : List Did) (asked : AskFacts) (has : DeskFacts)
    → IsCall c had request dids (Refused asked) has → carried_last dids ≡ Some asked
