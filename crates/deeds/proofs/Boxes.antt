-- An ask comes only behind a turn of its arena.
use Rattle.std.proofs.Common.{◌≡◌, ℕ, true, false, Option, None, Some, refl, sym, ◌∙◌, ap, arith}
use Rattle.std.proofs.lemmas.Bool.Decides.{nat_tests}
use Rattle.call_plan.specs.Desks.{meant, ready}
use Rattle.call_plan.specs.Clients.{hit}
use Rattle.call_plan.specs.Runs.{begin_stage, move_stage}
use Rattle.call_plan.specs.declared.needs.Request.{Request}
use Rattle.call_plan.specs.Clients.{DeskFacts}
use Rattle.call_plan.specs.Items.{Item, Replied, Told, Starved}
use Rattle.space_model.specs.declared.Reply.TheVariants.{Nothing}
use Rattle.call_plan.specs.declared.points.AskPoint.TheVariants.{Skipping}
use Rattle.call_plan.specs.declared.points.TurnPoint.TheVariants.{Filling, Dooming}
use Rattle.call_plan.specs.Stages.{Point, Turns, Asks, Tells, Next, Go, InArena, NextBatch, Move, NotLive, Ends, Nowhere}
use Rattle.hook_api.specs.Asked.{AskFacts}
use Rattle.space_model.specs.declared.Ask.{Ask}
use Rattle.call_plan.specs.Runs.{Moment, after, begin, settle, step_next}
use Rattle.call_plan.specs.Table.{step, want, WantAsk}
use Rattle.call_plan.specs.Desks.{desk_fed}
use Rattle.deeds.specs.Dids.{HasBox, asks_next, asks_point}

-- a call goes over only to a turn
abbrev OverTurns : Next → Type 0
OverTurns (InArena index point) = asks_point point ≡ false
OverTurns next = Unit {0}

over_turns : (next : Next) (item : Item) → OverTurns (step_next next item)
over_turns (Go (Turns (Filling wish count))) (Replied Nothing) = tt
over_turns (Go (Asks (Skipping wish span b skip) (Some asked))) (Replied Nothing) = tt
over_turns next item = grind (arith, nat_tests)

-- none comes where a region of a class is got in place of the one in hand
move_turns : (request : Request) (arena class : ℕ) (desk : DeskFacts) → asks_next (move_stage request arena class (hit class desk) desk).next ≡ false
move_turns request arena class desk = grind (arith, nat_tests)

-- where a step leads to an ask, it is of the same arena
settled_box : (request : Request) (desk : DeskFacts) (arena : ℕ) (next : Next) → OverTurns next → asks_next (settle request desk arena next).next ≡ true → (settle request desk arena next).arena ≡ arena
settled_box request desk arena (Go point) over asks = refl
settled_box request desk arena (InArena index point) over asks = absurd (cc)
settled_box request desk arena NextBatch over asks = absurd (grind arith)
settled_box request desk arena (Move class) over asks = let none = move_turns request arena class desk in absurd (cc)
settled_box request desk arena NotLive over asks = refl
settled_box request desk arena (Ends answer) over asks = refl
settled_box request desk arena Nowhere over asks = refl

pub box_after : (at : Moment) (item : Item) (box_no : ℕ) → HasBox (after at item).stage (Some (at.stage.arena, box_no)) box_no
box_after at item box_no = λ asks.
    let home = settled_box at.request (desk_fed at.desk at.stage.arena at.stage.next item) at.stage.arena (step_next at.stage.next item) (over_turns at.stage.next item) asks in
    ap (λ a. Some (a, box_no)) (sym home)

-- behind an answer to an ask comes a turn
asked_next : (point : Point) (ask : Ask) (asked : AskFacts) → want point ≡ WantAsk ask → (q : Point) × (step point (Told asked) ≡ Go q) × (asks_point q ≡ false)
asked_next (Turns point) ask asked is = absurd (cc)
asked_next (Asks point None) ask asked is = (Asks point (Some asked), refl, refl)
asked_next (Asks point (Some was)) ask asked is = absurd (cc)
asked_next (Tells span b) ask asked is = (Turns Dooming, refl, refl)

pub box_asked : (at : Moment) (point : Point) (ask : Ask) (asked : AskFacts) (last : Option (ℕ × ℕ)) (box_no : ℕ) → at.stage.next ≡ Go point → want point ≡ WantAsk ask → HasBox (after at (Told asked)).stage last box_no
box_asked at point ask asked last box_no goes is = λ asks.
    let to = asked_next point ask asked is in
    let next : step_next at.stage.next (Told asked) ≡ Go to.0 = ap (λ n. step_next n (Told asked)) goes ∙ to.1 in
    let none : asks_next (after at (Told asked)).stage.next ≡ false = ap (λ n. asks_next (settle at.request (desk_fed at.desk at.stage.arena at.stage.next (Told asked)) at.stage.arena n).next) next ∙ to.2 in
    absurd (cc)

-- none comes where memory was wanting
starved_next : (point : Point) → asks_next (step point Starved) ≡ false
starved_next point = grind arith

pub box_lacked : (at : Moment) (point : Point) (last : Option (ℕ × ℕ)) (box_no : ℕ) → at.stage.next ≡ Go point → HasBox (after at Starved).stage last box_no
box_lacked at point last box_no goes = λ asks. absurd (grind (arith, starved_next))

-- and none where a request begins
stage_turns : (request : Request) (desk : DeskFacts) → asks_next (begin_stage request desk).next ≡ false
stage_turns request desk = grind (arith, nat_tests)

pub begin_turns : (request : Request) (desk : DeskFacts) → asks_next (begin request desk).stage.next ≡ false
begin_turns request desk = stage_turns (meant request desk) (ready request desk)

-- an ask is wanted only where one comes
pub asks_there : (point : Point) (ask : Ask) → want point ≡ WantAsk ask → asks_point point ≡ true
asks_there (Turns point) ask is = absurd (cc)
asks_there (Asks point None) ask is = refl
asks_there (Asks point (Some was)) ask is = absurd (cc)
asks_there (Tells span b) ask is = refl
