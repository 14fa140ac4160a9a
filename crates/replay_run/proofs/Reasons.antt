-- Every answer of a play has its cause: the reasons of a call are kept by each step.
use Rattle.call_plan.proofs.Bounds.{settle_keeps}
use Rattle.call_plan.proofs.Swaps.{meant_slot}
use Rattle.call_plan.specs.Causes.{CauseIn, CauseOf}
use Rattle.call_plan.specs.Desks.{meant, ready}
use Rattle.call_plan.proofs.Reasons.{AskWhy, EndWhy, MoveWhy, PointWhy, ResizeWhy, ThenWhy, TurnWhy}
use Rattle.call_plan.specs.Stages.{Point, Turns, Asks, Tells, Go, InArena, NextBatch, Move, NotLive, Ends, Nowhere}
use Rattle.call_plan.specs.declared.needs.Answered.TheVariants.{Ok, Refused, BadAnswer, TooLarge, BadAlign, NotHeld, NoArena as NoSuchArena, Busy, NoMemory, ArenasFull, Automatic, NoCache, CachesFull}
use Rattle.call_plan.specs.declared.needs.Request.TheVariants.{Realloc}
use Rattle.call_plan.specs.declared.points.AskPoint.{AskPoint}
use Rattle.call_plan.specs.declared.points.AskPoint.TheVariants.{Merging, PurgingLazily, Returning, Decommitting, Forcing, Cutting, Extending, Sparing, Backing, Joining}
use Rattle.call_plan.specs.declared.points.Resize.{Resize}
use Rattle.call_plan.specs.declared.points.AfterFlight.{AfterFlight}
use Rattle.call_plan.specs.declared.points.AfterFlight.TheVariants.{Batches, Visiting, Moving}
use Rattle.call_plan.specs.declared.points.TurnPoint.{TurnPoint}
use Rattle.call_plan.specs.declared.points.TurnPoint.TheVariants.{Finding, Offering, Giving, Widening, Narrowing}
use Rattle.replay_run.proofs.Words.{arith, DeskFacts, Item, Request, not_holding, ℕ, List, Option, None, Some, IfSome, Answered, Next, asked_for, seat_at, NextWhy, begin_why, settles_why, step_why, AnswerCause, AnswersHaveCauses, IsCaused, Tale, answer_in, tale_in, WorldEvent, World}
use Rattle.replay_run.proofs.Tales.{EndsHere, EndsWith, Kept, each_event, meant_in, ready_in}
use Rattle.replay_run.proofs.Truths.{event_true}

-- the reasons of a place of a call, by its tale
abbrev pub Why : ℕ → Tale → DeskFacts → Next → Type 0
Why c tale now next = NextWhy (ready_in tale) (meant_in tale) tale.items now next

-- they speak of no region that is held
module _ (began : DeskFacts) (addr : ℕ) where
  lose_move : (request : Request) (now : DeskFacts) (class : ℕ) → MoveWhy began request now class → MoveWhy began request (not_holding addr now) class
  lose_move (Realloc at size) now class why = why
  lose_move request now class why = grind arith

  lose_end : (request : Request) (items : List Item) (now : DeskFacts) → EndWhy began request items now → EndWhy began request items (not_holding addr now)
  lose_end (Realloc at size) items now why = why
  lose_end request items now why = grind arith

  lose_then : (request : Request) (items : List Item) (now : DeskFacts) (later : AfterFlight) → ThenWhy began request items now later → ThenWhy began request items (not_holding addr now) later
  lose_then request items now Batches why = lose_end request items now why
  lose_then request items now (Visiting visit left) why = why
  lose_then request items now (Moving class) why = lose_move request now class why

  lose_resize : (request : Request) (now : DeskFacts) (resize : Resize) → ResizeWhy began request now resize → ResizeWhy began request (not_holding addr now) resize
  lose_resize request now resize why = (lose_move request now resize.class why.0, why.1)

  lose_turn : (request : Request) (items : List Item) (now : DeskFacts) (point : TurnPoint) → TurnWhy began request items now point → TurnWhy began request items (not_holding addr now) point
  lose_turn request items now (Finding own tries fresh later) why = lose_then request items now later why
  lose_turn request items now (Offering span later) why = lose_then request items now later why
  lose_turn request items now (Giving addrs) why = lose_end request items now why
  lose_turn request items now (Widening resize) why = lose_resize request now resize why
  lose_turn request items now (Narrowing resize) why = lose_resize request now resize why
  lose_turn request items now point why = grind arith

  lose_ask : (request : Request) (items : List Item) (now : DeskFacts) (point : AskPoint) → AskWhy began request items now point → AskWhy began request items (not_holding addr now) point
  lose_ask request items now (Merging low high own_low fresh later) why = lose_then request items now later why
  lose_ask request items now (PurgingLazily span later) why = lose_then request items now later why
  lose_ask request items now (Returning span later) why = lose_then request items now later why
  lose_ask request items now (Decommitting span later) why = lose_then request items now later why
  lose_ask request items now (Forcing span later) why = lose_then request items now later why
  lose_ask request items now (Cutting resize) why = lose_resize request now resize why
  lose_ask request items now (Extending resize) why = lose_resize request now resize why
  lose_ask request items now (Sparing resize span b) why = lose_resize request now resize why
  lose_ask request items now (Backing resize span) why = lose_resize request now resize why
  lose_ask request items now (Joining resize span) why = lose_resize request now resize why
  lose_ask request items now point why = grind arith

  lose_point : (request : Request) (items : List Item) (now : DeskFacts) (point : Point) → PointWhy began request items now point → PointWhy began request items (not_holding addr now) point
  lose_point request items now (Turns point) why = lose_turn request items now point why
  lose_point request items now (Asks point None) why = lose_ask request items now point why
  lose_point request items now (Asks point (Some asked)) why = record { earlier = why.earlier; told = why.told; why = lose_ask request why.earlier now point why.why; is = why.is }
  lose_point request items now (Tells span b) why = why

  lose_why : (request : Request) (items : List Item) (now : DeskFacts) (next : Next) → NextWhy began request items now next → NextWhy began request items (not_holding addr now) next
  lose_why request items now (Go point) why = lose_point request items now point why
  lose_why request items now (InArena index point) why = lose_point request items now point why
  lose_why request items now NextBatch why = lose_end request items now why
  lose_why request items now (Move class) why = lose_move request now class why
  lose_why request items now NotLive why = why
  lose_why request items now (Ends answer) why = why
  lose_why request items now Nowhere why = tt

pub why_kept : Kept Why
why_kept = record {
  begins = λ h c request sound clients. begin_why (ready (asked_for h.seats c request) (seat_at h.seats c).desk) (meant (asked_for h.seats c request) (seat_at h.seats c).desk);
  steps = λ c tale now arena point item why came. step_why (ready_in tale) (meant_in tale) tale.items now arena c point item why came;
  settles = λ c tale now arena next why. settle_keeps (meant_in tale) (NextWhy (ready_in tale) (meant_in tale) tale.items) (settles_why (ready_in tale) (meant_in tale) tale.items) now arena next why;
  closes = λ c tale now other answer why. why;
  loses = λ c tale now addr next why. lose_why (ready_in tale) addr (meant_in tale) tale.items now next why;
  publishes = λ c tale now addr why. why;
}

-- the cause of a request as it is carried out is that of the request
cause_of : (request : Request) (desk : DeskFacts) (items : List Item) (answer : Answered) → CauseIn (ready request desk) (meant request desk) items answer → CauseOf desk request items answer
cause_of request desk items (NoCache slot) cause = meant_slot request desk slot cause
cause_of request desk items (Ok given) cause = cause
cause_of request desk items (Refused asked) cause = cause
cause_of request desk items (BadAnswer span why) cause = cause
cause_of request desk items TooLarge cause = cause
cause_of request desk items BadAlign cause = cause
cause_of request desk items (NotHeld addr) cause = cause
cause_of request desk items (NoSuchArena index) cause = cause
cause_of request desk items (Busy others flights threads) cause = cause
cause_of request desk items NoMemory cause = cause
cause_of request desk items ArenasFull cause = cause
cause_of request desk items Automatic cause = cause
cause_of request desk items CachesFull cause = cause

-- those of its end are the cause of its answer
pub answer_caused : (w : World) (event : WorldEvent) (answer : Option Answered) (tale : Option Tale) → IfSome answer (EndsWith Why w event tale) → IfSome answer (AnswerCause w event tale)
answer_caused w event (Some answer) (Some tale) ends = cause_of tale.request tale.began tale.items answer ends.2
answer_caused w event answer tale ends = ends

both : (P Q : Answered → Type 0) (answer : Option Answered) → IfSome answer P → IfSome answer Q → IfSome answer (λ a. P a × Q a)
both P Q None p q = tt
both P Q (Some answer) p q = (p, q)

event_caused : (w : World) (tales : List (Option Tale)) (event : WorldEvent) → EndsHere Why w tales event → IsCaused w tales event
event_caused w tales event it =
    let caused = answer_caused w event (answer_in w event) (tale_in w tales event) it.ends in
    both _ _ (answer_in w event) caused (event_true w tales event it.here caused)

pub answers-have_causes : AnswersHaveCauses
answers-have_causes events play sound = each_event Why IsCaused event_caused why_kept events play sound
