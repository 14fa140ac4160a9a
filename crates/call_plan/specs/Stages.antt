-- Where a call stands: at a point, or at its end.
use Rattle.std.specs.Prelude.{◌≡◌, ℕ, Bool, true, false, Option, None}
use Rattle.space_model.specs.declared.Span.{Span}
use Rattle.hook_api.specs.Asked.{AskFacts}
use Rattle.call_plan.specs.declared.needs.Answered.{Answered}
use Rattle.call_plan.specs.Items.{Item, Told}
use Rattle.call_plan.specs.declared.points.AskPoint.{AskPoint}
use Rattle.call_plan.specs.declared.points.TurnPoint.{TurnPoint}
use Rattle.call_plan.specs.declared.points.NextStep.{NextStep}
use Rattle.call_plan.specs.declared.points.NextStep.TheVariants.{Turns as AtTurn, Asks as AtAsk, Tells as AtEnd, InArena as ToInArena, NextBatch as ToNextBatch, Move as ToMove, NotLive as ToNotLive, Ends as ToAnswer, Nowhere as ToNowhere}

-- A point at which a call waits: for the reply to a turn; for the answer to an ask, or, where it is there, for the reply to the
-- turn that takes it in; or for the ask that destroys an extent of an arena that has ended, committed or not.
pub data Point : Type 0 where
  Turns : TurnPoint → Point
  Asks : AskPoint → Option AskFacts → Point
  Tells : Span → Bool → Point

-- Where an item leads: to a point; to a point of the arena with this index; to the next batch of regions that go back, or to the
-- end; to a region of the class that takes the place of the one in hand; to the end, since the arena isn't live; to an answer; or
-- nowhere, since it is none that could come.
pub data Next : Type 0 where
  Go : Point → Next
  InArena : ℕ → Point → Next
  NextBatch : Next
  Move : ℕ → Next
  NotLive : Next
  Ends : Answered → Next
  Nowhere : Next

-- Where a call stands: the index of the arena whose turn or ask it waits for, and the point, or its answer.
pub record Stage : Type 0 where
  pub arena : ℕ
  pub next : Next

-- where the next step leads, with what was answered there
abbrev pub led : NextStep → Option AskFacts → Next
led (AtTurn point) heard = Go (Turns point)
led (AtAsk point) heard = Go (Asks point heard)
led (AtEnd span is_committed) heard = Go (Tells span is_committed)
led (ToInArena arena point) heard = InArena arena (Turns point)
led ToNextBatch heard = NextBatch
led (ToMove class) heard = Move class
led ToNotLive heard = NotLive
led (ToAnswer answer) heard = Ends answer
led ToNowhere heard = Nowhere

-- the item is the answer that is waited for at a point
abbrev pub hears : Point → Item → Bool
hears (Asks point None) (Told asked) = true
hears point item = false

-- whether the item is the answer that is waited for where a call stands
abbrev pub hears_next : Next → Item → Bool
hears_next (Go point) item = hears point item
hears_next next item = false

-- only at an ask there is an answer to be taken in
abbrev pub IsHeardAt : NextStep → Option AskFacts → Type 0
IsHeardAt (AtAsk point) heard = Unit {0}
IsHeardAt step heard = heard ≡ None
