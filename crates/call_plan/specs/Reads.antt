-- What is read of a call, and where a call is aimed that takes a region over.
use Rattle.std.specs.Prelude.{ℕ, true, false, Option, None, Some}
use Rattle.hook_api.specs.Asked.{AskFacts}
use Rattle.call_plan.specs.Words.{Answered, Owning, Turns, Asks, Next, Go, Ends}
use Rattle.call_plan.specs.Calls.{CallFacts}

-- the answer of a call that has ended
abbrev pub ended_by : Next → Option Answered
ended_by (Ends answer) = Some answer
ended_by next = None

-- the ask whose answer is taken in next, where one is
abbrev pub heard_next : Next → Option AskFacts
heard_next (Go (Asks point heard)) = heard
heard_next next = None

-- the address of a region of another client that a call takes over next to free it, if it wasn't published for the call yet
abbrev pub taken_next : Next → Option ℕ
taken_next (Go (Turns (Owning addr true false))) = Some addr
taken_next next = None

-- the same point, with the region published for the call
abbrev pub published_next : Next → Next
published_next (Go (Turns (Owning addr true false))) = Go (Turns (Owning addr true true))
published_next next = next

-- the call takes the region over in the arena with this index, in which it is published
abbrev pub aimed : CallFacts → ℕ → CallFacts
aimed call arena = record call { stage = record { arena = arena; next = published_next call.stage.next } }
