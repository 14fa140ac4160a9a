-- What a call tells that it needs, by where it stands.
use Rattle.std.specs.Prelude.{◌≡◌, ◌≤◌, ℕ, false, List, [], ◌∷◌, length, IsSomeAnd}
use Rattle.call_plan.specs.Clients.{DeskFacts, addrs_in, going, is_cacheable}
use Rattle.call_plan.specs.Words.{Request, Malloc, Memalign, Free, Publish, Realloc, Flush, Cache, NewCache, TurnPoint, Giving, Turns, Next, Go, InArena, Ends, Nowhere, Stage}
use Rattle.call_plan.specs.Desks.{flushes}
use Rattle.call_plan.specs.declared.needs.Need.{Need}
use Rattle.call_plan.specs.declared.needs.Need.TheVariants.{Turn as NeedsTurn, Ask as NeedsAsk, Done as IsDone, Starved as IsStarved}
use Rattle.call_plan.specs.Table.{Want, WantTurn, WantAsk, want}

-- the need is what is wanted of the arena
abbrev pub NeedsWant : ℕ → ℕ → Want → Need → Type 0
NeedsWant client arena (WantTurn op asked) need = need ≡ NeedsTurn (record { arena = arena; client = client; op = op })
NeedsWant client arena (WantAsk ask) need = need ≡ NeedsAsk arena ask

-- ---- the regions that go back, named

-- the addresses of a turn that gives regions back: those that it names, or, as long as it names none, those of all regions of the
-- arena that are to go
abbrev pub named_addrs : Request → DeskFacts → ℕ → List ℕ → List ℕ
named_addrs request desk arena [] = addrs_in arena (going (flushes request) desk)
named_addrs request desk arena (addr ∷ addrs) = addr ∷ addrs

-- a turn of an arena that names the regions which it gives back
abbrev pub named_turn : Request → DeskFacts → ℕ → TurnPoint → TurnPoint
named_turn request desk arena (Giving addrs) = Giving (named_addrs request desk arena addrs)
named_turn request desk arena point = point

-- where a call goes next, with the regions named that go back there
abbrev pub named_next : Request → DeskFacts → ℕ → Next → Next
named_next request desk arena (Go (Turns point)) = Go (Turns (named_turn request desk arena point))
named_next request desk arena next = next

-- where a call stands, with the regions named that go back there
abbrev pub named : Request → DeskFacts → Stage → Stage
named request desk at = record { arena = at.arena; next = named_next request desk at.arena at.next }

-- regions go back next
abbrev pub IsGiving : Next → Type 0
IsGiving (Go (Turns (Giving addrs))) = Unit {0}
IsGiving next = ⊥

-- no regions go back where an item leads, before it is known which
abbrev pub GivesNone : Next → Type 0
GivesNone (Go (Turns (Giving addrs))) = ⊥
GivesNone (InArena index (Turns (Giving addrs))) = ⊥
GivesNone next = Unit {0}

-- no memory is wanted to name the regions that go back: it is the one in hand alone, which isn't to be cached, or they are named
-- already and few
abbrev pub NamesFreely : DeskFacts → List ℕ → Type 0
NamesFreely desk [] = IsSomeAnd desk.hand (λ region. is_cacheable region.class desk ≡ false)
NamesFreely desk addrs = length addrs ≤ 2

-- so few regions go back where a call goes next that no memory is wanted to name them
abbrev pub IsFewAddresses : DeskFacts → Next → Type 0
IsFewAddresses desk (Go (Turns (Giving addrs))) = NamesFreely desk addrs
IsFewAddresses desk next = Unit {0}

-- so few regions go back where a call goes next that no memory is wanted to tell of them once they are named
abbrev pub HasFewAddresses : Next → Type 0
HasFewAddresses (Go (Turns (Giving addrs))) = length addrs ≤ 2
HasFewAddresses next = Unit {0}

-- ---- the need

-- The need of a client is what its call wants at a point, or the answer. It is starved only where regions go back.
abbrev pub NeedIs : ℕ → ℕ → Next → Need → Type 0
NeedIs client arena next IsStarved = IsGiving next
NeedIs client arena (Go point) need = NeedsWant client arena (want point) need
NeedIs client arena (Ends answer) need = need ≡ IsDone answer
NeedIs client arena next need = ⊥

-- the client isn't starved
abbrev pub IsFed : Need → Type 0
IsFed IsStarved = ⊥
IsFed need = Unit {0}

-- what the client has stays as it is where the request begins, and no memory is taken
abbrev pub LeavesDesk : Request → Type 0
LeavesDesk (Malloc size) = ⊥
LeavesDesk (Memalign align size) = ⊥
LeavesDesk (Free addr) = ⊥
LeavesDesk (Publish addr) = ⊥
LeavesDesk (Realloc addr size) = ⊥
LeavesDesk Flush = ⊥
LeavesDesk (Cache on) = ⊥
LeavesDesk NewCache = ⊥
LeavesDesk request = Unit {0}

-- a call waits at a point, or has ended
abbrev pub IsPointOrEnd : Next → Type 0
IsPointOrEnd (Go point) = Unit {0}
IsPointOrEnd (Ends answer) = Unit {0}
IsPointOrEnd next = ⊥

-- the item was one that could come
abbrev pub Goes : Next → Type 0
Goes Nowhere = ⊥
Goes next = Unit {0}
