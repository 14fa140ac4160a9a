-- A call begins in a play only where its client has none open.
use Rattle.replay_run.proofs.Words.{◌≡◌, ℕ, ◌≤◌, Bool, true, false, List, [], Option, None, Some, is_some, is_none, length, length-set, refl, ◌∙◌, ap, subst, arith, nat_lt, ltb-true, nat_tests, get_or-set_same, past, Op, AskFacts, Answered, Request, ToldItem, Next, Go, CallFacts, ended_by, Moment, HeapFacts, answered_by, holder_for, moment_after, replied, started, turned_for, Seat, answer_of, begun, first_seat, open_call, seat_at, seat_of, turn_line, Line, Verb, Beginning, AsksFor, TellsAt, FindsNone, OpenCall, SweepFacts, WorldEvent, Read, Began, WentOn, Turned, Told, Starved, IsNext, after_event, beginning_in, client_awaited, Awaits, Nothing, OneStep, TheEnd, TheEndBefore, TheNext, TheStart, awaits_after, World, begins, begun_as, call_at, came_to, goes_on, line_read, settled, stepped, stepped_on}
use Rattle.std.proofs.Common.{slice_set}

-- Where the beginning of a call is waited for, or of the next request of one, its client has none open; behind the latter its client is
-- waited for still.
abbrev IdleAt : Awaits → List Seat → Type 0
IdleAt (TheStart c verb whole) seats = (seat_at seats c).call ≡ None
IdleAt (TheNext c request behind) seats = ((seat_at seats c).call ≡ None) × (client_awaited behind ≡ Some c)
IdleAt awaits seats = Unit {0}

abbrev pub Idles : World → Type 0
Idles w = IdleAt w.awaits w.heap.seats

-- a call that has its answer isn't open
closed_call : (c : ℕ) (at : Moment) (next : Next) → is_some (ended_by next) ≡ true → open_call c at next ≡ None
closed_call c at (Go point) ends = absurd (cc)
closed_call c at next ends = refl

ended_none : (seats : List Seat) (c : ℕ) (at : Moment) → is_some (answer_of at) ≡ true → (seat_at (slice_set seats c (seat_of c at)) c).call ≡ None
ended_none seats c at ends = by (nat_lt c (length seats)) refl
  where
    by : (v : Bool) → nat_lt c (length seats) ≡ v → (seat_at (slice_set seats c (seat_of c at)) c).call ≡ None
    by true e = ap (λ (x : Seat). x.call) (get_or-set_same seats c (seat_of c at) first_seat (ltb-true c (length seats) e)) ∙ closed_call c at at.stage.next ends
    by false e = let far : length seats ≤ c = grind (arith, nat_tests) in ap (λ (x : Seat). x.call) (past (slice_set seats c (seat_of c at)) c first_seat (omega (arith, far, length-set seats c (seat_of c at))))

-- where a step of a client's call leads that is waited for
came_idle : (w : World) (c : ℕ) (heap : HeapFacts) (line : List ℕ) (answer : Option Answered) → client_awaited w.awaits ≡ Some c → (is_some answer ≡ true → (seat_at heap.seats c).call ≡ None) → Idles (came_to w c heap line answer)
came_idle w c heap line answer awaited ends = by w.awaits answer awaited ends
  where
    by : (awaits : Awaits) (answer : Option Answered) → client_awaited awaits ≡ Some c → (is_some answer ≡ true → (seat_at heap.seats c).call ≡ None) → IdleAt (awaits_after awaits (is_none answer)) heap.seats
    by (OneStep k) answer awaited ends = tt
    by (TheEnd k) (Some a) awaited ends = tt
    by (TheEnd k) None awaited ends = tt
    by (TheEndBefore k verb whole) (Some a) awaited ends = let same : c ≡ k = cc in subst (λ i. (seat_at heap.seats i).call ≡ None) same (ends refl)
    by (TheEndBefore k verb whole) None awaited ends = tt
    by awaits answer awaited ends = absurd (cc)

stepped_idle : (w : World) (c : ℕ) (heap : HeapFacts) (line : List ℕ) (answer : Option Answered) → client_awaited w.awaits ≡ Some c → (is_some answer ≡ true → (seat_at heap.seats c).call ≡ None) → Idles (stepped w c heap line answer)
stepped_idle w c heap line None awaited ends = by (call_at w.calls c)
  where
    by : (call : Option OpenCall) → Idles (stepped_on w c heap line None (goes_on call None))
    by None = came_idle w c heap line None awaited ends
    by (Some call) = came_idle w c heap line None awaited ends
stepped_idle w c heap line (Some answer) awaited ends = by (goes_on (call_at w.calls c) (Some answer))
  where
    by : (next : Option Request) → Idles (stepped_on w c heap line (Some answer) next)
    by None = came_idle w c heap line (Some answer) awaited ends
    by (Some request) = (ends refl, awaited)

begun_idle : (w : World) (c : ℕ) (verb : Verb) (whole : Bool) (sweep : Option SweepFacts) (answer : Option Answered) → Idles (begun_as w c verb whole sweep answer)
begun_idle w c verb whole sweep (Some answer) = tt
begun_idle w c verb true sweep None = tt
begun_idle w c verb false sweep None = tt

began_idle : (w : World) (c : ℕ) (verb : Verb) (whole : Bool) (b : Beginning) → Idles (begins w c verb whole b)
began_idle w c verb whole (AsksFor request sweep) = begun_idle (record w { heap = started w.heap c request }) c verb whole sweep (answer_of (begun w.heap.seats c request))
began_idle w c verb whole (TellsAt answer) = tt
began_idle w c verb whole FindsNone = tt

line_idle : (w : World) (line : Line) → w.awaits ≡ Nothing → Idles (line_read w line)
line_idle w line free = grind arith

turned_idle : (w : World) (c : ℕ) (call : CallFacts) (op : Op) (asked : Option AskFacts) (holder : Option ℕ) → client_awaited w.awaits ≡ Some c →
    Idles (stepped w c (turned_for w.heap c call op asked holder) (turn_line c) (answered_by w.heap c call op holder))
turned_idle w c call op asked None awaited = stepped_idle w c _ _ _ awaited (ended_none w.heap.seats c (moment_after w.heap c call (replied w.heap c call op)))
turned_idle w c call op asked (Some holder) awaited = stepped_idle w c _ _ None awaited (λ some. absurd (cc))

pub event_idle : (w : World) (event : WorldEvent) → IsNext w event → Idles w → Idles (after_event w event)
event_idle w (Read line) next idle = line_idle w line next.0
event_idle w (Began c verb whole) next idle = began_idle (settled w verb) c verb whole (beginning_in w c verb)
event_idle w (WentOn c request behind) next idle =
    came_idle (record w { awaits = behind }) c (started w.heap c request) [] (answer_of (begun w.heap.seats c request)) (subst (λ a. IdleAt a w.heap.seats) next idle).1 (ended_none w.heap.seats c (begun w.heap.seats c request))
event_idle w (Turned c call op asked) next idle = turned_idle w c call op asked (holder_for w.heap call) next.awaited
event_idle w (Told c call asked) next idle = stepped_idle w c _ _ _ next.0.awaited (ended_none w.heap.seats c (moment_after w.heap c call (ToldItem asked)))
event_idle w (Starved c call) next idle = tt

-- so a client whose call begins rests
pub begins_idle : (w : World) (c : ℕ) (verb : Verb) (whole : Bool) → IsNext w (Began c verb whole) → Idles w → (seat_at w.heap.seats c).call ≡ None
begins_idle w c verb whole next idle = subst (λ a. IdleAt a w.heap.seats) next idle

pub goes_idle : (w : World) (c : ℕ) (request : Request) (behind : Awaits) → IsNext w (WentOn c request behind) → Idles w → (seat_at w.heap.seats c).call ≡ None
goes_idle w c request behind next idle = (subst (λ a. IdleAt a w.heap.seats) next idle).0
