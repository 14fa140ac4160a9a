-- A call that has no answer is open.
use Rattle.call_plan.specs.Desks.{meant, ready}
use Rattle.replay_run.proofs.Words.{arith, length, length-set, ◌≡◌, ◌≢◌, ◌<◌, inl, inr, ℕ, true, Option, None, Some, is_none, is_some, set, refl, sym, ◌∙◌, ap, get_or-set_same, Op, AskFacts, Shelf, Item, Request, Next, Go, Ends, Point, CallFacts, desk_fed, IsPointOrEnd, ended_by, taken_next, Moment, step_next, Want, WantAsk, WantTurn, want, begin-is_call, settle_place, Stepped, HeapFacts, IsStepFor, IsStep, answered_by, holder_for, moment_after, parted, started, turned_for, Seat, answer_of, asked_for, begun, first_seat, open_call, seat_at, seat_of, AsksSit, HoldersPublish, TurnsSit, IsSound, has_open_call, Goes}
use Rattle.call_plan.specs.declared.needs.Answered.TheVariants.{NoMemory}
use Rattle.replay_run.proofs.Longer.{holder_region}
use Rattle.replay_run.proofs.NewHeaps.{sits_there, step_made}

-- a call that came to a place is open there, or has its answer
open_by : (c : ℕ) (at : Moment) (next : Next) → IsPointOrEnd next → is_some (open_call c at next) ≡ is_none (ended_by next)
open_by c at (Go point) place = refl
open_by c at (Ends answer) place = refl
open_by c at next place = absurd place

-- so is it for its client
seated_open : (h : HeapFacts) (c : ℕ) (at : Moment) → length h.seats ≡ 32 → c < 32 → IsPointOrEnd at.stage.next → is_some (seat_at (set h.seats c (seat_of c at)) c).call ≡ is_none (answer_of at)
seated_open h c at number below place =
    let there : c < length h.seats = omega (arith, number, below) in
    ap (λ (seat : Seat). is_some seat.call) (get_or-set_same h.seats c (seat_of c at) first_seat there) ∙ open_by c at at.stage.next place

-- where a request begins
pub start_open : (h : HeapFacts) (c : ℕ) (request : Request) → length h.seats ≡ 32 → c < 32 → has_open_call (started h c request) c ≡ is_none (answer_of (begun h.seats c request))
start_open h c request number below =
    seated_open h c (begun h.seats c request) number below (begin-is_call (meant (asked_for h.seats c request) (seat_at h.seats c).desk) (ready (asked_for h.seats c request) (seat_at h.seats c).desk)).0

-- where an item leads
after_open : (h : HeapFacts) (c : ℕ) (call : CallFacts) (item : Item) → length h.seats ≡ 32 → c < 32 → Goes (moment_after h c call item).stage.next →
    is_some (seat_at (set h.seats c (seat_of c (moment_after h c call item))) c).call ≡ is_none (answer_of (moment_after h c call item))
after_open h c call item number below goes =
    seated_open h c (moment_after h c call item) number below
    (settle_place call.request (desk_fed (seat_at h.seats c).desk call.stage.arena call.stage.next item) call.stage.arena (step_next call.stage.next item) goes)

-- a turn that was made
turn_open : TurnsSit → HoldersPublish → (h : HeapFacts) (c : ℕ) (call : CallFacts) (point : Point) (op : Op) (asked : Option AskFacts) (holder : Option ℕ) → IsSound h → length h.seats ≡ 32 → c < 32 →
    (seat_at h.seats c).call ≡ Some call → call.stage.next ≡ Go point → want point ≡ WantTurn op asked → holder_for h call ≡ holder →
    has_open_call (turned_for h c call op asked holder) c ≡ is_none (answered_by h c call op holder)
turn_open turns holders h c call point op asked None sound number below is at wants none =
    let sits = sits_there h c call point sound below is at in
    after_open h c call _ number below (turns h.records c (seat_at h.seats c).desk call point op asked sound.arenas below at sits wants).1.0
turn_open turns holders h c call point op asked (Some holder) sound number below is at wants some =
    let found = holder_region holders h call holder (taken_next call.stage.next) sound number some in
    let there : c < length (parted h holder found.0).seats = omega (arith, below, number, length-set {A = Seat}) in
    rw found.1 (ap (λ (seat : Seat). is_some seat.call) (get_or-set_same (parted h holder found.0).seats c _ first_seat there))

-- a step
made_open : TurnsSit → AsksSit → HoldersPublish → (h : HeapFacts) (shelf : Shelf) (c : ℕ) (call : CallFacts) (point : Point) (wanted : Want) (told : Stepped) (new : HeapFacts) (shelf' : Shelf) → IsSound h → length h.seats ≡ 32 → c < 32 →
    (seat_at h.seats c).call ≡ Some call → call.stage.next ≡ Go point → want point ≡ wanted → told.ended ≢ Some NoMemory → IsStepFor h shelf c call wanted told new shelf' → has_open_call new c ≡ is_none told.ended
made_open turns asks holders h shelf c call point (WantTurn op asked) told new shelf' sound number below is at wants memory (did, same, inl made) =
    rw (made.0, made.1) (turn_open turns holders h c call point op asked (holder_for h call) sound number below is at wants refl)
made_open turns asks holders h shelf c call point (WantTurn op asked) told new shelf' sound number below is at wants memory (did, same, inr starved) = absurd (memory starved.1)
made_open turns asks holders h shelf c call point (WantAsk ask) told new shelf' sound number below is at wants memory made =
    let sits = sits_there h c call point sound below is at in
    rw (made.5, made.6) (after_open h c call _ number below
    (asks h.records c (seat_at h.seats c).desk call point made.0 sound.arenas below at sits (wants ∙ ap WantAsk (sym made.2)) made.4.box.answers).0)

-- where a step leads that didn't end for want of memory
pub step_open : TurnsSit → AsksSit → HoldersPublish → (h : HeapFacts) (shelf : Shelf) (c : ℕ) (told : Stepped) (new : HeapFacts) (shelf' : Shelf) → IsSound h → length h.seats ≡ 32 → c < 32 →
    has_open_call h c ≡ true → told.ended ≢ Some NoMemory → IsStep h shelf c (seat_at h.seats c).call told new shelf' → has_open_call new c ≡ is_none told.ended
step_open turns asks holders h shelf c told new shelf' sound number below some memory step =
    let (call, point, is, at, made) = step_made h shelf c (seat_at h.seats c).call told new shelf' some step in
    made_open turns asks holders h shelf c call point (want point) told new shelf' sound number below is at refl memory made
