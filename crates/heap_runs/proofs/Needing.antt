-- What a call needs, by where it stands, and what may stand then.
use Rattle.heap_runs.proofs.Words.{◌≡◌, ℕ, ◌<◌, ◌&&◌, IsTrue, List, Option, None, Some, refl, sym, ◌∙◌, ap, subst, arith, lt-ltb, true, Record, room_in, mine_in, GrowDone, OfferDone, Point, Turns, Next, Go, Ends, Ask, Op, Space, AskFacts, DeskFacts, CallFacts, HasRoomToHold, named_call, moment_at, moment_of, Moment, want, Want, WantTurn, WantAsk, is_marked, op_stands, heard_next, ended_by, seat_of, open_call, Knows, IsGiving, NeedIs, NeedsWant, NeedsTurn, NeedsAsk, NeedsNoMore, NeedsNothing, NeededTurn, wants-stand, Answered, Request, StandsWanted, with_found, MayStand, Owned, AreArenas, Comes, IsAtRest, IsSeated, SeatSound, Sits, SitsAt, turns-lead_on, Giving, false, arc_value, known, log_of, Stands, Ctx, SharedHeap}

-- ---- what is needed

-- A call that needs a turn waits at a point that wants it.
pub turn_needed : (c a : ℕ) (next : Next) (turn : NeededTurn) → NeedIs c a next (NeedsTurn turn) → (point : Point) × (next ≡ Go point) × (want point ≡ WantTurn turn.op (heard_next next)) × (turn.arena ≡ a)
turn_needed c a (Go point) turn is = let both = at_point point is in (point, refl, both.0, both.1)
  where
    at_point : (point : Point) → NeedsWant c a (want point) (NeedsTurn turn) → (want point ≡ WantTurn turn.op (heard_next (Go point))) × (turn.arena ≡ a)
    at_point point is = grind arith
turn_needed c a (Ends answer) turn is = absurd (cc)
turn_needed c a next turn is = absurd is

-- one that needs an ask waits at one that wants that
pub ask_needed : (c a b : ℕ) (next : Next) (ask : Ask) → NeedIs c a next (NeedsAsk b ask) → (point : Point) × (next ≡ Go point) × (want point ≡ WantAsk ask)
ask_needed c a b (Go point) ask is = (point, refl, at_point (want point) is)
  where
    at_point : (w : Want) → NeedsWant c a w (NeedsAsk b ask) → w ≡ WantAsk ask
    at_point w is = grind arith
ask_needed c a b (Ends answer) ask is = absurd (cc)
ask_needed c a b next ask is = absurd is

-- the ask is of the arena where it stands
pub ask_at_own : (c a b : ℕ) (next : Next) (ask : Ask) → NeedIs c a next (NeedsAsk b ask) → NeedIs c a next (NeedsAsk a ask)
ask_at_own c a b (Go point) ask is = at_point (want point) is
  where
    at_point : (w : Want) → NeedsWant c a w (NeedsAsk b ask) → NeedsWant c a w (NeedsAsk a ask)
    at_point (WantTurn op asked) is = absurd (cc)
    at_point (WantAsk wanted) is = let same : ask ≡ wanted = cc in ap (NeedsAsk a) same
ask_at_own c a b (Ends answer) ask is = absurd (cc)
ask_at_own c a b next ask is = absurd is

-- a call that needs nothing more has ended
pub done_need : (c a : ℕ) (next : Next) (answer : Answered) → NeedIs c a next (NeedsNoMore answer) → ended_by next ≡ None → ⊥
done_need c a (Go point) answer is none = at_point (want point) is
  where
    at_point : (w : Want) → NeedsWant c a w (NeedsNoMore answer) → ⊥
    at_point (WantTurn op asked) is = cc
    at_point (WantAsk wanted) is = cc
done_need c a (Ends told) answer is none = cc
done_need c a next answer is none = is

-- one that is starved gives regions back
pub starved_need : (c a : ℕ) (next : Next) → NeedIs c a next NeedsNothing → IsGiving next
starved_need c a (Go point) is = is
starved_need c a next is = is

-- one that gives regions back waits at a turn that may find no memory
pub giving_at : (next : Next) → IsGiving next → (point : Point) × (op : Op) × (asked : Option AskFacts) × (next ≡ Go point) × (want point ≡ WantTurn op asked) × (is_marked op ≡ true)
giving_at (Go (Turns (Giving addrs))) is = (Turns (Giving addrs), _, _, refl, refl, refl)
giving_at (Go (Turns point)) is = absurd is
giving_at next is = absurd is

-- ---- where regions are named that go back

pub named_hears : (desk : DeskFacts) (call : CallFacts) → heard_next (named_call desk call).stage.next ≡ heard_next call.stage.next
named_hears desk call = grind arith

pub named_ends : (desk : DeskFacts) (call : CallFacts) → ended_by (named_call desk call).stage.next ≡ ended_by call.stage.next
named_ends desk call = grind arith

-- there is as much room for the regions that the client comes to hold
pub named_rooms : (room : ℕ) (desk : DeskFacts) (call call' : CallFacts) → named_call desk call' ≡ named_call desk call → HasRoomToHold desk room call.stage.next → HasRoomToHold desk room call'.stage.next
named_rooms room desk call call' same has = aft desk call' (subst (λ (f : CallFacts). HasRoomToHold desk room f.stage.next) (sym same) (fore desk call has))
  where
    fore : (desk : DeskFacts) (call : CallFacts) → HasRoomToHold desk room call.stage.next → HasRoomToHold desk room (named_call desk call).stage.next
    fore desk call has = grind arith

    aft : (desk : DeskFacts) (call : CallFacts) → HasRoomToHold desk room (named_call desk call).stage.next → HasRoomToHold desk room call.stage.next
    aft desk call has = grind arith

-- the moment is the same
pub named_moment : (desk : DeskFacts) (call call' : CallFacts) → named_call desk call' ≡ named_call desk call → moment_at call' desk ≡ moment_at call desk
named_moment desk call call' same = ap (λ (k : CallFacts). moment_of k desk) same

-- so the call stands as it did
pub stands_named : (heap : SharedHeap) (ctx : Ctx) (call call' : CallFacts) → named_call ctx.desk.facts call' ≡ named_call ctx.desk.facts call → Stands heap ctx call → Stands heap ctx call'
stands_named heap ctx call call' same stands = record {
  client = ap (λ (k : CallFacts). k.client) same ∙ stands.client;
  comes = subst (Comes false (known (arc_value heap.table) (log_of ctx)) ctx.client) (sym (named_moment ctx.desk.facts call call' same)) stands.comes;
  room = named_rooms ctx.desk.room ctx.desk.facts call call' same stands.room;
}

-- ---- where its client is

-- it sits there
pub sits_of : (rs : List Record) (c : ℕ) (at : Moment) (point : Point) → at.stage.next ≡ Go point → SeatSound false rs c (seat_of c at) → Sits false rs c at.desk at.request at.stage.arena point
sits_of rs c at point goes sound =
    let call : CallFacts = record { client = c; request = at.request; stage = at.stage } in
    let opened : IsSeated false rs c at.desk (Some call) = subst (λ n. IsSeated false rs c at.desk (open_call c at n)) goes sound in
    subst (SitsAt false rs c at.desk call) goes opened.1

-- or rests, once the call has ended
pub rests_of : (rs : List Record) (c : ℕ) (at : Moment) (answer : Answered) → at.stage.next ≡ Ends answer → SeatSound false rs c (seat_of c at) → IsAtRest false rs c at.desk
rests_of rs c at answer ends sound = subst (λ n. IsSeated false rs c at.desk (open_call c at n)) ends sound

-- an answer that is told is that of the end
pub ended_is : (next : Next) (answer : Answered) → ended_by next ≡ Some answer → next ≡ Ends answer
ended_is (Ends a) answer is = cc
ended_is next answer is = absurd (cc)

-- ---- the turn may stand

found_so : (s : Space) (c : ℕ) (op : Op) (found : Option ℕ) → op_stands s c (with_found found op) ≡ op_stands s c op
found_so s c (GrowDone heard was) found = refl
found_so s c (OfferDone heard was) found = refl
found_so s c op found = refl

pub may_stand : (rs : List Record) (c a : ℕ) (point : Point) (op : Op) (asked : Option AskFacts) (w : Owned) → AreArenas false rs → c < 32 → (desk : DeskFacts) (request : Request) → Sits false rs c desk request a point → want point ≡ WantTurn op asked
    → w ≡ record { client = c; has = mine_in rs c a; room = room_in rs a c } → MayStand w (record { op = op; asked = asked })
may_stand rs c a point op asked w arenas few desk request sits wants is =
    let can = (turns-lead_on rs c a point None op asked arenas few sits.waits wants).0 in
    subst (λ v. MayStand v (record { op = op; asked = asked })) (sym is) (
      can.room,
      λ s sound same.
          let all = subst (StandsWanted c s) wants (wants-stand c s point sound (subst (λ m. Knows m point) (sym same) sits.waits.knows)) in
          subst (λ b. IsTrue (b && op_stands s c op)) (sym (lt-ltb c 32 few)) (sym (found_so s c op None) ∙ all None),
      can.kept,
    )
