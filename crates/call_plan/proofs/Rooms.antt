-- Whoever has the room that is needed at a point has it wherever the call goes.
use Rattle.call_plan.proofs.Words.{◌≡◌, ℕ, ◌+◌, ◌-◌, ◌*◌, ◌<◌, ◌≤◌, Bool, true, false, cond, cond_both, find, max, Option, None, Some, refl, sym, ◌∙◌, ap, subst, arith, length, sum_by, nat_tests, length-filter, is_flight, flight, lost, won, op_stands, step_of, op_keeps, Replied, Told, Starved, Op, Reply, Space, Sound, Mine, mine, AskFacts, same_span, Span, Part, Stepped, Settled, Purge, AfterFlight, put_at, put_beside, neighbour, is_purged, is_flight_at, is_listed, rest_of, Dirty, both_true, TurnPoint, Giving, Finding, AskPoint, Turns, Asks, Tells, Next, Go, is_marked, op_at, done_at, starved, turn_replied, told, Idle, KnowsTurn, Keeps, left, stages, with_found, empties, flying, needed_ask, needed_next, needed_turn, room_then, RoomsSuffice, Cutting, Extending, KnowsAsk}
use Rattle.call_plan.proofs.Lists.{filter-fewer}
use Rattle.call_plan.proofs.Own.{flight_found}
use Rattle.call_plan.proofs.Standing.{wants-stand}
use Rattle.call_plan.proofs.Steps.{never_starves, starved_keeps, steps-keep}

-- ---- a turn that takes memory

-- behind a turn that takes memory come at most 16 turns without by each extent in flight, and 16 where there is none
marked_most : (g : ℕ) (point : TurnPoint) (reply : Reply) → is_marked (op_at point) ≡ true → needed_next g (turn_replied point reply) ≤ 16 * max 1 g
marked_most g point reply may = first_of (grind (arith, nat_tests), cc)

-- ---- a turn that takes none

-- where the next extent of the client's is put down, it has one in flight, and none where regions go back
abbrev pub HasNext : ℕ → Next → Type 0
HasNext g (Go (Turns (Finding own tries fresh later))) = 0 < g
HasNext g (Go (Turns (Giving addrs))) = g ≡ 0
HasNext g next = Unit {0}

-- a look that replies a purge is for an extent that wasn't purged yet
abbrev pub IsFresh : TurnPoint → Reply → Type 0
IsFresh (Finding own tries fresh later) (Purge lazy) = fresh ≡ true
IsFresh point reply = Unit {0}

turned_spends : (f g : ℕ) (point : TurnPoint) (found : Option ℕ) (c : ℕ) (s : Space) (reply : Reply) → is_marked (op_at point) ≡ false → IsFresh point reply →
    g + lost (with_found found (op_at point)) reply ≡ f + won c s (with_found found (op_at point)) reply →
    HasNext g (turn_replied point reply) → HasNext f (Go (Turns point)) → needed_next g (turn_replied point reply) + 1 ≤ needed_turn f point
turned_spends f g point found c s reply may fresh e has some = first_of (grind (arith, nat_tests), cc)

-- a region is cut, or an alloc behind it asked for, while nothing is in flight
abbrev pub AskFlies : ℕ → AskPoint → Type 0
AskFlies f (Cutting resize) = f ≡ 0
AskFlies f (Extending resize) = f ≡ 0
AskFlies f point = Unit {0}

ask_flies : (m : Mine) (point : AskPoint) → KnowsAsk m point → AskFlies (flying m) point
ask_flies m (Cutting resize) knows = ap length knows.0
ask_flies m (Extending resize) knows = ap length knows.0.flights
ask_flies m point knows = tt

told_spends : (f g : ℕ) (point : AskPoint) (asked : AskFacts) (found : Option ℕ) (c : ℕ) (s : Space) (reply : Reply) →
    g + lost (with_found found (done_at point asked)) reply ≡ f + won c s (with_found found (done_at point asked)) reply →
    HasNext g (told point asked reply) → AskFlies f point → needed_next g (told point asked reply) + 1 ≤ needed_ask f point
told_spends f g point asked found c s reply e has flies = grind (arith, nat_tests)

-- an extent that was purged belongs to the dirty ones no more, of which alone a look replies a purge
beside_fresh : (c : ℕ) (s : Space) (own : Span) (tries : ℕ) (fresh : Bool) (later : AfterFlight) (p : Part) (other : Option Part) → Settled fresh p → IsFresh (Finding own tries fresh later) (put_beside s c p other).reply
beside_fresh c s own tries true later p other settled = grind (arith, nat_tests)
beside_fresh c s own tries false later p (Some other) settled = tt
beside_fresh c s own tries false later p None settled =
    cond_both (is_purged s p) _ _ (λ (x : Stepped). IsFresh (Finding own tries false later) x.reply) (λ h. absurd (let dirty = (both_true (is_listed (rest_of p.state) Dirty) _ h).0 in cc)) (λ h. tt)

fresh_look : (c : ℕ) (s : Space) (point : TurnPoint) (found : Option ℕ) (reply : Reply) → KnowsTurn (mine c s) point → reply ≡ (step_of s c (with_found found (op_at point))).reply → IsFresh point reply
fresh_look c s (Finding own tries fresh later) found reply knows replied =
    let flies = knows.1 in
    let is : find (is_flight_at c own) s.parts ≡ Some flies.part = flight_found c own s.parts ∙ flies.found in
    subst (IsFresh (Finding own tries fresh later)) (sym (replied ∙ ap (λ o. (put_at s c tries o).reply) is)) (beside_fresh c s own tries fresh later flies.part (neighbour tries flies.part s.parts) flies.is)
fresh_look c s point found reply knows replied = tt

-- ---- the room

-- that is so wherever a call knows what it has to
pub turn_flies : (m : Mine) (point : TurnPoint) → KnowsTurn m point → HasNext (flying m) (Go (Turns point))
turn_flies m (Finding own tries fresh later) knows = let flies = knows.1 in omega (arith, filter-fewer (λ q. same_span q.span own) (λ _. true) m.flights flies.part flies.found refl)
turn_flies m (Giving addrs) knows = ap length knows.idle.flights
turn_flies m point knows = tt

pub keeps_next : (c : ℕ) (t : Space) (stage bound : ℕ) (next : Next) → Keeps c t stage bound next → HasNext (flying (mine c t)) next
keeps_next c t stage bound (Go (Turns point)) (knows, near) = turn_flies (mine c t) point knows
keeps_next c t stage bound next keeps = tt

-- a turn that takes memory wins one extent at most, or as many as it empties
won_few : (c : ℕ) (s : Space) (point : TurnPoint) (found : Option ℕ) (reply : Reply) → is_marked (op_at point) ≡ true → won c s (with_found found (op_at point)) reply ≤ max 1 (empties c (op_at point) s)
won_few c s point found reply may = first_of (omega arith, grind arith)

-- ---- the law

-- so many extents are in flight after what came of a turn
pub flown : (c : ℕ) (s t : Space) (op : Op) (reply : Reply) → Sound s → op_stands s c op ≡ true → t ≡ (step_of s c op).after → reply ≡ (step_of s c op).reply →
    flying (mine c t) + lost op reply ≡ flying (mine c s) + won c s op reply
flown c s t op reply sound stands after replied =
    let left : Space = (step_of s c op).after in
    let now : flying (mine c s) ≡ sum_by (flight c) s.parts = length-filter (λ p. is_flight c p.state) s.parts in
    let then : flying (mine c left) ≡ sum_by (flight c) left.parts = length-filter (λ p. is_flight c p.state) left.parts in
    rw (after, replied) (omega (arith, now, then, (op_keeps c s op sound stands).flew))

turn_suffices : (c : ℕ) (s t : Space) (point : TurnPoint) (found : Option ℕ) (reply : Reply) (room : ℕ) → KnowsTurn (mine c s) point → IsFresh point reply →
    flying (mine c t) + lost (with_found found (op_at point)) reply ≡ flying (mine c s) + won c s (with_found found (op_at point)) reply →
    HasNext (flying (mine c t)) (turn_replied point reply) → needed_turn (flying (mine c s)) point ≤ room →
    (may : Bool) → is_marked (op_at point) ≡ may →
    (may ≡ false → 0 < room) × (needed_next (flying (mine c t)) (turn_replied point reply) ≤ cond may (max (max room 16) (16 * empties c (op_at point) s)) (room - 1))
turn_suffices c s t point found reply room knows fresh e has enough true may =
    let idle : Idle (mine c s) = subst (λ v. Keeps c s 0 0 (starved v)) may (starved_keeps c s point 0 0 knows may) in
    let none : flying (mine c s) ≡ 0 = ap length idle.flights in
    ((λ no. absurd (cc)), omega (arith, none, e, won_few c s point found reply may, marked_most (flying (mine c t)) point reply may))
turn_suffices c s t point found reply room knows fresh e has enough false may =
    let spends = turned_spends (flying (mine c s)) (flying (mine c t)) point found c s reply may fresh e has (turn_flies (mine c s) point knows) in
    ((λ no. omega (arith, spends, enough)), omega (arith, spends, enough))

pub rooms-suffice : RoomsSuffice
rooms-suffice c s t (Turns point) (Replied reply) room sound knows (found, after, replied) enough =
    let stands = wants-stand c s (Turns point) sound knows found in
    let keeps = steps-keep c s t (Turns point) (Replied reply) sound knows (found, after, replied) in
    turn_suffices c s t point found reply room knows (fresh_look c s point found reply knows replied) (flown c s t (with_found found (op_at point)) reply sound stands after replied)
    (keeps_next c t (stages (Turns point)) (left c s (Turns point)) (turn_replied point reply) keeps) enough (is_marked (op_at point)) refl
rooms-suffice c s t (Turns point) Starved room sound knows (may, same) enough =
    ((λ no. absurd (cc)), subst (λ v. needed_next (flying (mine c t)) (starved v) ≤ room_then c s room (op_at point)) (sym may) (omega arith))
rooms-suffice c s t (Asks point None) (Told asked) room sound knows (is, kind, same) enough =
    subst (λ u. needed_ask (flying (mine c u)) point ≤ room) (sym same) enough
rooms-suffice c s t (Asks point (Some asked)) (Replied reply) room sound knows (found, after, replied) enough =
    let stands = wants-stand c s (Asks point (Some asked)) sound knows found in
    let keeps = steps-keep c s t (Asks point (Some asked)) (Replied reply) sound knows (found, after, replied) in
    let e = flown c s t (with_found found (done_at point asked)) reply sound stands after replied in
    let spends = told_spends (flying (mine c s)) (flying (mine c t)) point asked found c s reply e
    (keeps_next c t (stages (Asks point (Some asked))) (left c s (Asks point (Some asked))) (told point asked reply) keeps) (ask_flies (mine c s) point knows.0) in (
      (λ no. omega (arith, spends, enough)),
      subst (λ v. needed_next (flying (mine c t)) (told point asked reply) ≤ cond v (max (max room 16) (16 * empties c (done_at point asked) s)) (room - 1)) (sym (never_starves point asked)) (omega (arith, spends, enough)),
    )
rooms-suffice c s t (Asks point (Some asked)) Starved room sound knows (may, same) enough = absurd (let no = never_starves point asked in cc)
rooms-suffice c s t (Tells span b) (Told asked) room sound knows moves enough = omega arith
rooms-suffice c s t point item room sound knows moves enough = absurd moves
