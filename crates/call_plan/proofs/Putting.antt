-- What the turns of a call leave that puts extents down: what it knows where it goes on.
use Rattle.call_plan.proofs.Words.{append-nil, inl, inr, ◌⊎◌, ◌≡◌, ◌≢◌, ℕ, ◌+◌, ◌-◌, ◌*◌, ◌<◌, ◌≤◌, ◌==◌, ◌&&◌, ◌||◌, Bool, true, false, not, cond, List, [], ◌∷◌, ◌++◌, Option, None, Some, refl, sym, ◌∙◌, ap, subst, arith, filter, find, length, lt-ltb, beq, option_map, option_or, nat_tests, cond_both, eqb-true, or_right, length-append, find-append, filter-append, filter-without, Dirty, exchanged, begins_at, is_flight, is_flight_at, is_listed, rest_of, put_down, taken_out, Stepped, joined, begins_either, is_lazy, is_purged, next_flight, is_like, is_right_of, is_left_of, neighbour, put_at_rest, put_beside, may_merge, join_at, after_merge, after_back, find_passes, find_has, filter-begins_at, span_is, neighbour_side, belongs, some_pages, put_down-nobody, listed-nobody, both_true, itself, AfterFlight, Batches, Giving, Finding, Point, Turns, Merge, Answer, Placed, Done, Purge, Rest, Space, Part, Span, Sound, mine, same_span, end_of, AnswersTo, look_on, merged, onward, put_next, turn_replied, visited, Idle, Flies, HasPair, Settled, Droppable, IsThen, IsCalm, in_flight, Keeps, IsNearer, stages, stages_then, stages_later, left, left_then, left_turn, flights_of, looks_left, purges_left, Visit}
use Rattle.call_plan.specs.Table.{drop}
use Rattle.call_plan.proofs.Lists.{filter-swap, find-kept, find-none, filter-fewer, filter-either, first_heads, none_passes, find-gone}
use Rattle.call_plan.proofs.Own.{flight_found, flights_exchanged}
use Rattle.call_plan.proofs.Getting.{Onto, span_itself, begins_itself}
use Rattle.space_model.specs.declared.Answer.TheVariants as answers
use Rattle.space_model.specs.declared.Rest.TheVariants as rests

-- ---- what follows

-- there is room for what follows after so many turns and asks: it is of an earlier stage, or it is fewer
abbrev pub Room : ℕ → ℕ → AfterFlight → ℕ → Type 0
Room stage bound later n = (stages_then later < stage) ⊎ ((stages_then later ≡ stage) × (n + left_then later < bound))

-- fewer have room too
pub fewer_room : (stage bound : ℕ) (later : AfterFlight) (m n : ℕ) → m ≤ n → Room stage bound later n → Room stage bound later m
fewer_room stage bound later m n less room = grind arith

-- a point of this stage has it
pub near : (c : ℕ) (t : Space) (stage bound : ℕ) (later : AfterFlight) (point : Point) (n : ℕ) → stages point ≡ stages_then later → left c t point ≤ n + left_then later →
    Room stage bound later n → IsNearer c t stage bound point
near c t stage bound later point n same most room = grind arith

-- what follows a visit
pub visited_goes : (c : ℕ) (t : Space) (stage bound : ℕ) (visit : Visit) → Idle (mine c t) → stages_later visit ≤ stage → Keeps c t stage bound (visited visit)
visited_goes c t stage bound visit idle most = grind arith

onward_goes : (c : ℕ) (t : Space) (stage bound : ℕ) (later : AfterFlight) → Idle (mine c t) → IsThen later → Room stage bound later 0 →
    Keeps c t stage bound (onward later)
onward_goes c t stage bound later idle is room = grind (arith, nat_tests)

-- ---- the extent that a reply names

-- the first extent in flight is put down next
pub next_goes : (c : ℕ) (t : Space) (stage bound : ℕ) (later : AfterFlight) → IsCalm (mine c t) → IsThen later → Room stage bound later (30 * flights_of c t) →
    Keeps c t stage bound (put_next later (next_flight c t.parts))
next_goes c t stage bound later offers is room =
    elim (find (λ q. is_flight c q.state) t.parts) as (λ o. find (λ q. is_flight c q.state) t.parts ≡ o → Keeps c t stage bound (put_next later (option_map (λ p. p.span) o))) [
      | None ↦ λ e. onward_goes c t stage bound later (record { flights = none_passes (λ q. is_flight c q.state) t.parts e; calm = offers }) is (fewer_room stage bound later 0 _ (omega arith) room)
      | Some p ↦ λ e.
          let head = first_heads (λ q. is_flight c q.state) t.parts p e in
          let found : in_flight p.span (mine c t).flights ≡ Some p = ap (in_flight p.span) head.1 ∙ ap (λ (v : Bool). cond v (Some p) (in_flight p.span head.0)) (span_itself p.span) in
          let some : flights_of c t ≡ length (p ∷ head.0) = ap length head.1 in (
            (omega arith, record { part = p; found = found; is = tt; calm = offers }, is),
            near c t stage bound later (Turns (Finding p.span 0 true later)) (30 * flights_of c t) refl (omega (arith, some)) room,
          )
    ] refl

-- ---- an extent in flight

-- Where an extent in flight is found: it is one of the client's, with this span, and not empty.
pub record At (c : ℕ) (s : Space) (span : Span) (p : Part) : Type 0 where
  pub found : find (is_flight_at c span) s.parts ≡ Some p
  pub own : is_flight c p.state ≡ true
  pub spans : p.span ≡ span
  pub some : 0 < p.span.pages

pub found_at : (c : ℕ) (s : Space) (span : Span) (p : Part) → Sound s → in_flight span (mine c s).flights ≡ Some p → At c s span p
found_at c s span p sound e =
    let found = flight_found c span s.parts ∙ e in
    let passes = both_true (is_flight c p.state) (same_span p.span span) (find_passes (is_flight_at c span) s.parts p found) in
    record {
      found = found;
      own = passes.0;
      spans = span_is p.span span passes.1;
      some = find_has (λ q. 0 < q.span.pages) (is_flight_at c span) s.parts p (some_pages s.parts sound.placed) found;
    }

-- what has the span begins where it does
pub begins_as : (span : Span) (q : Part) → same_span q.span span ≡ true → begins_at span.first q ≡ true
begins_as span q h = (both_true (q.span.first == span.first) _ h).0

-- and nowhere else
begins_not : (span : Span) (first : ℕ) → span.first ≢ first → (q : Part) → same_span q.span span ≡ true → not (begins_at first q) ≡ true
begins_not span first differ q h = grind (arith, nat_tests)

-- ---- the neighbour

same_committed : (a b : Bool) → beq a b ≡ true → a ≡ b
same_committed a b h = grind arith

-- two extents that belong to the same list, and are committed alike, may be merged
merge_may : (p q : Part) → rest_of p.state ≡ rest_of q.state → p.committed ≡ q.committed → may_merge p q ≡ true
merge_may p q rest committed = grind arith

-- A neighbour that was found is like the extent, and on its right or its left.
record Near (tries : ℕ) (p other : Part) (parts : List Part) : Type 0 where
  test : Part → Bool
  found : find test parts ≡ Some other
  like : is_like p other ≡ true
  early : tries < 2
  side : ((tries == 0 && other.span.first == end_of p.span) || end_of other.span == p.span.first) ≡ true

neighbour_near : (tries : ℕ) (p other : Part) (parts : List Part) → neighbour tries p parts ≡ Some other → Near tries p other parts
neighbour_near tries p other parts e =
    elim (neighbour_side tries p parts other e) [
      | inl at ↦
          let passes = both_true (is_like p other) _ (find_passes (is_right_of p) parts other at.1) in
          record { test = is_right_of p; found = at.1; like = passes.0; early = omega (arith, at.0); side = rw (at.0, passes.1) refl }
      | inr at ↦
          let passes = both_true (is_like p other) _ (find_passes (is_left_of p) parts other at.1) in
          record { test = is_left_of p; found = at.1; like = passes.0; early = at.0; side = or_right _ _ passes.1 }
    ]

-- what holds of an extent by where it belongs holds of another one that belongs there
settled_like : (fresh : Bool) (p q : Part) → rest_of q.state ≡ rest_of p.state → Settled fresh p → Settled fresh q
settled_like fresh p q rest is = grind arith

-- ---- the look for a neighbour

-- the look itself is left, and before the last one a merge and a look
looks_some : (tries : ℕ) → 1 ≤ looks_left tries
looks_some tries = grind (arith, nat_tests)

looks_early : (tries : ℕ) → tries < 2 → 4 ≤ looks_left tries
looks_early tries h = grind (arith, nat_tests)

-- the neighbour is in flight too
beside_onto : (c : ℕ) (s : Space) (own : Span) (tries : ℕ) (fresh : Bool) (later : AfterFlight) (p other : Part) → Sound s → tries < 3 → IsCalm (mine c s) →
    IsThen later → in_flight own (mine c s).flights ≡ Some p → Settled fresh p → At c s own p → Near tries p other s.parts →
    Onto c (turn_replied (Finding own tries fresh later)) (stages_then later) (left_turn (flights_of c s) 0 (Finding own tries fresh later)) (put_beside s c p (Some other))
beside_onto c s own tries fresh later p other sound look offers is found settled at near =
    let u : Stepped = put_beside s c p (Some other) in
    let t : Space = u.after in
    let taken : Part = taken_out c other in
    let gone : Part → Bool = begins_at other.span.first in
    let flies : Part → Bool = λ q. is_flight c q.state in
    let some = some_pages s.parts sound.placed in
    let like = both_true (is_listed (rest_of p.state) other.state) (beq other.committed p.committed) near.like in
    let rest : rest_of other.state ≡ rest_of p.state = belongs (rest_of p.state) other.state like.0 in
    let committed : other.committed ≡ p.committed = same_committed _ _ like.1 in
    let none : filter flies (filter gone s.parts) ≡ [] =
    ap (filter flies) (filter-begins_at near.test s.parts other some (sound.owners other.span.first) near.found)
    ∙ ap (λ (v : Bool). cond v (other ∷ []) []) (listed-nobody c (rest_of p.state) other.state like.0) in
    let flights : (mine c t).flights ≡ (mine c s).flights ++ taken ∷ [] =
    filter-append flies (filter (λ q. not (gone q)) s.parts) (taken ∷ [])
    ∙ ap (λ ps. ps ++ filter flies (taken ∷ [])) (filter-without flies gone s.parts none)
    ∙ ap (λ (v : Bool). (mine c s).flights ++ cond v (taken ∷ []) []) (itself c) in
    let still : in_flight own (mine c t).flights ≡ Some p =
    ap (in_flight own) flights ∙ find-append (λ q. same_span q.span own) (mine c s).flights (taken ∷ []) ∙ ap (λ o. option_or o (in_flight own (taken ∷ []))) found in
    let out : in_flight other.span (mine c t).flights ≡ Some taken =
    ap (in_flight other.span) flights ∙ find-append (λ q. same_span q.span other.span) (mine c s).flights (taken ∷ [])
    ∙ ap (λ o. option_or o (in_flight other.span (taken ∷ []))) (find-none (λ q. same_span q.span other.span) gone (mine c s).flights (filter-swap gone flies s.parts ∙ none) (begins_as other.span))
    ∙ ap (λ (v : Bool). cond v (Some taken) None) (span_itself other.span) in
    let more : flights_of c t ≡ flights_of c s + 1 = ap length flights ∙ length-append (mine c s).flights (taken ∷ []) in
    let one : 0 < flights_of c s = omega (arith, filter-fewer (λ q. same_span q.span own) (λ _. true) (mine c s).flights p found refl) in
    let taken_settled : Settled fresh taken = settled_like fresh p taken rest settled in
    cond_both (tries == 0 && other.span.first == end_of own) _ _ (Keeps c t (stages_then later) (left_turn (flights_of c s) 0 (Finding own tries fresh later)))
    (λ h.
    let both = both_true (tries == 0) _ h in
    let all : looks_left tries ≡ 7 = ap looks_left (eqb-true _ _ both.0) in (
      ((record { low_part = p; high_part = taken; low_found = still; high_found = out; alike = merge_may p taken (sym rest) (sym committed); side_by_side = sym (eqb-true _ _ both.1); low_settled = settled; high_settled = taken_settled; calm = offers }, is), tt),
      inr (refl, omega (arith, all, more, one)),
    ))
    (λ h.
    let at_own = subst (λ (span : Span). ((tries == 0 && other.span.first == end_of span) || end_of other.span == span.first) ≡ true) at.spans near.side in
    let side : end_of other.span ≡ own.first = eqb-true _ _ (rw h at at_own) in
    rw (lt-ltb _ _ near.early) (
      ((record { low_part = taken; high_part = p; low_found = out; high_found = still; alike = merge_may taken p rest committed; side_by_side = side; low_settled = taken_settled; high_settled = settled; calm = offers }, is), tt),
      inr (refl, omega (arith, looks_early tries near.early, more, one)),
    ))

-- an extent whose client puts it down, or offers it, is in flight no more
pub gone_flights : (c : ℕ) (s : Space) (p : Part) (pieces : List Part) → filter (λ q. is_flight c q.state) pieces ≡ [] →
    filter (λ q. is_flight c q.state) (exchanged (begins_at p.span.first) s.parts pieces) ≡ filter (λ q. not (begins_at p.span.first q)) (mine c s).flights
gone_flights c s p pieces none =
    flights_exchanged c (begins_at p.span.first) s.parts pieces
    ∙ ap (λ ps. filter (λ q. not (begins_at p.span.first q)) (mine c s).flights ++ ps) none
    ∙ append-nil (filter (λ q. not (begins_at p.span.first q)) (mine c s).flights)

down_flies_not : (c : ℕ) (p : Part) → filter (λ q. is_flight c q.state) (put_down p ∷ []) ≡ []
down_flies_not c p = ap (λ (v : Bool). cond v (put_down p ∷ []) []) (put_down-nobody c (rest_of p.state))

-- the extent is put down
rest_onto : (c : ℕ) (s : Space) (own : Span) (tries : ℕ) (fresh : Bool) (later : AfterFlight) (p : Part) → IsCalm (mine c s) → IsThen later →
    in_flight own (mine c s).flights ≡ Some p →
    Onto c (turn_replied (Finding own tries fresh later)) (stages_then later) (left_turn (flights_of c s) 0 (Finding own tries fresh later)) (put_at_rest s c p)
rest_onto c s own tries fresh later p offers is found =
    let t : Space = (put_at_rest s c p).after in
    let gone : Part → Bool = begins_at p.span.first in
    let fewer = filter-fewer (λ q. same_span q.span own) gone (mine c s).flights p found (begins_itself p) in
    let count : flights_of c t ≡ length (filter (λ q. not (gone q)) (mine c s).flights) = ap length (gone_flights c s p (put_down p ∷ []) (down_flies_not c p)) in
    next_goes c t (stages_then later) (left_turn (flights_of c s) 0 (Finding own tries fresh later)) later offers is
    (inr (refl, omega (arith, looks_some tries, fewer, count)))

-- ---- an extent that is purged

-- an extent is purged lazily, or offered to its hook
pub drop_goes : (c : ℕ) (t : Space) (stage bound : ℕ) (span : Span) (lazy : Bool) (later : AfterFlight) (p : Part) → IsCalm (mine c t) → IsThen later →
    in_flight span (mine c t).flights ≡ Some p → (lazy ≡ true → rest_of p.state ≡ rests.Dirty) → Droppable p → Room stage bound later (30 * (flights_of c t - 1) + 16) →
    Keeps c t stage bound (drop span lazy later)
drop_goes c t stage bound span lazy later p offers is found dirty backed room = grind (arith, near, dirty)

pub listed_dirty : (r : Rest) → is_listed r Dirty ≡ true → r ≡ rests.Dirty
listed_dirty r h = grind arith

-- an extent that belongs to the dirty ones, of which none may stay, is dropped
purge_goes : (c : ℕ) (s : Space) (own : Span) (tries : ℕ) (fresh : Bool) (later : AfterFlight) (lazy : Bool) (p : Part) → IsCalm (mine c s) → IsThen later →
    in_flight own (mine c s).flights ≡ Some p → Settled fresh p → is_listed (rest_of p.state) Dirty ≡ true →
    Keeps c s (stages_then later) (left_turn (flights_of c s) 0 (Finding own tries fresh later)) (turn_replied (Finding own tries fresh later) (Purge lazy))
purge_goes c s own tries true later lazy p offers is found settled purged =
    let dirty = listed_dirty (rest_of p.state) purged in
    drop_goes c s (stages_then later) _ own lazy later p offers is found (λ _. dirty) (rw dirty refl) (inr (refl, omega (arith, looks_some tries)))
purge_goes c s own tries false later lazy p offers is found settled purged = absurd (cc)

put_found : (c : ℕ) (s : Space) (own : Span) (tries : ℕ) (fresh : Bool) (later : AfterFlight) (flies : Flies (mine c s) own (Settled fresh)) (o : Option Part) → Sound s → tries < 3 →
    IsThen later → neighbour tries flies.part s.parts ≡ o →
    Onto c (turn_replied (Finding own tries fresh later)) (stages_then later) (left_turn (flights_of c s) 0 (Finding own tries fresh later)) (put_beside s c flies.part o)
put_found c s own tries fresh later flies (Some other) sound look is e =
    beside_onto c s own tries fresh later flies.part other sound look flies.calm is flies.found flies.is (found_at c s own flies.part sound flies.found)
    (neighbour_near tries flies.part other s.parts e)
put_found c s own tries fresh later flies None sound look is e =
    cond_both (is_purged s flies.part) _ _ (Onto c (turn_replied (Finding own tries fresh later)) (stages_then later) (left_turn (flights_of c s) 0 (Finding own tries fresh later)))
    (λ h. purge_goes c s own tries fresh later (is_lazy s) flies.part flies.calm is flies.found flies.is (both_true (is_listed (rest_of flies.part.state) Dirty) _ h).0)
    (λ h. rest_onto c s own tries fresh later flies.part flies.calm is flies.found)

-- the reply to a look for a neighbour
pub put_onto : (c : ℕ) (s : Space) (own : Span) (tries : ℕ) (fresh : Bool) (later : AfterFlight) → Sound s → tries < 3 → (flies : Flies (mine c s) own (Settled fresh)) → IsThen later →
    Onto c (turn_replied (Finding own tries fresh later)) (stages_then later) (left_turn (flights_of c s) 0 (Finding own tries fresh later)) (put_beside s c flies.part (neighbour tries flies.part s.parts))
put_onto c s own tries fresh later sound look flies is = put_found c s own tries fresh later flies (neighbour tries flies.part s.parts) sound look is refl

-- ---- the merge

-- the extent that stays in flight looks on
looking : (c : ℕ) (t : Space) (own : Span) (own_low fresh : Bool) (later : AfterFlight) (bound : ℕ) → Flies (mine c t) own (Settled fresh) → IsThen later → 30 * (flights_of c t - 1) ≤ bound →
    Keeps c t (stages_then later) (bound + cond own_low 5 2 + purges_left fresh + left_then later) (look_on own own_low fresh later)
looking c t own own_low fresh later bound flies is most = grind arith

-- both are one from now on
join_onto : (c : ℕ) (s : Space) (low high : Span) (own_low fresh : Bool) (later : AfterFlight) (p q : Part) → IsCalm (mine c s) → IsThen later → Settled fresh p →
    in_flight low (mine c s).flights ≡ Some p → in_flight high (mine c s).flights ≡ Some q → At c s low p → At c s high q → end_of low ≡ high.first →
    Onto c (merged own_low fresh later) (stages_then later) (30 * (flights_of c s - 2) + cond own_low 5 2 + purges_left fresh + left_then later) (join_at s (Some p) (Some q))
join_onto c s low high own_low fresh later p q offers is settled low_found high_found at to side =
    let t : Space = (join_at s (Some p) (Some q)).after in
    let a : Part → Bool = begins_at p.span.first in
    let b : Part → Bool = begins_at q.span.first in
    let stay : Part → Bool = λ x. not (begins_either p q x) in
    let first : p.span.first ≡ low.first = ap (λ (span : Span). span.first) at.spans in
    let pages : p.span.pages ≡ low.pages = ap (λ (span : Span). span.pages) at.spans in
    let differ : high.first ≢ p.span.first = λ e. omega (arith, at.some, side) in
    let without_low : List Part = filter (λ x. not (a x)) (mine c s).flights in
    let flights : (mine c t).flights ≡ filter stay (mine c s).flights ++ joined p q ∷ [] =
    flights_exchanged c (begins_either p q) s.parts (joined p q ∷ [])
    ∙ ap (λ (v : Bool). filter stay (mine c s).flights ++ cond v (joined p q ∷ []) []) at.own in
    let one = filter-fewer (λ x. same_span x.span low) a (mine c s).flights p low_found (begins_itself p) in
    let high_stays : find (λ x. same_span x.span high) without_low ≡ Some q =
    find-kept (λ x. same_span x.span high) (λ x. not (a x)) (mine c s).flights (begins_not high p.span.first differ) ∙ high_found in
    let two = filter-fewer (λ x. same_span x.span high) b without_low q high_stays (begins_itself q) in
    let front : length (filter stay (mine c s).flights) ≡ length (filter (λ x. not (b x)) without_low) = ap length (filter-either a b (mine c s).flights) in
    let count : flights_of c t ≡ length (filter stay (mine c s).flights) + 1 = ap length flights ∙ length-append (filter stay (mine c s).flights) (joined p q ∷ []) in
    let goes : (x : Part) → same_span x.span (joined p q).span ≡ true → stay x ≡ false = λ x h. rw (begins_as (joined p q).span x h) refl in
    let found : in_flight (joined p q).span (mine c t).flights ≡ Some (joined p q) =
    ap (in_flight (joined p q).span) flights
    ∙ find-append (λ x. same_span x.span (joined p q).span) (filter stay (mine c s).flights) (joined p q ∷ [])
    ∙ ap (λ o. option_or o (in_flight (joined p q).span (joined p q ∷ []))) (find-gone (λ x. same_span x.span (joined p q).span) stay (mine c s).flights goes)
    ∙ ap (λ (v : Bool). cond v (Some (joined p q)) None) (span_itself (joined p q).span) in
    looking c t (joined p q).span own_low fresh later (30 * (flights_of c s - 2)) (record { part = joined p q; found = found; is = settled_like fresh p (joined p q) refl settled; calm = offers }) is (omega (arith, one, two, front, count))

-- the neighbour is put down again
apart_goes : (c : ℕ) (s : Space) (own other : Span) (own_low fresh : Bool) (later : AfterFlight) (p q : Part) → IsCalm (mine c s) → IsThen later → Settled fresh p →
    in_flight own (mine c s).flights ≡ Some p → in_flight other (mine c s).flights ≡ Some q → At c s own p → At c s other q → own.first ≢ other.first →
    Keeps c (record s { parts = exchanged (begins_at q.span.first) s.parts (put_down q ∷ []) }) (stages_then later)
    (30 * (flights_of c s - 2) + cond own_low 5 2 + purges_left fresh + left_then later) (look_on p.span own_low fresh later)
apart_goes c s own other own_low fresh later p q offers is settled own_found other_found at to differ =
    let gone : Part → Bool = begins_at q.span.first in
    let t : Space = record s { parts = exchanged gone s.parts (put_down q ∷ []) } in
    let flights : (mine c t).flights ≡ filter (λ x. not (gone x)) (mine c s).flights = gone_flights c s q (put_down q ∷ []) (down_flies_not c q) in
    let fewer = filter-fewer (λ x. same_span x.span other) gone (mine c s).flights q other_found (begins_itself q) in
    let elsewhere : own.first ≢ q.span.first = λ e. differ (e ∙ ap (λ (span : Span). span.first) to.spans) in
    let found : in_flight own (mine c t).flights ≡ Some p =
    ap (in_flight own) flights ∙ find-kept (λ x. same_span x.span own) (λ x. not (gone x)) (mine c s).flights (begins_not own q.span.first elsewhere) ∙ own_found in
    let count : flights_of c t ≡ length (filter (λ x. not (gone x)) (mine c s).flights) = ap length flights in
    looking c t p.span own_low fresh later (30 * (flights_of c s - 2))
    (record { part = p; found = ap (λ span. in_flight span (mine c t).flights) at.spans ∙ found; is = settled; calm = offers }) is (omega (arith, fewer, count))

-- the answer to a merge
pub merge_onto : (c : ℕ) (s : Space) (low high : Span) (own_low fresh : Bool) (later : AfterFlight) (answer : Answer) → Sound s → HasPair (mine c s) low high fresh → IsThen later →
    AnswersTo (Merge low high) answer →
    Onto c (merged own_low fresh later) (stages_then later) (30 * (flights_of c s - 2) + cond own_low 5 2 + purges_left fresh + left_then later) (after_merge s c own_low (Merge low high) answer)
merge_onto c s low high own_low fresh later answer sound pair is kind =
    let at = found_at c s low pair.low_part sound pair.low_found in
    let to = found_at c s high pair.high_part sound pair.high_found in
    let below : low.first < high.first = omega (arith, at.some, ap (λ (span : Span). span.pages) at.spans, pair.side_by_side) in
    by_answer own_low answer at to below kind
  where
    by_answer : (own_low : Bool) (answer : Answer) → At c s low pair.low_part → At c s high pair.high_part → low.first < high.first → AnswersTo (Merge low high) answer →
        Onto c (merged own_low fresh later) (stages_then later) (30 * (flights_of c s - 2) + cond own_low 5 2 + purges_left fresh + left_then later) (after_merge s c own_low (Merge low high) answer)
    by_answer own_low Done at to below kind =
        rw (at.found, to.found) (join_onto c s low high own_low fresh later pair.low_part pair.high_part pair.calm is pair.low_settled pair.low_found pair.high_found at to pair.side_by_side)
    by_answer true answers.Refused at to below kind =
        rw (at.found, to.found) (apart_goes c s low high true fresh later pair.low_part pair.high_part pair.calm is pair.low_settled pair.low_found pair.high_found at to (λ e. absurd (omega (arith, e, below))))
    by_answer false answers.Refused at to below kind =
        rw (at.found, to.found) (apart_goes c s high low false fresh later pair.high_part pair.low_part pair.calm is pair.high_settled pair.high_found pair.low_found to at (λ e. absurd (omega (arith, e, below))))
    by_answer own_low (Placed b zeroed first) at to below kind = absurd (kind first b zeroed refl)

-- the reply to regions that went back
pub back_onto : (c : ℕ) (s : Space) (addrs : List ℕ) → IsCalm (mine c s) → Onto c (turn_replied (Giving addrs)) 1 0 (after_back s c addrs)
back_onto c s addrs offers = next_goes c (after_back s c addrs).after 1 0 Batches offers tt (inl (omega arith))
