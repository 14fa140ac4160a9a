-- What the turns of a call leave that purges extents: what it knows where it goes on.
use Rattle.call_plan.proofs.Words.{inr, IsTrue, is_some, ◌≡◌, ℕ, ◌+◌, ◌-◌, ◌*◌, ◌<◌, ◌≤◌, ◌==◌, ◌&&◌, Bool, true, false, not, cond, [], ◌∷◌, ◌++◌, Option, None, Some, refl, sym, ◌∙◌, ap, subst, arith, All, filter, find, length, option_or, nat_tests, All-filter, All-head, filter-append, length-append, find-append, Offered, Dirty, Flight, IsPlaced, meets, exchanged, begins_at, is_flight, is_flight_at, is_listed, is_backed, rest_of, listed, taken_out, stays, is_lazy, next_flight, after_lazy, offer_at, offer_of, without_offer, is_offer, is_regranted, after_offer, after_decommit, after_purge_take, purge_at, count_listed, is_purgeable, find_passes, find_has, filter_nothing, none_counted, or_false, belongs, both_true, itself, Visit, AfterFlight, Visiting, Taking, Offering, PurgingLazily, Returning, Decommitting, Forcing, Dalloc, Decommit, PurgeLazy, Answer, Placed, Done, Noted, Kept, Abandoned, Rest, Space, Part, Span, Sound, mine, same_span, AnswersTo, decommitted, eased, forced, put_purged, returned, takes_left, turn_replied, Idle, Flies, Droppable, HasOffered, IsThen, IsCalm, IsVisit, HasLeft, in_flight, Keeps, stages_then, stages_later, left, left_then, left_visit, stages_visit, left_turn, left_ask, flights_of}
use Rattle.call_plan.proofs.Lists.{find-none, filter-fewer, filter-swap, find-gone, filter-removed, passes_alone}
use Rattle.call_plan.proofs.Own.{flights_exchanged}
use Rattle.call_plan.proofs.Putting.{Room, fewer_room, found_at, begins_as, gone_flights, next_goes, drop_goes, visited_goes, listed_dirty}
use Rattle.call_plan.proofs.Getting.{Onto, span_itself, begins_itself, replaced_idle}
use Rattle.space_model.specs.declared.Answer.TheVariants as answers
use Rattle.space_model.specs.declared.Rest.TheVariants as rests

-- ---- an extent in flight that changes

-- an extent that was purged is put down
purged_goes : (c : ℕ) (t : Space) (span : Span) (later : AfterFlight) (bound : ℕ) (p : Part) → IsCalm (mine c t) → IsThen later → in_flight span (mine c t).flights ≡ Some p →
    is_listed (rest_of p.state) Dirty ≡ false → 30 * (flights_of c t - 1) + 7 + left_then later < bound → Keeps c t (stages_then later) bound (put_purged span later)
purged_goes c t span later bound p offers is found settled fewer =
    ((omega arith, record { part = p; found = found; is = settled; calm = offers }, is), inr (refl, omega arith))

-- an extent that takes the place of one in flight, and belongs to the dirty ones no more, is put down
changed_goes : (c : ℕ) (s : Space) (span : Span) (later : AfterFlight) (bound : ℕ) (p piece : Part) → IsCalm (mine c s) → IsThen later → in_flight span (mine c s).flights ≡ Some p →
    p.span ≡ span → piece.span ≡ p.span → is_flight c piece.state ≡ true → is_listed (rest_of piece.state) Dirty ≡ false → 30 * (flights_of c s - 1) + 7 + left_then later < bound →
    Keeps c (record s { parts = exchanged (begins_at p.span.first) s.parts (piece ∷ []) }) (stages_then later) bound (put_purged span later)
changed_goes c s span later bound p piece offers is found spans same own settled fewer =
    let t : Space = record s { parts = exchanged (begins_at p.span.first) s.parts (piece ∷ []) } in
    let stay : Part → Bool = λ q. not (begins_at p.span.first q) in
    let goes : (q : Part) → same_span q.span p.span ≡ true → stay q ≡ false = λ q h. rw (begins_as p.span q h) refl in
    let at : same_span piece.span p.span ≡ true = subst (λ x. same_span x p.span ≡ true) (sym same) (span_itself p.span) in
    let flights : (mine c t).flights ≡ filter stay (mine c s).flights ++ piece ∷ [] =
    flights_exchanged c (begins_at p.span.first) s.parts (piece ∷ []) ∙ ap (λ (v : Bool). filter stay (mine c s).flights ++ cond v (piece ∷ []) []) own in
    let here : in_flight p.span (mine c t).flights ≡ Some piece =
    ap (in_flight p.span) flights ∙ find-append (λ q. same_span q.span p.span) (filter stay (mine c s).flights) (piece ∷ [])
    ∙ ap (λ o. option_or o (in_flight p.span (piece ∷ []))) (find-gone (λ q. same_span q.span p.span) stay (mine c s).flights goes)
    ∙ ap (λ (v : Bool). cond v (Some piece) None) at in
    let less = filter-fewer (λ q. same_span q.span span) (begins_at p.span.first) (mine c s).flights p found (begins_itself p) in
    let count : flights_of c t ≡ length (filter stay (mine c s).flights) + 1 = ap length flights ∙ length-append (filter stay (mine c s).flights) (piece ∷ []) in
    purged_goes c t span later bound piece offers is (subst (λ x. in_flight x (mine c t).flights ≡ Some piece) spans here) settled (omega (arith, less, count, fewer))

-- ---- the lazy purge

pub lazy_onto : (c : ℕ) (s : Space) (span : Span) (later : AfterFlight) (answer : Answer) → Sound s → (flies : Flies (mine c s) span (λ p. rest_of p.state ≡ rests.Dirty)) → IsThen later →
    AnswersTo (PurgeLazy span) answer →
    Onto c (eased span later) (stages_then later) (left_ask (flights_of c s) (PurgingLazily span later)) (after_lazy s c (PurgeLazy span) answer)
lazy_onto c s span later Done sound flies is kind =
    let p : Part = flies.part in
    let at = found_at c s span p sound flies.found in
    rw at.found (changed_goes c s span later _ p (record p { state = Flight c rests.Muzzy }) flies.calm is flies.found at.spans refl (itself c) refl (omega arith))
lazy_onto c s span later answers.Refused sound flies is kind =
    ((record { part = flies.part; found = flies.found; is = rw flies.is refl; calm = flies.calm }, is), inr (refl, omega arith))
lazy_onto c s span later (Placed b zeroed first) sound flies is kind = absurd (kind first b zeroed refl)

-- ---- the offer and the dalloc

pub offer_onto : (c : ℕ) (s : Space) (span : Span) (later : AfterFlight) → Sound s → (flies : Flies (mine c s) span Droppable) → IsThen later →
    Onto c (turn_replied (Offering span later)) (stages_then later) (left_turn (flights_of c s) 0 (Offering span later)) (offer_at s c (Some flies.part))
offer_onto c s span later sound flies is =
    let p : Part = flies.part in
    let at = found_at c s span p sound flies.found in
    let t : Space = (offer_at s c (Some p)).after in
    let backed : IsTrue p.committed = find_has (λ q. IsTrue (is_backed (rest_of q.state)) → IsTrue q.committed) (is_flight_at c span) s.parts p sound.backed at.found flies.is in
    let offers : (mine c t).offers ≡ offer_of c p ∷ [] =
    filter-append (λ (o : Offered). o.client == c) s.offers (offer_of c p ∷ []) ∙ ap (λ os. os ++ filter (λ (o : Offered). o.client == c) (offer_of c p ∷ [])) flies.calm.0
    ∙ ap (λ (v : Bool). cond v (offer_of c p ∷ []) []) (itself c) in
    let fewer = filter-fewer (λ q. same_span q.span span) (begins_at p.span.first) (mine c s).flights p flies.found (begins_itself p) in
    let count : flights_of c t ≡ length (filter (λ q. not (begins_at p.span.first q)) (mine c s).flights) = ap length (gone_flights c s p [] refl) in
    (((record { offer = offer_of c p; offers = offers; spans = at.spans; committed = backed; trims = flies.calm.1 }, is), tt), inr (refl, omega (arith, fewer, count)))

-- the only offer that the client has is the one that is answered
offer_gone : (c : ℕ) (s : Space) (span : Span) → (has : HasOffered (mine c s) span) → filter (λ (o : Offered). o.client == c) (without_offer c span true s.offers) ≡ []
offer_gone c s span has =
    let same : same_span has.offer.span span ≡ true = subst (λ x. same_span x span ≡ true) (sym has.spans) (span_itself span) in
    let own : (has.offer.client == c) ≡ true = passes_alone (λ (o : Offered). o.client == c) s.offers has.offer has.offers in
    let test : is_offer c span true has.offer ≡ true = rw (own, same, has.committed) refl in
    filter-removed (λ (o : Offered). o.client == c) (is_offer c span true) s.offers has.offer has.offers test
    (λ o h. (both_true (o.client == c) _ (both_true (o.client == c && same_span o.span span) _ h).0).0)

-- an offer isn't empty
offer_some : (c : ℕ) (s : Space) (span : Span) → Sound s → HasOffered (mine c s) span → 0 < span.pages
offer_some c s span sound has =
    let placed : All (λ (o : Offered). IsPlaced o.span) (has.offer ∷ []) = subst (All (λ (o : Offered). IsPlaced o.span)) has.offers (All-filter (λ (o : Offered). o.client == c) (λ o. IsPlaced o.span) s.offers sound.offered) in
    let head = All-head (λ (o : Offered). IsPlaced o.span) has.offer [] placed in
    subst (λ (x : Span). 0 < x.pages) has.spans head.0

-- what has the span meets it
same_meets : (span : Span) → 0 < span.pages → (q : Part) → same_span q.span span ≡ true → meets q.span span ≡ true
same_meets span some q h = grind (arith, nat_tests)

kept_goes : (c : ℕ) (s : Space) (span : Span) (later : AfterFlight) (found : Option ℕ) (v : Bool) → IsCalm (mine c s) → IsThen later → 0 < span.pages →
    is_regranted found span s.parts ≡ v →
    Onto c (returned span later) (stages_then later) (30 * flights_of c s + 12 + left_then later)
    (cond v (stays s (Abandoned (next_flight c s.parts)))
    (record { after = record s { parts = s.parts ++ record { span = span; state = Flight c rests.Retained; committed = true } ∷ [] }; reply = Kept }))
kept_goes c s span later found true offers is some e = next_goes c s (stages_then later) _ later offers is (inr (refl, omega arith))
kept_goes c s span later found false offers is some e =
    let piece : Part = record { span = span; state = Flight c rests.Retained; committed = true } in
    let flies : Part → Bool = λ q. is_flight c q.state in
    let t : Space = record s { parts = s.parts ++ piece ∷ [] } in
    let none : filter (λ q. meets q.span span) (mine c s).flights ≡ [] =
    filter-swap (λ q. meets q.span span) flies s.parts ∙ ap (filter flies) (filter_nothing (λ q. meets q.span span) s.parts (none_counted (λ q. meets q.span span) s.parts (or_false (is_some found) _ e))) in
    let flights : (mine c t).flights ≡ (mine c s).flights ++ piece ∷ [] =
    filter-append flies s.parts (piece ∷ []) ∙ ap (λ (v : Bool). (mine c s).flights ++ cond v (piece ∷ []) []) (itself c) in
    let found : in_flight span (mine c t).flights ≡ Some piece =
    ap (in_flight span) flights ∙ find-append (λ q. same_span q.span span) (mine c s).flights (piece ∷ [])
    ∙ ap (λ o. option_or o (in_flight span (piece ∷ []))) (find-none (λ q. same_span q.span span) (λ q. meets q.span span) (mine c s).flights none (same_meets span some))
    ∙ ap (λ (v : Bool). cond v (Some piece) None) (span_itself span) in
    let count : flights_of c t ≡ flights_of c s + 1 = ap length flights ∙ length-append (mine c s).flights (piece ∷ []) in
    (((record { part = piece; found = found; is = (refl, refl); calm = offers }, is), tt), inr (refl, omega (arith, count)))

pub return_onto : (c : ℕ) (s : Space) (span : Span) (later : AfterFlight) (found : Option ℕ) (answer : Answer) → Sound s → HasOffered (mine c s) span → IsThen later →
    AnswersTo (Dalloc span true) answer →
    Onto c (returned span later) (stages_then later) (left_ask (flights_of c s) (Returning span later)) (after_offer s c found (Dalloc span true) answer)
return_onto c s span later found Done sound has is kind =
    next_goes c (record s { offers = without_offer c span true s.offers }) (stages_then later) _ later (offer_gone c s span has, has.trims) is (inr (refl, omega arith))
return_onto c s span later found answers.Refused sound has is kind =
    kept_goes c (record s { offers = without_offer c span true s.offers }) span later found (is_regranted found span s.parts) (offer_gone c s span has, has.trims) is (offer_some c s span sound has) refl
return_onto c s span later found (Placed b zeroed first) sound has is kind = absurd (kind first b zeroed refl)

-- ---- the decommit and the forced purge

retained_settled : (r : Rest) → r ≡ rests.Retained → is_listed r Dirty ≡ false
retained_settled r h = rw h refl

pub decommit_onto : (c : ℕ) (s : Space) (span : Span) (later : AfterFlight) (answer : Answer) → Sound s →
    (flies : Flies (mine c s) span (λ p. (p.committed ≡ true) × (rest_of p.state ≡ rests.Retained))) → IsThen later → AnswersTo (Decommit span) answer →
    Onto c (decommitted span later) (stages_then later) (left_ask (flights_of c s) (Decommitting span later)) (after_decommit s c (Decommit span) answer)
decommit_onto c s span later Done sound flies is kind =
    let p : Part = flies.part in
    let at = found_at c s span p sound flies.found in
    rw at.found (changed_goes c s span later _ p (record p { committed = false }) flies.calm is flies.found at.spans refl at.own (retained_settled (rest_of p.state) flies.is.1) (omega arith))
decommit_onto c s span later answers.Refused sound flies is kind =
    (((record { part = flies.part; found = flies.found; is = flies.is.1; calm = flies.calm }, is), tt), inr (refl, omega arith))
decommit_onto c s span later (Placed b zeroed first) sound flies is kind = absurd (kind first b zeroed refl)

pub forced_onto : (c : ℕ) (s : Space) (span : Span) (later : AfterFlight) → (flies : Flies (mine c s) span (λ p. rest_of p.state ≡ rests.Retained)) → IsThen later →
    Onto c (forced span later) (stages_then later) (left_ask (flights_of c s) (Forcing span later)) (stays s Noted)
forced_onto c s span later flies is =
    purged_goes c s span later _ flies.part flies.calm is flies.found (retained_settled (rest_of flies.part.state) flies.is) (omega arith)

-- ---- the visit

-- a visit that took an extent has fewer to take, or begins
visit_room : (visit : Visit) (left : Option ℕ) (listed : ℕ) → HasLeft left → Room (stages_visit visit left) (left_visit left) (Visiting visit (takes_left left listed)) 16
visit_room visit left listed some = grind arith

visit_stage : (visit : Visit) (left : Option ℕ) → stages_later visit ≤ stages_visit visit left
visit_stage visit left = grind arith

purgeable_backed : (r : Rest) → is_purgeable r ≡ true → is_backed r ≡ true
purgeable_backed r h = grind arith

took_goes : (c : ℕ) (s : Space) (visit : Visit) (left : Option ℕ) (o : Option Part) → find (λ p. is_listed visit.rest p.state) s.parts ≡ o → Idle (mine c s) → IsVisit visit → HasLeft left →
    Onto c (turn_replied (Taking visit left)) (stages_visit visit left) (left_visit left) (purge_at s c visit.rest o)
took_goes c s visit left None e idle is some = visited_goes c s (stages_visit visit left) (left_visit left) visit idle (visit_stage visit left)
took_goes c s visit left (Some p) e idle is some =
    let taken : Part = taken_out c p in
    let t : Space = (purge_at s c visit.rest (Some p)).after in
    let flights : (mine c t).flights ≡ taken ∷ [] =
    replaced_idle c s (begins_at p.span.first) (taken ∷ []) idle.flights ∙ ap (λ (v : Bool). cond v (taken ∷ []) []) (itself c) in
    let found : in_flight p.span (mine c t).flights ≡ Some taken = ap (in_flight p.span) flights ∙ ap (λ (v : Bool). cond v (Some taken) None) (span_itself p.span) in
    let count : flights_of c t ≡ length (taken ∷ []) = ap length flights in
    let rest : rest_of p.state ≡ visit.rest = belongs visit.rest p.state (find_passes (λ q. is_listed visit.rest q.state) s.parts p e) in
    let n : ℕ = count_listed visit.rest s.parts in
    drop_goes c t (stages_visit visit left) (left_visit left) p.span (is_listed visit.rest (listed rests.Dirty) && is_lazy s) (Visiting visit (takes_left left n)) taken idle.calm is found
    (λ h. rest ∙ listed_dirty visit.rest (both_true (is_listed visit.rest Dirty) _ h).0)
    (rw rest (purgeable_backed visit.rest is))
    (fewer_room (stages_visit visit left) (left_visit left) (Visiting visit (takes_left left n)) (30 * (flights_of c t - 1) + 16) 16 (omega (arith, count)) (visit_room visit left n some))

pub take_onto : (c : ℕ) (s : Space) (visit : Visit) (left : Option ℕ) → Idle (mine c s) → IsVisit visit → HasLeft left →
    Onto c (turn_replied (Taking visit left)) (stages_visit visit left) (left_visit left) (after_purge_take s c visit.rest visit.keep)
take_onto c s visit left idle is some = grind (arith, nat_tests, took_goes, visited_goes, visit_stage)
