-- What the operations of a purge do and tell: an extent is taken out by age, changes its list or its commit state, is offered, or comes back.
use Rattle.std.proofs.Common.{true, false, ◌≡◌, ◌≢◌, ℕ, ◌+◌, ◌≤◌, Bool, cond, IsTrue, List, ◌∷◌, ◌++◌, Option, Some, None, refl, ◌∙◌, ap, subst, arith, All, filter, find, suc, take, drop, ◌&&◌, ◌||◌, ◌==◌, ltb as nat_lt, append-nil, []}
use Rattle.space_model.proofs.Words.{nat_tests, Any-from_list_any, list_any, position_or_len, is_some, All-cons, All-nil, All-append, All-take, All-drop, filter-append, Ask, Dalloc, Decommit, PurgeLazy, Answer, Done, Heard, Op, PurgeTake, LazyDone, Offer, OfferDone, DecommitDone, Reply, Noted, Nothing, Kept, Abandoned, Offered, Part, Rest, Span, Flight as InFlight, Space, IsPlaced, meets, same_span, holders, is_listed, is_flight_at, is_backed, listed, rest_of, next_flight, pages_listed, stays, replaced, is_live, found_passes, purge_at, after_purge_take, lazy_at, after_lazy, lazy_stands, offer_of, offer_at, is_offer, without_offer, is_regranted, after_offer, offer_stands, decommit_at, after_decommit, decommit_stands, granted_by, is_in_dalloc, flight, lost, won, Sound, DecommitDid, Flying, ForcedDone, ForcedNoted, LazyDid, OfferAbandoned, OfferKept, OfferNext, OfferNoted, PurgeForced, PurgeNoArena, PurgeNothing, PurgeTaken, forced_stands, is_flight, is_purgeable, is_yes_or_no, list_any-append, taken_out}
use Rattle.space_model.proofs.Lists.{false_true, find_passes, ones, without_first, or_false}
use Rattle.space_model.proofs.Exchange.{share}
use Rattle.space_model.proofs.Growth.{nobody_holds}
use Rattle.space_model.proofs.Changes.{Does, Frame, Piece, put_does, frame_does, live_quiet, sound_ranges, go_does, come_does}
use Rattle.space_model.proofs.Pieces.{both_true, not_both, found_fits}
use Rattle.std.proofs.Math.Bool.{or-true}
use Rattle.space_model.proofs.Found.{found_span, last_flies, span_is}
use Rattle.space_model.proofs.Outcomes.{Goes, goes, still_goes, live_goes, on_found, put_flies, found_flies, next_flies, belongs, beq_itself}
use Rattle.space_model.proofs.Moves.{Flight, flight_at, live_is, itself, taken_does}
use Rattle.space_model.specs.declared.asks.Answer.TheVariants as answers
use Rattle.space_model.specs.declared.parts.Rest.TheVariants as rests

-- ---- PurgeTake

purge_at_goes : (c : ℕ) (s : Space) (rest : Rest) (keep : ℕ) (o : Option Part) → find (λ p. is_listed rest p.state) s.parts ≡ o → Sound s → is_live s.life ≡ true → is_purgeable rest ≡ true →
    Goes c s (PurgeTake rest keep) (purge_at s c rest o)
purge_at_goes c s rest keep None e sound live h = still_goes c s (PurgeTake rest keep) Nothing sound (λ page before. refl, refl, refl) (PurgeNothing refl)
purge_at_goes c s rest keep (Some p) e sound live h =
    let is_in = find_passes (λ q. is_listed rest q.state) s.parts p e in
    let is : rest_of p.state ≡ rest = belongs rest p.state is_in in
    let committed : p.committed ≡ true = (found_fits s (λ q. is_listed rest q.state) p sound e).backed (grind (arith, is, h)) in
    goes sound (taken_does c s (PurgeTake rest keep) _ p sound live (record { test = λ q. is_listed rest q.state; found = e; rest = rest; is_in = is_in }) (λ page before. refl, refl, refl))
    (λ after. PurgeTaken p.span _ _ (subst (λ (b : Bool). Flying c (purge_at s c rest (Some p)).after p.span b) committed (put_flies c s p (taken_out c p) after (itself c))))

pub purge_take_goes : (c : ℕ) (s : Space) (rest : Rest) (keep : ℕ) → Sound s → is_purgeable rest ≡ true → Goes c s (PurgeTake rest keep) (after_purge_take s c rest keep)
purge_take_goes c s rest keep sound h =
    let op : Op = PurgeTake rest keep in
    live_goes c s op _ sound (λ page before. refl, refl, refl) (λ h. PurgeNoArena h refl)
    (λ live. elim (nat_lt keep (pages_listed rest s.parts)) as (λ b. Goes c s op (cond b (purge_at s c rest (find (λ p. is_listed rest p.state) s.parts)) (stays s Nothing))) [
      | true ↦ purge_at_goes c s rest keep (find (λ p. is_listed rest p.state) s.parts) refl sound live h
      | false ↦ still_goes c s op Nothing sound (λ page before. refl, refl, refl) (PurgeNothing refl)
    ])

-- ---- LazyDone and DecommitDone

-- an extent in flight has another state or commit state from now on, and is in flight still
turned_flight : (c : ℕ) (s : Space) (op : Op) (reply : Reply) (span : Span) (p q : Part) → Sound s → Flight c s span p → Piece c q → q.span ≡ p.span →
    flight c q ≡ 1 → ((page : ℕ) (before : Bool) → granted_by page before op reply ≡ before) → lost op reply ≡ 0 → won c s op reply ≡ 0 →
    Does c s op (replaced s p (q ∷ []) reply)
turned_flight c s op reply span p q sound at fits same flies plain lose win =
    let flew : flight c p ≡ 1 = ap ones at.own in
    put_does c s op reply (is_flight_at c span) p q sound at.live at.found at.piece fits same plain (omega (arith, flew, flies, lose, win))

-- an extent in flight to the dirty ones is committed
dirty_committed : (c : ℕ) (s : Space) (span : Span) (p : Part) → Sound s → find (is_flight_at c span) s.parts ≡ Some p → is_listed rests.Dirty (listed (rest_of p.state)) ≡ true → p.committed ≡ true
dirty_committed c s span p sound e h = (found_fits s (is_flight_at c span) p sound e).backed (grind (arith, h))

pub lazy_goes : (c : ℕ) (s : Space) (heard : Heard) (ask : Ask) (answer : Answer) → heard.ask ≡ ask → Sound s → is_live s.life ≡ true → lazy_stands s c ask answer ≡ true →
    Goes c s (LazyDone heard) (after_lazy s c ask answer)
lazy_goes c s heard (PurgeLazy span) Done is sound live h =
    on_found (λ o. Goes c s (LazyDone heard) (lazy_at s c o)) (λ p. is_listed rests.Dirty (listed (rest_of p.state))) (find (is_flight_at c span) s.parts) h
    (λ p e k.
    let at = flight_at c s span p sound live e in
    let q : Part = record p { state = InFlight c rests.Muzzy } in
    let t : Space = (lazy_at s c (Some p)).after in
    goes sound (turned_flight c s (LazyDone heard) _ span p q sound at
    (record { idle = refl; fits = record { placed = at.piece.fits.placed; backed = λ _. at.piece.fits.backed (grind (arith, k)) }; own = λ d other. not_both d c other })
    refl (ap ones (itself c)) (λ page before. refl) refl refl)
    (λ after. LazyDid span true is (subst (λ (k : Span). Flying c t k true) (found_span c span s.parts p e).0
    (subst (λ (b : Bool). Flying c t p.span b) (dirty_committed c s span p sound e k) (put_flies c s p q after (itself c)))) (λ k. absurd (cc))))
lazy_goes c s heard (PurgeLazy span) answers.Refused is sound live h =
    still_goes c s (LazyDone heard) _ sound (λ page before. refl, refl, refl)
    (LazyDid span false is (on_found (λ _. Flying c s span true) (λ p. is_listed rests.Dirty (listed (rest_of p.state))) (find (is_flight_at c span) s.parts) h
    (λ p e k. record { part = p; found = e; committed = dirty_committed c s span p sound e k })) (λ k. refl))
lazy_goes c s heard ask answer is sound live h = absurd (cc)

pub decommit_goes : (c : ℕ) (s : Space) (heard : Heard) (ask : Ask) (answer : Answer) → heard.ask ≡ ask → Sound s → is_live s.life ≡ true → decommit_stands s c ask answer ≡ true →
    Goes c s (DecommitDone heard) (after_decommit s c ask answer)
decommit_goes c s heard (Decommit span) Done is sound live h =
    on_found (λ o. Goes c s (DecommitDone heard) (decommit_at s o)) (λ p. p.committed && is_listed rests.Retained (listed (rest_of p.state))) (find (is_flight_at c span) s.parts) h
    (λ p e k.
    let at = flight_at c s span p sound live e in
    let q : Part = record p { committed = false } in
    let free : is_backed (rest_of p.state) ≡ false = grind (arith, k) in
    goes sound (turned_flight c s (DecommitDone heard) _ span p q sound at
    (record { idle = at.piece.idle; fits = record { placed = at.piece.fits.placed; backed = λ b. absurd (false_true (subst IsTrue free b)) }; own = at.piece.own })
    refl (ap ones at.own) (λ page before. refl) refl refl)
    (λ after. DecommitDid span true is (subst (λ (k : Span). Flying c (decommit_at s (Some p)).after k false) (found_span c span s.parts p e).0 (put_flies c s p q after at.own)) (λ k. absurd (cc))))
decommit_goes c s heard (Decommit span) answers.Refused is sound live h =
    still_goes c s (DecommitDone heard) _ sound (λ page before. refl, refl, refl)
    (DecommitDid span false is (on_found (λ _. Flying c s span true) (λ p. p.committed && is_listed rests.Retained (listed (rest_of p.state))) (find (is_flight_at c span) s.parts) h
    (λ p e k. record { part = p; found = e; committed = (both_true p.committed _ k).0 })) (λ k. refl))
decommit_goes c s heard ask answer is sound live h = absurd (cc)

-- ---- ForcedDone

pub forced_goes : (c : ℕ) (s : Space) (heard : Heard) (ask : Ask) (answer : Answer) → heard.ask ≡ ask → Sound s → forced_stands s c ask answer ≡ true → Goes c s (ForcedDone heard) (stays s Noted)
forced_goes c s heard (PurgeForced span) answer is sound h =
    on_found (λ _. Goes c s (ForcedDone heard) (stays s Noted)) (λ _. true) (find (is_flight_at c span) s.parts) (both_true (is_yes_or_no answer) _ h).1
    (λ p e _. still_goes c s (ForcedDone heard) Noted sound (λ page before. refl, refl, refl) (ForcedNoted span p.committed is (found_flies c s span p e) refl))
forced_goes c s heard ask answer is sound h = absurd (cc)

-- ---- Offer

-- where the client alone has other offers
offer_frame : (c : ℕ) (s : Space) (parts : List Part) (offers : List Offered) → Sound s → All (λ o. IsPlaced o.span) offers →
    ((d : ℕ) → d ≢ c → filter (λ (o : Offered). o.client == d) offers ≡ filter (λ o. o.client == d) s.offers) →
    Frame c s (record s { parts = parts; offers = offers })
offer_frame c s parts offers sound placed same = record {
  offered = placed;
  ranges = sound_ranges s sound;
  offers = same;
  bound = λ d other. refl;
  trims = λ d other. refl;
  dying = λ d other. refl;
}

-- an extent in flight goes, and is an offer from now on
pub offer_goes : (c : ℕ) (s : Space) (span : Span) → Sound s → is_live s.life ≡ true → found_passes (λ _. true) (find (is_flight_at c span) s.parts) ≡ true →
    Goes c s (Offer span) (offer_at s c (find (is_flight_at c span) s.parts))
offer_goes c s span sound live h =
    on_found (λ o. Goes c s (Offer span) (offer_at s c o)) (λ _. true) (find (is_flight_at c span) s.parts) h
    (λ p e _.
    let at = flight_at c s span p sound live e in
    let t : Space = (offer_at s c (Some p)).after in
    let flies : flight c p ≡ 1 = ap ones at.own in
    let same = (both_true (is_flight c p.state) _ (find_passes (is_flight_at c span) s.parts p e)).1 in
    let is : is_offer c span p.committed (offer_of c p) ≡ true = rw (itself c, same, beq_itself p.committed) refl in
    goes sound (go_does c s t (Offer span) Noted (is_flight_at c span) p sound e at.piece refl refl
    (offer_frame c s t.parts t.offers sound
    (All-append (λ o. IsPlaced o.span) s.offers (offer_of c p ∷ []) sound.offered (All-cons (λ o. IsPlaced o.span) (offer_of c p) [] at.piece.fits.placed (All-nil (λ o. IsPlaced o.span))))
    (λ d other. filter-append (λ o. o.client == d) s.offers (offer_of c p ∷ []) ∙ ap (λ b. filter (λ (o : Offered). o.client == d) s.offers ++ cond b (offer_of c p ∷ []) []) (not_both d c other) ∙ append-nil _))
    (live_quiet s t at.live refl) (λ page before. rw (at.first, at.pages) refl) (omega (arith, flies)))
    (λ after. OfferNoted p.committed (list_any-append (is_offer c span p.committed) s.offers (offer_of c p ∷ []) ∙ rw is (or-true _))))

-- ---- OfferDone

-- a span that is offered is placed
offer_placed : (c : ℕ) (span : Span) (committed : Bool) (offers : List Offered) → All (λ o. IsPlaced o.span) offers → list_any (is_offer c span committed) offers ≡ true → IsPlaced span
offer_placed c span committed offers placed h =
    let there = Any-from_list_any (is_offer c span committed) offers h in
    let o : Offered = there.1 in
    let at : IsPlaced o.span = subst (λ (x : Offered). IsPlaced x.span) there.3 (placed there.0 o there.2) in
    subst IsPlaced (span_is o.span span (both_true (o.client == c) _ (both_true (o.client == c && same_span o.span span) _ there.4).0).1) at

-- the offer goes, and the extents are as they were or have one more
taken_frame : (c : ℕ) (s : Space) (span : Span) (committed : Bool) (parts : List Part) → Sound s →
    Frame c s (record s { parts = parts; offers = without_offer c span committed s.offers })
taken_frame c s span committed parts sound =
    let test = is_offer c span committed in
    let n = position_or_len test s.offers in
    offer_frame c s parts (without_offer c span committed s.offers) sound
    (All-append (λ o. IsPlaced o.span) (take n s.offers) (drop (suc n) s.offers) (All-take (λ o. IsPlaced o.span) n s.offers sound.offered)
    (All-drop (λ o. IsPlaced o.span) (suc n) s.offers sound.offered))
    (λ d other. without_first (λ o. o.client == d) test s.offers (λ o h. grind (arith, nat_tests)))

-- an offer is an extent again
kept_does : (c : ℕ) (s : Space) (heard : Heard) (found : Option ℕ) (span : Span) (committed : Bool) → heard.ask ≡ Dalloc span committed → Sound s → is_live s.life ≡ true →
    IsPlaced span → is_regranted found span s.parts ≡ false →
    Does c s (OfferDone heard found) (record {
      after = record s { parts = s.parts ++ record { span = span; state = InFlight c rests.Retained; committed = committed } ∷ []; offers = without_offer c span committed s.offers };
      reply = Kept;
    })
kept_does c s heard found span committed is sound live placed fresh =
    let p : Part = record { span = span; state = InFlight c rests.Retained; committed = committed } in
    let t : Space = record s { parts = s.parts ++ p ∷ []; offers = without_offer c span committed s.offers } in
    let free : list_any (λ q. meets q.span span) s.parts ≡ false = or_false (is_some found) _ fresh in
    let most : (page : ℕ) → holders page s.parts + share page p ≤ 1 =
    λ page. grind (arith, sound.owners page, nobody_holds page span s.parts free) in
    let flies : flight c p ≡ 1 = ap ones (itself c) in
    come_does c s t (OfferDone heard found) Kept p sound refl refl
    (record { idle = refl; fits = record { placed = placed; backed = λ h. absurd (false_true h) }; own = λ d other. not_both d c other }) most
    (taken_frame c s span committed t.parts sound) (live_quiet s t (live_is s.life live) refl) (λ page before. ap (λ ask. before || is_in_dalloc page ask) is) (omega (arith, flies))

pub offer_done_goes : (c : ℕ) (s : Space) (heard : Heard) (found : Option ℕ) (ask : Ask) (answer : Answer) → heard.ask ≡ ask → Sound s → is_live s.life ≡ true →
    offer_stands s c ask answer ≡ true → Goes c s (OfferDone heard found) (after_offer s c found ask answer)
offer_done_goes c s heard found (Dalloc span committed) Done is sound live h =
    let t : Space = record s { offers = without_offer c span committed s.offers } in
    goes sound (frame_does c s t (OfferDone heard found) _ sound refl refl (taken_frame c s span committed s.parts sound) (live_quiet s t (live_is s.life live) refl) (λ page before. refl) refl)
    (λ after. OfferNext (next_flight c s.parts) (next_flies c t))
offer_done_goes c s heard found (Dalloc span committed) answers.Refused is sound live h =
    let t : Space = record s { offers = without_offer c span committed s.offers } in
    let p : Part = record { span = span; state = InFlight c rests.Retained; committed = committed } in
    let op : Op = OfferDone heard found in
    elim (is_regranted found span s.parts) as (λ b. is_regranted found span s.parts ≡ b →
    Goes c s op (cond b (stays t (Abandoned (next_flight c s.parts))) (record { after = record t { parts = s.parts ++ p ∷ [] }; reply = Kept }))) [
      | true ↦ λ e. goes sound (frame_does c s t op _ sound refl refl (taken_frame c s span committed s.parts sound) (live_quiet s t (live_is s.life live) refl) (λ page before. refl) refl)
          (λ after. OfferAbandoned (next_flight c s.parts) (next_flies c t))
      | false ↦ λ e. goes sound (kept_does c s heard found span committed is sound live (offer_placed c span committed s.offers sound.offered h) e)
          (λ after. OfferKept span committed is (last_flies c (record t { parts = s.parts ++ p ∷ [] }) s.parts p committed after refl (itself c) refl))
    ] refl
offer_done_goes c s heard found ask answer is sound live h = absurd (cc)
