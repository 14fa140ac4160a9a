-- What the turns of a call leave that resizes a large region where it is: what it knows where it goes on.
use Rattle.call_plan.proofs.Words.{inl, inr, ◌≡◌, ◌≢◌, ℕ, ◌+◌, ◌-◌, ◌*◌, ◌<◌, ◌≤◌, ◌==◌, ◌&&◌, ◌++◌, Bool, true, false, not, cond, List, [], ◌∷◌, Option, None, Some, refl, sym, ◌∙◌, ap, subst, arith, nat_tests, cond_both, filter, find, list_any, eqb-true, both_true, find_passes, begins_at, begins_either, is_active, is_flight, taken_out, joined, Region, Space, Part, Span, Sound, Mine, mine, pages_at, same_span, end_of, Answer, Placed, Done, Noted, Nothing, Alloc, Commit, Split, Merge, AnswersTo, Widening, Narrowing, Resize, own_span, behind, lacks, whole_chunks, back, spare, extend, narrowed, extended, spared, backed, widened, turn_replied, IsResize, Widens, Narrows, Alone, Idle, Flies, Keeps, in_flight, length, leb-true}
use Rattle.space_model.specs.Part.{is_unused}
use Rattle.std.proofs.lemmas.List.Folds.{list_any-append}
use Rattle.std.specs.Option.{option_map}
use Rattle.space_model.specs.Clients.{without_client}
use Rattle.space_model.specs.Region.{address_of}
use Rattle.space_model.specs.Resizing.{after_join, after_trim, after_trim_done, after_widen, has_large, is_open, is_spare, large_home, trimmed_at, widen_at, widen_by, widened_at}
use Rattle.space_model.specs.Step.{after_grow, after_commit, after_cut}
use Rattle.space_model.specs.Stepped.{found_passes, high_piece, low_piece, stays}
use Rattle.call_plan.proofs.Large.{LargeIs, own_is, resize_is}
use Rattle.call_plan.proofs.Own.{flights_exchanged}
use Rattle.call_plan.proofs.Getting.{Onto, alloc_onto, alone_found, begins_itself, commit_onto, cut_onto, kept_span, replaced_idle, span_itself, whole_onto}
use Rattle.space_model.proofs.Moves.{itself}
use Rattle.space_model.specs.declared.Answer.TheVariants as answers

-- the client's large region is found at its address, and its extent passes what that passes
pub has_large_is : (c : ℕ) (s : Space) (addr class : ℕ) (test : Part → Bool) → (is : LargeIs c s addr class) → test is.part ≡ true → has_large s c addr test ≡ true
has_large_is c s addr class test is passes = ap (λ (o : Option (Region × Part)). found_passes test (option_map (λ home. home.1) o)) is.home ∙ passes

-- a region that the client still holds may be resized still
kept_resize : (m now : Mine) (resize : Resize) → now.regions ≡ m.regions → IsResize m resize → IsResize now resize
kept_resize m now resize same is = record {
  class = is.class;
  held = ap (list_any (λ (r : Region). r.addr == resize.addr && r.class == is.class)) same ∙ is.held;
  large = is.large;
  pages = is.pages;
  to_large = is.to_large;
  below = is.below;
}

kept_widens : (m now : Mine) (resize : Resize) → now.regions ≡ m.regions → Widens m resize → Widens now resize
kept_widens m now resize same (is, more) = (kept_resize m now resize same is, more)

-- ---- where a call goes on that has the pages which the region lacks

back_goes : (c : ℕ) (t : Space) (bound : ℕ) (resize : Resize) (span : Span) (b : Bool) → Widens (mine c t) resize → Alone (mine c t) span b → span.first ≡ behind resize → span.pages ≡ lacks resize →
    3 < bound → Keeps c t 2 bound (back resize span b)
back_goes c t bound resize span true widens alone at pages fewer = (((widens, alone, at, pages), tt), inr (refl, omega (arith, fewer)))
back_goes c t bound resize span false widens alone at pages fewer = (((widens, alone, at, pages), tt), inr (refl, omega (arith, fewer)))

spare_goes : (c : ℕ) (t : Space) (stage bound : ℕ) (resize : Resize) (span : Span) (b : Bool) → Widens (mine c t) resize → Alone (mine c t) span b → span.first ≡ behind resize → lacks resize ≤ span.pages →
    2 ≤ stage → 5 < bound + 6 * (stage - 2) → Keeps c t stage bound (spare resize span b)
spare_goes c t stage bound resize span b widens alone at most early fewer = grind (arith, nat_tests)

-- an extent in flight that the client has alone flies
alone_flies : (m : Mine) (span : Span) (b : Bool) (P : Part → Type 0) → (alone : Alone m span b) → P alone.part → Flies m span P
alone_flies m span b P alone is =
    let same : same_span alone.part.span span ≡ true = subst (λ x. same_span alone.part.span x ≡ true) alone.spans (span_itself alone.part.span) in
    record { part = alone.part; found = ap (in_flight span) alone.flights ∙ ap (λ (v : Bool). cond v (Some alone.part) None) same; is = is; calm = alone.calm }

extend_goes : (c : ℕ) (t : Space) (resize : Resize) (span : Span) (b : Bool) → Widens (mine c t) resize → Alone (mine c t) span b → lacks resize ≤ span.pages → Keeps c t 2 24 (extend resize span b)
extend_goes c t resize span b widens alone most =
    cond_both (span.first == behind resize) _ _ (Keeps c t 2 24)
    (λ h. spare_goes c t 2 24 resize span b widens alone (eqb-true _ _ h) most (omega arith) (omega arith))
    (λ h. let one = ap (λ (ps : List Part). length ps) alone.flights in ((omega arith, alone_flies (mine c t) span b (λ _. Unit {0}) alone tt, widens.0.below), inr (refl, omega (arith, one))))

-- ---- the looks

widened_by : (c : ℕ) (s : Space) (resize : Resize) (page : ℕ) (o : Option Part) → find (is_spare page (lacks resize)) s.parts ≡ o → page ≡ behind resize → Idle (mine c s) → Widens (mine c s) resize →
    Onto c (turn_replied (Widening resize)) 3 0 (widen_by s c page o)
widened_by c s resize page None e at idle widens =
    elim (is_open s.parts page) as (λ v. Onto c (turn_replied (Widening resize)) 3 0 (stays s (cond v Noted Nothing))) [
      | true ↦ (((idle, widens), tt), inl (omega arith))
      | false ↦ (idle, widens.0.below, omega arith)
    ]
widened_by c s resize page (Some p) e at idle widens =
    let passes = both_true (is_unused p.state && begins_at page p) _ (find_passes (is_spare page (lacks resize)) s.parts p e) in
    let first : p.span.first ≡ page = eqb-true _ _ (both_true (is_unused p.state) _ passes.0).1 in
    let taken : Part = taken_out c p in
    let t : Space = (widen_by s c page (Some p)).after in
    let alone : Alone (mine c t) p.span p.committed = record {
      part = taken;
      flights = replaced_idle c s (begins_at p.span.first) (taken ∷ []) idle.flights ∙ ap (λ (v : Bool). cond v (taken ∷ []) []) (itself c);
      spans = refl;
      committed = refl;
      calm = idle.calm;
    } in
    spare_goes c t 3 0 resize p.span p.committed (kept_widens (mine c s) (mine c t) resize refl widens) alone (first ∙ at) (leb-true _ _ passes.1) (omega arith) (omega arith)

pub widen_onto : (c : ℕ) (s : Space) (resize : Resize) → Sound s → Idle (mine c s) → Widens (mine c s) resize → Onto c (turn_replied (Widening resize)) 3 0 (after_widen s c resize.addr (pages_at resize.class))
widen_onto c s resize sound idle (is, more) =
    let large = resize_is c s resize sound is in
    let p : Part = large.part in
    let own = own_is c s resize is.class large is.pages in
    let first : p.span.first ≡ (own_span resize).first = ap (λ (x : Span). x.first) own in
    let pages : p.span.pages ≡ resize.pages = ap (λ (x : Span). x.pages) own in
    let at : end_of p.span ≡ behind resize = omega (arith, first, pages) in
    let lacking : pages_at resize.class - p.span.pages ≡ lacks resize = omega (arith, pages) in
    subst (λ o. Onto c (turn_replied (Widening resize)) 3 0 (widen_at s c (pages_at resize.class) o)) (sym large.home)
    (subst (λ n. Onto c (turn_replied (Widening resize)) 3 0 (widen_by s c (end_of p.span) (find (is_spare (end_of p.span) n) s.parts))) (sym lacking)
    (widened_by c s resize (end_of p.span) (find (is_spare (end_of p.span) (lacks resize)) s.parts) refl at idle (is, more)))

pub narrow_onto : (c : ℕ) (s : Space) (resize : Resize) → Idle (mine c s) → Narrows (mine c s) resize → Onto c (turn_replied (Narrowing resize)) 3 0 (after_trim s c)
narrow_onto c s resize idle narrows =
    let t : Space = (after_trim s c).after in
    let cuts : (mine c t).trims ≡ true = grind (arith, nat_tests, list_any-append (λ b. b == c) s.trims (c ∷ [])) in
    (((idle.flights, idle.calm.0, cuts, (kept_resize (mine c s) (mine c t) resize refl narrows.0, narrows.1)), tt), inl (omega arith))

-- ---- the answers that are taken in

pub extend_onto : (c : ℕ) (s : Space) (resize : Resize) (found : Option ℕ) (answer : Answer) → Idle (mine c s) → Widens (mine c s) resize → answer ≢ Done →
    Onto c (extended resize) 2 24 (after_grow s c found (Alloc false (Some (behind resize)) (whole_chunks (lacks resize)) 512) answer)
extend_onto c s resize found answer idle widens kind =
    alloc_onto c s (extended resize) 2 24 found (Some (behind resize)) (whole_chunks (lacks resize)) 512 answer idle kind
    (λ t e none. (none, widens.0.below, omega arith))
    (λ t e none why. (none, widens.0.below, omega arith))
    (λ t e span b pages alone. extend_goes c t resize span b (kept_widens (mine c s) (mine c t) resize e.1 widens) alone (omega (arith, pages)))

pub spare_onto : (c : ℕ) (s : Space) (resize : Resize) (span : Span) (b : Bool) (answer : Answer) → Widens (mine c s) resize → Alone (mine c s) span b → span.first ≡ behind resize → AnswersTo (Split span (lacks resize)) answer →
    Onto c (spared resize b) 2 4 (after_cut s c true (Split span (lacks resize)) answer)
spare_onto c s resize span b answer widens alone at kind =
    cut_onto c s (spared resize b) 2 4 true span (lacks resize) b answer alone kind
    (λ t e kept. back_goes c t 4 resize (kept_span true (lacks resize) span) b (kept_widens (mine c s) (mine c t) resize e.1 widens) kept at refl (omega arith))
    (λ t e idle. (idle, widens.0.below, omega arith))

pub back_up_onto : (c : ℕ) (s : Space) (resize : Resize) (span : Span) (answer : Answer) → Widens (mine c s) resize → Alone (mine c s) span false → span.first ≡ behind resize → span.pages ≡ lacks resize → AnswersTo (Commit span) answer →
    Onto c (backed resize span) 2 2 (after_commit s c (Commit span) answer)
back_up_onto c s resize span answer widens alone at pages kind =
    commit_onto c s (backed resize span) 2 2 span false answer alone kind
    (λ t e noted. (((kept_widens (mine c s) (mine c t) resize e.1 widens, noted, at, pages), tt), inr (refl, omega arith)))
    (λ t e idle. (idle, widens.0.below, omega arith))

-- ---- the merge

active_flies_not : (c : ℕ) (p : Part) → is_active p.state ≡ true → is_flight c p.state ≡ false
active_flies_not c p active = grind arith

pub join_up_onto : (c : ℕ) (s : Space) (resize : Resize) (span : Span) (answer : Answer) → Sound s → Widens (mine c s) resize → Alone (mine c s) span true → AnswersTo (Merge (own_span resize) span) answer →
    Onto c (widened resize) 2 0 (after_join s c resize.class (Merge (own_span resize) span) answer)
join_up_onto c s resize span Done sound (is, more) alone kind =
    let large = resize_is c s resize sound is in
    let p : Part = large.part in
    let q : Part = alone.part in
    let here : address_of (own_span resize).first ≡ resize.addr = omega (arith, large.start) in
    let home : large_home s c (address_of (own_span resize).first) ≡ Some (large.region, p) = ap (large_home s c) here ∙ large.home in
    let t : Space = (widened_at s resize.class (Some (large.region, p)) (Some q)).after in
    let gone : begins_either p q q ≡ true = grind (arith, begins_itself q) in
    let none : is_flight c p.state ≡ false = active_flies_not c p large.active in
    let idle : Idle (mine c t) = record {
      flights = flights_exchanged c (begins_either p q) s.parts (joined p q ∷ [])
          ∙ ap (λ ps. filter (λ x. not (begins_either p q x)) ps ++ filter (λ x. is_flight c x.state) (joined p q ∷ [])) alone.flights
          ∙ rw (gone, none) refl;
      calm = alone.calm;
    } in
    rw (home, alone_found c s span true alone) idle
join_up_onto c s resize span answers.Refused sound widens alone kind =
    whole_onto c s (widened resize) 2 0 span true alone (λ t e idle. (idle, widens.0.below, omega arith))
join_up_onto c s resize span (Placed b zeroed first) sound widens alone kind = absurd (kind first b zeroed refl)

-- ---- the split of the region's extent

-- nobody cuts a region twice
cut_over : (c : ℕ) (clients : List ℕ) → list_any (λ b. b == c) (without_client c clients) ≡ false
cut_over c [] = refl
cut_over c (b ∷ clients) = grind (arith, cut_over c clients)

pub trim_onto : (c : ℕ) (s : Space) (resize : Resize) (answer : Answer) → Sound s → (mine c s).flights ≡ [] → (mine c s).offers ≡ [] → Narrows (mine c s) resize → AnswersTo (Split (own_span resize) (pages_at resize.class)) answer →
    Onto c (narrowed resize) 2 0 (after_trim_done s c resize.class (Split (own_span resize) (pages_at resize.class)) answer)
trim_onto c s resize Done sound flights offers (is, fewer) kind =
    let large = resize_is c s resize sound is in
    let p : Part = large.part in
    let left : ℕ = pages_at resize.class in
    let high : Part = taken_out c (high_piece left p) in
    let low : Part = low_piece left p in
    let here : address_of (own_span resize).first ≡ resize.addr = omega (arith, large.start) in
    let home : large_home s c (address_of (own_span resize).first) ≡ Some (large.region, p) = ap (large_home s c) here ∙ large.home in
    let t : Space = (trimmed_at (record s { trims = without_client c s.trims }) c left resize.class (Some (large.region, p))).after in
    let none : is_flight c low.state ≡ false = active_flies_not c p large.active in
    let alone : Alone (mine c t) high.span high.committed = record {
      part = high;
      flights = replaced_idle c s (begins_at p.span.first) (low ∷ high ∷ []) flights ∙ rw (none, itself c) refl;
      spans = refl;
      committed = refl;
      calm = (offers, cut_over c s.trims);
    } in
    subst (λ o. Onto c (narrowed resize) 2 0 (trimmed_at (record s { trims = without_client c s.trims }) c left resize.class o)) (sym home)
    ((omega arith, alone_flies (mine c t) high.span high.committed (λ _. Unit {0}) alone tt, tt), inl (omega arith))
trim_onto c s resize answers.Refused sound flights offers narrows kind =
    (record { flights = flights; calm = (offers, cut_over c s.trims) }, narrows.0.below, omega arith)
trim_onto c s resize (Placed b zeroed first) sound flights offers narrows kind = absurd (kind first b zeroed refl)
