-- What a client has where a region of its own takes another class.
use Rattle.sits.proofs.Words.{[], ◌≡◌, ◌≢◌, ◌⊎◌, inl, inr, ℕ, ◌+◌, ◌*◌, ◌<◌, ◌≤◌, ◌==◌, true, false, not, cond, List, ◌∷◌, Option, None, Some, refl, sym, ◌∙◌, ap, subst, arith, filter, find, count_by, nat_lt, position_or_len, sum_by, sum_by-cons, sum_by-insert, Region, inserted, is_held_by, ones, address_of, sum_by-filter_both, pages_at, step_of, Stepped, stays, reclassing, reclassing_with, AskPoint, Cutting, Joining, Resize, Reply, Space, Part, Sound, mine, Held, DeskFacts, desk_told, held_region, own_span, IsResize, AnswersTo, is_region, SuitsResize, is_flight_at, eqb_itself, Bool, nat_tests, IsOf, IsTheLarge}
use Rattle.space_model.specs.Clients.{without_client}
use Rattle.space_model.specs.Stepped.{whole_at}
use Rattle.space_model.proofs.Lists.{find-le-sum_by}
use Rattle.space_model.specs.Region.{starts_at}
use Rattle.space_model.specs.Resizing.{after_join, after_trim_done, is_large_at, large_home, reclassed, trimmed_at, widened_at}
use Rattle.call_plan.specs.Knows.{Alone, Narrows, Widens}
use Rattle.call_plan.specs.Words.{Split, Merge, Answer, Placed, Done, Span}
use Rattle.call_plan.proofs.Getting.{alone_found}
use Rattle.call_plan.proofs.Large.{LargeIs, one_region, resize_is}
use Rattle.space_model.proofs.Resizes.{Home, home_found}
use Rattle.sits.proofs.Counting.{as_many, shifts}
use Rattle.sits.proofs.Hands.{Count, Hands, Single, counts_itself}
use Rattle.sits.proofs.Having.{Shaped, of_hand, over, reclass_over}
use Rattle.sits.proofs.Regions.{count_at, count_sum, one_at, one_in}
use Rattle.sits.proofs.Indexes.{at_or_else}
use Rattle.space_model.specs.declared.Answer.TheVariants as answers

-- ---- what the arena has

-- the client holds one region less of the old class, and one more of the new one
pub reclass_counts : (c a k class : ℕ) (s : Space) (test : Region → Bool) (r : Region) → Sound s → find test s.regions ≡ Some r → is_held_by c r ≡ true →
    count_at c a k (reclassed r class s.regions) + ones (is_region a k r) ≡ count_at c a k s.regions + ones (is_region a k (record r { class = class }))
reclass_counts c a k class s test r sound found held =
    let other : Region = record r { class = class } in
    let rest : List Region = filter (λ q. not (starts_at r.addr q)) s.regions in
    let own : one_at c a k r ≡ ones (is_region a k r) = ap (λ v. cond v (ones (is_region a k r)) 0) held in
    let new : one_at c a k other ≡ ones (is_region a k other) = ap (λ v. cond v (ones (is_region a k other)) 0) held in
    let sole = ap (sum_by (one_at c a k)) (one_region s test r sound found) in
    omega (
      arith,
      own,
      new,
      sole,
      sum_by-cons (one_at c a k) r [],
      count_sum c a k (reclassed r class s.regions),
      count_sum c a k s.regions,
      sum_by-insert (one_at c a k) rest (position_or_len (λ (q : Region). nat_lt other.addr q.addr) rest) other,
      sum_by-filter_both (starts_at r.addr) (λ q. not (starts_at r.addr q)) (λ q. refl) (one_at c a k) s.regions,
    )

-- What the turn leaves that took in the answer to the split or the merge of a region's extent: all regions as they were, and all
-- that the client has; or the region in hand with the class.
abbrev pub Resized : ℕ → Space → DeskFacts → Resize → Space → DeskFacts → Type 0
Resized c s desk resize t after =
    ((t.regions ≡ s.regions) × (after ≡ desk))
    ⊎ ((class : ℕ) × (is : LargeIs c s resize.addr class) × (t.regions ≡ reclassed is.region resize.class s.regions) × (after ≡ reclassing resize.class desk))

pub cut_resized : (c : ℕ) (s : Space) (desk : DeskFacts) (resize : Resize) (answer : Answer) → Sound s → IsResize (mine c s) resize → AnswersTo (Split (own_span resize) (pages_at resize.class)) answer →
    (u : Stepped) → u ≡ after_trim_done s c resize.class (Split (own_span resize) (pages_at resize.class)) answer → Resized c s desk resize u.after (desk_told desk (Cutting resize) u.reply)
cut_resized c s desk resize Done sound is kind u e =
    let large = resize_is c s resize sound is in
    let here : address_of (own_span resize).first ≡ resize.addr = omega (arith, large.start) in
    let home : large_home s c (address_of (own_span resize).first) ≡ Some (large.region, large.part) = ap (large_home s c) here ∙ large.home in
    let at : u ≡ trimmed_at (record s { trims = without_client c s.trims }) c (pages_at resize.class) resize.class (Some (large.region, large.part)) =
    e ∙ ap (trimmed_at (record s { trims = without_client c s.trims }) c (pages_at resize.class) resize.class) home in
    subst (λ (x : Stepped). Resized c s desk resize x.after (desk_told desk (Cutting resize) x.reply)) (sym at) (inr (is.class, large, refl, refl))
cut_resized c s desk resize answers.Refused sound is kind u e = subst (λ (x : Stepped). Resized c s desk resize x.after (desk_told desk (Cutting resize) x.reply)) (sym e) (inl (refl, refl))
cut_resized c s desk resize (Placed b zeroed first) sound is kind u e = absurd (kind first b zeroed refl)

pub join_resized : (c : ℕ) (s : Space) (desk : DeskFacts) (resize : Resize) (span : Span) (answer : Answer) → Sound s → IsResize (mine c s) resize → Alone (mine c s) span true → AnswersTo (Merge (own_span resize) span) answer →
    (u : Stepped) → u ≡ after_join s c resize.class (Merge (own_span resize) span) answer → Resized c s desk resize u.after (desk_told desk (Joining resize span) u.reply)
join_resized c s desk resize span Done sound is alone kind u e =
    let large = resize_is c s resize sound is in
    let here : address_of (own_span resize).first ≡ resize.addr = omega (arith, large.start) in
    let home : large_home s c (address_of (own_span resize).first) ≡ Some (large.region, large.part) = ap (large_home s c) here ∙ large.home in
    let at : u ≡ widened_at s resize.class (Some (large.region, large.part)) (Some alone.part) =
    e ∙ ap (λ o. widened_at s resize.class o (find (is_flight_at c span) s.parts)) home ∙ ap (widened_at s resize.class (Some (large.region, large.part))) (alone_found c s span true alone) in
    subst (λ (x : Stepped). Resized c s desk resize x.after (desk_told desk (Joining resize span) x.reply)) (sym at) (inr (is.class, large, refl, refl))
join_resized c s desk resize span answers.Refused sound is alone kind u e =
    let at = e ∙ ap (whole_at s) (alone_found c s span true alone) in
    subst (λ (x : Stepped). Resized c s desk resize x.after (desk_told desk (Joining resize span) x.reply)) (sym at) (inl (refl, refl))
join_resized c s desk resize span (Placed b zeroed first) sound is alone kind u e = absurd (kind first b zeroed refl)

-- ---- what the client has

-- the region in hand is of the class that it has in its arena
hand_class : {together : Bool} (n : Count) (c arena : ℕ) (s : Space) (desk : DeskFacts) (h : Held) (addr class : ℕ) → Single together n → Hands together n [] desk → ((a k : ℕ) → n arena a k ≡ count_at c a k s.regions) →
    desk.hand ≡ Some h → h.addr ≡ addr → h.arena ≡ arena → 0 < count_at c addr class s.regions → h.class ≡ class
hand_class n c arena s desk h addr class single hands counted e at home there =
    let own : of_hand (one_in h.arena h.addr h.class) desk.hand ≡ one_in h.arena h.addr h.class h = ap (of_hand (one_in h.arena h.addr h.class)) e in
    let had = (hands h.arena h.addr h.class).within in
    let one : 0 < n h.arena h.addr h.class = omega (arith, had, own, counts_itself h) in
    let two : 0 < n arena addr class = omega (arith, there, counted addr class) in
    single.alone h.arena h.addr h.class class one (subst (λ i. 0 < n i h.addr class) (sym home) (subst (λ a. 0 < n arena a class) (sym at) two))

-- a region that is found counts
counted_there : (c a k : ℕ) (test : Region → Bool) (r : Region) (rs : List Region) → find test rs ≡ Some r → is_held_by c r ≡ true → is_region a k r ≡ true → 0 < count_at c a k rs
counted_there c a k test r rs found held is =
    let one : one_at c a k r ≡ 1 = ap (λ v. cond v (ones (is_region a k r)) 0) held ∙ ap ones is in
    omega (arith, one, count_sum c a k rs, find-le-sum_by (one_at c a k) test rs r found)

pub hands_reclass : {together : Bool} (n m : Count) (c arena : ℕ) (s t : Space) (desk : DeskFacts) (resize : Resize) (class : ℕ) (is : LargeIs c s resize.addr class) → Sound s → Single together n → Hands together n [] desk →
    ((a k : ℕ) → n arena a k ≡ count_at c a k s.regions) → ((a k : ℕ) → m arena a k ≡ count_at c a k t.regions) → ((i a k : ℕ) → i ≢ arena → m i a k ≡ n i a k) →
    t.regions ≡ reclassed is.region resize.class s.regions → SuitsResize desk arena resize → Hands together m [] (reclassing resize.class desk)
hands_reclass {together} n m c arena s t desk resize class is sound single hands counted now others left suits i a k = by desk.hand refl suits.0
  where
    found : Home c s resize.addr (is.region, is.part)
    found = home_found c s resize.addr (is.region, is.part) is.home

    by : (hand : Option Held) → desk.hand ≡ hand → IsTheLarge arena resize hand → IsOf together (sum_by (one_in i a k) [] + over (one_in i a k) (reclassing resize.class desk)) (m i a k)
    by None e own = absurd own
    by (Some h) e own =
        let r : Region = is.region in
        let is_it : is_region resize.addr class r ≡ true = rw (is.address, is.of_class, eqb_itself resize.addr, eqb_itself class) refl in
        let same = hand_class n c arena s desk h resize.addr class single hands counted e own.0 own.1 (counted_there c resize.addr class (is_large_at c resize.addr) r s.regions found.region found.held is_it) in
        let more = reclass_over (one_in i a k) desk h resize.class e suits.1 in
        at_or_else (λ j. IsOf together (sum_by (one_in j a k) [] + over (one_in j a k) (reclassing resize.class desk)) (m j a k)) i arena
        (λ home.
        let there = reclass_over (one_in arena a k) desk h resize.class e suits.1 in
        let was : one_in arena a k h ≡ ones (is_region a k r) = one_here h r own.1 (own.0 ∙ sym is.address) (same ∙ sym is.of_class) in
        let then : one_in arena a k (record h { class = resize.class }) ≡ ones (is_region a k (record r { class = resize.class })) = one_here (record h { class = resize.class }) (record r { class = resize.class }) own.1 (own.0 ∙ sym is.address) refl in
        let count = reclass_counts c a k resize.class s (is_large_at c resize.addr) r sound found.region found.held in
        let at : count_at c a k t.regions ≡ count_at c a k (reclassed r resize.class s.regions) = ap (count_at c a k) left in
        shifts (hands arena a k) (omega (arith, there, was, then, count, at, now a k, counted a k)))
        (λ differ.
        let was : one_in i a k h ≡ 0 = elsewhere h own.1 differ in
        let then : one_in i a k (record h { class = resize.class }) ≡ 0 = elsewhere (record h { class = resize.class }) own.1 differ in
        shifts (hands i a k) (omega (arith, more, was, then, others i a k differ)))
      where
        one_here : (q : Held) (x : Region) → q.arena ≡ arena → q.addr ≡ x.addr → q.class ≡ x.class → one_in arena a k q ≡ ones (is_region a k x)
        one_here q x home at kind = rw (home, at, kind, eqb_itself arena) refl

        elsewhere : (q : Held) → q.arena ≡ arena → i ≢ arena → one_in i a k q ≡ 0
        elsewhere q home differ = grind (arith, nat_tests)
