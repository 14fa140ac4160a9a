-- What the slow machine's arithmetic needs: that what it adds and multiplies fits.
use Rattle.std.proofs.Common.{◌≡◌, ℕ, ◌+◌, ◌*◌, ◌-◌, ◌^◌, ◌<◌, ◌≤◌, max, Bool, true, false, cond, IsTrue, List, [], ◌∷◌, length, Some, None, refl, sym, ◌∙◌, ap, subst, inl, inr, arith, All, AllPairs, ltb as nat_lt, ltb-false, ◌++◌, suc, drop, append-nil, take_all, drop_of_length-le, Result, Ok, Err, IfOk}
use Rattle.space_model.proofs.Decay.{weighed_le, weighed_old}
use Rattle.space_model.proofs.Lists.{find_has, find_passes}
use Rattle.space_model.proofs.Pieces.{found_fits}
use Rattle.space_model.proofs.Resizes.{home_found}
use Rattle.space_model.proofs.Sums.{bytes_le, region_bytes_fits}
use Rattle.std.proofs.lemmas.Option.{cond_some}
use Rattle.plain_machine.proofs.Words.{nat_tests, find, position, position_or_len, remove, mul-le-mul, div-le_self, cases_lt, sum_by, sum_by-cons, sum_by-le-sum_by, All-head, All-tail, size_at, regions_at, size_bounds, slab_filled, Added, Answer, Split, State, Part, Region, Span, Space, IsPlaced, is_flight_at, houses, bytes_of, bytes_where, region_bytes_where, pages_end, weighed, limit_at, cut_stands, land_stands, large_home, Sound}

-- ---- CutDone

-- the numbers of an extent that may be cut
pub cut_bounds : (c : ℕ) (s : Space) (span : Span) (left : ℕ) (answer : Answer) (p : Part) → Sound s →
    IsTrue (cut_stands s c (Split span left) answer) → find (is_flight_at c span) s.parts ≡ Some p →
    (left ≤ p.span.pages) × (p.span.first + p.span.pages < 2 ^ 64)
cut_bounds c s span left answer p sound h found =
    let passes = find_passes (is_flight_at c span) s.parts p found in
    let placed : IsPlaced p.span = find_has (λ q. IsPlaced q.span) (is_flight_at c span) s.parts p sound.placed found in
    (grind (arith, nat_tests, passes), omega (arith, placed.2))

-- ---- Land

-- the regions that land end before the end of the numbers
pub land_fits : (c : ℕ) (s : Space) (span : Span) (class count : ℕ) (p : Part) → Sound s → IsTrue (land_stands s c span class count) →
    find (is_flight_at c span) s.parts ≡ Some p →
    (class < 121) × (p.span.first < 2 ^ 52) × (4096 * p.span.first + count * size_at class < 2 ^ 64)
land_fits c s span class count p sound h found =
    let class_fits : class < 121 = grind (arith, nat_tests) in
    let few : class < 36 → regions_at class ≤ 512 = λ small. (slab_filled class small).2 in
    let most : count ≤ 512 = grind (arith, nat_tests, few) in
    let placed = (found_fits s (is_flight_at c span) p sound found).placed in
    let bytes : count * size_at class ≤ 512 * 2 ^ 35 = mul-le-mul most (size_bounds class class_fits).1 in
    (class_fits, omega (arith, placed.2), omega (arith, placed.2, bytes))

-- ---- Fill

-- what holds of all of a list holds of all of what is told to be that list
pub told_all : {V E : Type 0} (items : V → List Part) (P : Part → Type 0) (ps : List Part) (r : Result V E) → IfOk r (λ v. items v ≡ ps) → All P ps →
    IfOk r (λ v. All P (items v))
told_all items P ps (Ok v) same all = subst (All P) (sym same) all
told_all items P ps (Err e) same all = tt

-- ---- Advance

-- how many epochs count from a lowest one on
abbrev counting : ℕ → ℕ → ℕ
counting epoch low = epoch + 1 - max low (epoch - 199)

-- additions of different epochs weigh at most as much as all pages in each epoch that counts
weights_le : (epoch low : ℕ) (added : List Added) → All (λ a. low ≤ a.epoch) added → All (λ a. a.pages ≤ pages_end) added →
    All (λ a. a.epoch ≤ epoch) added → AllPairs (λ a b. a.epoch < b.epoch) added → sum_by (weighed epoch) added ≤ counting epoch low * 2 ^ 53
weights_le epoch low [] above pages past rising = omega arith
weights_le epoch low (a ∷ rest) above pages past rising =
    let here : low ≤ a.epoch = All-head (λ a. low ≤ a.epoch) a rest above in
    let now : a.epoch ≤ epoch = All-head (λ a. a.epoch ≤ epoch) a rest past in
    let left : sum_by (weighed epoch) rest ≤ counting epoch (a.epoch + 1) * 2 ^ 53 =
    weights_le epoch (a.epoch + 1) rest (λ k d lt. let later : a.epoch < _ = rising 0 (suc k) d (omega arith) (omega arith) in omega arith)
    (All-tail (λ a. a.pages ≤ pages_end) a rest pages) (All-tail (λ a. a.epoch ≤ epoch) a rest past)
    (λ i j d lt within. rising (suc i) (suc j) d (omega arith) (omega arith)) in
    let most : weighed epoch a ≤ 2 ^ 53 = weighed_le epoch a (All-head (λ a. a.pages ≤ pages_end) a rest pages) in
    elim (cases_lt (epoch - a.epoch) 200) [
      | inl young ↦ omega (arith, sum_by-cons (weighed epoch) a rest, left, most, here, now)
      | inr old ↦ omega (arith, sum_by-cons (weighed epoch) a rest, left, weighed_old epoch a old, here, now)
    ]

-- so the limit fits
pub limit_fits : (epoch : ℕ) (added : List Added) → All (λ a. a.pages ≤ pages_end) added → All (λ a. a.epoch ≤ epoch) added →
    AllPairs (λ a b. a.epoch < b.epoch) added → limit_at epoch added < 2 ^ 64
limit_fits epoch added pages past rising =
    omega (arith, div-le_self (sum_by (weighed epoch) added) (2 ^ 24), weights_le epoch 0 added (λ k d lt. omega arith) pages past rising)

-- ---- OfferDone

-- the place that was found is the first
pub first_place : {X : Type 0} (test : X → Bool) (xs : List X) (i : ℕ) → position test xs ≡ Some i → i ≡ position_or_len test xs
first_place test xs i h = sym (cond_some (nat_lt (position_or_len test xs) (length xs)) (position_or_len test xs) i h).1

-- nothing goes where no place was found
pub no_place : {X : Type 0} (test : X → Bool) (xs : List X) → position test xs ≡ None → remove xs (position_or_len test xs) ≡ xs
no_place test xs h =
    elim (nat_lt (position_or_len test xs) (length xs)) as (λ b. nat_lt (position_or_len test xs) (length xs) ≡ b → cond b (Some (position_or_len test xs)) None ≡ None → remove xs (position_or_len test xs) ≡ xs) [
      | true ↦ λ here e. cc
      | false ↦ λ past e.
          let all : length xs ≤ position_or_len test xs = ltb-false _ _ past in
          ap (λ ys. ys ++ drop (suc (position_or_len test xs)) xs) (take_all (position_or_len test xs) xs all)
          ∙ ap (λ ys. xs ++ ys) (let past : length xs ≤ suc (position_or_len test xs) = omega arith in drop_of_length-le xs past) ∙ append-nil xs
    ] refl h

-- ---- Widen, JoinDone and TrimDone

-- the extent of a large region lies in the space
pub home_placed : (s : Space) (c addr : ℕ) (home : Region × Part) → Sound s → large_home s c addr ≡ Some home → IsPlaced home.1.span
home_placed s c addr home sound found = (found_fits s (λ p. houses p home.0) home.1 sound (home_found c s addr home found).house).placed

-- ---- Counts

-- the bytes of some of the extents fit
pub bytes_where_fits : (test : State → Bool) (s : Space) → Sound s → bytes_where test s.parts ≤ 2 ^ 41
bytes_where_fits test s sound =
    omega (arith, bytes_le s sound, sum_by-le-sum_by (λ (p : Part). cond (test p.state) (bytes_of p) 0) bytes_of s.parts (λ p. grind arith))

-- the regions of some classes have no more bytes
pub region_bytes_where_fits : (test : ℕ → Bool) (s : Space) → Sound s → region_bytes_where test s.regions ≤ 2 ^ 41
region_bytes_where_fits test s sound =
    omega (
      arith,
      region_bytes_fits s sound,
      sum_by-le-sum_by (λ (r : Region). cond (test r.class) (size_at r.class) 0) (λ r. size_at r.class) s.regions (λ r. grind arith),
    )
