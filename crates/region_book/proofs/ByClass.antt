-- Numbers by class and by holder, as lists.
use Rattle.region_book.proofs.Words.{◌≡◌, ◌≢◌, ℕ, ◌+◌, ◌<◌, not, cond, ltb, List, [], ◌∷◌, length, get_or, map, sym, refl, ap, ◌∙◌, arith, dite, ℕ_discrete, range_with_len, ext_get_or, length-map-range_with_len, get_or-map-range_with_len, sum_by-cons, size_at, Region, region_bytes, region_bytes_where, IsMoreAt}

-- the numbers of so many classes
abbrev pub tally : (ℕ → ℕ) → ℕ → List ℕ
tally f n = map f (range_with_len 0 n)

-- that of a class among them
pub at_tally : (f : ℕ → ℕ) (n class : ℕ) → class < n → get_or (tally f n) class 0 ≡ f class
at_tally f n class low = get_or-map-range_with_len f 0 n class class 0 low (omega arith)

-- a list that has each of them
pub is_tally : (ns : List ℕ) (f : ℕ → ℕ) (n : ℕ) → length ns ≡ n → ((k : ℕ) → k < n → get_or ns k 0 ≡ f k) → ns ≡ tally f n
is_tally ns f n len same = ext_get_or 0 ns (tally f n) (len ∙ sym (length-map-range_with_len f 0 n)) (λ k lt. same k (omega arith) ∙ sym (at_tally f n k (omega arith)))

-- numbers of which one is higher, or was
pub tally_more : (f g : ℕ → ℕ) (n place count : ℕ) (less more : List ℕ) → IsMoreAt place count less more → g place ≡ f place + count → ((k : ℕ) → k ≢ place → g k ≡ f k) → less ≡ tally f n → more ≡ tally g n
tally_more f g n place count less more is here others e =
    is_tally more g n (is.len ∙ ap length e ∙ length-map-range_with_len f 0 n) (λ k lt.
    let was = ap (λ ns. get_or ns k 0) e ∙ at_tally f n k lt in
    dite (ℕ_discrete k place)
    (λ same. let at : get_or less place 0 ≡ f place = ap (λ j. get_or less j 0) (sym same) ∙ was ∙ ap f same in ap (λ j. get_or more j 0) same ∙ is.here ∙ ap (λ m. m + count) at ∙ sym here ∙ ap g (sym same))
    (λ other. is.others k other ∙ was ∙ sym (others k other)))

pub tally_less : (f g : ℕ → ℕ) (n place count : ℕ) (less more : List ℕ) → IsMoreAt place count less more → g place ≡ f place + count → ((k : ℕ) → k ≢ place → g k ≡ f k) → more ≡ tally g n → less ≡ tally f n
tally_less f g n place count less more is here others e =
    is_tally less f n (sym is.len ∙ ap length e ∙ length-map-range_with_len g 0 n) (λ k lt.
    let was = ap (λ ns. get_or ns k 0) e ∙ at_tally g n k lt in
    dite (ℕ_discrete k place)
    (λ same. let at : get_or more place 0 ≡ g place = ap (λ j. get_or more j 0) (sym same) ∙ was ∙ ap g same in let one = is.here in let two : get_or less place 0 ≡ f place = omega arith in ap (λ j. get_or less j 0) same ∙ two ∙ ap f (sym same))
    (λ other. sym (is.others k other) ∙ was ∙ others k other))

-- the bytes of the small and of the large ones are all bytes
pub both_bytes : (regions : List Region) → region_bytes_where (λ class. ltb class 36) regions + region_bytes_where (λ class. not (ltb class 36)) regions ≡ region_bytes regions
both_bytes [] = refl
both_bytes (r ∷ rs) =
    grind (
      arith,
      both_bytes rs,
      sum_by-cons (λ (q : Region). cond (ltb q.class 36) (size_at q.class) 0) r rs,
      sum_by-cons (λ (q : Region). cond (not (ltb q.class 36)) (size_at q.class) 0) r rs,
      sum_by-cons (λ (q : Region). size_at q.class) r rs,
    )
