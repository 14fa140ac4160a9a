-- Words of digits, as std says of them.
use Rattle.text_words.proofs.Names.{◌≡◌, ℕ, zero, suc, ◌+◌, ◌*◌, ◌^◌, ◌<◌, ◌≤◌, true, List, [], ◌∷◌, length, get_or, take, Some, None, inl, inr, refl, arith, digit_value, is_ascii_digit, list_all, AllDigits, digits_value, mul-le-mul_right, pow-le-pow_right, and_parts, cases_lt, le-ltb, nat_tests, pow_more, digits_value-lt, digits_value_more, length-take-le, digits_value-take-le, is_digit_in, value_in}

-- a digit in a base is below it
pub digit_in_below : (base c : ℕ) → 10 ≤ base → is_digit_in base c ≡ true → digit_value c < base
digit_in_below base c low h = grind (arith, nat_tests)

-- a word of digits in a base has std's digits in that base
pub digits_in : (base : ℕ) (word : List ℕ) → 10 ≤ base → list_all (is_digit_in base) word ≡ true → AllDigits base word
digits_in base [] low h = tt
digits_in base (c ∷ cs) low h =
    let parts = and_parts (is_digit_in base c) (list_all (is_digit_in base) cs) h in
    (digit_in_below base c low parts.0, digits_in base cs low parts.1)

-- a word of decimal digits has std's digits in base 10
pub decimal_digits : (word : List ℕ) → list_all is_ascii_digit word ≡ true → AllDigits 10 word
decimal_digits word h = digits_in 10 word (omega arith) h

-- so many digits fit whatever they are
pub decimals_fit : (n : ℕ) → n ≤ 19 → 10 ^ n ≤ 2 ^ 64
decimals_fit n few = let le : 10 ^ n ≤ 10 ^ 19 = pow-le-pow_right (omega arith) few in omega (arith, le)

pub hexadecimals_fit : (n : ℕ) → n ≤ 16 → 16 ^ n ≤ 2 ^ 64
hexadecimals_fit n few = pow-le-pow_right (omega arith) few

-- where so many digits fit whatever they are, there is room for one more behind a front
pub room_behind : (base : ℕ) (ds : List ℕ) (i v : ℕ) → 10 ≤ base → i < length ds → base ^ length ds ≤ 2 ^ 64 → list_all (is_digit_in base) (take i ds) ≡ true → v ≡ digits_value base (take i ds) → v * base + base ≤ 2 ^ 64
room_behind base ds i v low lt fits h e =
    let below : suc v ≤ base ^ i = rw (← e, length-take-le i ds (omega (arith, lt))) at (digits_value-lt base (take i ds) (digits_in base (take i ds) low h)) in
    let times = mul-le-mul_right base below in
    let high : base ^ (i + 1) ≤ base ^ length ds = pow-le-pow_right (omega (arith, low)) (omega (arith, lt)) in
    omega (arith, times, pow_more base i, high, fits)

-- each digit of such a word is below the base
pub digit_below : (base : ℕ) (ds : List ℕ) (i : ℕ) → AllDigits base ds → i < length ds → digit_value (get_or ds i 0) < base
digit_below base [] i h lt = absurd (omega (arith, lt))
digit_below base (c ∷ cs) zero h lt = h.0
digit_below base (c ∷ cs) (suc i) h lt = digit_below base cs i h.1 (omega arith)

-- a front of the digits that doesn't fit with its next digit shows that all of them don't
pub front_too_large : (base : ℕ) (ds : List ℕ) (i v : ℕ) → 1 ≤ base → i < length ds → v ≡ digits_value base (take i ds) → (v * base + digit_value (get_or ds i 0) < 2 ^ 64 → ⊥) → None ≡ value_in base ds
front_too_large base ds i v one lt e large =
    let more = digits_value_more base ds i lt in
    let le = digits_value-take-le base ds (i + 1) one in
    let next : digits_value base (take (i + 1) ds) ≡ v * base + digit_value (get_or ds i 0) = rw e more in
    let all : 2 ^ 64 ≤ digits_value base ds = elim (cases_lt (v * base + digit_value (get_or ds i 0)) (2 ^ 64)) [ inl small ↦ absurd (large small) | inr big ↦ omega (arith, big, le, next) ] in
    rw (le-ltb _ _ all) refl

-- all of the digits, where they fit
pub all_fit : (base : ℕ) (ds : List ℕ) (v : ℕ) → v < 2 ^ 64 → v ≡ digits_value base ds → Some v ≡ value_in base ds
all_fit base ds v small e = grind (arith, nat_tests)
