-- The decimal numbers that words write are those whose decimal digits the words are.
use Rattle.text_words.proofs.Names.{◌≡◌, ℕ, zero, suc, ◌^◌, ◌<◌, ◌≤◌, Bool, true, false, ltb, eqb, cond, List, [], ◌∷◌, length, get_or, Option, Some, None, Err, refl, sym, ap, subst, ◌∙◌, arith, not, is_ascii_digit, decimal, list_all, ok_or, result_ok, digits_value, and_parts, ltb-true, nat_tests, decimal-digits_value, digits_decimal, digits_value-decimal, decimal_nonempty, first_decimal, decimal_digit, IsNumeralModel, numerals_by_value, decimal_of, is_decimal, has_leading_zero, number_in, numeral_of, numeral_below, if_below, is_in_word, eqb-true, NotDigits, NotNumeral, option_and_then}

-- std's digits, as the test of a word says them
own : IsNumeralModel (λ ds. list_all is_ascii_digit ds ≡ true) (digits_value 10)
own = numerals_by_value _ (record {
  empty = refl;
  parts = λ c cs e. let k = and_parts (is_ascii_digit c) (list_all is_ascii_digit cs) e in (grind (arith, nat_tests), k.1);
  more = λ c cs k e. grind (arith, nat_tests);
})

-- a number is told where all tests hold
told_parts : (some led few : Bool) (v n : ℕ) → result_ok (cond some (cond led (Err NotNumeral) (ok_or (cond few (Some v) None) NotNumeral)) (Err NotDigits)) ≡ Some n
    → (some ≡ true) × (led ≡ false) × (few ≡ true) × (v ≡ n)
told_parts true false true v n e = (refl, refl, refl, grind arith)
told_parts true false false v n e = absurd cc
told_parts true true few v n e = absurd cc
told_parts false led few v n e = absurd cc

-- a 0 is the first digit only where it is the only one
lone_zero : (word : List ℕ) → 0 < length word → has_leading_zero word ≡ false → get_or word 0 0 ≡ 48 → length word ≡ 1
lone_zero word some h e = grind (arith, nat_tests)

-- a word that writes a number is the decimal digits of it
pub numeral_taken : (word : List ℕ) (n : ℕ) → numeral_of word ≡ Some n → (word ≡ decimal n) × (n < 2 ^ 64)
unfolding decimal_of number_in
numeral_taken word n e =
    let t = told_parts (is_decimal word) (has_leading_zero word) (ltb (digits_value 10 word) (2 ^ 64)) (digits_value 10 word) n e in
    let parts = and_parts (ltb 0 (length word)) (list_all is_ascii_digit word) t.0 in
    let small : digits_value 10 word < 2 ^ 64 = ltb-true _ _ t.2 in
    let some : 0 < length word = ltb-true _ _ parts.0 in
    (sym (decimal-digits_value own word parts.1 some (lone_zero word some t.1) small) ∙ ap decimal t.3, subst (λ (m : ℕ). m < 2 ^ 64) t.3 small)

some_test : (word : List ℕ) → 0 < length word → ltb 0 (length word) ≡ true
some_test word some = grind (arith, nat_tests)

first_test : (word : List ℕ) → 48 < get_or word 0 0 → has_leading_zero word ≡ false
first_test word first = grind (arith, nat_tests)

below_test : (n limit : ℕ) → n < limit → ltb n limit ≡ true
below_test n limit lt = grind (arith, nat_tests)

-- the decimal digits of a number are a word of decimal digits, without leading zeros
decimal_test : (n : ℕ) → n < 2 ^ 64 → (is_decimal (decimal n) ≡ true) × (has_leading_zero (decimal n) ≡ false)
decimal_test zero small = rw (decimal_digit 0 (omega arith)) (refl, refl)
decimal_test (suc n) small = (
  rw (some_test (decimal (suc n)) (decimal_nonempty (suc n) small), digits_decimal own (suc n) small) refl,
  first_test (decimal (suc n)) (first_decimal (suc n) (omega arith) small),
)

-- and write this number
pub numeral_told : (n : ℕ) → n < 2 ^ 64 → numeral_of (decimal n) ≡ Some n
unfolding decimal_of number_in
numeral_told n fits =
    let t = decimal_test n fits in
    rw (t.0, t.1, digits_value-decimal own n fits, below_test n (2 ^ 64) fits) refl

-- the same below a limit
pub narrow_taken : (limit : ℕ) (word : List ℕ) (n : ℕ) → numeral_below limit word ≡ Some n → (word ≡ decimal n) × (n < limit)
narrow_taken limit word n e = below (numeral_of word) refl e
  where
    same : (m : ℕ) → cond (ltb m limit) (Some m) None ≡ Some n → (m ≡ n) × (ltb m limit ≡ true)
    same m h = split (ltb m limit) h
      where
        split : (t : Bool) → cond t (Some m) None ≡ Some n → (m ≡ n) × (t ≡ true)
        split true h = (grind arith, refl)
        split false h = absurd cc

    below : (o : Option ℕ) → numeral_of word ≡ o → option_and_then (if_below limit) o ≡ Some n → (word ≡ decimal n) × (n < limit)
    below None is h = absurd cc
    below (Some m) is h =
        let s = same m h in
        ((numeral_taken word m is).0 ∙ ap decimal s.0, subst (λ (k : ℕ). k < limit) s.0 (ltb-true _ _ s.1))

pub narrow_told : (limit n : ℕ) → limit ≤ 2 ^ 64 → n < limit → numeral_below limit (decimal n) ≡ Some n
narrow_told limit n few lt = rw (numeral_told n (omega (arith, lt, few)), below_test n limit lt) refl

-- a digit is no separator, if that is none
no_separator : (separator c : ℕ) (t : Bool) → is_ascii_digit separator ≡ false → is_ascii_digit c ≡ true → eqb c separator ≡ t → not t ≡ true
no_separator separator c false other h e = refl
no_separator separator c true other h e = let same : c ≡ separator = eqb-true c separator e in absurd (apart (sym (rw same at h) ∙ other))
  where
    apart : true ≡ false → ⊥
    apart p = cc

-- so it doesn't stand in digits
digits_plain : (separator : ℕ) (word : List ℕ) → is_ascii_digit separator ≡ false → list_all is_ascii_digit word ≡ true → list_all (is_in_word separator) word ≡ true
digits_plain separator [] other h = refl
digits_plain separator (c ∷ cs) other h =
    let parts = and_parts (is_ascii_digit c) (list_all is_ascii_digit cs) h in
    rw (no_separator separator c (eqb c separator) other parts.0 refl, digits_plain separator cs other parts.1) refl

pub decimal_plain : (separator n : ℕ) → is_ascii_digit separator ≡ false → n < 2 ^ 64 → list_all (is_in_word separator) (decimal n) ≡ true
decimal_plain separator n other small = digits_plain separator (decimal n) other (digits_decimal own n small)
