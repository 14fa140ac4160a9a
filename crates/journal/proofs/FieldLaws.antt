-- The fields of entries are read as they were written.
use Rattle.std.proofs.Common.{◌≡◌, ℕ, zero, suc, ◌-◌, ◌^◌, ◌<◌, ◌≤◌, ℤ, pos, negsuc, Bool, true, false, cond, eqb, leb, List, [], ◌∷◌, ◌++◌, length, map, Option, None, Some, refl, sym, ap, subst, ◌∙◌, arith, inl, inr, append_assoc, append-nil, Err}
use Rattle.std.specs.Prelude.{not, ◌&&◌, option_map, option_and_then, codes}
use Rattle.std.specs.Fmt.{decimal, signed_decimal}
use Rattle.std.specs.List.{AllByRecursion, list_all}
use Rattle.std.specs.Str.{bytes_eq}
use Rattle.std.proofs.lemmas.Bool.{and_parts, leb-true, le-leb, eqb-true}
use Rattle.std.proofs.lemmas.Bool.Decides.{nat_tests}
use Rattle.std.proofs.lemmas.Option.{cond_some, some_pair_parts}
unfoldable use Rattle.text_words.specs.Numbers.{decimal_of}
use Rattle.text_words.specs.Numbers.{numeral_below, numeral_of}
use Rattle.text_words.specs.Words.{is_in_word}
use Rattle.text_words.proofs.Numerals.{narrow_taken, narrow_told, numeral_taken, numeral_told, decimal_plain as no_separator_in}
use Rattle.journal.specs.Codec.{Reads, Words, one}
use Rattle.journal.specs.declared.faults.ReadFault.{ReadFault}
use Rattle.journal.specs.declared.faults.ReadFault.TheVariants.{NotEntry, NoMemory}
unfoldable use Rattle.journal.specs.Fields.{FitsAll, FitsMaybe, FitsSpan, FitsTime, flag, flag_of, flag_word, many, maybe, maybe_of, maybe_word, byte, int, long, numbers_of, negative, signed, signed_of, span}
use Rattle.journal.proofs.Exact.{Exact, IsPlain, chosen, same_some, exact_both, exact_one, exact_via, map_some, then_some, same_bytes}

-- ---- numbers

-- decimal digits have no space and no newline
decimal_plain : (n : ℕ) → n < 2 ^ 64 → IsPlain (decimal n)
decimal_plain n small = (no_separator_in 32 n refl small, no_separator_in 10 n refl small)

pub exact_long : Exact (λ n. n < 2 ^ 64) long
exact_long = exact_one (λ n. n < 2 ^ 64) decimal numeral_of numeral_taken (λ n f. (numeral_told n f, decimal_plain n f))

exact_narrow : (limit : ℕ) → limit ≤ 2 ^ 64 → Exact (λ n. n < limit) (one decimal (numeral_below limit))
exact_narrow limit few =
    exact_one (λ n. n < limit) decimal (numeral_below limit) (narrow_taken limit) (λ n f. (narrow_told limit n few f, decimal_plain n (omega (arith, f, few))))

pub exact_int : Exact (λ n. n < 2 ^ 32) int
exact_int = exact_narrow (2 ^ 32) (omega arith)

pub exact_byte : Exact (λ n. n < 2 ^ 8) byte
exact_byte = exact_narrow (2 ^ 8) (omega arith)

-- ---- truth values

flag_taken : (word : List ℕ) (b : Bool) → flag_of word ≡ Some b → (word ≡ flag_word b) × Unit {0}
unfolding flag_of
flag_taken word b e =
    elim (chosen (bytes_eq word (codes "1")) (Some true) (cond (bytes_eq word (codes "0")) (Some false) None) (Some b) e) [
      | inl p ↦ (same_bytes word (codes "1") p.0 ∙ ap flag_word (same_some p.1), tt)
      | inr p ↦ let c = cond_some (bytes_eq word (codes "0")) false b p.1 in (same_bytes word (codes "0") c.0 ∙ ap flag_word c.1, tt)
    ]

flag_told : (b : Bool) → Unit {0} → (flag_of (flag_word b) ≡ Some b) × IsPlain (flag_word b)
unfolding flag_of
flag_told true f = (refl, (refl, refl))
flag_told false f = (refl, (refl, refl))

pub exact_flag : Exact (λ b. Unit {0}) flag
exact_flag = exact_one (λ b. Unit {0}) flag_word flag_of flag_taken flag_told

-- ---- numbers that may be absent

maybe_taken : (word : List ℕ) (o : Option ℕ) → maybe_of word ≡ Some o → (word ≡ maybe_word o) × FitsMaybe o
unfolding maybe_of
maybe_taken word o e =
    elim (chosen (bytes_eq word (codes "-")) (Some None) (option_map Some (numeral_of word)) (Some o) e) [
      | inl p ↦ subst (λ (q : Option ℕ). (word ≡ maybe_word q) × FitsMaybe q) (same_some p.1) (same_bytes word (codes "-") p.0, tt)
      | inr p ↦
          let m = map_some Some (numeral_of word) o p.1 in
          subst (λ (q : Option ℕ). (word ≡ maybe_word q) × FitsMaybe q) m.2 (numeral_taken word m.0 m.1)
    ]

-- decimal digits aren't a dash, and don't begin with one
pub not_equal : (t : Bool) → not t ≡ true → t ≡ false
not_equal true e = absurd cc
not_equal false e = refl

no_dash : (c : ℕ) (cs : List ℕ) → list_all (is_in_word 45) (c ∷ cs) ≡ true → eqb c 45 ≡ false
no_dash c cs h = not_equal (eqb c 45) (and_parts (is_in_word 45 c) (list_all (is_in_word 45) cs) h).0

not_dash : (word : List ℕ) → list_all (is_in_word 45) word ≡ true → bytes_eq word (codes "-") ≡ false
not_dash [] h = refl
not_dash (c ∷ cs) h = rw (no_dash c cs h) refl

maybe_told : (o : Option ℕ) → FitsMaybe o → (maybe_of (maybe_word o) ≡ Some o) × IsPlain (maybe_word o)
unfolding maybe_of
maybe_told None f = (refl, (refl, refl))
maybe_told (Some n) f = (rw (not_dash (decimal n) (no_separator_in 45 n refl f), numeral_told n f) refl, decimal_plain n f)

pub exact_maybe : Exact FitsMaybe maybe
exact_maybe = exact_one FitsMaybe maybe_word maybe_of maybe_taken maybe_told

-- ---- spans

pub exact_span : Exact FitsSpan span
exact_span = exact_via (λ x. record { first = x.0; pages = x.1 }) (λ s. (s.first, s.pages)) (exact_both exact_long exact_long) (λ x. refl) (λ s. refl) (λ x f. f) (λ s f. f)

-- ---- times

signed_numeral : (word : List ℕ) (n : ℕ) → list_all (is_in_word 45) word ≡ true → numeral_below (2 ^ 63) word ≡ Some n → signed_of word ≡ Some (pos n)
unfolding signed_of decimal_of
signed_numeral [] n plain told = absurd cc
signed_numeral (c ∷ cs) n plain told = rw (no_dash c cs plain, told) refl

some_number : (n : ℕ) → not (eqb n 0) ≡ true → 0 < n
some_number n h = grind (arith, nat_tests)

nonzero : (n : ℕ) → not (eqb (suc n) 0) ≡ true
nonzero n = grind (arith, nat_tests)

negative_taken : (digits : List ℕ) (n : ℕ) (z : ℤ) → digits ≡ decimal n → negative n ≡ Some z → (45 ∷ digits ≡ signed_decimal z) × FitsTime z
negative_taken digits n z text e =
    let c = cond_some (not (eqb n 0) && leb n (2 ^ 63)) (negsuc (n - 1)) z e in
    let parts = and_parts (not (eqb n 0)) (leb n (2 ^ 63)) c.0 in
    let some = some_number n parts.0 in
    let few : n ≤ 2 ^ 63 = leb-true _ _ parts.1 in
    let same : suc (n - 1) ≡ n = omega (arith, some) in
    let below : n - 1 < 2 ^ 63 = omega (arith, few, some) in
    subst (λ (y : ℤ). (45 ∷ digits ≡ signed_decimal y) × FitsTime y) c.1
    (ap (λ (ds : List ℕ). 45 ∷ ds) (text ∙ ap decimal (sym same)), below)

signed_taken : (word : List ℕ) (z : ℤ) → signed_of word ≡ Some z → (word ≡ signed_decimal z) × FitsTime z
unfolding signed_of
signed_taken [] z e = absurd cc
signed_taken (b ∷ digits) z e =
    elim (chosen (eqb b 45) (option_and_then negative (numeral_of digits)) (option_map pos (numeral_below (2 ^ 63) (b ∷ digits))) (Some z) e) [
      | inl p ↦
          let m = then_some negative (numeral_of digits) z p.1 in
          let t = negative_taken digits m.0 z (numeral_taken digits m.0 m.1).0 m.2 in
          (ap (λ (c : ℕ). c ∷ digits) (eqb-true b 45 p.0) ∙ t.0, t.1)
      | inr p ↦
          let m = map_some pos (numeral_below (2 ^ 63) (b ∷ digits)) z p.1 in
          subst (λ (y : ℤ). (b ∷ digits ≡ signed_decimal y) × FitsTime y) m.2 (narrow_taken (2 ^ 63) (b ∷ digits) m.0 m.1)
    ]

signed_told : (z : ℤ) → FitsTime z → (signed_of (signed_decimal z) ≡ Some z) × IsPlain (signed_decimal z)
unfolding signed_of
signed_told (pos n) f =
    let fits : n < 2 ^ 64 = omega (arith, f) in
    (signed_numeral (decimal n) n (no_separator_in 45 n refl fits) (narrow_told (2 ^ 63) n (omega arith) f), decimal_plain n fits)
signed_told (negsuc n) f =
    let fits : suc n < 2 ^ 64 = omega (arith, f) in
    let within : suc n ≤ 2 ^ 63 = omega (arith, f) in
    let less : suc n - 1 ≡ n = omega arith in
    (rw (numeral_told (suc n) fits, nonzero n, le-leb (suc n) (2 ^ 63) within, less) refl, decimal_plain (suc n) fits)

pub exact_signed : Exact FitsTime signed
exact_signed = exact_one FitsTime signed_decimal signed_of signed_taken signed_told

-- ---- several numbers

numbers_taken : (n : ℕ) (words : Words) (xs : List ℕ) (behind : Words) → numbers_of n words ≡ Some (xs, behind)
    → (words ≡ map decimal xs ++ behind) × (length xs ≡ n) × AllByRecursion (λ x. x < 2 ^ 64) xs
unfolding numbers_of
numbers_taken zero words xs behind e = let p = some_pair_parts [] xs words behind e in
    subst (λ (ys : List ℕ). (words ≡ map decimal ys ++ behind) × (length ys ≡ zero) × AllByRecursion (λ x. x < 2 ^ 64) ys) p.0 (p.1, refl, tt)
numbers_taken (suc n) words xs behind e =
    let m = then_some (λ (x : ℕ × Words). option_map (λ (y : List ℕ × Words). (x.0 ∷ y.0, y.1)) (numbers_of n x.1)) (long.reads words) (xs, behind) e in
    let k = map_some (λ (y : List ℕ × Words). (m.0.0 ∷ y.0, y.1)) (numbers_of n m.0.1) (xs, behind) m.2 in
    let value : m.0.0 ∷ k.0.0 ≡ xs = ap (λ (r : List ℕ × Words). r.0) k.2 in
    let left : k.0.1 ≡ behind = ap (λ (r : List ℕ × Words). r.1) k.2 in
    let first = exact_long.takes words m.0.0 m.0.1 m.1 in
    let others = numbers_taken n m.0.1 k.0.0 k.0.1 k.1 in
    subst (λ (ys : List ℕ). (words ≡ map decimal ys ++ behind) × (length ys ≡ suc n) × AllByRecursion (λ x. x < 2 ^ 64) ys) value
    (first.0 ∙ ap (λ (ws : Words). decimal m.0.0 ∷ ws) (others.0 ∙ ap (λ (ws : Words). map decimal k.0.0 ++ ws) left), ap suc others.1, (first.1, others.2))

numbers_again : (xs : List ℕ) (behind : Words) → AllByRecursion (λ x. x < 2 ^ 64) xs → numbers_of (length xs) (map decimal xs ++ behind) ≡ Some (xs, behind)
unfolding numbers_of
numbers_again [] behind f = refl
numbers_again (x ∷ xs) behind f = rw (numeral_told x f.0, numbers_again xs behind f.1) refl

numbers_plain : (xs : List ℕ) → AllByRecursion (λ x. x < 2 ^ 64) xs → AllByRecursion IsPlain (map decimal xs)
numbers_plain [] f = tt
numbers_plain (x ∷ xs) f = (decimal_plain x f.0, numbers_plain xs f.1)

pub exact_many : Exact FitsAll many
exact_many = record {
  takes = takes;
  again = λ xs behind f. rw (numeral_told (length xs) f.0) (numbers_again xs behind f.1);
  plain = λ xs f. (decimal_plain (length xs) f.0, numbers_plain xs f.1);
}
  where
    takes : (words : Words) (xs : List ℕ) (behind : Words) → many.reads words ≡ Some (xs, behind) → (words ≡ many.spell xs ++ behind) × FitsAll xs
    takes words xs behind e =
        let m = then_some (λ (x : ℕ × Words). numbers_of x.0 x.1) (long.reads words) (xs, behind) e in
        let first = exact_long.takes words m.0.0 m.0.1 m.1 in
        let others = numbers_taken m.0.0 m.0.1 xs behind m.2 in
        let count : m.0.0 ≡ length xs = sym others.1 in
        (first.0 ∙ ap (λ (ws : Words). decimal m.0.0 ∷ ws) others.0 ∙ ap (λ (k : ℕ). decimal k ∷ (map decimal xs ++ behind)) count, (subst (λ (k : ℕ). k < 2 ^ 64) count first.1, others.2))

-- numbers in front of those that are read
abbrev pub with_front : List ℕ → Option (List ℕ × Words) → Option (List ℕ × Words)
with_front front read = option_map (λ x. (front ++ x.0, x.1)) read

-- ---- several numbers, one behind the other

-- where the next number can't be read, they can't
pub many_fails : (fault : ReadFault) (old mid self new : Words) (count left : ℕ) (front : List ℕ) → long.reads old ≡ Some (count, mid) → with_front front (numbers_of left self) ≡ numbers_of count mid
    → 0 < left → Reads long.reads self (Err fault) new → Reads many.reads old (Err fault) new
unfolding numbers_of
many_fails NoMemory old mid self new count left front e so_far some none = tt
many_fails NotEntry old mid self new count zero front e so_far some none = absurd (omega (arith, some))
many_fails NotEntry old mid self new count (suc left) front e so_far some none = rw (e, ← so_far, none) refl

-- the next number goes behind the others
pub many_more : (front : List ℕ) (x left : ℕ) (self new : Words) → 0 < left → long.reads self ≡ Some (x, new) → with_front (front ++ x ∷ []) (numbers_of (left - 1) new) ≡ with_front front (numbers_of left self)
unfolding numbers_of
many_more front x zero self new some e = absurd (omega (arith, some))
many_more front x (suc left) self new some e =
    let same : suc left - 1 ≡ left = omega arith in
    rw (same, e) (moved (numbers_of left new))
  where
    moved : (o : Option (List ℕ × Words)) → with_front (front ++ x ∷ []) o ≡ with_front front (option_map (λ y. (x ∷ y.0, y.1)) o)
    moved None = refl
    moved (Some y) = ap (λ (xs : List ℕ). Some (xs, y.1)) (append_assoc front (x ∷ []) y.0)

-- where none is left, they are read
pub many_end : (items : List ℕ) (old mid self : Words) (count left : ℕ) → long.reads old ≡ Some (count, mid) → left ≡ 0 → with_front items (numbers_of left self) ≡ numbers_of count mid → many.reads old ≡ Some (items, self)
unfolding numbers_of
many_end items old mid self count left e none so_far = rw e (sym so_far ∙ rw none (ap (λ (xs : List ℕ). Some (xs, self)) (append-nil items)))
