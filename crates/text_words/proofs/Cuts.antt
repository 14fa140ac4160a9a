-- How one word is cut off the front of a line.
use Rattle.text_words.proofs.Names.{◌≡◌, ℕ, ◌+◌, ◌-◌, ◌<◌, ◌≤◌, Bool, true, false, eqb, List, [], ◌∷◌, ◌++◌, length, get_or, take, drop, refl, sym, ap, ◌∙◌, arith, not, slice_index, list_all, onto_first, and_parts, nat_tests, drop_more, length-drop, take-append-drop, take_all, length-slice_split, slice_split-cons_no, slice_split-cons_yes, is_in_word, words_of}

no_separator : (t : Bool) → not t ≡ true → t ≡ false
no_separator true e = absurd cc
no_separator false e = refl

-- a separator ends the word before it
pub word_in_front : (separator : ℕ) (word behind : List ℕ) → list_all (is_in_word separator) word ≡ true → words_of separator (word ++ separator ∷ behind) ≡ word ∷ words_of separator behind
word_in_front separator [] behind h = slice_split-cons_yes (λ b. eqb b separator) separator behind (same separator)
  where
    same : (n : ℕ) → eqb n n ≡ true
    same n = grind (arith, nat_tests)
word_in_front separator (b ∷ bytes) behind h =
    let parts = and_parts (is_in_word separator b) (list_all (is_in_word separator) bytes) h in
    slice_split-cons_no (λ b. eqb b separator) b (bytes ++ separator ∷ behind) (no_separator (eqb b separator) parts.0) ∙ ap (onto_first b) (word_in_front separator bytes behind parts.1)

-- what has no separator is one word
pub word_alone : (separator : ℕ) (word : List ℕ) → list_all (is_in_word separator) word ≡ true → words_of separator word ≡ word ∷ []
word_alone separator [] h = refl
word_alone separator (b ∷ bytes) h =
    let parts = and_parts (is_in_word separator b) (list_all (is_in_word separator) bytes) h in
    slice_split-cons_no (λ b. eqb b separator) b bytes (no_separator (eqb b separator) parts.0) ∙ ap (onto_first b) (word_alone separator bytes parts.1)

separator_is : (separator b : ℕ) → is_in_word separator b ≡ false → b ≡ separator
separator_is separator b h = grind (arith, nat_tests)

-- the first separator of a line ends its first word
pub words_cut : (separator : ℕ) (left : List ℕ) (end : ℕ) → end < length left → list_all (is_in_word separator) (take end left) ≡ true → is_in_word separator (slice_index left end) ≡ false →
    words_of separator left ≡ take end left ∷ words_of separator (drop (end + 1) left)
words_cut separator left end lt plain at =
    ap (words_of separator) (sym (take-append-drop end left) ∙ ap (λ (xs : List ℕ). take end left ++ xs) (drop_more left end 0 lt ∙ ap (λ (b : ℕ). b ∷ drop (end + 1) left) (separator_is separator (get_or left end 0) at)))
    ∙ word_in_front separator (take end left) (drop (end + 1) left) plain

-- the same, where what is left is a range
pub words_cut_rest : (separator : ℕ) (left : List ℕ) (end : ℕ) → end < length left → list_all (is_in_word separator) (take end left) ≡ true → is_in_word separator (slice_index left end) ≡ false →
    words_of separator left ≡ take end left ∷ words_of separator (take (length left - (end + 1)) (drop (end + 1) left))
words_cut_rest separator left end lt plain at =
    rw (take_all (length left - (end + 1)) (drop (end + 1) left) (omega (arith, length-drop (end + 1) left))) (words_cut separator left end lt plain at)

-- where no separator is left, the rest is the last word
pub words_end : (separator : ℕ) (left : List ℕ) (end : ℕ) → length left ≤ end → list_all (is_in_word separator) (take end left) ≡ true → words_of separator left ≡ left ∷ []
words_end separator left end le plain = word_alone separator left (rw (take_all end left le) at plain)

-- a line has a word
pub some_words : (separator : ℕ) (line : List ℕ) → 0 < length (words_of separator line)
some_words separator line = omega (arith, length-slice_split (λ b. eqb b separator) line)
