-- How a line is cut into its words.
use Rattle.trace_text.proofs.Words.{◌≡◌, ◌∙◌, ap, sym, ℕ, ◌+◌, ◌<◌, ◌≤◌, true, false, eqb, List, [], ◌∷◌, ◌++◌, length, get_or, drop, map, arith, append_assoc, length-append, length-drop, All, slice_range, nat_tests, common_steps, drop_more, length-map, map-append, take_all, drop_split, length-slice_split, slice_split_at, slice_split_none, words_of}

-- no space stands from one place up to another
pub record NoSpace (line : List ℕ) (start end : ℕ) : Type 0 where
  pub none : (k : ℕ) → start ≤ k → k < end → eqb (get_or line k 0) 32 ≡ false

-- the word between them has none
word_plain : (line : List ℕ) (start end : ℕ) → end ≤ length line → NoSpace line start end → All (λ b. eqb b 32 ≡ false) (slice_range line start end)
word_plain line start end le plain = λ k d below. let at = plain.none (start + k) (omega arith) in grind (arith, common_steps)

-- nor has a longer one, where its last byte is none
pub no_space_more : (line : List ℕ) (start at : ℕ) → NoSpace line start at → (get_or line at 0 ≡ 32 → ⊥) → NoSpace line start (at + 1)
no_space_more line start at plain here = record { none = λ k low below. grind (arith, nat_tests, plain.none k) }

-- nor one of no bytes
pub no_space_here : (line : List ℕ) (start : ℕ) → NoSpace line start start
no_space_here line start = record { none = λ k low below. absurd (omega arith) }

-- a space ends the word before it
pub words_cut : (line : List ℕ) (start at : ℕ) → start ≤ at → at < length line → NoSpace line start at → eqb (get_or line at 0) 32 ≡ true →
    words_of (drop start line) ≡ slice_range line start at ∷ words_of (drop (at + 1) line)
words_cut line start at le lt plain space =
    ap words_of (drop_split line start at le ∙ ap (λ (xs : List ℕ). slice_range line start at ++ xs) (drop_more line at 0 lt))
    ∙ slice_split_at (λ b. eqb b 32) (slice_range line start at) (get_or line at 0) (drop (at + 1) line) (word_plain line start at (omega (arith, lt)) plain) space

-- where no space is left, the rest is the last word
pub words_end : (line : List ℕ) (start end : ℕ) → length line ≤ end → NoSpace line start end → words_of (drop start line) ≡ slice_range line start (length line) ∷ []
words_end line start end le plain =
    slice_split_none (λ b. eqb b 32) (drop start line) (λ k d below. let at = plain.none (start + k) (omega arith) in grind (arith, common_steps))
    ∙ ap (λ (xs : List ℕ). xs ∷ []) (sym (take_all _ (drop start line) (omega (arith, length-drop start line))))

-- a word is put behind those that were cut before it
pub words_more : {W : Type 0} (now : W → List ℕ) (line : List ℕ) (words : List W) (word : W) (more : List W) (rest : List (List ℕ)) (start : ℕ) → more ≡ words ++ word ∷ [] →
    words_of line ≡ map now words ++ words_of (drop start line) → words_of (drop start line) ≡ now word ∷ rest → words_of line ≡ map now more ++ rest
words_more {W} now line words word more rest start put so_far cut =
    so_far ∙ ap (λ (xs : List (List ℕ)). map now words ++ xs) cut
    ∙ sym (ap (λ (xs : List W). map now xs ++ rest) put ∙ ap (λ (xs : List (List ℕ)). xs ++ rest) (map-append now words (word ∷ [])) ∙ append_assoc (map now words) (now word ∷ []) rest)

-- behind six words, of which a space ends the last, stands another one
pub words_many : {W : Type 0} (now : W → List ℕ) (line rest : List ℕ) (words : List W) → length words ≡ 6 → words_of line ≡ map now words ++ words_of rest → 6 < length (words_of line)
words_many now line rest words six so_far =
    omega (arith, six, simp (length-append, length-map) at (ap length so_far), length-slice_split (λ b. eqb b 32) rest)
