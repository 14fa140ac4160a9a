-- How the shapes of a line are told apart.
use Rattle.trace_text.proofs.Words.{◌≡◌, ℕ, ◌<◌, Bool, true, false, eqb, ltb, cond, List, [], ◌∷◌, length, take, drop, Result, Ok, Err, refl, arith, IfErr, cond_both, and-true, pointwise, LineFault, Words, ◌>>=◌, both, first_cause, NumberFault, NotDigits, NotNumeral, caused, decimal_in_word, decimal_of, hexadecimal_of, name_of, client_of, nothing_of, pointer_of, named_size_of, memalign_of, decay_time_of, control_call_of, malloc_in_of, free_in_of, slot_verb_of, client_verb_of, arena_verb_of, unused_verb_of, verb_of, plan_line_of, client_line_of, other_line_of, said_of, phase_line_of}
use Rattle.trace_text.specs.declared.lines.Ptr.TheVariants.{Name, At}

-- a word that doesn't begin with `@` is a name
pub named : (word : List ℕ) → pointwise eqb (take 1 word) (64 ∷ []) ≡ false → pointer_of word ≡ (name_of word >>= λ n. Ok (Name n))
unfolding pointer_of name_of
named [] h = refl
named (b ∷ word) h =
    let other : eqb b 64 ≡ false = rw (and-true (eqb b 64)) at h in
    rw other refl

-- what follows an `@` is an address
pub addressed : (word : List ℕ) → pointwise eqb (take 1 word) (64 ∷ []) ≡ true → pointer_of word ≡ (hexadecimal_of (drop 1 word) >>= λ a. Ok (At a))
unfolding pointer_of
addressed [] h = absurd (cc)
addressed (b ∷ word) h =
    let at : eqb b 64 ≡ true = rw (and-true (eqb b 64)) at h in
    rw at refl

pub ruleset pointers = (named, addressed)

-- ---- a line of too many words

-- both ways of a test are one
cond_same : {A : Type 0} (t : Bool) (x : A) → cond t x x ≡ x
cond_same true x = refl
cond_same false x = refl

-- what is read has no cause that comes before the want of a shape
abbrev HasNoEarlier : {A : Type 0} → Result A LineFault → Type 0
HasNoEarlier r = IfErr r (λ e. first_cause e Words ≡ Words)

then_later : {A B : Type 0} (r : Result A LineFault) (f : A → Result B LineFault) → HasNoEarlier r → ((x : A) → HasNoEarlier (f x)) → HasNoEarlier (r >>= f)
then_later (Ok x) f h k = k x
then_later (Err e) f h k = h

caused_later : (r : Result ℕ NumberFault) → HasNoEarlier (caused r)
caused_later (Ok n) = tt
caused_later (Err NotDigits) = refl
caused_later (Err NotNumeral) = refl

decimal_later : (word : List ℕ) → HasNoEarlier (decimal_of word)
unfolding decimal_of
decimal_later word = caused_later (decimal_in_word word)

client_later : (word : List ℕ) → HasNoEarlier (client_of word)
unfolding client_of
client_later [] = refl
client_later (b ∷ digits) = cond_both (eqb b 116) _ _ HasNoEarlier
    (λ _. then_later (decimal_of digits) _ (decimal_later digits) (λ c. cond_both (ltb 31 c) _ _ HasNoEarlier (λ _. refl) (λ _. tt))) (λ _. refl)

-- so the want of a shape is the cause of both
both_later : {A B : Type 0} (r : Result A LineFault) (s : Result B LineFault) → HasNoEarlier r → s ≡ Err Words → both r s ≡ Err Words
unfolding both
both_later (Ok x) s later h = rw h refl
both_later (Err e) s later h = rw (h, later) refl

verb_long : (verb a b c d : List ℕ) (words : List (List ℕ)) → verb_of (verb ∷ a ∷ b ∷ c ∷ d ∷ words) ≡ Err Words
unfolding nothing_of named_size_of memalign_of decay_time_of control_call_of malloc_in_of free_in_of slot_verb_of client_verb_of arena_verb_of unused_verb_of verb_of
verb_long verb a b c d words = simp cond_same

client_line_long : (client a b c d e f : List ℕ) (words : List (List ℕ)) → client_line_of client (a ∷ b ∷ c ∷ d ∷ e ∷ f ∷ words) ≡ Err Words
unfolding nothing_of client_line_of
client_line_long client a b c d e f words =
    simp (
      both_later (client_of client) (verb_of (b ∷ c ∷ d ∷ e ∷ f ∷ words)) (client_later client) (verb_long b c d e f words),
      both_later (client_of client) (verb_of (a ∷ b ∷ c ∷ d ∷ e ∷ f ∷ words)) (client_later client) (verb_long a b c d e (f ∷ words)),
      cond_same,
    )

setting_long : (word a b c d e f : List ℕ) (words : List (List ℕ)) → other_line_of word (a ∷ b ∷ c ∷ d ∷ e ∷ f ∷ words) ≡ Err Words
unfolding nothing_of plan_line_of phase_line_of other_line_of
setting_long word a b c d e f words = simp cond_same

-- no shape has so many words
pub long_without_shape : (words : List (List ℕ)) → 6 < length words → said_of words ≡ Err Words
unfolding said_of
long_without_shape [] many = absurd (omega (arith, many))
long_without_shape (_ ∷ []) many = absurd (omega (arith, many))
long_without_shape (_ ∷ _ ∷ []) many = absurd (omega (arith, many))
long_without_shape (_ ∷ _ ∷ _ ∷ []) many = absurd (omega (arith, many))
long_without_shape (_ ∷ _ ∷ _ ∷ _ ∷ []) many = absurd (omega (arith, many))
long_without_shape (_ ∷ _ ∷ _ ∷ _ ∷ _ ∷ []) many = absurd (omega (arith, many))
long_without_shape (_ ∷ _ ∷ _ ∷ _ ∷ _ ∷ _ ∷ []) many = absurd (omega (arith, many))
long_without_shape (word ∷ a ∷ b ∷ c ∷ d ∷ e ∷ f ∷ words) many =
    simp (client_line_long word a b c d e f words, setting_long word a b c d e f words, cond_same)
