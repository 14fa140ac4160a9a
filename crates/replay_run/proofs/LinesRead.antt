-- The lines of the bytes that a source had.
use Rattle.replay_run.proofs.Words.{arith, eqb, true, false, get_or, take, drop, length, ◌+◌, ◌≡◌, ◌<◌, ◌≤◌, ℕ, suc, zero, List, [], ◌∷◌, ◌++◌, Ok, refl, sym, ◌∙◌, ap, append_assoc, SaidLine, line_of, HasNoNewline, common_steps, eqb-true, drop_more, take-append-drop, All-head, All-tail, take-length, nat_tests, PassesNowhere, NoneBefore, Passes, is_byte, byte_limit, first_line, has_newline, ReadsTo}

-- ---- where a newline stands

-- no newline is among bytes in which none was found
pub none_seen : (bytes : List ℕ) (n m : ℕ) → PassesNowhere (Passes (is_byte 10) bytes) 0 n → m ≤ n → HasNoNewline (take m bytes)
none_seen bytes n m none le = λ k d below.
    let near : k < m = grind (arith, common_steps) in
    let far = none k (omega arith) (omega (arith, near, le)) in
    grind (arith, common_steps, nat_tests)

-- nor among all of them
pub none_stands : (bytes : List ℕ) → PassesNowhere (Passes (is_byte 10) bytes) 0 (length bytes) → HasNoNewline bytes
none_stands bytes none = rw take-length at (none_seen bytes (length bytes) (length bytes) none (omega arith))

-- the first newline ends the first line
pub newline_first : (bytes : List ℕ) (n : ℕ) → NoneBefore (Passes (is_byte 10) bytes) 0 (length bytes) n → Passes (is_byte 10) bytes n →
    HasNoNewline (take n bytes) × (bytes ≡ take n bytes ++ 10 ∷ drop (n + 1) bytes)
newline_first bytes n found here = (
  none_seen bytes n n found.before (omega arith),
  sym (take-append-drop n bytes) ∙ ap (λ (xs : List ℕ). take n bytes ++ xs) (drop_more bytes n 0 found.high)
      ∙ ap (λ (x : ℕ). take n bytes ++ x ∷ drop (n + 1) bytes) (eqb-true (get_or bytes n 0) 10 here),
)

-- ---- the first line

abbrev IsPlain : ℕ → Type 0
IsPlain b = eqb b 10 ≡ false

-- what stands before the first newline is the first line
pub first_line-whole : (text behind : List ℕ) → HasNoNewline text → first_line (text ++ 10 ∷ behind) ≡ text
first_line-whole [] behind plain = refl
first_line-whole (b ∷ text) behind plain = rw (All-head IsPlain b text plain, first_line-whole text behind (All-tail IsPlain b text plain)) refl

-- without a newline all bytes are the first line
pub first_line-none : (bytes : List ℕ) → HasNoNewline bytes → first_line bytes ≡ bytes
first_line-none [] plain = refl
first_line-none (b ∷ bytes) plain = rw (All-head IsPlain b bytes plain, first_line-none bytes (All-tail IsPlain b bytes plain)) refl

-- where so many bytes are no newline, the first line has as many
pub first_line-long : (bytes : List ℕ) (n : ℕ) → HasNoNewline (take n bytes) → n ≤ length bytes → n ≤ length (first_line bytes)
first_line-long bytes zero plain few = omega (arith)
first_line-long [] (suc n) plain few = absurd (omega (arith, few))
first_line-long (b ∷ bytes) (suc n) plain few =
    let later : n ≤ length (first_line bytes) = first_line-long bytes n (All-tail IsPlain b (take n bytes) plain) (omega (arith, few)) in
    rw (All-head IsPlain b (take n bytes) plain) (omega (arith, later))

-- whether there is a newline
pub has_newline-whole : (text behind : List ℕ) → has_newline (text ++ 10 ∷ behind) ≡ true
has_newline-whole [] behind = refl
has_newline-whole (b ∷ text) behind = grind (arith, has_newline-whole text behind)

pub has_newline-none : (bytes : List ℕ) → HasNoNewline bytes → has_newline bytes ≡ false
has_newline-none [] plain = refl
has_newline-none (b ∷ bytes) plain = rw (All-head IsPlain b bytes plain) (has_newline-none bytes (All-tail IsPlain b bytes plain))

-- ---- the lines so far

-- the bytes of lines and one more line
pub reads_one_more : (lines : List SaidLine) (bytes text behind : List ℕ) (line : SaidLine) → HasNoNewline text → length text ≤ byte_limit →
    line_of text ≡ Ok line → ReadsTo lines bytes (text ++ 10 ∷ behind) → ReadsTo (lines ++ line ∷ []) bytes behind
reads_one_more [] bytes text behind line plain short says reads = (text, behind, plain, short, says, reads, refl)
reads_one_more (first ∷ lines) bytes text behind line plain short says reads =
    (reads.0, reads.1, reads.2, reads.3, reads.4, reads.5, reads_one_more lines reads.1 text behind line plain short says reads.6)

-- more bytes stand behind the lines
pub reads_further : (lines : List SaidLine) (bytes rest more : List ℕ) → ReadsTo lines bytes rest → ReadsTo lines (bytes ++ more) (rest ++ more)
reads_further [] bytes rest more reads = ap (λ (xs : List ℕ). xs ++ more) reads
reads_further (first ∷ lines) bytes rest more reads = (
  reads.0,
  reads.1 ++ more,
  reads.2,
  reads.3,
  reads.4,
  ap (λ (xs : List ℕ). xs ++ more) reads.5 ∙ append_assoc reads.0 (10 ∷ reads.1) more,
  reads_further lines reads.1 rest more reads.6,
)
