-- The lines of bytes, by where newlines stand.
use Rattle.std.proofs.Common.{◌≡◌, ◌∙◌, ℕ, suc, zero, length-drop, ◌+◌, ◌<◌, ◌≤◌, List, [], ◌∷◌, ◌++◌, eqb, true, false, length, take, drop, get_or, refl, sym, ap, subst, arith, append_assoc, append-nil}
use Rattle.std.proofs.lemmas.Bool.{eqb-true}
use Rattle.std.proofs.lemmas.Bool.Decides.{nat_tests}
use Rattle.std.proofs.lemmas.Grind.{common_steps}
use Rattle.std.proofs.Math.Seq.{take-add, take-length}
use Rattle.std.proofs.lemmas.List.{drop-drop, drop_more, length-take-le, take-append-drop}
use Rattle.std.proofs.lemmas.List.Elements.{All-append, All-head, All-tail}
use Rattle.memchr.specs.Find.{NoneBefore, Nowhere, Passes, is_byte}
use Rattle.line_reader.specs.Lines.{BeginsLong, HasNoNewline, Line, lines_of, longer}

abbrev IsPlain : ℕ → Type 0
IsPlain b = eqb b 10 ≡ false

-- what stands before a newline is the first line
pub lines_of-line : (text behind : List ℕ) → HasNoNewline text → lines_of (text ++ 10 ∷ behind) ≡ (text, true) ∷ lines_of behind
lines_of-line [] behind plain = refl
lines_of-line (b ∷ text) behind plain = rw (All-head IsPlain b text plain, lines_of-line text behind (All-tail IsPlain b text plain)) refl

-- without a newline, bytes are a line that is cut
pub lines_of-cut : (b : ℕ) (text : List ℕ) → HasNoNewline (b ∷ text) → lines_of (b ∷ text) ≡ (b ∷ text, false) ∷ []
lines_of-cut b [] plain = rw (All-head IsPlain b [] plain) refl
lines_of-cut b (next ∷ text) plain = rw (All-head IsPlain b (next ∷ text) plain, lines_of-cut next text (All-tail IsPlain b (next ∷ text) plain)) refl

-- a byte before a line makes it longer
longer-long : (b n : ℕ) (lines : List Line) → BeginsLong n lines → BeginsLong (n + 1) (longer b lines)
longer-long b n [] long = absurd long
longer-long b n (line ∷ lines) long = omega (arith, long)

-- where no newline is among more bytes than a line may have, the first line is too long, whatever comes behind them
pub lines_of-long : (most : ℕ) (text more : List ℕ) → HasNoNewline text → most < length text → BeginsLong most (lines_of (text ++ more))
lines_of-long most [] more plain long = absurd (omega (arith, long))
lines_of-long zero (b ∷ text) more plain long = rw (All-head IsPlain b text plain) (some (lines_of (text ++ more)))
  where
    some : (lines : List Line) → BeginsLong 0 (longer b lines)
    some [] = omega arith
    some (line ∷ lines) = omega arith
lines_of-long (suc most) (b ∷ text) more plain long =
    rw (All-head IsPlain b text plain) (subst (λ n. BeginsLong n (longer b (lines_of (text ++ more)))) (omega arith)
    (longer-long b most (lines_of (text ++ more)) (lines_of-long most text more (All-tail IsPlain b text plain) (omega (arith, long)))))

-- ---- where a newline stands

-- no newline is among the first bytes, where none was found there
none_seen : (bytes : List ℕ) (n m : ℕ) → Nowhere (Passes (is_byte 10) bytes) 0 n → m ≤ n → HasNoNewline (take m bytes)
none_seen bytes n m none le = λ k d below.
    let near : k < m = grind (arith, common_steps) in
    let far = none k (omega arith) (omega (arith, near, le)) in
    grind (arith, common_steps, nat_tests)

-- nor among all of them
none_stands : (bytes : List ℕ) → Nowhere (Passes (is_byte 10) bytes) 0 (length bytes) → HasNoNewline bytes
none_stands bytes none = rw take-length at (none_seen bytes (length bytes) (length bytes) none (omega arith))

-- nor among bytes that were seen and those behind them
pub none_in_all : (bytes : List ℕ) (seen : ℕ) → HasNoNewline (take seen bytes) → Nowhere (Passes (is_byte 10) (drop seen bytes)) 0 (length (drop seen bytes)) → HasNoNewline bytes
none_in_all bytes seen before none =
    rw (take-append-drop seen bytes) at (All-append IsPlain (take seen bytes) (drop seen bytes) before (none_stands (drop seen bytes) none))

-- the first line ends at the first newline, whatever comes behind the bytes
pub line_at : (bytes : List ℕ) (seen place : ℕ) → HasNoNewline (take seen bytes) → NoneBefore (Passes (is_byte 10) (drop seen bytes)) 0 (length (drop seen bytes)) place → Passes (is_byte 10) (drop seen bytes) place →
    (more : List ℕ) → lines_of (bytes ++ more) ≡ (take (seen + place) bytes, true) ∷ lines_of (drop (seen + place + 1) bytes ++ more)
line_at bytes seen place before found here more =
    let rest = drop seen bytes in
    let text = take place rest in
    let behind = drop (place + 1) rest in
    let plain : HasNoNewline (take (seen + place) bytes) = rw (take-add seen place bytes) (All-append IsPlain (take seen bytes) text before (none_seen rest place place found.before (omega arith))) in
    let ends : rest ≡ text ++ 10 ∷ behind =
    sym (take-append-drop place rest) ∙ ap (λ (xs : List ℕ). text ++ xs) (drop_more rest place 0 found.high) ∙ ap (λ (x : ℕ). text ++ x ∷ behind) (eqb-true (get_or rest place 0) 10 here) in
    let whole : bytes ++ more ≡ take (seen + place) bytes ++ 10 ∷ (behind ++ more) =
    ap (λ (xs : List ℕ). xs ++ more) (sym (take-append-drop seen bytes) ∙ ap (λ (xs : List ℕ). take seen bytes ++ xs) ends ∙ sym (append_assoc (take seen bytes) text (10 ∷ behind)) ∙ ap (λ (xs : List ℕ). xs ++ 10 ∷ behind) (sym (take-add seen place bytes)))
    ∙ append_assoc (take (seen + place) bytes) (10 ∷ behind) more in
    ap lines_of whole ∙ lines_of-line (take (seen + place) bytes) (behind ++ more) plain
    ∙ ap (λ (xs : List ℕ). (take (seen + place) bytes, true) ∷ lines_of (xs ++ more)) (drop-drop (place + 1) seen bytes ∙ ap (λ (n : ℕ). drop n bytes) (omega arith))

-- where that newline stands too far behind, the line is too long
pub long_at : (most : ℕ) (bytes : List ℕ) (seen place : ℕ) → HasNoNewline (take seen bytes) → NoneBefore (Passes (is_byte 10) (drop seen bytes)) 0 (length (drop seen bytes)) place → Passes (is_byte 10) (drop seen bytes) place →
    seen ≤ length bytes → most < seen + place → (more : List ℕ) → BeginsLong most (lines_of (bytes ++ more))
long_at most bytes seen place before found here within far more =
    let short : seen + place ≤ length bytes = omega (arith, found.high, length-drop {A = ℕ}) in
    rw (line_at bytes seen place before found here more) (rw (length-take-le (seen + place) bytes short) far)

-- bytes without a newline are a cut line, once no more come
pub cut_found : (most : ℕ) (old new more : List ℕ) → 0 < length old → length old ≤ most → HasNoNewline old → new ≡ old ++ more → length more ≡ 0 → (length new ≤ most) × (lines_of new ≡ (new, false) ∷ [])
cut_found most old new (b ∷ more) some few plain is none = absurd (omega (arith, none))
cut_found most [] new [] some few plain is none = absurd (omega (arith, some))
cut_found most (b ∷ old) new [] some few plain is none =
    let same : b ∷ old ≡ new = sym (is ∙ append-nil (b ∷ old)) in
    subst (λ (bytes : List ℕ). (length bytes ≤ most) × (lines_of bytes ≡ (bytes, false) ∷ [])) same (few, lines_of-cut b old plain)
