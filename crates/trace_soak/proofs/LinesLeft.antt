-- The list of the lines that are still to be drawn.
use Rattle.std.proofs.Common.{◌≡◌, ℕ, zero, suc, ◌-◌, ◌+◌, ◌<◌, ◌≤◌, List, [], ◌∷◌, ◌++◌, Option, None, Some, Result, Ok, Err, OnErr, length, drop, set, replicate, get_or, refl, sym, ◌∙◌, ap, append-nil, arith}
use Rattle.std.proofs.lemmas.List.{drop-set, get_or-replicate}
use Rattle.trace_text.specs.declared.lines.Line.{Line}
use Rattle.trace_soak.specs.declared.draws.Drawn.{Drawn}
use Rattle.trace_soak.specs.Soak.{State, draws, line_for, lines_from}

-- the first of some lines
lines_from-some : (n : ℕ) (s : State) → 0 < n → lines_from n s ≡ line_for (draws s).call ∷ lines_from (n - 1) (draws s).after
lines_from-some zero s some = absurd (omega (arith, some))
lines_from-some (suc n) s some = let less : suc n - 1 ≡ n = omega arith in rw less refl

-- how many they are
pub length-lines_from : (n : ℕ) (s : State) → length (lines_from n s) ≡ n
length-lines_from zero s = refl
length-lines_from (suc n) s = ap suc (length-lines_from n (draws s).after)

-- the first line is drawn, and the others are left
pub first_drawn : (n : ℕ) (s : State) (all : List Line) (call : Drawn) (after : State) (line : Line) → 0 < n → lines_from n s ≡ all → call ≡ (draws s).call → after ≡ (draws s).after → line ≡ line_for call →
    all ≡ line ∷ lines_from (n - 1) after
first_drawn n s all call after line some is drawn moved says =
    sym is ∙ lines_from-some n s some ∙ ap (λ (l : Line). l ∷ lines_from (n - 1) (draws s).after) (sym (says ∙ ap line_for drawn)) ∙ ap (λ (t : State). line ∷ lines_from (n - 1) t) (sym moved)

-- what is so anyway is so where a call failed
pub on_err : {T E P : Type 0} (r : Result T E) → P → OnErr r P
on_err (Ok x) p = tt
on_err (Err e) p = p

-- before the first line no slot has an owner
pub owners_free : (k : ℕ) (d : Option ℕ) → k < 256 → (x : ℕ) → get_or (replicate 256 None) k d ≡ Some x → x < 4
owners_free k d below x is = let none = get_or-replicate 256 k None d below in absurd (cc (none, is))

-- a letter is laid before the digits at the end of a buffer
pub letter_laid : (bytes : List ℕ) (first : ℕ) (text : List ℕ) (letter : ℕ) → 1 ≤ first → first - 1 < length bytes → drop first bytes ≡ text ++ [] → drop (first - 1) (set bytes (first - 1) letter) ≡ letter ∷ text
letter_laid bytes first text letter some inside laid =
    let same : first - 1 + 1 ≡ first = omega (arith, some) in
    drop-set bytes (first - 1) letter inside ∙ ap (λ (n : ℕ). letter ∷ drop n bytes) same ∙ ap (λ (xs : List ℕ). letter ∷ xs) (laid ∙ append-nil text)
