-- Words that are printed numbers.
use Rattle.std.proofs.Common.{◌≡◌, ℕ, ◌^◌, ◌<◌, Bool, false, IsTrue, ◌↔◌, List, [], ◌∷◌, get_or, Result, Ok, sym, ◌∙◌, ap, arith}
use Rattle.std.proofs.lemmas.Fmt.{decimal_injective, parse-decimal}
use Rattle.std.specs.Fmt.{decimal}
use Rattle.std.specs.Str.Parse.{ParsesUnsigned}
use Rattle.jarena.specs.Words.{IsSoak}

-- a word that isn't what is printed of the number that it is read as is no printed number
pub not_printed : {E : Type 0} (word : List ℕ) (r : Result ℕ E) (number n : ℕ) (printed : Bool) → r ≡ Ok number → ParsesUnsigned 64 10 word r → (IsTrue printed ↔ (word ≡ decimal number)) → printed ≡ false →
    n < 2 ^ 64 → word ≡ decimal n → ⊥
not_printed word r number n printed is parses tells differs below same =
    let again : r ≡ Ok n = parse-decimal 64 n word r below below same parses in
    let equal : number ≡ n = cc (is, again) in
    let shown = tells.1 (same ∙ ap decimal (sym equal)) in
    absurd (cc (differs, shown))

-- a third word that is printed of too many calls
pub too_many : (word start calls : List ℕ) (many s k : ℕ) → calls ≡ decimal many → many < 2 ^ 64 → 1000000 < many → IsSoak (word ∷ start ∷ calls ∷ []) s k → ⊥
too_many word start calls many s k printed below much soak =
    let same : many ≡ k = decimal_injective many k below (omega (arith, soak.2)) (sym printed ∙ ap (λ (ws : List (List ℕ)). get_or ws 2 []) soak.0) in
    absurd (omega (arith, same, much, soak.2))
