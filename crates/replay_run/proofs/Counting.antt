-- Numbers that pass a test, as a loop counts them.
use Rattle.replay_run.proofs.Words.{arith, ◌≡◌, ◌+◌, ◌++◌, ℕ, Bool, true, false, List, [], ◌∷◌, refl, ◌∙◌, ap, append-nil, range_with_len, range_with_len_more}
use Rattle.std.specs.List.{filter}
use Rattle.std.proofs.lemmas.List.Elements.{filter-append}

-- the numbers that pass a test, with one number more
pub passing : (p : ℕ → Bool) (n : ℕ) → p n ≡ true → filter p (range_with_len 0 (n + 1)) ≡ filter p (range_with_len 0 n) ++ n ∷ []
passing p n is = ap (filter p) (range_with_len_more 0 n n (omega arith)) ∙ filter-append p (range_with_len 0 n) (n ∷ []) ∙ ap (λ (xs : List ℕ). filter p (range_with_len 0 n) ++ xs) (rw is refl)

pub failing : (p : ℕ → Bool) (n : ℕ) → p n ≡ false → filter p (range_with_len 0 (n + 1)) ≡ filter p (range_with_len 0 n)
failing p n is = ap (filter p) (range_with_len_more 0 n n (omega arith)) ∙ filter-append p (range_with_len 0 n) (n ∷ []) ∙ rw is (append-nil (filter p (range_with_len 0 n)))
