-- Regions of an arena leave a list, from behind.
use Rattle.thread_cache.proofs.Words.{◌≡◌, ℕ, ◌+◌, ◌-◌, ◌<◌, ◌≤◌, Bool, true, false, cond, List, [], ◌∷◌, ◌++◌, length, take, drop, filter, get_or, ap, sym, ◌∙◌, arith, remove, append_assoc, drop_more, take_more, get_or-take, length-take-le, remove-append_right}

-- what is left once those behind a place that fail a test are gone, of the first so many
abbrev pub left_behind : {X : Type 0} → (X → Bool) → ℕ → ℕ → List X → List X
left_behind p place count xs = take place xs ++ (filter p (drop place (take count xs)) ++ drop count xs)

-- the first of those behind a place
first_behind : {X : Type 0} (p : X → Bool) (xs : List X) (count place : ℕ) (d : X) → place < count → count ≤ length xs →
    filter p (drop place (take count xs)) ≡ cond (p (get_or xs place d)) (get_or xs place d ∷ filter p (drop (place + 1) (take count xs))) (filter p (drop (place + 1) (take count xs)))
first_behind p xs count place d below within =
    let inside : place < length (take count xs) = omega (arith, length-take-le count xs within) in
    ap (filter p) (drop_more (take count xs) place d inside)
    ∙ ap (λ x. filter p (x ∷ drop (place + 1) (take count xs))) (get_or-take count xs place d below)

-- one that passes stays
pub one_stays : {X : Type 0} (p : X → Bool) (xs : List X) (count place : ℕ) (d : X) → place < count → count ≤ length xs → p (get_or xs place d) ≡ true →
    left_behind p (place + 1) count xs ≡ left_behind p place count xs
one_stays p xs count place d below within passes =
    let x : _ = get_or xs place d in
    let behind = filter p (drop (place + 1) (take count xs)) in
    let first = first_behind p xs count place d below within ∙ ap (λ v. cond v (x ∷ behind) behind) passes in
    ap (λ ys. ys ++ (behind ++ drop count xs)) (take_more xs place d (omega (arith, below, within)))
    ∙ append_assoc (take place xs) (x ∷ []) (behind ++ drop count xs)
    ∙ ap (λ ys. take place xs ++ (ys ++ drop count xs)) (sym first)

-- one that fails is removed
pub one_goes : {X : Type 0} (p : X → Bool) (xs : List X) (count place : ℕ) (d : X) → place < count → count ≤ length xs → p (get_or xs place d) ≡ false →
    remove (left_behind p (place + 1) count xs) place ≡ left_behind p place count xs
one_goes p xs count place d below within fails =
    let x : _ = get_or xs place d in
    let behind = filter p (drop (place + 1) (take count xs)) in
    let first = first_behind p xs count place d below within ∙ ap (λ v. cond v (x ∷ behind) behind) fails in
    ap (λ ys. remove (ys ++ (behind ++ drop count xs)) place) (take_more xs place d (omega (arith, below, within)))
    ∙ ap (λ ys. remove ys place) (append_assoc (take place xs) (x ∷ []) (behind ++ drop count xs))
    ∙ remove-append_right (take place xs) (x ∷ (behind ++ drop count xs)) place place (length-take-le place xs (omega (arith, below, within))) (omega arith)
    ∙ ap (λ n. take place xs ++ remove (x ∷ (behind ++ drop count xs)) n) (let none : place - place ≡ 0 = omega arith in none)
    ∙ ap (λ ys. take place xs ++ (ys ++ drop count xs)) (sym first)
