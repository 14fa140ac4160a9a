-- Lists of which one after another is changed.
use Rattle.thread_cache.proofs.Words.{◌≡◌, ℕ, ◌+◌, ◌<◌, List, [], ◌∷◌, ◌++◌, length, take, drop, map, get_or, ap, sym, ◌∙◌, ◌-◌, arith, set, append_assoc, drop_more, get_or-append_right, get_or-drop, length-map, length-take-le, map-append, set-append_right, take_more}

-- one more list is changed
pub one_mapped : {X : Type 0} (f : X → X) (xs : List X) (i : ℕ) (d : X) → i < length xs →
    set (map f (take i xs) ++ drop i xs) i (f (get_or xs i d)) ≡ map f (take (i + 1) xs) ++ drop (i + 1) xs
one_mapped f xs i d inside =
    let front = map f (take i xs) in
    let x : _ = get_or xs i d in
    let n : length front ≡ i = length-map (take i xs) f ∙ length-take-le i xs (omega (arith, inside)) in
    ap (λ ys. set (front ++ ys) i (f x)) (drop_more xs i d inside)
    ∙ set-append_right front (x ∷ drop (i + 1) xs) i i (f x) n (omega arith)
    ∙ ap (λ k. front ++ set (x ∷ drop (i + 1) xs) k (f x)) (let none : i - i ≡ 0 = omega arith in none)
    ∙ sym (append_assoc front (f x ∷ []) (drop (i + 1) xs))
    ∙ ap (λ ys. ys ++ drop (i + 1) xs) (sym (map-append f (take i xs) (x ∷ [])) ∙ ap (map f) (sym (take_more xs i d inside)))

-- the next list is as it was
pub unmapped_here : {X : Type 0} (f : X → X) (xs : List X) (i : ℕ) (d : X) → i < length xs → get_or (map f (take i xs) ++ drop i xs) i d ≡ get_or xs i d
unmapped_here f xs i d inside =
    let n : length (map f (take i xs)) ≡ i = length-map (take i xs) f ∙ length-take-le i xs (omega (arith, inside)) in
    get_or-append_right (map f (take i xs)) (drop i xs) i i d n (omega arith)
    ∙ get_or-drop i xs (i - i) d ∙ ap (λ k. get_or xs k d) (let same : i + (i - i) ≡ i = omega arith in same)
