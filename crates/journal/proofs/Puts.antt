-- Words that are written behind others.
use Rattle.std.proofs.Common.{◌≡◌, ℕ, ◌+◌, ◌<◌, List, [], ◌∷◌, ◌++◌, length, map, take, get_or, refl, sym, ap, ◌∙◌, append_assoc, append-nil}
use Rattle.std.proofs.lemmas.List.{map-append, take_more}
use Rattle.journal.specs.Codec.{Words}
unfoldable use Rattle.journal.specs.Entries.{spaced}

-- words behind words
pub spaced_append : (xs ys : Words) → spaced (xs ++ ys) ≡ spaced xs ++ spaced ys
spaced_append [] ys = refl
spaced_append (x ∷ xs) ys = ap (λ (bytes : List ℕ). 32 ∷ bytes) (ap (λ (bytes : List ℕ). x ++ bytes) (spaced_append xs ys) ∙ sym (append_assoc x (spaced xs) (spaced ys)))

-- what was written in two steps
pub puts_then : (xs ys : Words) (old mid new : List ℕ) → mid ≡ old ++ spaced xs → new ≡ mid ++ spaced ys → new ≡ old ++ spaced (xs ++ ys)
puts_then xs ys old mid new e f = f ∙ ap (λ (bytes : List ℕ). bytes ++ spaced ys) e ∙ append_assoc old (spaced xs) (spaced ys) ∙ ap (λ (bytes : List ℕ). old ++ bytes) (sym (spaced_append xs ys))

-- one more word of a list
pub puts_more : {X : Type 0} (word : X → List ℕ) (xs : List X) (i : ℕ) (x d : X) (old mid new : List ℕ) → i < length xs → x ≡ get_or xs i d → mid ≡ old ++ spaced (map word (take i xs)) → new ≡ mid ++ 32 ∷ word x
    → new ≡ old ++ spaced (map word (take (i + 1) xs))
puts_more word xs i x d old mid new lt is e f =
    puts_then (map word (take i xs)) (word x ∷ []) old mid new e (f ∙ ap (λ (bytes : List ℕ). mid ++ 32 ∷ bytes) (sym (append-nil (word x))))
    ∙ ap (λ (ws : Words). old ++ spaced ws) (sym (map-append word (take i xs) (x ∷ [])) ∙ ap (map word) (sym (take_more xs i d lt ∙ ap (λ (y : _). take i xs ++ y ∷ []) (sym is))))

-- the same of words behind others
pub puts_behind : (front behind : Words) (old new : List ℕ) → new ≡ (old ++ spaced front) ++ spaced behind → new ≡ old ++ spaced (front ++ behind)
puts_behind front behind old new e = puts_then front behind old (old ++ spaced front) new refl e

-- what was written in four steps
pub puts_four : (w xs ys zs : Words) (old a b c new : List ℕ) → a ≡ old ++ spaced w → b ≡ a ++ spaced xs → c ≡ b ++ spaced ys → new ≡ c ++ spaced zs → new ≡ old ++ spaced (w ++ ((xs ++ ys) ++ zs))
puts_four w xs ys zs old a b c new e f g h =
    puts_then w ((xs ++ ys) ++ zs) old a new e (puts_then (xs ++ ys) zs a c new (puts_then xs ys a b c f g) h)
