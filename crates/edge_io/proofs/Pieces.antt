-- Reads and writes one after another, where known bytes stay known.
use Rattle.std.proofs.Common.{◌≡◌, ℕ, ◌+◌, ◌-◌, ◌≤◌, List, ◌++◌, length, take, drop, Option, None, Some, sym, ◌∙◌, append_assoc, arith}
use Rattle.std.proofs.lemmas.List.{drop-drop, take-append-drop}
use Rattle.std.proofs.lemmas.Grind.{common_steps}
use Rattle.edge_io.specs.Bytes.{Consumes, Appends}

-- two writes append the two pieces
pub Appends-trans : (old mid new : Option (List ℕ)) (xs ys : List ℕ) → Appends old mid xs → Appends mid new ys →
    Appends old new (xs ++ ys)
Appends-trans None mid new xs ys first second = tt
Appends-trans (Some a) None new xs ys first second = absurd first
Appends-trans (Some a) (Some b) None xs ys first second = absurd second
Appends-trans (Some a) (Some b) (Some c) xs ys first second = second ∙ rw (first, append_assoc)

-- two reads take the two pieces
pub Consumes-trans : (old mid new : Option (List ℕ)) (xs ys : List ℕ) → Consumes old mid xs → Consumes mid new ys →
    Consumes old new (xs ++ ys)
Consumes-trans None mid new xs ys first second = tt
Consumes-trans (Some a) None new xs ys first second = absurd first
Consumes-trans (Some a) (Some b) None xs ys first second = absurd second
Consumes-trans (Some a) (Some b) (Some c) xs ys first second = first ∙ rw (second, append_assoc)

-- the slice from a place on
pub rest_of : (xs : List ℕ) (at : ℕ) → take (length xs - at) (drop at xs) ≡ drop at xs
rest_of xs at = grind (arith, common_steps)

-- a read of n bytes from the place `at`, into the front of a buffer
pub read_moves : (bytes buf : List ℕ) (at n : ℕ) → n ≤ length (drop at bytes) →
    drop at bytes ≡ take n (take n (drop at bytes) ++ drop n buf) ++ drop (at + n) bytes
read_moves bytes buf at n within =
    let front : take n (take n (drop at bytes) ++ drop n buf) ≡ take n (drop at bytes) =
    grind (arith, common_steps) in
    rw (front, ← drop-drop n at bytes) (sym (take-append-drop n (drop at bytes)))
