-- Places that are linked in a ring, from the place 0 back to it.
use Rattle.std.specs.Prelude.{◌≡◌, ◌≢◌, ℕ, zero, suc, ◌<◌, List, [], ◌∷◌, slice_index_or}
use Rattle.std.specs.List.{AllByRecursion}
use Rattle.age_ring.specs.declared.Link.{Link}

-- the links of a place
abbrev pub link_at : List Link → ℕ → Link
link_at links k = slice_index_or links k (record { prev = 0; next = 0 })

-- the places after and before a place
abbrev pub next_of : List Link → ℕ → ℕ
next_of links k = (link_at links k).next

abbrev pub prev_of : List Link → ℕ → ℕ
prev_of links k = (link_at links k).prev

-- so many places, from this one on
unfoldable pub walk : (ℕ → ℕ) → ℕ → ℕ → List ℕ
walk next zero at = []
walk next (suc n) at = at ∷ walk next n (next at)

-- the places lead from the first one to the last one, and back
abbrev pub Joined : (ℕ → ℕ) → (ℕ → ℕ) → ℕ → List ℕ → ℕ → Type 0
Joined next prev a [] b = (next a ≡ b) × (prev b ≡ a)
Joined next prev a (x ∷ xs) b = (next a ≡ x) × ((prev x ≡ a) × Joined next prev x xs b)

-- no place comes twice
abbrev pub Differ : List ℕ → Type 0
Differ [] = Unit {0}
Differ (x ∷ xs) = AllByRecursion (λ y. y ≢ x) xs × Differ xs

-- different places of so many, but for the place 0, lie in a ring with that one
pub record IsRing (next prev : ℕ → ℕ) (places : ℕ) (xs : List ℕ) : Type 0 where
  pub joined : Joined next prev 0 xs 0
  pub differ : Differ xs
  pub above : AllByRecursion (λ x. x ≢ 0) xs
  pub within : AllByRecursion (λ x. x < places) xs
