-- Lists of things that have a number each, their key, as a region has its address.
use Rattle.std.specs.Prelude.{◌≡◌, ◌⊎◌, ℕ, ◌<◌, ◌==◌, Bool, List, [], ◌∷◌, find, fold, map, nat_lt, Option, None, if◌then◌else◌}
use Rattle.std.specs.List.{AllByRecursion as Every, insert, position_or_len}

-- whether the key of a thing is this one
abbrev pub has_key : {A : Type 0} → (A → ℕ) → ℕ → A → Bool
has_key key k x = key x == k

-- the first thing of the key
abbrev pub found : {A : Type 0} → (A → ℕ) → ℕ → List A → Option A
found key k xs = find (has_key key k) xs

-- all things of the list have a higher key
abbrev pub AreBehind : {A : Type 0} → (A → ℕ) → ℕ → List A → Type 0
AreBehind key k xs = Every (λ x. k < key x) xs

-- each thing has a higher key than the one before it
abbrev pub IsRising : {A : Type 0} → (A → ℕ) → List A → Type 0
IsRising key [] = Unit {0}
IsRising key (x ∷ xs) = AreBehind key (key x) xs × IsRising key xs

-- no thing has the key of one of the others
abbrev pub AreNew : {A : Type 0} → (A → ℕ) → List A → List A → Type 0
AreNew key come xs = Every (λ x. found key (key x) xs ≡ None) come

-- no two things have one key
abbrev pub AreDistinct : {A : Type 0} → (A → ℕ) → List A → Type 0
AreDistinct key [] = Unit {0}
AreDistinct key (x ∷ xs) = (found key (key x) xs ≡ None) × AreDistinct key xs

-- two rising lists, and things of a key in one of them at most
pub record AreApart {A : Type 0} (key : A → ℕ) (xs ys : List A) : Type 0 where
  pub left : IsRising key xs
  pub right : IsRising key ys
  pub one : (k : ℕ) → (found key k xs ≡ None) ⊎ (found key k ys ≡ None)

-- the list with one more, which stands before the first of a higher key
abbrev pub inserted : {A : Type 0} → (A → ℕ) → A → List A → List A
inserted key x xs = insert xs (position_or_len (λ y. nat_lt (key x) (key y)) xs) x

-- the list with more, each in its place
abbrev pub landing : {A : Type 0} → (A → ℕ) → List A → List A → List A
landing key come xs = fold (λ landed x. inserted key x landed) xs come

-- the list with other things in place of those that pass a test
abbrev pub changed : {A : Type 0} → (A → Bool) → (A → A) → List A → List A
changed test change xs = map (λ x. if test x then change x else x) xs
