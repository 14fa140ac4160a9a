-- Lists whose members stand in part in a list of others.
use Rattle.std.specs.Prelude.{◌≡◌, List, [], ◌∷◌, Option, None, Some, count_by, is_none, length}

-- the members of a list, with the next of the others in each place where there is none
abbrev pub filled_in : {A : Type 0} → List (Option A) → List A → List A
filled_in [] others = []
filled_in (Some x ∷ xs) others = x ∷ filled_in xs others
filled_in (None ∷ xs) [] = []
filled_in (None ∷ xs) (x ∷ others) = x ∷ filled_in xs others

-- there are just as many others as places where there is no member
abbrev pub FillsIn : {A : Type 0} → List (Option A) → List A → Type 0
FillsIn {A} xs others = length others ≡ count_by (λ (x : Option A). is_none x) xs
