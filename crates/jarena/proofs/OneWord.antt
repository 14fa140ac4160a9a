-- Lists of one text.
use Rattle.std.proofs.Common.{◌≡◌, ℕ, ◌<◌, ◌≤◌, Bool, true, List, [], ◌∷◌, map, get_or, length, sym, ◌∙◌, ap, arith}
use Rattle.std.proofs.lemmas.Slice.Eq.{bytes_eq-Decides}
use Rattle.std.specs.Bool.{Decides}
use Rattle.std.specs.Str.{bytes_eq}

-- a list of one element is mapped to a list of one
mapped_one : {A B : Type 0} (f : A → B) (xs : List A) (d : A) → 1 ≤ length xs → length xs < 2 →
    map f xs ≡ f (get_or xs 0 d) ∷ []
mapped_one f [] d some few = absurd (omega (arith, some))
mapped_one f (x ∷ []) d some few = λ i. f x ∷ []
mapped_one f (x ∷ y ∷ rest) d some few = absurd (omega (arith, few))

-- a list of two is mapped to a list of two
mapped_two : {A B : Type 0} (f : A → B) (xs : List A) (d e : A) → 2 ≤ length xs → length xs < 3 → map f xs ≡ f (get_or xs 0 d) ∷ f (get_or xs 1 e) ∷ []
mapped_two f [] d e some few = absurd (omega (arith, some))
mapped_two f (x ∷ []) d e some few = absurd (omega (arith, some))
mapped_two f (x ∷ y ∷ []) d e some few = λ i. f x ∷ f y ∷ []
mapped_two f (x ∷ y ∷ z ∷ rest) d e some few = absurd (omega (arith, few))

-- a list of one element, whose text is compared with another, is that text alone
pub one_text : {A : Type 0} (f : A → List ℕ) (xs : List A) (x : A) (seen text : List ℕ) (r : Bool) →
    1 ≤ length xs → length xs < 2 → x ≡ get_or xs 0 x → seen ≡ f x → r ≡ bytes_eq seen text →
    Decides r (map f xs ≡ text ∷ [])
one_text f xs x seen text r some few first is tested =
    let one = mapped_one f xs x some few in
    let item = is ∙ ap f first in
    let decides = bytes_eq-Decides seen text in
    (λ h. one ∙ ap (λ t. t ∷ []) (sym item ∙ decides.0 (sym tested ∙ h)), λ h. tested ∙ decides.1 (item ∙ ap (λ ts. get_or ts 0 []) (sym one ∙ h)))

-- the text of an element that was compared with another is that text
item_text : {A : Type 0} (f : A → List ℕ) (xs : List A) (i : ℕ) (x : A) (seen text : List ℕ) (r : Bool) → x ≡ get_or xs i x → seen ≡ f x → r ≡ bytes_eq seen text → r ≡ true → f (get_or xs i x) ≡ text
item_text f xs i x seen text r first is tested good = sym (is ∙ ap f first) ∙ (bytes_eq-Decides seen text).0 (sym tested ∙ good)

-- a list of two elements, whose texts are compared with two, is these alone
pub two_texts : {A : Type 0} (f : A → List ℕ) (xs : List A) (x y : A) (seen also text other : List ℕ) (r s : Bool) → 2 ≤ length xs → length xs < 3 →
    x ≡ get_or xs 0 x → seen ≡ f x → r ≡ bytes_eq seen text → r ≡ true → y ≡ get_or xs 1 y → also ≡ f y → s ≡ bytes_eq also other → s ≡ true → map f xs ≡ text ∷ other ∷ []
two_texts f xs x y seen also text other r s some few first is tested good second is' tested' good' =
    mapped_two f xs x y some few ∙ ap (λ t. t ∷ f (get_or xs 1 y) ∷ []) (item_text f xs 0 x seen text r first is tested good) ∙ ap (λ t. text ∷ t ∷ []) (item_text f xs 1 y also other s second is' tested' good')

-- a list of three elements is mapped to a list of three
pub mapped_three : {A B : Type 0} (f : A → B) (xs : List A) (d : A) → 3 ≤ length xs → length xs < 4 → map f xs ≡ f (get_or xs 0 d) ∷ f (get_or xs 1 d) ∷ f (get_or xs 2 d) ∷ []
mapped_three f [] d some few = absurd (omega (arith, some))
mapped_three f (x ∷ []) d some few = absurd (omega (arith, some))
mapped_three f (x ∷ y ∷ []) d some few = absurd (omega (arith, some))
mapped_three f (x ∷ y ∷ z ∷ []) d some few = λ i. f x ∷ f y ∷ f z ∷ []
mapped_three f (x ∷ y ∷ z ∷ w ∷ rest) d some few = absurd (omega (arith, few))
