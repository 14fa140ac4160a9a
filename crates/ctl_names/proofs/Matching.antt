-- What a name is that matched a pattern: its row is the pattern's, and its class one that the pattern has.
use Rattle.std.proofs.Common.{◌≡◌, ℕ, ◌<◌, Bool, true, false, List, [], ◌∷◌, Option, None, Some, refl, sym, ap, subst, ◌∙◌, arith}
use Rattle.std.specs.Option.{option_map}
use Rattle.std.specs.Prelude.{if◌then◌else◌}
use Rattle.std.specs.Str.{bytes_eq}
use Rattle.std.proofs.lemmas.Bool.Decides.{nat_tests}
use Rattle.std.proofs.lemmas.Option.{none-some, option_and_then_some, same_Some}
use Rattle.text_words.specs.Numbers.{numeral_of}
use Rattle.ctl_names.specs.declared.names.CtlName.{CtlName}
use Rattle.ctl_names.specs.declared.names.Marker.{Marker}
use Rattle.ctl_names.specs.declared.names.Marker.TheVariants.{Arena, Arenas, Counted, Bin, Large}
unfoldable use Rattle.ctl_names.specs.Names.{index_of, marker_of, match_parts, may_be, part_with, with_index, with_part}

-- where something was made of a value, there was one
mapped : {A B : Type 0} (f : A → B) (o : Option A) (y : B) → option_map f o ≡ Some y → (x : A) × ((o ≡ Some x) × (f x ≡ y))
mapped f None y h = absurd (none-some y h)
mapped f (Some x) y h = (x, (refl, same_Some (f x) y h))

-- where a value passed a test, the test held
pub tested : {A : Type 0} (b : Bool) (x y : A) → (if b then Some x else None) ≡ Some y → (b ≡ true) × (x ≡ y)
tested true x y h = (refl, same_Some x y h)
tested false x y h = absurd (none-some y h)

-- an index changes no row
index_row : (found : CtlName) (marker : Marker) (n : ℕ) → (with_index found marker n).row ≡ found.row
index_row found Arena n = refl
index_row found Arenas n = refl
index_row found Counted n = refl
index_row found Bin n = refl
index_row found Large n = refl

part_row : (found : CtlName) (o : Option Marker) (part word : List ℕ) (more : CtlName) → part_with found o part word ≡ Some more → more.row ≡ found.row
part_row found (Some marker) part word more h =
    let made = mapped (with_index found marker) (index_of marker word) more h in
    ap (λ (n : CtlName). n.row) (sym made.1.1) ∙ index_row found marker made.0
part_row found None part word more h = ap (λ (n : CtlName). n.row) (sym (tested (bytes_eq part word) found more h).1)

-- the row of a name is that of the pattern
pub match_row : (found : CtlName) (ps ws : List (List ℕ)) (n : CtlName) → match_parts found ps ws ≡ Some n → n.row ≡ found.row
unfolding with_part
match_row found [] [] n h = ap (λ (m : CtlName). m.row) (sym (same_Some found n h))
match_row found [] (w ∷ ws) n h = absurd (none-some n h)
match_row found (p ∷ ps) [] n h = absurd (none-some n h)
match_row found (p ∷ ps) (w ∷ ws) n h =
    option_and_then_some (λ more. match_parts more ps ws) (with_part found p w) n h (λ more one rest. match_row more ps ws n rest ∙ part_row found (marker_of p) p w more one)

-- below which number the class is behind a part that stands for numbers
abbrev pub limit_with : ℕ → Option Marker → ℕ
limit_with limit (Some Bin) = 36
limit_with limit (Some Large) = 85
limit_with limit o = limit

-- below which number the class is behind these parts of a pattern
abbrev pub class_below : ℕ → List (List ℕ) → ℕ
class_below limit [] = limit
class_below limit (p ∷ ps) = class_below (limit_with limit (marker_of p)) ps

index_may : (marker : Marker) (word : List ℕ) (n : ℕ) → index_of marker word ≡ Some n → may_be marker n ≡ true
index_may marker word n h =
    option_and_then_some (λ m. if may_be marker m then Some m else None) (numeral_of word) n h
    (λ m one kept. let t = tested (may_be marker m) m n kept in subst (λ (k : ℕ). may_be marker k ≡ true) t.1 t.0)

index_class : (found : CtlName) (marker : Marker) (n limit : ℕ) → found.j < limit → may_be marker n ≡ true → (with_index found marker n).j < limit_with limit (Some marker)
index_class found Arena n limit below may = below
index_class found Arenas n limit below may = below
index_class found Counted n limit below may = below
index_class found Bin n limit below may = grind (arith, nat_tests)
index_class found Large n limit below may = grind (arith, nat_tests)

part_class : (found : CtlName) (limit : ℕ) (o : Option Marker) (part word : List ℕ) (more : CtlName) → found.j < limit → part_with found o part word ≡ Some more → more.j < limit_with limit o
part_class found limit (Some marker) part word more below h =
    let made = mapped (with_index found marker) (index_of marker word) more h in
    subst (λ (n : CtlName). n.j < limit_with limit (Some marker)) made.1.1 (index_class found marker made.0 limit below (index_may marker word made.0 made.1.0))
part_class found limit None part word more below h = subst (λ (n : CtlName). n.j < limit) (tested (bytes_eq part word) found more h).1 below

-- the class of a name is below that number
pub match_class : (limit : ℕ) (found : CtlName) (ps ws : List (List ℕ)) (n : CtlName) → found.j < limit → match_parts found ps ws ≡ Some n → n.j < class_below limit ps
unfolding with_part
match_class limit found [] [] n below h = subst (λ (m : CtlName). m.j < limit) (same_Some found n h) below
match_class limit found [] (w ∷ ws) n below h = absurd (none-some n h)
match_class limit found (p ∷ ps) [] n below h = absurd (none-some n h)
match_class limit found (p ∷ ps) (w ∷ ws) n below h =
    option_and_then_some (λ more. match_parts more ps ws) (with_part found p w) n h
    (λ more one rest. match_class (limit_with limit (marker_of p)) more ps ws n (part_class found limit (marker_of p) p w more below one) rest)
