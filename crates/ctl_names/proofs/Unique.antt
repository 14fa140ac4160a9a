-- No name matches two rows of the table.
use Rattle.std.proofs.Common.{◌≡◌, ℕ, zero, suc, ◌+◌, ◌<◌, ◌⊎◌, inl, inr, Bool, true, false, List, [], ◌∷◌, length, get_or, map, Option, None, Some, refl, sym, subst, ◌∙◌, arith}
use Rattle.std.specs.Prelude.{◌&&◌, ◌||◌, not, nat_le}
use Rattle.std.specs.List.{list_all}
use Rattle.std.specs.Option.{is_none, option_or}
use Rattle.std.specs.Str.{bytes_eq}
use Rattle.std.proofs.lemmas.Bool.{and_parts}
use Rattle.std.proofs.lemmas.Bool.Decides.{nat_tests}
use Rattle.std.proofs.lemmas.List.{get_or-map, length-map}
use Rattle.std.proofs.lemmas.List.Folds.{list_all_at}
use Rattle.std.proofs.lemmas.Option.{none-some, option_and_then_some}
use Rattle.std.proofs.lemmas.Slice.Eq.{bytes_eq-Decides}
use Rattle.text_words.specs.Words.{words_of}
use Rattle.ctl_names.specs.declared.names.CtlName.{CtlName}
use Rattle.ctl_names.specs.declared.names.Marker.{Marker}
use Rattle.ctl_names.specs.declared.rows.OnPlain.TheVariants.{Wanting}
use Rattle.ctl_names.specs.declared.rows.OnWrite.TheVariants.{Never}
use Rattle.ctl_names.specs.Rows.{RowFacts, class_limit, row, rows}
use Rattle.ctl_names.specs.Names.{IsName}
unfoldable use Rattle.ctl_names.specs.Names.{IsOfRow, first_row, marker_of, match_parts, matched, name_of, part_with, unindexed, with_part}
use Rattle.ctl_names.proofs.Matching.{class_below, match_class, match_row, tested}

-- ---- two patterns that no name matches

-- two parts that are texts, and not the same one
abbrev pub differ : List ℕ → List ℕ → Bool
differ p q = is_none (marker_of p) && is_none (marker_of q) && not (bytes_eq p q)

-- patterns of another length, or with two such parts at a place
abbrev pub parts_apart : List (List ℕ) → List (List ℕ) → Bool
parts_apart [] [] = false
parts_apart [] (q ∷ qs) = true
parts_apart (p ∷ ps) [] = true
parts_apart (p ∷ ps) (q ∷ qs) = differ p q || parts_apart ps qs

either_is : (a b : Bool) → (a || b) ≡ true → (a ≡ true) ⊎ (b ≡ true)
either_is true b h = inl refl
either_is false b h = inr h

never : (b : Bool) → b ≡ true → not b ≡ true → ⊥
never true h g = cc
never false h g = cc

-- a part that is a text is the word that it matched
is_word : (found : CtlName) (o : Option Marker) (part word : List ℕ) (more : CtlName) → is_none o ≡ true → part_with found o part word ≡ Some more → part ≡ word
is_word found None part word more e h = (bytes_eq-Decides part word).0 (tested (bytes_eq part word) found more h).0
is_word found (Some marker) part word more e h = absurd cc

parts_differ : (a b : CtlName) (p q w : List ℕ) (m n : CtlName) → differ p q ≡ true → with_part a p w ≡ Some m → with_part b q w ≡ Some n → ⊥
unfolding with_part
parts_differ a b p q w m n h one other =
    let outer = and_parts (is_none (marker_of p) && is_none (marker_of q)) (not (bytes_eq p q)) h in
    let texts = and_parts (is_none (marker_of p)) (is_none (marker_of q)) outer.0 in
    let same = is_word a (marker_of p) p w m texts.0 one ∙ sym (is_word b (marker_of q) q w n texts.1 other) in
    never (bytes_eq p q) ((bytes_eq-Decides p q).1 same) outer.1

none_match_both : (a b : CtlName) (ps qs ws : List (List ℕ)) (m n : CtlName) → parts_apart ps qs ≡ true → match_parts a ps ws ≡ Some m → match_parts b qs ws ≡ Some n → ⊥
none_match_both a b [] [] ws m n h one other = cc
none_match_both a b [] (q ∷ qs) [] m n h one other = none-some n other
none_match_both a b [] (q ∷ qs) (w ∷ ws) m n h one other = none-some m one
none_match_both a b (p ∷ ps) [] [] m n h one other = none-some m one
none_match_both a b (p ∷ ps) [] (w ∷ ws) m n h one other = none-some n other
none_match_both a b (p ∷ ps) (q ∷ qs) [] m n h one other = none-some m one
none_match_both a b (p ∷ ps) (q ∷ qs) (w ∷ ws) m n h one other =
    option_and_then_some (λ more. match_parts more ps ws) (with_part a p w) m one (λ c one_part one_rest.
    option_and_then_some (λ more. match_parts more qs ws) (with_part b q w) n other (λ d other_part other_rest.
    elim (either_is (differ p q) (parts_apart ps qs) h) [
      | inl now ↦ parts_differ a b p q w c d now one_part other_part
      | inr later ↦ none_match_both c d ps qs ws m n later one_rest other_rest
    ]))

-- ---- the table

-- the parts of a row's pattern
abbrev pub parts : RowFacts → List (List ℕ)
parts r = words_of 46 r.pattern

-- no two of these patterns are matched by one name
abbrev pub all_apart : List (List (List ℕ)) → Bool
all_apart [] = true
all_apart (p ∷ ps) = list_all (parts_apart p) ps && all_apart ps

rows_apart : all_apart (map parts rows) ≡ true
rows_apart = refl

-- the class of each pattern is one that its row is about
abbrev pub has_class : RowFacts → Bool
has_class r = nat_le (class_below 1 (parts r)) (class_limit r.on_plain)

rows_have_class : list_all has_class rows ≡ true
rows_have_class = refl

must_hold : (b : Bool) → (b ≡ false → ⊥) → b ≡ true
must_hold true h = refl
must_hold false h = absurd (h refl)

-- what all things of a list pass, the one at a place passes
holds_at : {A : Type 0} (test : A → Bool) (xs : List A) (i : ℕ) (d : A) → i < length xs → list_all test xs ≡ true → test (get_or xs i d) ≡ true
holds_at test xs i d lt all = must_hold (test (get_or xs i d)) (λ no. let e : true ≡ false = sym all ∙ list_all_at test xs i d lt no in cc)

-- ---- the first row, and the only one

either_row : (o p : Option CtlName) (n : CtlName) → option_or o p ≡ Some n → (o ≡ Some n) ⊎ (p ≡ Some n)
either_row None p n h = inr h
either_row (Some m) p n h = inl h

or_none : (o p : Option CtlName) → ((n : CtlName) → o ≡ Some n → ⊥) → option_or o p ≡ p
or_none None p h = refl
or_none (Some m) p h = absurd (h m refl)

-- a name that was found is of the row at some place
pub found_at : (number : ℕ) (rs : List RowFacts) (name : List ℕ) (n : CtlName) (d : RowFacts) → first_row number rs name ≡ Some n → (k : ℕ) × ((k < length rs) × (n.row ≡ number + k) × (matched (number + k) (get_or rs k d) name ≡ Some n))
found_at number [] name n d h = absurd (none-some n h)
found_at number (r ∷ rs) name n d h =
    elim (either_row (matched number r name) (first_row (number + 1) rs name) n h) [
      | inl here ↦ (0, (omega arith, omega (arith, match_row (unindexed number) (parts r) (words_of 46 name) n here), subst (λ (i : ℕ). matched i r name ≡ Some n) (same 0 number (omega arith)) here))
      | inr there ↦
          let more = found_at (number + 1) rs name n d there in
          (suc more.0, (omega (arith, more.1.0), omega (arith, more.1.1), subst (λ (i : ℕ). matched i (get_or rs more.0 d) name ≡ Some n) (omega arith) more.1.2))
    ]
  where
    same : (k i : ℕ) → k ≡ 0 → i ≡ i + k
    same k i e = omega arith

-- a name that matches the row at a place is found there, where no name matches two rows
pub is_found : (number : ℕ) (rs : List RowFacts) (name : List ℕ) (k : ℕ) (n : CtlName) (d : RowFacts) → all_apart (map parts rs) ≡ true → k < length rs → matched (number + k) (get_or rs k d) name ≡ Some n → first_row number rs name ≡ Some n
is_found number [] name k n d apart lt h = absurd (omega arith)
is_found number (r ∷ rs) name zero n d apart lt h =
    let here : matched number r name ≡ Some n = subst (λ (i : ℕ). matched i r name ≡ Some n) (omega arith) h in
    rw here refl
is_found number (r ∷ rs) name (suc k) n d apart lt h =
    let both = and_parts (list_all (parts_apart (parts r)) (map parts rs)) (all_apart (map parts rs)) apart in
    let there : matched (number + 1 + k) (get_or rs k d) name ≡ Some n = subst (λ (i : ℕ). matched i (get_or rs k d) name ≡ Some n) (omega arith) h in
    or_none (matched number r name) (first_row (number + 1) rs name) (λ m here. none_match_both (unindexed number) (unindexed (number + suc k)) (parts r) (parts (get_or rs k d)) (words_of 46 name) m n (apart_at r rs k d (omega arith) both.0) here h)
    ∙ is_found (number + 1) rs name k n d both.1 (omega arith) there
  where
    apart_at : (r : RowFacts) (rs : List RowFacts) (k : ℕ) (d : RowFacts) → k < length rs → list_all (parts_apart (parts r)) (map parts rs) ≡ true → parts_apart (parts r) (parts (get_or rs k d)) ≡ true
    apart_at r rs k d lt all =
        subst (λ (p : List (List ℕ)). parts_apart (parts r) p ≡ true) (get_or-map parts rs k d (parts d) lt)
        (holds_at (parts_apart (parts r)) (map parts rs) k (parts d) (omega (arith, lt, length-map rs parts)) all)

found_in : (rs : List RowFacts) (name : List ℕ) (n : CtlName) (d : RowFacts) → first_row 0 rs name ≡ Some n → (n.row < length rs) × (matched n.row (get_or rs n.row d) name ≡ Some n)
found_in rs name n d h =
    let more = found_at 0 rs name n d h in
    let e : 0 + more.0 ≡ n.row = sym more.1.1 in
    let place : more.0 ≡ n.row = omega (arith, e) in (
      omega (arith, more.1.0, place),
      subst (λ (i : ℕ). matched n.row (get_or rs i d) name ≡ Some n) place (subst (λ (i : ℕ). matched i (get_or rs more.0 d) name ≡ Some n) e more.1.2),
    )

class_in : (rs : List RowFacts) (name : List ℕ) (n : CtlName) (d : RowFacts) → list_all has_class rs ≡ true → n.row < length rs → matched n.row (get_or rs n.row d) name ≡ Some n → n.j < class_limit (get_or rs n.row d).on_plain
class_in rs name n d all lt h =
    let below = match_class 1 (unindexed n.row) (parts (get_or rs n.row d)) (words_of 46 name) n (omega arith) h in
    within (class_below 1 (parts (get_or rs n.row d))) (class_limit (get_or rs n.row d).on_plain) n.j below (holds_at has_class rs n.row d lt all)
  where
    within : (a b j : ℕ) → j < a → nat_le a b ≡ true → j < b
    within a b j lt le = grind (arith, nat_tests)

only_in : (rs : List RowFacts) (name : List ℕ) (n : CtlName) (d : RowFacts) → all_apart (map parts rs) ≡ true → n.row < length rs → matched n.row (get_or rs n.row d) name ≡ Some n → first_row 0 rs name ≡ Some n
only_in rs name n d apart lt h =
    let e : n.row ≡ 0 + n.row = omega arith in
    is_found 0 rs name n.row n d apart lt (subst (λ (i : ℕ). matched i (get_or rs n.row d) name ≡ Some n) e h)

-- ---- what a name is

-- no row
none : RowFacts
none = row [] Wanting Never

-- a name that is found is of its row
pub found_is : (name : List ℕ) (n : CtlName) → name_of name ≡ Some n → IsOfRow name n
unfolding name_of none
found_is name n h = (found_in rows name n none h).1

-- and it is a name
pub found_named : (name : List ℕ) (n : CtlName) → name_of name ≡ Some n → IsName n
unfolding name_of none
found_named name n h =
    let found = found_in rows name n none h in
    record { row = found.0; class = class_in rows name n none rows_have_class found.0 found.1 }

-- a name that is of a row is found
pub only_found : (name : List ℕ) (n : CtlName) → n.row < 43 → IsOfRow name n → name_of name ≡ Some n
unfolding name_of none
only_found name n lt h = only_in rows name n none rows_apart lt h
