-- No page is in the spaces that two journals leave.
use Rattle.heap_runs.proofs.Words.{◌≡◌, ◌∙◌, ◌≤◌, ◌∷◌, [], ℕ, Bool, true, cond, List, Some, refl, ap, arith, nat_tests, slice_get, suc, zero}
use Rattle.std.specs.Prelude.{◌/◌}
use Rattle.std.specs.List.{count_by, list_any}
use Rattle.std.proofs.lemmas.List.Folds.{Any-from_list_any, list_any-from_Any}
use Rattle.std.proofs.lemmas.List.Sums.{sum_by-cons}
use Rattle.space_model.specs.Span.{chunk_span, has_page, meets}
use Rattle.space_model.specs.declared.parts.Part.{Part}
use Rattle.space_model.specs.declared.parts.Span.{Span}
use Rattle.heap_runs.proofs.Passing.{same_element}

-- extents that have a page meet its chunk
pub page_meets : (page : ℕ) (parts : List Part) → list_any (λ p. has_page page p.span) parts ≡ true → list_any (λ p. meets p.span (chunk_span (page / 512))) parts ≡ true
page_meets page parts some =
    let at = Any-from_list_any (λ p. has_page page p.span) parts some in
    list_any-from_Any (λ p. meets p.span (chunk_span (page / 512))) parts (at.0, at.1, at.2, at.3, met at.1.span at.4)
  where
    met : (s : Span) → has_page page s ≡ true → meets s (chunk_span (page / 512)) ≡ true
    met s here = grind (arith, nat_tests)

-- what one counts for
abbrev bit : Bool → ℕ
bit v = cond v 1 0

module _ {X : Type 0} (test : X → Bool) where
  -- one that passes is counted
  counted : (xs : List X) (i : ℕ) (x : X) → slice_get xs i ≡ Some x → test x ≡ true → 1 ≤ count_by test xs
  counted [] i x at is = absurd (cc)
  counted (y ∷ ys) zero x at is =
      let same = same_element y x at in
      let here : test y ≡ true = ap test same ∙ is in
      let more = sum_by-cons (λ z. bit (test z)) y ys in
      let one : bit (test y) ≡ 1 = ap bit here in
      omega (arith, more, one)
  counted (y ∷ ys) (suc i) x at is =
      let rest = counted ys i x at is in
      let more = sum_by-cons (λ z. bit (test z)) y ys in
      omega (arith, more, rest)

  -- where no two pass, two that pass are one
  pub only_one : (xs : List X) (i j : ℕ) (x y : X) → count_by test xs ≤ 1 → slice_get xs i ≡ Some x → slice_get xs j ≡ Some y → test x ≡ true → test y ≡ true → i ≡ j
  only_one [] i j x y few at there is also = absurd (cc)
  only_one (z ∷ zs) zero zero x y few at there is also = refl
  only_one (z ∷ zs) zero (suc j) x y few at there is also =
      let one : bit (test z) ≡ 1 = ap bit (ap test (same_element z x at) ∙ is) in
      let more = sum_by-cons (λ w. bit (test w)) z zs in
      let rest = counted zs j y there also in
      absurd (omega (arith, one, more, rest, few))
  only_one (z ∷ zs) (suc i) zero x y few at there is also =
      let one : bit (test z) ≡ 1 = ap bit (ap test (same_element z y there) ∙ also) in
      let more = sum_by-cons (λ w. bit (test w)) z zs in
      let rest = counted zs i x at is in
      absurd (omega (arith, one, more, rest, few))
  only_one (z ∷ zs) (suc i) (suc j) x y few at there is also =
      let more = sum_by-cons (λ w. bit (test w)) z zs in
      ap (λ n. suc n) (only_one zs i j x y (omega (arith, more, few)) at there is also)
