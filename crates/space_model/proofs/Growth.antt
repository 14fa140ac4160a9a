-- An answered span against which nothing speaks shares no page with the extents.
use Rattle.std.proofs.Common.{◌≡◌, ℕ, ◌+◌, ◌-◌, ◌/◌, ◌<◌, ◌≤◌, true, false, cond, List, get_or, Option, None, refl, ◌∙◌, subst, arith, find}
use Rattle.space_model.proofs.Words.{list_any, get_or-range_with_len, length-range_with_len, nat_tests, Part, Span, has_page, meets, chunk_span, chunks_of, end_of, holders, is_owned, is_found, is_in_space, why_not}
use Rattle.space_model.proofs.Lists.{find_nothing, none_passes, nothing_sum, or_false}
use Rattle.space_model.proofs.Exchange.{share}

-- where no extent meets a span, none has a page of it
pub nobody_holds : (page : ℕ) (s : Span) (ps : List Part) → list_any (λ p. meets p.span s) ps ≡ false → has_page page s ≡ true → holders page ps ≡ 0
nobody_holds page s ps apart has = nothing_sum (share page) ps (λ k d h. grind (arith, nat_tests, none_passes (λ p. meets p.span s) ps k d apart h))

-- what speaks for an answered span
pub record Free (found : Option ℕ) (parts : List Part) (s : Span) : Type 0 where
  pub inside : is_in_space s ≡ true
  pub nobody : find (is_owned found parts) (chunks_of s) ≡ None

pub why_not-free : (found : Option ℕ) (align : ℕ) (parts : List Part) (s : Span) → why_not found align parts s ≡ None → Free found parts s
why_not-free found align parts s e = record {
  inside = grind arith;
  nobody = grind arith;
}

-- an extent with a free span joins: no page has two extents
pub free-holders : (found : Option ℕ) (parts : List Part) (new : Part) → Free found parts new.span → (page : ℕ) →
    holders page parts ≤ 1 → holders page parts + share page new ≤ 1
free-holders found parts new free page most =
    elim (has_page page new.span) as (λ b. has_page page new.span ≡ b → holders page parts + cond b 1 0 ≤ 1) [
      | false ↦ λ h. omega arith
      | true ↦ λ h.
          let inside : (new.span.first ≤ page) × (page < end_of new.span) = (grind (arith, nat_tests), grind (arith, nat_tests)) in
          let low : ℕ = new.span.first / 512 in
          let place : ℕ = page / 512 - low in
          let above : low ≤ page / 512 = omega arith in
          let within : place < (end_of new.span + 511) / 512 - low = omega arith in
          let unseen = find_nothing (is_owned found parts) (chunks_of new.span) free.nobody place 0 (omega (arith, length-range_with_len low ((end_of new.span + 511) / 512 - low))) in
          let here : get_or (chunks_of new.span) place 0 ≡ page / 512 = get_or-range_with_len low _ place 0 within ∙ omega arith in
          let apart = or_false (is_found found (page / 512)) _ (subst (λ c. is_owned found parts c ≡ false) here unseen) in
          omega (arith, nobody_holds page (chunk_span (page / 512)) parts apart (grind (arith, nat_tests)))
    ] refl
