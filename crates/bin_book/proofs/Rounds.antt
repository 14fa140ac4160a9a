-- Region after region is taken.
use Rattle.bin_book.proofs.Words.{zero, suc, ◌≡◌, ℕ, ◌+◌, ◌≤◌, not, ◌&&◌, eqb, List, [], ◌∷◌, ◌++◌, length, map, take, refl, sym, ap, ◌∙◌, arith, list_any-append, Region, inserted, landing, BinSlab, is_among, with_regions_out, filter_all_of, filter_both, filter_same, map_both}
use Rattle.std.proofs.lemmas.Grind.{common_steps}

-- one more of a list whose rest begins with it
pub one_more : (xs next : List ℕ) (i a : ℕ) → i ≤ length xs → take i xs ++ a ∷ next ≡ xs → (i + 1 ≤ length xs) × (take (i + 1) xs ≡ take i xs ++ a ∷ []) × (take (i + 1) xs ++ next ≡ xs)
one_more [] next zero a le e = absurd (cc)
one_more [] next (suc i) a le e = absurd (omega arith)
one_more (x ∷ xs) next zero a le e = grind (arith, common_steps, e)
one_more (x ∷ xs) next (suc i) a le e = grind (arith, common_steps, one_more xs next i a, e)

-- slabs without no address, and without one more
pub without_none : (slabs : List BinSlab) → slabs ≡ map (with_regions_out []) slabs
without_none [] = refl
without_none (s ∷ slabs) = grind (arith, without_none slabs, filter_all_of (λ a. not (is_among [] a)) s.free (λ a m. refl))

among_more : (addrs : List ℕ) (a b : ℕ) → not (is_among (addrs ++ a ∷ []) b) ≡ (not (is_among addrs b) && not (is_among (a ∷ []) b))
among_more addrs a b = ap not (list_any-append (λ x. eqb x b) addrs (a ∷ [])) ∙ grind arith

pub without_more : (addrs : List ℕ) (a : ℕ) (slabs : List BinSlab) → map (with_regions_out (addrs ++ a ∷ [])) slabs ≡ map (with_regions_out (a ∷ [])) (map (with_regions_out addrs) slabs)
without_more addrs a slabs = map_both (with_regions_out addrs) (with_regions_out (a ∷ [])) (with_regions_out (addrs ++ a ∷ [])) slabs (λ s m k. record {
  class = s.class;
  first = s.first;
  free = (filter_same (λ b. not (is_among (addrs ++ a ∷ []) b)) (λ b. not (is_among addrs b) && not (is_among (a ∷ []) b)) s.free (λ b n. among_more addrs a b) ∙ sym (filter_both (λ b. not (is_among addrs b)) (λ b. not (is_among (a ∷ []) b)) s.free)) k;
})

-- one more region lands
pub landing_more : (come : List Region) (r : Region) (rs : List Region) → inserted r (landing come rs) ≡ landing (come ++ r ∷ []) rs
landing_more [] r rs = refl
landing_more (q ∷ come) r rs = landing_more come r (inserted q rs)
