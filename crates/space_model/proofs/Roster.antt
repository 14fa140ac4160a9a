-- Lists of clients: that each is in them once, and how many there may be.
use Rattle.std.proofs.Common.{◌≢◌, ◌==◌, ◌≡◌, ℕ, zero, suc, ◌+◌, ◌<◌, ◌≤◌, Bool, false, cond, List, [], ◌∷◌, ◌++◌, filter, length, nat_eq, refl, arith, length-append}
use Rattle.space_model.proofs.Words.{range_with_len, nat_tests, list_any-append, length-le_from_distinct_below, is_in, IsRoster, AllPairs-filter, all_pairs_push}
use Rattle.space_model.proofs.Lists.{counted_any, any_counts, none_passes}
use Rattle.space_model.proofs.Mixes.{mix_sum, mixed_filter}
use Rattle.std.specs.List.{IsDistinct}
use Rattle.std.proofs.lemmas.Map.Made.{AllPairs-from_IsDistinct, IsDistinct-from_AllPairs}
use Rattle.std.proofs.lemmas.Bool.Decides.{Decides-eqb}

-- numbers that are told apart differ
distinct-push : (c : ℕ) (xs : List ℕ) → IsDistinct nat_eq xs → is_in c xs ≡ false → IsDistinct nat_eq (xs ++ c ∷ [])
distinct-push c xs h new =
    IsDistinct-from_AllPairs Decides-eqb _ (all_pairs_push (λ x y. x ≢ y) xs c (AllPairs-from_IsDistinct Decides-eqb xs h) (λ k d lt e. let apart = none_passes (λ b. b == c) xs k d new lt in grind (arith, nat_tests)))

pub IsRoster-filter : (test : ℕ → Bool) (xs : List ℕ) → IsRoster xs → IsRoster (filter test xs)
IsRoster-filter test xs h = record {
  once = IsDistinct-from_AllPairs Decides-eqb _ (AllPairs-filter (λ x y. x ≢ y) test xs (AllPairs-from_IsDistinct Decides-eqb xs h.once));
  below = λ c k. h.below c (counted_any (nat_eq c) xs (omega (arith, any_counts (nat_eq c) (filter test xs) k, mix_sum (λ x. cond (nat_eq c x) 1 0) (mixed_filter test xs))));
}

pub IsRoster-push : (c : ℕ) (xs : List ℕ) → IsRoster xs → c < 32 → is_in c xs ≡ false → IsRoster (xs ++ c ∷ [])
IsRoster-push c xs h fits new = record {
  once = distinct-push c xs h.once new;
  below = λ d k. grind (arith, nat_tests, list_any-append (nat_eq d) xs (c ∷ []), h.below d);
}

-- there is room for one more
pub roster_room : (c : ℕ) (xs : List ℕ) → IsRoster xs → c < 32 → is_in c xs ≡ false → length xs < 32
roster_room c xs h fits new =
    let longer : IsRoster (xs ++ c ∷ []) = IsRoster-push c xs h fits new in
    omega (arith, length-append xs (c ∷ []), length-le_from_distinct_below (xs ++ c ∷ []) 32 longer.once longer.below)

-- a number from the end on isn't in a range
pub range_misses : (c low n : ℕ) → low + n ≤ c → is_in c (range_with_len low n) ≡ false
range_misses c low zero h = refl
range_misses c low (suc n) h = grind (arith, nat_tests, range_misses c (low + 1) n)

pub empty_roster : IsRoster []
unfolding IsDistinct
empty_roster = record { once = tt; below = λ c h. cc }
