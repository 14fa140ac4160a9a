-- How large the numbers of a decay are.
use Rattle.std.proofs.Common.{◌≡◌, ℕ, suc, ◌+◌, ◌-◌, ◌*◌, ◌/◌, ◌^◌, ◌<◌, ◌≤◌, max, Bool, true, ◌&&◌, List, [], ◌∷◌, refl, inl, inr, arith, All, AllPairs, leb}
use Rattle.space_model.proofs.Words.{sum_by, mul-le-mul, mul-le-mul_left, div-le_self, cases_lt, nat_tests, sum_by-cons, All-head, All-tail, passes_below, at, Added, pages_end, weighed, limit_at}
use Rattle.space_model.specs.Pace.{weight}

-- The powers of a number of epochs, and what that weighs, are in their bounds.
pub record Fitting (k : ℕ) : Type 0 where
  pub fifth : k ^ 5 ≤ 200 ^ 5
  pub fourth : k ^ 4 ≤ 200 ^ 4
  pub third : k ^ 3 ≤ 200 ^ 3
  pub less : 3000 * k ^ 4 ≤ 6 * k ^ 5 + 400000 * k ^ 3
  pub weight : weight k ≤ 2 ^ 24

-- the same as a test
abbrev fitting : ℕ → Bool
fitting k =
    leb (k ^ 5) (200 ^ 5)
    && (leb (k ^ 4) (200 ^ 4) && (leb (k ^ 3) (200 ^ 3) && (leb (3000 * k ^ 4) (6 * k ^ 5 + 400000 * k ^ 3) && leb (weight k) (2 ^ 24))))

fitting_below : passes_below fitting 201 ≡ true
unfolding weight
fitting_below = refl

pub weight_fits : (k : ℕ) → k ≤ 200 → Fitting k
weight_fits k within =
    let fits = at fitting 201 k fitting_below (omega arith) in record {
      fifth = grind (arith, nat_tests, fits);
      fourth = grind (arith, nat_tests, fits);
      third = grind (arith, nat_tests, fits);
      less = grind (arith, nat_tests, fits);
      weight = grind (arith, nat_tests, fits);
    }

-- an addition weighs at most as much as all pages
pub weighed_le : (epoch : ℕ) (a : Added) → a.pages ≤ pages_end → weighed epoch a ≤ 2 ^ 53
weighed_le epoch a pages =
    let most : epoch - a.epoch < 200 → a.pages * weight (200 - (epoch - a.epoch)) ≤ pages_end * 2 ^ 24 = λ young. mul-le-mul pages (weight_fits (200 - (epoch - a.epoch)) (omega arith)).weight in
    grind (arith, nat_tests, most)

-- an addition that is 200 epochs old weighs nothing
pub weighed_old : (epoch : ℕ) (a : Added) → 200 ≤ epoch - a.epoch → weighed epoch a ≡ 0
weighed_old epoch a old = grind (arith, nat_tests)

-- the epochs that have passed since a start are no more than the nanoseconds
pub epochs_fit : (epoch start now ms : ℕ) → epoch * ms * 5000 ≤ start → 1 ≤ ms → start < 2 ^ 64 → now < 2 ^ 64 →
    epoch + (now - start) / (ms * 5000) < 2 ^ 64
epochs_fit epoch start now ms started some from to =
    let least : epoch * 1 ≤ epoch * ms = mul-le-mul_left epoch some in
    omega (arith, least, div-le_self (now - start) (ms * 5000))
