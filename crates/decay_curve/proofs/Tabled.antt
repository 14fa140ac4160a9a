-- The table of weights holds what the formula gives.
use Rattle.std.proofs.Common.{◌≡◌, ℕ, ◌≤◌, Bool, true, refl, arith, eqb, slice_index_or}
use Rattle.std.proofs.lemmas.Bool.{agree_below, agree_below_at, eqb-true}
use Rattle.space_model.specs.Pace.{weight}
use Rattle.decay_curve.specs.declared.weights.TheConstants.{WEIGHTS}

abbrev tabled : ℕ → Bool
tabled k = eqb (slice_index_or WEIGHTS k 0) (weight k)

tabled_below : agree_below tabled (λ _. true) 201 ≡ true
unfolding weight
tabled_below = refl

pub weights_hold : (k : ℕ) → k ≤ 200 → slice_index_or WEIGHTS k 0 ≡ weight k
weights_hold k within = eqb-true _ _ (agree_below_at tabled (λ _. true) 201 k tabled_below (omega arith))
