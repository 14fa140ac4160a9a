-- The recurrence in wrapping arithmetic.
use Rattle.std.proofs.Common.{◌≡◌, ◌∙◌, ℕ, ◌+◌, ◌*◌, ◌/◌, ◌%◌, ◌^◌, ap, sym, arith}
use Rattle.std.proofs.Math.Nat.{add-mul-mod_self_left, mod-add-div}
use Rattle.trace_soak.specs.Soak.{member_after}

-- a remainder is added to as the whole is
wraps : (p c m y : ℕ) → y ≡ p % m → (y + c) % m ≡ (p + c) % m
wraps p c m y e =
    let parts = mod-add-div p m in
    let same : (y + c) + m * (p / m) ≡ p + c = omega (arith, e, parts) in
    sym (add-mul-mod_self_left (y + c) m (p / m)) ∙ ap (λ (k : ℕ). k % m) same

-- a product and a sum that wrap give the next member
pub member_wraps : (x y : ℕ) → y ≡ (x * 6364136223846793005) % 2 ^ 64 → (y + 1442695040888963407) % 2 ^ 64 ≡ member_after x
member_wraps x y e = wraps (x * 6364136223846793005) 1442695040888963407 (2 ^ 64) y e
