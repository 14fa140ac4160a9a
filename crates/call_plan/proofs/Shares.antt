-- Regions that are shared out, one after another.
use Rattle.call_plan.proofs.Words.{◌≡◌, ℕ, ◌+◌, ◌-◌, ◌<◌, ◌≤◌, map, min, ap, arith, suc, zero, range_with_len, address_behind, held_region, sharing}
use Rattle.call_plan.specs.Clients.{DeskFacts, caching}

-- one more of those that landed
pub landed_more : (arena class first place count : ℕ) (desk : DeskFacts) → place < count →
    sharing arena class (map (address_behind first class) (range_with_len place (count - place))) desk
    ≡ caching (held_region arena class (address_behind first class place)) (sharing arena class (map (address_behind first class) (range_with_len (place + 1) (count - (place + 1)))) desk)
landed_more arena class first place count desk below =
    let one : count - place ≡ suc (count - (place + 1)) = omega (arith, below) in
    ap (λ n. sharing arena class (map (address_behind first class) (range_with_len place n)) desk) one

-- two limits are one
pub limit_once : (first behind most : ℕ) → min (first + min behind most) most ≡ min (first + behind) most
limit_once first behind most = grind arith

-- the first place and those behind it
pub all_behind : (place count : ℕ) → place ≤ 1 → place ≤ count → (1 ≤ count → 1 ≤ place) → range_with_len place (count - place) ≡ range_with_len 1 (count - 1)
all_behind place zero most within some = let none : place ≡ 0 = omega (arith, within) in ap (λ p. range_with_len p (0 - p)) none
all_behind place (suc count) most within some = let one : place ≡ 1 = omega (arith, most, some (omega arith)) in ap (λ p. range_with_len p (suc count - p)) one

-- what tells where regions that landed are cached
pub ruleset landings = (landed_more, all_behind)
