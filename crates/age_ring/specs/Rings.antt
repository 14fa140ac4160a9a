-- What a ring keeps between calls.
use Rattle.std.specs.Prelude.{ℕ, ◌-◌, ◌^◌, ◌≤◌, List, map, vec_len}
use Rattle.age_ring.specs.declared.AgeRing.TheInside.{Inside}
use Rattle.age_ring.specs.declared.Link.{Link}
use Rattle.age_ring.specs.Ages.{Ages}
use Rattle.age_ring.specs.Links.{IsRing, next_of, prev_of, walk}

-- the places of the numbers, which are one above them
abbrev pub ring_of : List Link → ℕ → List ℕ
ring_of links len = walk (next_of links) len (next_of links 0)

-- the numbers, and the places
abbrev pub shown : Inside → Ages
shown ages = record { numbers = map (λ k. k - 1) (ring_of ages.links.items ages.len); places = vec_len ages.links - 1 }

-- the places of the numbers lie in a ring
pub record IsShown (ages : Inside) : Type 0 where
  pub ring : IsRing (next_of ages.links.items) (prev_of ages.links.items) (vec_len ages.links) (ring_of ages.links.items ages.len)
  pub small : vec_len ages.links ≤ 2 ^ 32
