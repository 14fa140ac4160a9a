-- What one client owns in an arena: what no step of another client changes.
use Rattle.std.specs.Prelude.{ℕ, Bool, false, ◌==◌, List, filter}
use Rattle.space_model.specs.Types.{Part, Offered, Region, Life, Dying, Space}
use Rattle.space_model.specs.Clients.{is_in}
use Rattle.space_model.specs.Part.{is_flight}
use Rattle.space_model.specs.Region.{is_held_by}

-- the client's extents in flight and its offers in their order, its regions, and whether it is bound to the arena, is
-- shrinking a region of it in place, or is destroying it
pub record Mine : Type 0 where
  pub flights : List Part
  pub offers : List Offered
  pub regions : List Region
  pub bound : Bool
  pub trims : Bool
  pub dying : Bool

-- whether the client is destroying the arena
abbrev pub is_dying : ℕ → Life → Bool
is_dying client (Dying c) = c == client
is_dying client _ = false

-- what the client owns
abbrev pub mine : ℕ → Space → Mine
mine client s = record {
  flights = filter (λ p. is_flight client p.state) s.parts;
  offers = filter (λ o. o.client == client) s.offers;
  regions = filter (is_held_by client) s.regions;
  bound = is_in client s.bound;
  trims = is_in client s.trims;
  dying = is_dying client s.life;
}
