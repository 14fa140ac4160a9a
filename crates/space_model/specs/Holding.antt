-- How a region goes from one client to another: its holder publishes it, and some client takes it over.
use Rattle.std.specs.Prelude.{ℕ, Bool, ◌&&◌, find, Option, None, Some}
use Rattle.space_model.specs.Types.{Noted, Nothing, Owned, Region, Space}
use Rattle.space_model.specs.Region.{held_anew, is_held_by, is_published, starts_at}
use Rattle.space_model.specs.Stepped.{Stepped, stays, if_live}

-- whether it is the client's region at the address
abbrev pub is_held_at : ℕ → ℕ → Region → Bool
is_held_at c addr r = is_held_by c r && starts_at addr r

-- whether it is a published region at the address
abbrev pub is_published_at : ℕ → Region → Bool
is_published_at addr r = is_published r && starts_at addr r

-- nobody holds the client's region at the address any more
abbrev pub after_publish : Space → ℕ → ℕ → Stepped
after_publish space c addr =
    stays (record space { regions = held_anew (is_held_at c addr) None space.regions }) Noted

-- the client holds the published region at the address that was found
abbrev pub take_over_at : Space → ℕ → ℕ → Option Region → Stepped
take_over_at space c addr None = stays space Nothing
take_over_at space c addr (Some r) =
    stays (record space { regions = held_anew (is_published_at addr) (Some c) space.regions }) (Owned r.class)

-- takes a published region over
abbrev pub after_take_over : Space → ℕ → ℕ → Stepped
after_take_over space c addr = if_live space (take_over_at space c addr (find (is_published_at addr) space.regions))
