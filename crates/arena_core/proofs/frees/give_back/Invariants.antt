use Rattle.arena_core.proofs.Words.{ℕ, ◌≤◌, drop, HasPlaces, space_of, IsBooked}
use Rattle.arena_core.proofs.Rounds.{Left}
use Rattle.arena_core.proofs.frees.give_back.Given as goal

-- the addresses that are left lead to what all of them lead to, and no more extents are emptied than addresses were named
abbrev pub invariant-loop-addr : goal.invariant-loop-addr
invariant-loop-addr l = record {
  rest : Left l.client (drop l.addr-index l.addrs) l.addrs (space_of l.fn.indexes) (space_of l.indexes) l.emptied;
  few : l.emptied ≤ l.addr-index;
  places : (n : ℕ) → HasPlaces l.fn.indexes n → HasPlaces l.indexes n;
  booked : IsBooked (space_of l.indexes) l.indexes.regions.slabs;
}
