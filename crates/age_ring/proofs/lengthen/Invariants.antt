use Rattle.std.proofs.Common.{◌≡◌, ℕ, ◌<◌, ◌≤◌, vec_len, vec_capacity}
use Rattle.age_ring.specs.Links.{link_at}
use Rattle.age_ring.proofs.lengthen.Given as goal

abbrev pub invariant-loop : goal.invariant-loop
invariant-loop l = record {
  kept : (k : ℕ) → link_at l.links.items k ≡ link_at l.initial.links.items k;
  here : vec_len l.initial.links ≤ l.wanted → vec_len l.links ≡ l.counter;
  past : l.wanted < vec_len l.initial.links → vec_len l.links ≡ vec_len l.initial.links;
  room : l.wanted ≤ vec_capacity l.links;
}
