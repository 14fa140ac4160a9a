use Rattle.std.proofs.Common.{◌≡◌, ◌-◌, ◌≤◌, map, replicate, vec_len}
use Rattle.addr_space.specs.Shared.{shared_account}
use Rattle.addr_space.proofs.shared.SharedSpace.shelf.Given as goal

-- no box so far has refused anything
abbrev pub invariant-loop-boxes : goal.invariant-loop-boxes
invariant-loop-boxes g l = record {
  few : vec_len l.boxes ≤ 32;
  fresh : map (λ s. shared_account s.refusals.count) l.boxes.items ≡ replicate (vec_len l.boxes) (shared_account 0);
}

abbrev pub decreases-loop-boxes : goal.decreases-loop-boxes
decreases-loop-boxes g l = 32 - vec_len l.boxes
