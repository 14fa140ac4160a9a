use Rattle.arena_core.proofs.Words.{◌≡◌, ◌-◌, pages_end, moved_to, goes_to}
use Rattle.arena_core.proofs.Rounds.{Walk}
use Rattle.arena_core.proofs.ends.move_all.Given as goal

abbrev pub invariant-loop-part : goal.invariant-loop-part
invariant-loop-part l = record {
  walk : Walk (λ p. goes_to l.rest p.state) (moved_to l.rest) l.fn.extents.parts l.extents.parts l.page;
  spare : l.extents.spare ≡ l.fn.extents.spare;
}

abbrev pub decreases-loop-part : goal.decreases-loop-part
decreases-loop-part l = pages_end - l.page
