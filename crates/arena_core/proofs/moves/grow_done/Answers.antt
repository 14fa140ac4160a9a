use Rattle.arena_core.proofs.Words.{arith, nat_tests, sym, Part, Flight, free-holders, why_not-free}
use Rattle.arena_core.proofs.Swaps.{none_meets}
use Rattle.arena_core.proofs.moves.grow_done.Goals as goal
use Rattle.space_model.specs.declared.Rest.TheVariants as rests

pub add-requires-clause-apart : goal.add-requires-clause-apart
add-requires-clause-apart c =
    let parts = c.args.indexes.now.extents.parts in
    let new : Part = record { span = record { first = c.in-Placed.first; pages = c.in-Alloc.pages }; state = Flight c.args.client rests.Retained; committed = c.in-Placed.committed } in
    let free = why_not-free c.args.found c.in-Alloc.align parts new.span (sym c.in_default-why_not.ensures) in
    none_meets parts new c.requires.sound.placed (grind (arith, nat_tests, free.inside)) (λ page. free-holders c.args.found parts new free page (c.requires.sound.owners page))
