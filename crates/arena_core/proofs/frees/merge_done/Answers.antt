use Rattle.arena_core.proofs.Words.{IsTrue, arith, subst, sym, merge_stands, joined_fits, space_of}
use Rattle.arena_core.proofs.Homes.{merged_beside}
use Rattle.arena_core.proofs.frees.merge_done.Goals as goal

pub merge-requires-clause-beside : goal.merge-requires-clause-beside
merge-requires-clause-beside c =
    let stands = subst (λ ask. IsTrue (merge_stands (space_of c.args.indexes.now) c.args.client ask c.args.heard.answer)) c.in-Merge.is c.requires.stands in
    merged_beside c.args.client (space_of c.args.indexes.now) c.in-Merge.low c.in-Merge.high c.args.heard.answer c.in-Some-Some.low c.in-Some-Some.high c.requires.sound stands
    c.in-Some-Some.ensures.flight c.in-Some-Some.ensures'.flight

pub overflow_add-result : goal.overflow_add-result
overflow_add-result c = omega (
  arith,
  joined_fits c.args.client (space_of c.args.indexes.now) c.in-Merge.low c.in-Merge.high c.in-Some-Some.low c.in-Some-Some.high c.requires.sound
      (sym c.in-Some-Some.ensures.flight) (sym c.in-Some-Some.ensures'.flight),
)
