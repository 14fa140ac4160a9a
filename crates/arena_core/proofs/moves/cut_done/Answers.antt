use Rattle.arena_core.proofs.Words.{IsTrue, arith, subst, nat_tests, cut_stands, space_of}
use Rattle.arena_core.proofs.Homes.{in_flight}
use Rattle.arena_core.proofs.moves.cut_done.Goals as goal

pub cut-requires-clause-placed : goal.cut-requires-clause-placed
cut-requires-clause-placed c =
    (in_flight c.args.client (space_of c.args.indexes.now) c.in-Split.span c.in-Done-Some.part c.requires.sound c.in-Done-Some.ensures.flight).placed

pub cut-requires-clause-fewer : goal.cut-requires-clause-fewer
cut-requires-clause-fewer c =
    let at = in_flight c.args.client (space_of c.args.indexes.now) c.in-Split.span c.in-Done-Some.part c.requires.sound c.in-Done-Some.ensures.flight in
    let stands = subst (λ ask. IsTrue (cut_stands (space_of c.args.indexes.now) c.args.client ask c.args.heard.answer)) c.in-Split.is c.requires.stands in
    grind (arith, nat_tests, at.pages, stands)
