use Rattle.arena_core.proofs.Words.{IsTrue, arith, subst, nat_tests, join_stands, space_of}
use Rattle.arena_core.proofs.Homes.{in_flight}
use Rattle.arena_core.proofs.resizes.join_done.Goals as goal

pub join_home-requires-clause-beside : goal.join_home-requires-clause-beside
join_home-requires-clause-beside c =
    let at = in_flight c.args.client (space_of c.args.indexes.now) c.in-Merge.high c.in-Done-Some.part c.requires.sound c.in-Done-Some.ensures.flight in
    let stands = subst (λ ask. IsTrue (join_stands (space_of c.args.indexes.now) c.args.client c.args.class ask c.args.heard.answer)) c.in-Merge.is c.requires.stands in
    grind (arith, nat_tests, at.first, stands)
