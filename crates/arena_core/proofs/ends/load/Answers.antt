use Rattle.arena_core.proofs.Words.{arith, cached_least, held_apart, space_of}
use Rattle.arena_core.proofs.Totals.{flights_few, flights_of_others}
use Rattle.arena_core.proofs.ends.load.Goals as goal

pub overflow_add-held : goal.overflow_add-held
overflow_add-held c =
    let s = space_of c.args.indexes.now in
    omega (arith, c.count_others.ensures.few, c.count_others.ensures.others, held_apart c.args.client s.regions, cached_least s c.args.client c.args.cached c.requires.stands)

pub overflow_add-flights : goal.overflow_add-flights
overflow_add-flights c = omega (arith, c.count_flights.ensures, c.len.ensures.len, c.len.ensures.few, flights_few (space_of c.args.indexes.now) c.requires.sound)

pub returns-clause-flights : goal.returns-clause-flights
returns-clause-flights c = omega (arith, c.count_flights.ensures, c.len.ensures.len, flights_of_others (space_of c.args.indexes.now) c.args.client c.args.cached c.requires.stands)
