use Rattle.std.proofs.Common.{◌≡◌, ◌<◌, ◌^◌, arith, rules}
use Rattle.space_model.specs.Part.{pages_listed}
use Rattle.space_model.proofs.Sums.{listed_fit_space}
use Rattle.plain_machine.proofs.paces.pages_listed.Goals as goal

pub sum-requires-clause-fits : goal.sum-requires-clause-fits
sum-requires-clause-fits c =
    let fits : pages_listed c.args.rest c.as_slice.result.now < 2 ^ 64 =
    rw c.as_slice.ensures (omega (arith, listed_fit_space c.args.rest c.args.space.now c.requires)) in
    search rules

pub returns-clause-within : goal.returns-clause-within
returns-clause-within c =
    let pages : c.sum.result ≡ pages_listed c.args.rest c.args.space.now.parts = search rules in
    omega (arith, listed_fit_space c.args.rest c.args.space.now c.requires)
