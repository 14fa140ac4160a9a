use Rattle.std.proofs.Common.{◌≡◌, ◌<◌, ◌^◌, arith, rules}
use Rattle.space_model.specs.Counts.{bytes_where}
use Rattle.plain_machine.specs.Uses.{is_of}
use Rattle.plain_machine.proofs.Bounds.{bytes_where_fits}
use Rattle.plain_machine.proofs.sums.bytes_in.Goals as goal

pub sum-requires-clause-fits : goal.sum-requires-clause-fits
sum-requires-clause-fits c =
    let fits : bytes_where (is_of c.args.kind) c.as_slice.result.now < 2 ^ 64 =
    rw c.as_slice.ensures (omega (arith, bytes_where_fits (is_of c.args.kind) c.args.space.now c.requires)) in
    search rules

pub returns-clause-within : goal.returns-clause-within
returns-clause-within c =
    let bytes : c.sum.result ≡ bytes_where (is_of c.args.kind) c.args.space.now.parts = search rules in
    omega (arith, bytes_where_fits (is_of c.args.kind) c.args.space.now c.requires)
