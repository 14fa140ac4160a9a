use Rattle.std.proofs.Common.{◌<◌, ◌^◌, arith, rules}
use Rattle.space_model.specs.Counts.{region_bytes}
use Rattle.space_model.proofs.Sums.{region_bytes_fits}
use Rattle.plain_machine.proofs.sums.region_bytes.Goals as goal

pub sum-requires-clause-fits : goal.sum-requires-clause-fits
sum-requires-clause-fits c =
    let fits : region_bytes c.as_slice.result.now < 2 ^ 64 = rw c.as_slice.ensures (omega (arith, region_bytes_fits c.args.space.now c.requires)) in
    search rules
