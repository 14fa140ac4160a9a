use Rattle.std.proofs.Common.{◌<◌, ◌^◌, arith, rules, nat_lt, not, cond}
use Rattle.space_model.specs.Counts.{region_bytes_where}
use Rattle.plain_machine.proofs.Bounds.{region_bytes_where_fits}
use Rattle.plain_machine.proofs.sums.region_bytes_of.Goals as goal

pub sum-requires-clause-fits : goal.sum-requires-clause-fits
sum-requires-clause-fits c =
    let fits : region_bytes_where (λ class. cond c.args.small (nat_lt class 36) (not (nat_lt class 36))) c.as_slice.result.now < 2 ^ 64 =
    rw c.as_slice.ensures
    (omega (arith, region_bytes_where_fits (λ class. cond c.args.small (nat_lt class 36) (not (nat_lt class 36))) c.args.space.now c.requires)) in
    search rules
