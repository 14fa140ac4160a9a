use Rattle.std.proofs.Common.{arith}
use Rattle.size_classes.proofs.Alignment.{alignment_test}
use Rattle.size_classes.proofs.classes.is_alignment.Goals as goal

pub returns : goal.returns
returns c =
    alignment_test c.args.align c.ilog2.result (omega arith)
    c.ilog2.ensures.power_le c.ilog2.ensures.next_power_gt c.ilog2.ensures.bound
