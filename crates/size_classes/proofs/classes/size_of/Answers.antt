use Rattle.std.proofs.Common.{sym, arith}
use Rattle.size_classes.proofs.Table.{align_divides, first_size, size_bounds}
use Rattle.size_classes.proofs.Computed.{size_up_to_128, size_above_128}
use Rattle.size_classes.proofs.classes.size_of.Goals as goal

pub returns-in-0-clause-size : goal.returns-in-0-clause-size
returns-in-0-clause-size c = rw c.in-0.is (sym first_size)

pub returns-in-1-to-8-clause-size : goal.returns-in-1-to-8-clause-size
returns-in-1-to-8-clause-size c = size_up_to_128 c.args.class (omega arith) (omega arith)

pub returns-in_default-clause-size : goal.returns-in_default-clause-size
returns-in_default-clause-size c = size_above_128 c.args.class (omega arith) c.requires

pub returns-in_default-clause-at_least : goal.returns-in_default-clause-at_least
returns-in_default-clause-at_least c =
    rw (size_above_128 c.args.class (omega arith) c.requires) ((size_bounds c.args.class c.requires).0)

pub returns-in_default-clause-at_most : goal.returns-in_default-clause-at_most
returns-in_default-clause-at_most c =
    rw (size_above_128 c.args.class (omega arith) c.requires) ((size_bounds c.args.class c.requires).1)

pub returns-in-0-clause-aligned : goal.returns-in-0-clause-aligned
returns-in-0-clause-aligned c =
    rw (returns-in-0-clause-size c) ((align_divides c.args.class c.requires).1)

pub returns-in-1-to-8-clause-aligned : goal.returns-in-1-to-8-clause-aligned
returns-in-1-to-8-clause-aligned c =
    rw (returns-in-1-to-8-clause-size c) ((align_divides c.args.class c.requires).1)

pub returns-in_default-clause-aligned : goal.returns-in_default-clause-aligned
returns-in_default-clause-aligned c =
    rw (returns-in_default-clause-size c) ((align_divides c.args.class c.requires).1)
