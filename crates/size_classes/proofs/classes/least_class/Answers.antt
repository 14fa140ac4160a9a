use Rattle.std.proofs.Common.{◌-◌, ◌/◌, ◌^◌, arith}
use Rattle.size_classes.proofs.Computed.{IsQuarter, quarter_of, class_of_least, class_up_to_128, class_above_128}
use Rattle.size_classes.proofs.classes.least_class.Goals as goal

-- the quarter that the code computes
quarter : (c : goal.After-ilog2-doubling) →
    IsQuarter (c.args.size - 1) c.ilog2-doubling.result ((c.args.size - 1) / 2 ^ (c.ilog2-doubling.result - 2))
quarter c =
    quarter_of (c.args.size - 1) c.ilog2-doubling.result (omega arith) (omega arith)
    c.ilog2-doubling.ensures.power_le c.ilog2-doubling.ensures.next_power_gt

pub returns-then-size-le8-clause-class : goal.returns-then-size-le8-clause-class
returns-then-size-le8-clause-class c = class_of_least c.args.size c.if-size-le8.true

pub returns-then-size-le128-clause-class : goal.returns-then-size-le128-clause-class
returns-then-size-le128-clause-class c =
    rw c.div_ceil.ensures (class_up_to_128 c.args.size c.if-size-le8.false c.if-size-le128.true)

pub overflow_sub-quarter : goal.overflow_sub-quarter
overflow_sub-quarter c = omega (arith, (quarter c).doubling.0)

pub overflow_sub-result : goal.overflow_sub-result
overflow_sub-result c = (class_above_128 c.args.size _ _ c.if-size-le128.false (quarter c)).0

pub overflow_cast-result-3 : goal.overflow_cast-result-3
overflow_cast-result-3 c = omega (arith, (class_above_128 c.args.size _ _ c.if-size-le128.false (quarter c)).1)

pub returns-clause-class : goal.returns-clause-class
returns-clause-class c = (class_above_128 c.args.size _ _ c.if-size-le128.false (quarter c)).2

pub returns-clause-in_table : goal.returns-clause-in_table
returns-clause-in_table c = (class_above_128 c.args.size _ _ c.if-size-le128.false (quarter c)).1
