use Rattle.std.proofs.Common.{arith}
use Rattle.lane_scan.specs.Ranges.{is_inside}
use Rattle.lane_scan.proofs.RangeLemmas.{mask_more, mask_one}
use Rattle.lane_scan.proofs.ranges.marks_of.Goals as goal

pub loop-at-preserved-then-values-at-ge-LANES : goal.loop-at-preserved-then-values-at-ge-LANES
loop-at-preserved-then-values-at-ge-LANES c = record {
  within = omega arith;
  marked = mask_more (is_inside c.args.lo c.args.hi) c.args.values.now c.loop-at.at 16 _ _ (omega arith) (omega arith)
      c.loop-at.invariant.marked c.lane_marks.ensures;
}

pub loop-at-preserved : goal.loop-at-preserved
loop-at-preserved c =
    let inside = is_inside c.args.lo c.args.hi in
    let one = mask_one inside c.args.values.now c.loop-at.at c.loop-at-test.true in record {
      within = omega arith;
      marked = mask_more inside c.args.values.now c.loop-at.at 1 _ _ (omega arith) (omega arith) c.loop-at.invariant.marked (cc);
    }
