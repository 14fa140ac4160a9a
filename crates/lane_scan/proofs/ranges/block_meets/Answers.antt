use Rattle.std.proofs.Common.{◌-◌, arith}
use Rattle.std.proofs.lemmas.Simd.{get_or-chunk, length-chunk}
use lib.Lanes.{chunk}
use Rattle.lane_scan.proofs.LaneLemmas.{none_meets}
use Rattle.lane_scan.proofs.ranges.block_meets.Goals as goal

pub returns : goal.returns
returns c none k above below =
    let fs = c.args.firsts.now in
    let es = c.args.ends.now in
    let at = c.args.at in
    let long = length-chunk at 16 fs c.requires.firsts in
    let same = length-chunk at 16 es c.requires.ends in
    let apart = none_meets (chunk at 16 fs) (chunk at 16 es) c.args.lo c.args.hi _ _ (omega arith)
    c.below-begins.ensures.words c.below-begins.ensures.tops c.below-ended.ensures.tops none (k - at) (omega arith) in
    grind (arith, get_or-chunk at 16 fs (k - at) 0, get_or-chunk at 16 es (k - at) 0)
