use Rattle.std.proofs.Common.{◌∙◌, ltb, ap, arith, w64}
use Rattle.std.proofs.lemmas.Simd.{chunk-fits, length-chunk, length-zip2, bitmask_splat}
use lib.Lanes.{chunk, mask_l}
use Rattle.lane_scan.proofs.LaneLemmas.{offsets_below}
use Rattle.lane_scan.proofs.ranges.lane_marks.Goals as goal

pub returns : goal.returns
returns c =
    let xs = c.args.values.now in
    let block = chunk c.args.at 16 xs in
    let long = length-chunk c.args.at 16 xs c.requires in
    bitmask_splat w64 ltb _ 16 c.saturating_sub.result (length-zip2 _ block _ (omega arith) ∙ long) (omega arith)
    ∙ ap mask_l (offsets_below c.args.lo c.args.hi _ 16 block (chunk-fits w64 c.args.at 16 xs c.type_inv.values)
    c.ranges.lo.fits c.ranges.hi.fits c.saturating_sub.ensures long)
