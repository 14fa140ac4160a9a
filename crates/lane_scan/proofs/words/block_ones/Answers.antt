use Rattle.std.proofs.Common.{arith, w64}
use Rattle.std.proofs.lemmas.Simd.{chunk-fits, length-chunk}
use lib.Lanes.{chunk}
use Rattle.lane_scan.proofs.BitLemmas.{lane_sum, ones-le}
use Rattle.lane_scan.proofs.words.block_ones.Goals as goal

pub overflow_cast-result : goal.overflow_cast-result
overflow_cast-result c =
    let block = chunk c.args.at 8 c.args.words.now in
    let same = lane_sum 0 block (chunk-fits w64 c.args.at 8 c.args.words.now c.type_inv.words) in
    record { fits = omega (arith, ones-le block, length-chunk c.args.at 8 c.args.words.now c.requires) }

pub returns : goal.returns
returns c = omega (arith, lane_sum 0 (chunk c.args.at 8 c.args.words.now) (chunk-fits w64 c.args.at 8 c.args.words.now c.type_inv.words))
