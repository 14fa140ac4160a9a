use Rattle.lane_scan.proofs.BitLemmas.{cleared}
use Rattle.lane_scan.proofs.bits.clear_bit.Goals as goal

pub returns : goal.returns
returns c = cleared c.args.words.now c.args.place c.requires
