use Rattle.lane_scan.proofs.BitLemmas.{raised}
use Rattle.lane_scan.proofs.bits.set_bit.Goals as goal

pub returns : goal.returns
returns c = raised c.args.words.now c.args.place c.requires
