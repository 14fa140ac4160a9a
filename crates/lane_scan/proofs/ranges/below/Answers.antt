use Rattle.lane_scan.proofs.LaneLemmas.{tops_below, Each1-and_complements}
use Rattle.lane_scan.proofs.ranges.below.Goals as goal

pub returns : goal.returns
returns c = record {
  tops = tops_below c.args.bound 16 c.args.lanes c.requires c.fits-lanes.0 c.fits-lanes.1;
  words = Each1-and_complements _ c.args.lanes;
}
