use Rattle.std.proofs.lemmas.List.{take_rest}
use Rattle.lane_scan.specs.Ranges.{meets}
use Rattle.lane_scan.proofs.RangeLemmas.{list_any-zip-drop}
use Rattle.lane_scan.proofs.ranges.meets_any.Goals as goal

pub returns : goal.returns
returns c =
    let firsts = c.args.firsts.now in
    let ends = c.args.ends.now in
    let at = c.blocks_apart-at.result in
    let later = list_any-zip-drop (meets c.args.lo c.args.hi) firsts ends at c.blocks_apart-at.ensures.apart c.blocks_apart-at.ensures.within c.requires in
    cc (c.plain_meets.ensures, take_rest firsts at, take_rest ends at)
