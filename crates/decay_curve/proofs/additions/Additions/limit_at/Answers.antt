use Rattle.decay_curve.proofs.Latest.{kept_limit}
use Rattle.decay_curve.proofs.additions.Additions.limit_at.Goals as goal

pub returns : goal.returns
returns c =
    let limit = kept_limit c.args.epoch c.args.self.now c.requires in
    let weight = c.weight_of.ensures in
    let kept = c.self.invariant.latest in
    let view = c.self.view_is in
    cc
