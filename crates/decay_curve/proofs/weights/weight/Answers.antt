use Rattle.space_model.proofs.Decay.{weight_fits}
use Rattle.decay_curve.proofs.Tabled.{weights_hold}
use Rattle.decay_curve.proofs.weights.weight.Goals as goal

pub returns-clause-value : goal.returns-clause-value
returns-clause-value c = weights_hold c.args.left c.requires.most

pub returns-clause-bound : goal.returns-clause-bound
returns-clause-bound c = rw (weights_hold c.args.left c.requires.most) (weight_fits c.args.left c.requires.most).weight
