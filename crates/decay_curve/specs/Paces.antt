-- What callers see of a decay.
use Rattle.space_model.specs.declared.spaces.Pace.{Pace}
use Rattle.decay_curve.specs.declared.Decay.TheInside.{Inside}

-- the pace of its time, moments and additions
abbrev pub pace_of : Inside → Pace
pace_of decay = record { ms = decay.ms; start = decay.start; epoch = decay.epoch; left = decay.left; added = decay.added }
