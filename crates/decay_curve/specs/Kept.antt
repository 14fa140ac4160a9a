-- What memory keeps of the additions of a decay.
use Rattle.std.specs.Prelude.{◌≡◌}
use Rattle.circular_buffer.specs.Buffer.{keep_last}
use Rattle.decay_curve.specs.declared.additions.Additions.TheInside.{Inside}

-- there is room for 200 additions, and the latest ones are kept
pub record KeepsLatest (a : Inside) : Type 0 where
  pub room : a.latest.capacity ≡ 200
  pub latest : a.latest.items ≡ keep_last 200 a.all.added
