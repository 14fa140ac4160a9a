use Rattle.std.proofs.Common.{◌≡◌, ◌*◌, ◌/◌, ◌^◌, ◌<◌, ◌≤◌, pos, arith, rules}
use Rattle.space_model.proofs.Decay.{epochs_fit}
use Rattle.space_model.proofs.Settings.{passed_paced}
use Rattle.decay_curve.specs.Paces.{pace_of}
use Rattle.decay_curve.proofs.Decay.advance.Goals as goal

pub overflow_add-self-2 : goal.overflow_add-self-2
overflow_add-self-2 c =
    let same : c.self.inside.ms ≡ pos c.millis-ms.result = search rules in
    let some : 1 ≤ c.millis-ms.result = omega (arith, c.if-ms-eq0.false) in
    let from : c.self.inside.start < 2 ^ 64 = search rules in
    let fits = epochs_fit c.self.inside.epoch c.self.inside.start c.args.now c.millis-ms.result (c.self.invariant.started c.millis-ms.result same) some from (omega (arith, c.ranges.now)) in
    rw c.saturating_sub.ensures (omega (arith, fits))

pub limit_at-limit-requires : goal.limit_at-limit-requires
limit_at-limit-requires c =
    let same : c.self.inside.ms ≡ pos c.millis-ms.result = search rules in
    let some : 0 < c.saturating_sub.result / (c.millis-ms.result * 5000) = omega (arith, c.if-epochs-eq0.false) in
    let paced = passed_paced (pace_of c.self.inside) c.millis-ms.result (c.saturating_sub.result / (c.millis-ms.result * 5000)) c.args.current c.self.invariant same some c.requires in
    rw c.grow.ensures (record { rising = paced.rising; past = paced.past; pages = paced.pages })

pub invariant_of-self : goal.invariant_of-self
invariant_of-self c =
    let same : c.self.inside.ms ≡ pos c.millis-ms.result = search rules in
    let some : 0 < c.saturating_sub.result / (c.millis-ms.result * 5000) = omega (arith, c.if-epochs-eq0.false) in
    let paced = passed_paced (pace_of c.self.inside) c.millis-ms.result (c.saturating_sub.result / (c.millis-ms.result * 5000)) c.args.current c.self.invariant same some c.requires in
    rw (c.min-self-inside.ensures, c.limit_at-limit.ensures, c.grow.ensures) paced
