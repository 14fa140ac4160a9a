use Rattle.std.proofs.Common.{◌≡◌, ◌<◌, ◌≤◌, ◌^◌, pos, arith, rules}
use Rattle.space_model.proofs.Decay.{epochs_fit}
use Rattle.plain_machine.proofs.paces.advanced.Goals as goal

pub passed-requires-clause-epoch : goal.passed-requires-clause-epoch
passed-requires-clause-epoch c =
    let same : c.args.pace.now.ms ≡ pos c.millis-ms.result = search rules in
    let some : 1 ≤ c.millis-ms.result = omega (arith, c.if-ms-eq0.false) in
    let from : c.args.pace.now.start < 2 ^ 64 = search rules in
    let fits = epochs_fit c.args.pace.now.epoch c.args.pace.now.start c.args.now c.millis-ms.result (c.requires.paced.started c.millis-ms.result same) some from (omega (arith, c.ranges.now)) in
    rw c.saturating_sub.ensures fits
