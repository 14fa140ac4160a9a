use Rattle.std.proofs.Common.{◌≡◌, ◌<◌, ◌^◌, rules}
use Rattle.std.specs.List.{sum_by}
use Rattle.space_model.specs.Pace.{weighed, limit_at}
use Rattle.plain_machine.proofs.Bounds.{limit_fits}
use Rattle.plain_machine.proofs.paces.limit_at.Goals as goal

pub overflow_cast-result : goal.overflow_cast-result
overflow_cast-result c =
    let all : c.sum-weight.result ≡ sum_by (weighed c.args.epoch) c.args.added.now = search rules in
    let fits : limit_at c.args.epoch c.args.added.now < 2 ^ 64 = limit_fits c.args.epoch c.args.added.now c.requires.pages c.requires.past c.requires.rising in
    rw all (search rules)
