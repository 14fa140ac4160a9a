use Rattle.heap_core.proofs.Words.{subst}
use Rattle.call_plan.specs.Clients.{DeskSeen}
use Rattle.call_plan.specs.Soon.{replied_first}
use Rattle.heap_core.specs.Carrying.{Shows}
use Rattle.heap_core.specs.Words.{Free}
use Rattle.heap_core.proofs.Carrying.{shows_so}
use Rattle.heap_core.proofs.carry.end_back.Goals as goal

pub returns-else-given : goal.returns-else-given
returns-else-given c =
    subst (λ (d : DeskSeen). Shows c.args.client (replied_first (Free c.args.addr) d.facts c.args.reply.now) c.go_on.new.desk c.go_on.new.place c.go_on.new.ended) (c.given.ensures.same c.if-given.false)
    (shows_so c.args.reply.now c.go_on.new.desk c.go_on.new.place c.go_on.new.ended c.of_free.ensures.client c.of_free.ensures.moment c.go_on.ensures)
