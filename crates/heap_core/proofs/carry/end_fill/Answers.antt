use Rattle.heap_core.proofs.Words.{subst}
use Rattle.call_plan.specs.Clients.{DeskSeen}
use Rattle.call_plan.specs.Soon.{replied_first}
use Rattle.call_plan.specs.declared.needs.Request.TheVariants.{Malloc}
use Rattle.heap_core.specs.Carrying.{Shows}
use Rattle.heap_core.proofs.Carrying.{shows_so}
use Rattle.heap_core.proofs.carry.end_fill.Goals as goal

pub returns-in-None : goal.returns-in-None
returns-in-None c =
    subst (λ (d : DeskSeen). Shows c.args.client (replied_first (Malloc c.args.size) d.facts c.args.reply.now) c.go_on.new.desk c.go_on.new.place c.go_on.new.ended) (rw c.in-None.is at c.filled.ensures.none)
    (shows_so c.args.reply.now c.go_on.new.desk c.go_on.new.place c.go_on.new.ended c.of_malloc.ensures.client c.of_malloc.ensures.moment c.go_on.ensures)
