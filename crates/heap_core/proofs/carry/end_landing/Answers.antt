use Rattle.heap_core.proofs.Words.{Replied, after, subst}
use Rattle.call_plan.specs.Clients.{DeskSeen}
use Rattle.call_plan.specs.Soon.{took_whole}
use Rattle.heap_core.specs.Carrying.{Shows}
use Rattle.heap_core.proofs.Carrying.{shows_so}
use Rattle.heap_core.proofs.carry.end_landing.Goals as goal

pub returns-in-None : goal.returns-in-None
returns-in-None c =
    subst (λ (d : DeskSeen). Shows c.args.client (after (took_whole c.args.size d.facts c.args.span) (Replied c.args.reply.now)) c.go_on.new.desk c.go_on.new.place c.go_on.new.ended) (rw c.in-None.is at c.landed.ensures.none)
    (shows_so c.args.reply.now c.go_on.new.desk c.go_on.new.place c.go_on.new.ended c.of_landing.ensures.client c.of_landing.ensures.moment c.go_on.ensures)
