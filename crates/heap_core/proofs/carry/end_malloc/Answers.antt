use Rattle.heap_core.proofs.Words.{[], refl}
use Rattle.heap_core.proofs.Carrying.{shows_so}
use Rattle.heap_core.proofs.carry.end_malloc.Goals as goal

pub returns-in-None-clause-led : goal.returns-in-None-clause-led
returns-in-None-clause-led c = record {
  turns = [];
  last = _;
  led = (refl, refl, refl);
  shows = shows_so c.args.reply.now c.go_on.new.desk c.go_on.new.place c.go_on.new.ended c.of_malloc.ensures.client c.of_malloc.ensures.moment c.go_on.ensures;
}
