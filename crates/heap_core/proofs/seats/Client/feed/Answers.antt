use Rattle.heap_core.proofs.Words.{◌∙◌, Option, ap, sym, CallFacts, lent, moment_of, named_call, option_map}
use Rattle.heap_core.proofs.Wanting.{fed_to, room_kept}
use Rattle.heap_core.proofs.seats.Client.feed.Goals as goal

pub invariant_of-self : goal.invariant_of-self
invariant_of-self c =
    let call = c.next.new.self in
    let desk = c.next.new.desk in
    room_kept call.client desk.room desk.facts (moment_of call desk.facts) call.stage.next c.settle.new.place (c.settle.ensures.open desk.facts) c.next.ensures.room

pub returns : goal.returns
returns c =
    let call = c.next.new.self in
    let desk = c.next.new.desk in
    let had = c.self.inside.desk.facts in
    let was = ap (λ (k : Option CallFacts). record { desk = had; call = option_map (named_call had) k }) (sym c.in-Some.is) ∙ c.self.view_is in
    fed_to c.args.self.now had desk.facts c.in-Some.call call (lent c.args.item) c.settle.new.place c.settle.new.ended was c.next.ensures.client c.next.ensures.moment (c.settle.ensures.open desk.facts) c.settle.ensures.answer
