use Rattle.heap_core.proofs.Words.{Replied, moment_of, refl}
use Rattle.heap_core.proofs.Wanting.{fed_to, room_kept}
use Rattle.heap_core.proofs.carry.go_on.Goals as goal

pub returns : goal.returns
returns c =
    let call = c.next.new.self in
    let had = c.args.desk.now.facts in
    let desk = c.next.new.desk in
    let fed = fed_to _ had desk.facts c.in-Some.call call (Replied c.args.reply.now) c.settle.new.place c.settle.new.ended refl c.next.ensures.client c.next.ensures.moment (c.settle.ensures.open desk.facts) c.settle.ensures.answer in
    rw c.in-Some.is record {
      seat_is = fed.0;
      ended_is = fed.1;
      room = room_kept call.client desk.room desk.facts (moment_of call desk.facts) call.stage.next c.settle.new.place (c.settle.ensures.open desk.facts) c.next.ensures.room;
    }
