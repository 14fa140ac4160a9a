use Rattle.arena_core.proofs.Words.{OnOk, ◌≤◌, subst, Standing, emptied_by_op, given_by}
use Rattle.arena_core.proofs.Outcomes.{stepped}
use Rattle.arena_core.proofs.Arena.step.Goals as goal

pub invariant_of-self : goal.invariant_of-self
invariant_of-self c = (stepped c.args.client c.args.op.now c.self.view_is c.self.invariant c.requires.stands c.step.ensures.turns).body

pub returns : goal.returns
returns c =
    let s = stepped c.args.client c.args.op.now c.self.view_is c.self.invariant c.requires.stands c.step.ensures.turns in record {
      after = s.after;
      reply = s.reply;
      room = s.room;
      other_rooms = s.other_rooms;
      rooms = s.rooms;
      few = subst (λ (a : Standing). OnOk c.step.result (emptied_by_op c.args.client c.args.op.now a.space ≤ given_by c.args.op.now)) c.self.view_is c.step.ensures.few;
      err = s.err;
      sure = c.step.ensures.sure;
      sound = s.body.sound;
      good = s.good;
      others = s.others;
    }
