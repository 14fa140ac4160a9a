use Rattle.turn_lock.proofs.Words.{rules, sym, subst}
use Rattle.turn_lock.proofs.Turned.{met, leaves_as_it_was, leaves_with, left, served}
use Rattle.turn_lock.proofs.lock.TurnLock.serve.Goals as goal

pub step-requires : goal.step-requires
step-requires g c =
    let same = met g.M.Machine.logs g.M.Machine.after g.M.Machine.own g.M.Machine.kept g.met.M.Machine.keeps g.met.M.Machine.others c.args.seat.now.me.0 c.enter.new.seat.me c.enter.ensures.entered.0 c.args.number
    c.args.self.now.table.shared.key.first.value c.slot_mut.result.now c.enter.ensures.entered.1 c.requires.lock.1 c.requires.claim.0 c.requires.claim.1 c.requires.claim.2 c.slot_mut.ensures.value in
    record { may = subst (λ w. g.M.Machine.may w c.args.op) (sym same) c.requires.may }

pub fetch_add-requires : goal.fetch_add-requires
fetch_add-requires g c = (
  search rules,
  search rules,
  leaves_with g.M.Machine.logs g.M.Machine.after g.M.Machine.own g.M.Machine.kept g.met.M.Machine.keeps g.met.M.Machine.others c.args.seat.now.me.0 c.enter.new.seat.me c.enter.ensures.entered.0 c.args.number
      c.args.self.now.table.shared.key.first.value c.slot_mut.result.now c.enter.ensures.entered.1 c.requires.lock.1 c.requires.claim.0 c.requires.claim.1 c.requires.claim.2 c.slot_mut.ensures.value
      c.step.new.state c.args.op c.in-Ok._entry c.in-Ok.reply c.in-Ok.ensures.entry c.in-Ok.ensures.after _ _ _,
)

pub fetch_add-requires-in-Err : goal.fetch_add-requires-in-Err
fetch_add-requires-in-Err g c = (
  search rules,
  search rules,
  leaves_as_it_was g.M.Machine.logs g.M.Machine.after g.M.Machine.own g.M.Machine.kept g.met.M.Machine.keeps g.met.M.Machine.others c.args.seat.now.me.0 c.enter.new.seat.me c.enter.ensures.entered.0 c.args.number
      c.args.self.now.table.shared.key.first.value c.slot_mut.result.now c.enter.ensures.entered.1 c.requires.lock.1 c.requires.claim.0 c.requires.claim.1 c.requires.claim.2 c.slot_mut.ensures.value
      c.step.new.state c.in-Err.ensures.unchanged _ _ _,
)

pub returns-in-Ok-clause-lock : goal.returns-in-Ok-clause-lock
returns-in-Ok-clause-lock g c = let l = left g.M.Machine.logs g.M.Machine.after g.M.Machine.own g.M.Machine.kept g.met.M.Machine.keeps g.met.M.Machine.others c.args.seat.now.me.0 c.enter.new.seat.me c.enter.ensures.entered.0 c.args.number
    c.args.self.now.table.shared.key.first.value c.slot_mut.result.now c.enter.ensures.entered.1 c.requires.lock.1 c.requires.claim.0 c.requires.claim.1 c.requires.claim.2 c.slot_mut.ensures.value
    c.step.new.state c.args.op c.in-Ok._entry c.in-Ok.reply c.in-Ok.ensures.entry c.in-Ok.ensures.after c.args.self.now.table.shared.table_id.slots c.fetch_add.result c.fetch_add.new.seat.me c.fetch_add.ensures.2 in (search rules, l.0)

pub returns-in-Ok-clause-idle : goal.returns-in-Ok-clause-idle
returns-in-Ok-clause-idle g c = let l = left g.M.Machine.logs g.M.Machine.after g.M.Machine.own g.M.Machine.kept g.met.M.Machine.keeps g.met.M.Machine.others c.args.seat.now.me.0 c.enter.new.seat.me c.enter.ensures.entered.0 c.args.number
    c.args.self.now.table.shared.key.first.value c.slot_mut.result.now c.enter.ensures.entered.1 c.requires.lock.1 c.requires.claim.0 c.requires.claim.1 c.requires.claim.2 c.slot_mut.ensures.value
    c.step.new.state c.args.op c.in-Ok._entry c.in-Ok.reply c.in-Ok.ensures.entry c.in-Ok.ensures.after c.args.self.now.table.shared.table_id.slots c.fetch_add.result c.fetch_add.new.seat.me c.fetch_add.ensures.2 in (l.1, l.2)

pub returns-in-Ok-clause-claim : goal.returns-in-Ok-clause-claim
returns-in-Ok-clause-claim g c = let l = left g.M.Machine.logs g.M.Machine.after g.M.Machine.own g.M.Machine.kept g.met.M.Machine.keeps g.met.M.Machine.others c.args.seat.now.me.0 c.enter.new.seat.me c.enter.ensures.entered.0 c.args.number
    c.args.self.now.table.shared.key.first.value c.slot_mut.result.now c.enter.ensures.entered.1 c.requires.lock.1 c.requires.claim.0 c.requires.claim.1 c.requires.claim.2 c.slot_mut.ensures.value
    c.step.new.state c.args.op c.in-Ok._entry c.in-Ok.reply c.in-Ok.ensures.entry c.in-Ok.ensures.after c.args.self.now.table.shared.table_id.slots c.fetch_add.result c.fetch_add.new.seat.me c.fetch_add.ensures.2 in (l.3, l.4)

pub returns-in-Ok-clause-served : goal.returns-in-Ok-clause-served
returns-in-Ok-clause-served g c = served g.M.Machine.logs g.M.Machine.after g.M.Machine.own g.M.Machine.kept g.met.M.Machine.keeps g.met.M.Machine.others c.args.seat.now.me.0 c.enter.new.seat.me c.enter.ensures.entered.0 c.args.number
    c.args.self.now.table.shared.key.first.value c.slot_mut.result.now c.enter.ensures.entered.1 c.requires.lock.1 c.requires.claim.0 c.requires.claim.1 c.requires.claim.2 c.slot_mut.ensures.value
    c.step.new.state c.args.op c.in-Ok._entry c.in-Ok.reply c.in-Ok.ensures.entry c.in-Ok.ensures.after c.args.self.now.table.shared.table_id.slots c.fetch_add.result c.fetch_add.new.seat.me c.fetch_add.ensures.2

pub returns-in-Err-clause-sure : goal.returns-in-Err-clause-sure
returns-in-Err-clause-sure g c sure =
    let same = met g.M.Machine.logs g.M.Machine.after g.M.Machine.own g.M.Machine.kept g.met.M.Machine.keeps g.met.M.Machine.others c.args.seat.now.me.0 c.enter.new.seat.me c.enter.ensures.entered.0 c.args.number
    c.args.self.now.table.shared.key.first.value c.slot_mut.result.now c.enter.ensures.entered.1 c.requires.lock.1 c.requires.claim.0 c.requires.claim.1 c.requires.claim.2 c.slot_mut.ensures.value in
    c.in-Err.ensures.sure (subst (λ w. g.M.Machine.sure w c.args.op) (sym same) sure)
