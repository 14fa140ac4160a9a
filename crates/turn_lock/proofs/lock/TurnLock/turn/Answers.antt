use Rattle.turn_lock.proofs.Words.{length, ap, ◌∙◌, IfOk-weaker, seen_by, first_numbers, Served}
use Rattle.turn_lock.proofs.Turned.{fresh_stays, left_with, made_one}
use Rattle.turn_lock.proofs.lock.TurnLock.turn.Goals as goal

pub invariant_of-pass : goal.invariant_of-pass
invariant_of-pass g c = record {
  home = ap (λ l. length l) c.serve.ensures.idle.1;
  idle = c.serve.ensures.idle.0;
  one = c.serve.ensures.claim.0;
  numbers = c.serve.ensures.claim.1 ∙ c.args.pass.now.numbers;
  some = c.args.pass.now.some;
  fresh = fresh_stays g.M.Machine.logs g.M.Machine.after g.M.Machine.own c.args.self.now.table.shared.key.first.value c.args.pass.now.number c.args.pass.now.end c.args.op c.serve.result c.args.pass.now.seat.me.0.claims c.serve.new.seat.me.0.claims
      c.args.pass.now.numbers c.args.pass.now.fresh c.serve.ensures.served c.serve.ensures.no_memory;
}

pub returns-clause-turned : goal.returns-clause-turned
returns-clause-turned g c =
    let first = c.args.self.now.table.shared.key.first.value in let n = c.args.pass.now.number in let numbers = first_numbers c.args.pass.now.seat.me.0.claims in let old = seen_by c.args.pass.now.seat.me.0.claims in let new = seen_by c.serve.new.seat.me.0.claims in
    IfOk-weaker c.serve.result (λ r. Served g.M.Machine.logs g.M.Machine.after g.M.Machine.own first n numbers c.args.op r old new) _
    (λ r s. record {
      before = s.before;
      entry = s.entry;
      begins = s.begins;
      ends = s.ends;
      legal = s.legal;
      logged = s.logged;
      reply = s.reply;
      made = made_one g.M.Machine.logs g.M.Machine.after g.M.Machine.own first n c.args.pass.now.end numbers c.args.op r old new c.args.pass.now.some c.args.pass.now.numbers s;
      met = s.met;
      left = left_with g.M.Machine.logs g.M.Machine.after g.M.Machine.own first n numbers c.args.op r old new s;
    })
    c.serve.ensures.served
