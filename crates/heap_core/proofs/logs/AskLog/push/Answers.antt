use Rattle.heap_core.proofs.Words.{◌-◌, ◌<◌, sym, subst, arith, sum_by-set, LogFacts, owed_to}
use Rattle.heap_core.proofs.logs.AskLog.push.Goals as goal

pub invariant_of-self : goal.invariant_of-self
invariant_of-self c =
    let owed = c.self.inside.owed in
    let place : 0 < owed_to owed c.args.client = subst (λ (log : LogFacts). 0 < owed_to log.owed c.args.client) (sym c.self.view_is) c.requires.place in
    let sum = sum_by-set (λ n. n) owed c.args.client (owed_to owed c.args.client - 1) 0 (omega (arith, c.self.told, c.requires.client)) in
    record {
      adds_up = omega (arith, sum, c.self.invariant.adds_up, place);
      places = omega (arith, c.self.invariant.places, c.push.ensures.spare);
      few = c.push.ensures.few;
    }
