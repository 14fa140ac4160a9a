use Rattle.arena_core.proofs.Words.{◌∙◌, ap, sym, ltb-true, both_true, nat_lt, stands, entry_of}
use Rattle.arena_core.proofs.Arena.may_stand.Goals as goal

pub returns : goal.returns
returns c =
    let told = c.may_stand.ensures ∙ ap (λ a. stands a.space (entry_of c.args.client c.args.op.now)) c.self.view_is in record {
      stands = told;
      client = λ yes. ltb-true c.args.client 32 (both_true (nat_lt c.args.client 32) _ (sym told ∙ yes)).0;
    }
