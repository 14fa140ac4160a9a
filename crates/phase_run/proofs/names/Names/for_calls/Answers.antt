use Rattle.std.proofs.Common.{◌≡◌, ◌∙◌, ◌+◌, ◌++◌, ◌∷◌, [], List, ap, sym, subst, drop, take}
use Rattle.std.proofs.lemmas.List.{at_drop_more, take_more}
use Rattle.trace_phase.specs.Parts.{call_name}
use Rattle.trace_phase.specs.declared.parts.PhaseCall.{PhaseCall}
use Rattle.phase_run.specs.Names.{known_from}
use Rattle.phase_run.specs.Walks.{AgreeOn}
use Rattle.phase_run.proofs.Places.{agree_learnt, learnt_more}
use Rattle.phase_run.proofs.names.Names.for_calls.Goals as goal

pub loop-call-preserved : goal.loop-call-preserved
loop-call-preserved c =
    let here = c.loop-call in
    let calls = c.args.calls.now in
    let call = c.call-item.result in
    let more : take (here.call-index + 1) calls ≡ take here.call-index calls ++ call ∷ [] =
    take_more calls here.call-index call c.loop-call-test.true ∙ ap (λ (one : PhaseCall). take here.call-index calls ++ one ∷ []) (sym c.call-item.is) in record {
      known = rw c.in_ok-learn.ensures (sym (at_drop_more (λ (cs : List PhaseCall). known_from c.args.self.now here.own cs) calls here.call-index call c.loop-call-test.true ∙ ap (λ (one : PhaseCall). known_from c.args.self.now here.own (one ∷ drop (here.call-index + 1) calls)) (sym c.call-item.is)) ∙ here.invariant.known);
      agree = subst (λ (cs : List PhaseCall). AgreeOn cs c.learn.new.self c.args.self.now) (sym more)
          (rw c.in_ok-learn.ensures (agree_learnt (take here.call-index calls) call here.own c.args.self.now here.invariant.agree));
      learnt = rw c.in_ok-learn.ensures (learnt_more c.args.self.now here.own (call_name call) here.invariant.learnt);
    }
