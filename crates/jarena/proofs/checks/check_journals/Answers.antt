use Rattle.std.proofs.Common.{ℕ, List, inl, inr, refl, sym, ◌∙◌, subst}
use Rattle.edge_io.specs.Bytes.{Appends, AppendsPrefix}
use Rattle.jarena.proofs.Verdicts.{not_usage, right}
use Rattle.jarena.proofs.checks.check_journals.Goals as goal

pub returns-in_default-clause-checked : goal.returns-in_default-clause-checked
returns-in_default-clause-checked g c =
    let e = c.check-verdict.ensures in record {
      verdict = c.check-verdict.result;
      right = right c.check-verdict.result _ e.accepted e.not_entry e.not_standing e.met e.limit;
      cut = e.cut;
      ended = e.ended;
      read_fault = e.read_fault;
      tells = inr (inr (refl, refl));
    }

pub returns-in-Ok-write_whole-clause-checked : goal.returns-in-Ok-write_whole-clause-checked
returns-in-Ok-write_whole-clause-checked g c =
    let e = c.check-verdict.ensures in
    let w = c.in-Ok-write_whole.ensures in
    let text = c.deref.ensures.value ∙ c.in-Ok.ensures.text in
    let told = subst (λ (t : List ℕ). Appends (g.K.Sink.held c.args.sink.now) (g.K.Sink.held c.write_whole.new.sink) t) text w.ok in record {
      verdict = c.check-verdict.result;
      right = right c.check-verdict.result _ e.accepted e.not_entry e.not_standing e.met e.limit;
      cut = e.cut;
      ended = e.ended;
      read_fault = e.read_fault;
      tells = inl (c.verdict_status.ensures, told, w.unfailed, w.handed_on);
    }

pub returns-in-Ok-write_whole-clause-not_usage : goal.returns-in-Ok-write_whole-clause-not_usage
returns-in-Ok-write_whole-clause-not_usage g c = λ two. not_usage c.check-verdict.result (sym c.verdict_status.ensures ∙ two)

pub returns-clause-checked : goal.returns-clause-checked
returns-clause-checked g c =
    let e = c.check-verdict.ensures in
    let w = c.in-Err.ensures in
    let text = c.deref.ensures.value ∙ c.in-Ok.ensures.text in
    let begun = subst (λ (t : List ℕ). AppendsPrefix (g.K.Sink.held c.args.sink.now) (g.K.Sink.held c.write_whole.new.sink) t) text w.err in record {
      verdict = c.check-verdict.result;
      right = right c.check-verdict.result _ e.accepted e.not_entry e.not_standing e.met e.limit;
      cut = e.cut;
      ended = e.ended;
      read_fault = e.read_fault;
      tells = inr (inl (refl, w.failed, begun));
    }
