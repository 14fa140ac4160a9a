use Rattle.std.proofs.Common.{◌≡◌, ◌∙◌, Some, ap, sym}
use Rattle.std.specs.List.{position}
use Rattle.trace_phase.specs.declared.parts.Work.{Work}
use Rattle.phase_run.specs.Stands.{calls_by, is_of}
use Rattle.phase_run.proofs.Taking.{calls_nowhere, calls_of_others, calls_there}
use Rattle.phase_run.proofs.crews.take_calls.Goals as goal

pub returns-in-Some-clause-calls : goal.returns-in-Some-clause-calls
returns-in-Some-clause-calls c =
    let found : position (is_of c.args.client) c.args.works.now.items ≡ Some c.in-Some.place = sym (ap (position (is_of c.args.client)) c.deref.ensures.value) ∙ sym c.place_of.ensures ∙ c.in-Some.is in
    ap (λ (w : Work). w.calls) c.remove.ensures.value ∙ sym (calls_there c.args.client c.args.works.now.items c.in-Some.place c.remove.result found)

pub returns-in-Some-clause-others : goal.returns-in-Some-clause-others
returns-in-Some-clause-others c =
    let found : position (is_of c.args.client) c.args.works.now.items ≡ Some c.in-Some.place = sym (ap (position (is_of c.args.client)) c.deref.ensures.value) ∙ sym c.place_of.ensures ∙ c.in-Some.is in
    λ other differ. ap (calls_by other) c.remove.ensures.items ∙ calls_of_others c.args.client other c.args.works.now.items c.in-Some.place c.remove.result differ found

pub returns-in-None-clause-calls : goal.returns-in-None-clause-calls
returns-in-None-clause-calls c = c.new.ensures ∙ sym (calls_nowhere c.args.client c.args.works.now.items (sym (ap (position (is_of c.args.client)) c.deref.ensures.value) ∙ sym c.place_of.ensures ∙ c.in-None.is))
