use Rattle.std.proofs.Common.{◌≡◌, ◌∙◌, ◌++◌, ◌∷◌, [], Global, List, Vec, ap, append_assoc, sym}
use Rattle.std.specs.List.{flat_map}
use Rattle.std.proofs.lemmas.Result.{IfOk-weaker}
use Rattle.phase_run.specs.declared.workers.Worker.{Worker}
use Rattle.phase_run.proofs.crowds.add_worker.Goals as goal

pub returns-then-is_idle : goal.returns-then-is_idle
returns-then-is_idle c =
    let front : List Worker = flat_map (λ (v : Vec Worker Global). v.items) c.args.groups.now.items in
    let group = c.args.group.items in
    IfOk-weaker c.with_worker.result (λ (last : Vec Worker Global). last.items ≡ group ++ c.args.worker ∷ []) (λ (last : Vec Worker Global). front ++ last.items ≡ (front ++ group) ++ c.args.worker ∷ [])
    (λ last is. ap (λ l. front ++ l) is ∙ sym (append_assoc front group (c.args.worker ∷ []))) c.with_worker.ensures
