use Rattle.std.proofs.Common.{◌≡◌, ◌∙◌, ap, not, ◌==◌, rules}
use Rattle.arrayvec.proofs.ArrayVecLemmas.{filter-from_retain}
use Rattle.space_model.proofs.Words.{without_client}
use Rattle.space_model.proofs.Roster.{IsRoster-filter}
use Rattle.space_model.proofs.clients.Clients.remove.Goals as goal

pub invariant_of-self : goal.invariant_of-self
invariant_of-self c =
    let kept : c.retain.new.self.items ≡ without_client c.args.client c.self.inside.numbers.items =
    filter-from_retain _ _ _ (λ x b f' y k. search rules) _ _ c.retain.ensures.filtered in
    rw kept (IsRoster-filter (λ b. not (b == c.args.client)) c.self.inside.numbers.items c.self.invariant)

pub returns : goal.returns
returns c =
    let kept : c.retain.new.self.items ≡ without_client c.args.client c.self.inside.numbers.items =
    filter-from_retain _ _ _ (λ x b f' y k. search rules) _ _ c.retain.ensures.filtered in
    kept ∙ ap (without_client c.args.client) c.self.view_is
