use Rattle.arena_core.proofs.Words.{ap, ◌∙◌, counts_of}
use Rattle.arena_core.proofs.Arena.counts.Goals as goal

pub returns : goal.returns
returns c = c.counts.ensures ∙ ap (λ a. counts_of a.space) c.self.view_is
