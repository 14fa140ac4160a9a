use Rattle.thread_cache.proofs.Words.{◌∙◌, ap, filter, rules, filter_same, Listed, is_elsewhere}
use Rattle.thread_cache.proofs.stacks.Stack.drop_of.Goals as goal

pub returns-clause-regions : goal.returns-clause-regions
returns-clause-regions c =
    filter_same _ (is_elsewhere c.args.arena) _ (λ x b f' k. search rules) _ _ c.retain.ensures.filtered
    ∙ ap (λ (s : Listed). filter (is_elsewhere c.args.arena) s.regions) c.self.view_is
