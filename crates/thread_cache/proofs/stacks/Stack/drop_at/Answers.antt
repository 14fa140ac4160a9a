use Rattle.thread_cache.proofs.Words.{◌≡◌, ◌∙◌, ap, sym, refl, Some, position, remove, Listed, is_at, without_place}
use Rattle.thread_cache.proofs.ByClass.{any_has_place}
use Rattle.thread_cache.proofs.stacks.Stack.drop_at.Goals as goal

pub unwrap-place-requires : goal.unwrap-place-requires
unwrap-place-requires c = rw (c.place_of.ensures, any_has_place (is_at c.args.addr) c.args.self.now.regions c.requires) refl

pub returns-clause-regions : goal.returns-clause-regions
returns-clause-regions c =
    let found : position (is_at c.args.addr) c.args.self.now.regions ≡ Some c.unwrap-place.result = sym c.place_of.ensures ∙ c.unwrap-place.ensures in
    let view = ap (λ (s : Listed). s.regions) c.self.view_is in
    c.remove.ensures.items ∙ ap (λ regions. remove regions c.unwrap-place.result) view ∙ ap (without_place c.args.self.now.regions) (sym found)
