use Rattle.thread_cache.proofs.Words.{◌∙◌, ap, sym, Bool, List, not, length, list_any, nat_lt, Held, Listed}
use Rattle.thread_cache.proofs.ByClass.{any_through}
use Rattle.thread_cache.proofs.caches.Cache.is_empty.Goals as goal

pub returns : goal.returns
returns c =
    let some : List Held → Bool = λ list. nat_lt 0 (length list) in
    ap not c.has_any.ensures
    ∙ ap (λ stacks. not (list_any (λ (s : Listed). some s.regions) stacks)) c.as_slice.ensures.value
    ∙ ap not (sym (any_through (λ (s : Listed). s.regions) some c.self.inside.stacks.items))
    ∙ ap (λ lists. not (list_any some lists)) c.self.view_is
