use Rattle.thread_cache.proofs.Words.{◌∙◌, ap, length, sym, arith, slice_get, length-map, Listed, cached_in}
use Rattle.thread_cache.proofs.ByClass.{by_class_length, list_at, read_is_cached}
use Rattle.thread_cache.proofs.caches.Cache.cached.Goals as goal

pub returns-clause-cached : goal.returns-clause-cached
returns-clause-cached c =
    let n = by_class_length c.self.inside.stacks.items c.self.invariant in
    let lists = ap length c.self.view_is in
    let many = length-map c.self.inside.stacks.items (λ (s : Listed). s.regions) in
    let list = list_at c.self.inside.stacks.items c.args.class _ (omega (arith, n, c.requires)) c.index.ensures in
    let told = ap (λ xs. slice_get (cached_in xs c.args.class) c.args.place) (sym c.self.view_is) ∙ ap (λ xs. slice_get xs c.args.place) list ∙ sym c.at.ensures in
    read_is_cached c.args.self.now c.args.class c.args.place c.at.result (omega (arith, n, lists, many, c.requires)) told
