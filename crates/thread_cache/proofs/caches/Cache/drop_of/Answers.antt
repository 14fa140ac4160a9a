use Rattle.thread_cache.proofs.Words.{◌≡◌, ◌∙◌, ◌<◌, [], ap, sym, arith, filter, length, set, length-map, Listed, cached_in, is_elsewhere, regions_of}
use Rattle.thread_cache.proofs.ByClass.{by_class_kept, by_class_length, list_at, lists_after}
use Rattle.thread_cache.proofs.Flat.{one_mapped, unmapped_here}
use Rattle.thread_cache.proofs.caches.Cache.drop_of.Goals as goal

pub loop-class-preserved : goal.loop-class-preserved
loop-class-preserved c =
    let stacks = c.loop-class.self-inside.stacks.items in
    let i = c.loop-class.class in
    let old = c.args.self.now in
    let x = c.index_mut.result.now in
    let f = filter (is_elsewhere c.args.arena) in
    let n = by_class_length stacks c.loop-class.invariant.0 in
    let inside : i < length stacks = omega (arith, n, c.loop-class-test.true) in
    let before : cached_in (regions_of stacks) i ≡ x.regions = list_at stacks i x inside c.index_mut.ensures.value in
    let m : length old ≡ 41 = ap length (sym c.self.view_is) ∙ length-map c.self.inside.stacks.items (λ (s : Listed). s.regions) ∙ by_class_length c.self.inside.stacks.items c.self.invariant in
    let within : i < length old = omega (arith, m, c.loop-class-test.true) in
    let list : c.drop_of.new.self.regions ≡ f (cached_in old i) =
    c.drop_of.ensures.regions ∙ ap f (sym before ∙ ap (λ lists. cached_in lists i) c.loop-class.invariant.1 ∙ unmapped_here f old i [] within) in (
      by_class_kept stacks i x c.drop_of.new.self c.loop-class.invariant.0 c.index_mut.ensures.value c.drop_of.ensures.class,
      lists_after stacks i c.drop_of.new.self ∙ ap (λ ys. set (regions_of stacks) i ys) list ∙ ap (λ lists. set lists i (f (cached_in old i))) c.loop-class.invariant.1 ∙ one_mapped f old i [] within,
    )
