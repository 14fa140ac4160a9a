use Rattle.thread_cache.proofs.Words.{arith}
use Rattle.thread_cache.proofs.ByClass.{by_class_kept, by_class_length, list_at, lists_after}
use Rattle.thread_cache.proofs.caches.Cache.drop_first_of.Goals as goal

pub invariant_of-self : goal.invariant_of-self
invariant_of-self c = by_class_kept c.self.inside.stacks.items c.args.class _ c.drop_first_of.new.self c.self.invariant c.index_mut.ensures.value c.drop_first_of.ensures.class

pub returns : goal.returns
returns c =
    let n = by_class_length c.self.inside.stacks.items c.self.invariant in
    let before = list_at c.self.inside.stacks.items c.args.class _ (omega (arith, n, c.requires.class)) c.index_mut.ensures.value in
    let lists = lists_after c.self.inside.stacks.items c.args.class c.drop_first_of.new.self in
    let view = c.self.view_is in
    let gone = c.drop_first_of.ensures.regions in
    cc
