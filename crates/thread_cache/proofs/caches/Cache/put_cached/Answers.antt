use Rattle.thread_cache.proofs.Words.{arith}
use Rattle.thread_cache.proofs.ByClass.{by_class_kept, by_class_length, class_at, list_at, lists_after}
use Rattle.thread_cache.proofs.caches.Cache.put_cached.Goals as goal

pub invariant_of-self : goal.invariant_of-self
invariant_of-self c = by_class_kept c.self.inside.stacks.items c.args.held.class _ c.push.new.self c.self.invariant c.index_mut.ensures.value c.push.ensures.class

pub returns-clause-told : goal.returns-clause-told
returns-clause-told c =
    let n = by_class_length c.self.inside.stacks.items c.self.invariant in
    let before = list_at c.self.inside.stacks.items c.args.held.class _ (omega (arith, n, c.requires)) c.index_mut.ensures.value in
    let class = class_at c.self.inside.stacks.items c.args.held.class _ c.self.invariant c.requires c.index_mut.ensures.value in
    let view = c.self.view_is in
    let told = c.push.ensures.told in
    cc

pub returns-clause-lists : goal.returns-clause-lists
returns-clause-lists c =
    let n = by_class_length c.self.inside.stacks.items c.self.invariant in
    let before = list_at c.self.inside.stacks.items c.args.held.class _ (omega (arith, n, c.requires)) c.index_mut.ensures.value in
    let class = class_at c.self.inside.stacks.items c.args.held.class _ c.self.invariant c.requires c.index_mut.ensures.value in
    let lists = lists_after c.self.inside.stacks.items c.args.held.class c.push.new.self in
    let view = c.self.view_is in
    let put = c.push.ensures.regions in
    cc
