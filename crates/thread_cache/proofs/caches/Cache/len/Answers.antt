use Rattle.thread_cache.proofs.Words.{ap, arith, slots_at}
use Rattle.thread_cache.proofs.ByClass.{class_at}
use Rattle.thread_cache.proofs.caches.Cache.len.Goals as goal

pub returns-clause-within : goal.returns-clause-within
returns-clause-within c =
    let class = ap slots_at (class_at c.self.inside.stacks.items c.args.class _ c.self.invariant c.requires c.index.ensures) in
    let len = c.len.ensures.len in
    let within = c.len.ensures.within in
    omega (arith, class, len, within)
