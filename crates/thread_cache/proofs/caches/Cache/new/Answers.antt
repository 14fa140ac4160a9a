use Rattle.thread_cache.proofs.Words.{arith}
use Rattle.thread_cache.proofs.ByClass.{one_more}
use Rattle.thread_cache.proofs.caches.Cache.new.Goals as goal

pub loop-class-preserved : goal.loop-class-preserved
loop-class-preserved c =
    let more = one_more c.loop-class.stacks.items c.loop-class.class c.loop-class.invariant.0 c.loop-class.invariant.1 in
    rw (c.push_reserved.ensures.items, c.in_ok-new.ensures) (more.0, more.1, omega (arith, c.push_reserved.ensures.capacity, c.loop-class.invariant.2))
