use Rattle.thread_cache.proofs.Words.{ap, arith, slots_at}
use Rattle.thread_cache.proofs.ByClass.{by_class_length, class_at, list_at}
use Rattle.thread_cache.proofs.caches.Cache.older_half.Goals as goal

pub older_half-requires-clause-half : goal.older_half-requires-clause-half
older_half-requires-clause-half c =
    let n = by_class_length c.self.inside.stacks.items c.self.invariant in
    let class = class_at c.self.inside.stacks.items c.args.class _ c.self.invariant c.requires.class c.index.ensures in
    let list = list_at c.self.inside.stacks.items c.args.class _ (omega (arith, n, c.requires.class)) c.index.ensures in
    rw (class, ← list, c.self.view_is) c.requires.half

pub older_half-requires-clause-room : goal.older_half-requires-clause-room
older_half-requires-clause-room c =
    let class = ap slots_at (class_at c.self.inside.stacks.items c.args.class _ c.self.invariant c.requires.class c.index.ensures) in
    rw class c.requires.room

pub returns : goal.returns
returns c =
    let n = by_class_length c.self.inside.stacks.items c.self.invariant in
    let class = class_at c.self.inside.stacks.items c.args.class _ c.self.invariant c.requires.class c.index.ensures in
    let list = list_at c.self.inside.stacks.items c.args.class _ (omega (arith, n, c.requires.class)) c.index.ensures in
    let view = c.self.view_is in
    let out = c.older_half.ensures in
    cc
