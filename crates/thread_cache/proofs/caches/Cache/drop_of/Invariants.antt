use Rattle.thread_cache.proofs.Words.{◌≡◌, ◌++◌, take, drop, filter, map, IsByClass, is_elsewhere, regions_of}
use Rattle.thread_cache.proofs.caches.Cache.drop_of.Given as goal

-- in the classes so far only regions of other arenas are left
abbrev pub invariant-loop-class : goal.invariant-loop-class
invariant-loop-class l =
    IsByClass l.self-inside.stacks.items × (regions_of l.self-inside.stacks.items ≡ map (filter (is_elsewhere l.arena)) (take l.class l.fn.self) ++ drop l.class l.fn.self)
