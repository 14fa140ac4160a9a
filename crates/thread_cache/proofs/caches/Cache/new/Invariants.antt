use Rattle.thread_cache.proofs.Words.{◌≡◌, ◌≤◌, [], map, replicate, vec_capacity, range_with_len, Listed, regions_of}
use Rattle.thread_cache.proofs.caches.Cache.new.Given as goal

abbrev pub invariant-loop-class : goal.invariant-loop-class
invariant-loop-class l =
    (map (λ (s : Listed). s.class) l.stacks.items ≡ range_with_len 0 l.class) × (regions_of l.stacks.items ≡ replicate l.class []) × (41 ≤ vec_capacity l.stacks)
