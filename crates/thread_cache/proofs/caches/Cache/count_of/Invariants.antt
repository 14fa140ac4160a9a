use Rattle.thread_cache.proofs.Words.{◌≡◌, ◌<◌, ◌≤◌, ◌*◌, count_by, length, take, flat_map, is_in_arena}
use Rattle.thread_cache.proofs.caches.Cache.count_of.Given as goal

-- those of the classes so far
abbrev pub invariant-loop-class : goal.invariant-loop-class
invariant-loop-class l = (l.count ≡ count_by (is_in_arena l.arena) (flat_map (λ list. list) (take l.class l.self))) × (l.count ≤ 200 * l.class) × (0 < l.class → length l.self ≡ 41)
