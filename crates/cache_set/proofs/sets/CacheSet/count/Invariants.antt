use Rattle.std.proofs.Common.{◌≡◌, ◌≤◌, ◌*◌, count_by, take}
use Rattle.thread_cache.specs.Caches.{is_in_arena}
use Rattle.cache_set.specs.Sets.{explicit}
use Rattle.cache_set.proofs.sets.CacheSet.count.Given as goal

-- those of the places so far
abbrev pub invariant-loop-place : goal.invariant-loop-place
invariant-loop-place l = (l.count ≡ count_by (is_in_arena l.arena) (explicit (take l.place-index l.self))) × (l.count ≤ 8200 * l.place-index)
