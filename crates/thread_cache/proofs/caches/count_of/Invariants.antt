use Rattle.thread_cache.proofs.Words.{◌≡◌, ◌≤◌, count_by, take, is_in_arena}
use Rattle.thread_cache.proofs.caches.count_of.Given as goal

-- the regions so far
abbrev pub invariant-loop-region : goal.invariant-loop-region
invariant-loop-region l = (l.count ≡ count_by (is_in_arena l.arena) (take l.region-index l.regions)) × (l.count ≤ l.region-index)
