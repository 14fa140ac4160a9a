use Rattle.thread_cache.proofs.Words.{◌≡◌, ◌-◌, ◌/◌, ◌≤◌, ◌++◌, take, slots_at, addrs_of}
use Rattle.thread_cache.proofs.stacks.Stack.older_half.Given as goal

abbrev pub invariant-loop-i : goal.invariant-loop-i
invariant-loop-i l = (l.out.items ≡ l.fn.out.items ++ take l.i (addrs_of l.self.regions)) × (l.half - l.i ≤ l.out.room) × (l.half ≡ slots_at l.self.class / 2)
