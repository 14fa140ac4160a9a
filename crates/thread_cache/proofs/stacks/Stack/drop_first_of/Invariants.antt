use Rattle.thread_cache.proofs.Words.{◌≡◌, ◌++◌, take, drop, filter, IsStack, is_elsewhere}
use Rattle.thread_cache.proofs.stacks.Stack.drop_first_of.Given as goal

-- those before the place are as they were, and behind them are those that stay
abbrev pub invariant-loop-place : goal.invariant-loop-place
invariant-loop-place l =
    (l.self-inside.regions.items ≡ take l.place l.fn.self.regions ++ (filter (is_elsewhere l.arena) (drop l.place (take l.count l.fn.self.regions)) ++ drop l.count l.fn.self.regions))
    × (l.self-inside.class ≡ l.fn.self.class) × IsStack l.self-inside
