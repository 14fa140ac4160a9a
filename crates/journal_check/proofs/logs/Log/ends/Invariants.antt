use Rattle.std.proofs.Common.{◌≡◌, ◌++◌, drop}
use Rattle.journal_check.specs.Logs.{ends_from}
use Rattle.journal_check.proofs.logs.Log.ends.Given as goal

-- what is told so far, and the live arenas from here on
abbrev pub invariant-loop-index : goal.invariant-loop-index
invariant-loop-index l = l.ends ++ ends_from l.index (drop l.index l.self) ≡ ends_from 0 l.self
