use Rattle.std.proofs.Common.{◌≡◌, map}
use Rattle.std.specs.List.{range_with_len}
use Rattle.journal_check.specs.Logs.{unlogged}
use Rattle.journal_check.proofs.logs.Log.new.Given as goal

-- the arenas so far are those before their first entries
abbrev pub invariant-loop-index : goal.invariant-loop-index
invariant-loop-index l = l.arenas.items ≡ map unlogged (range_with_len 0 l.index)
