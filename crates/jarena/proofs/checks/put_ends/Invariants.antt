use Rattle.std.proofs.Common.{◌≡◌, ◌++◌, drop}
use Rattle.jarena.specs.Checks.{ends_text}
use Rattle.jarena.proofs.checks.put_ends.Given as goal

-- the lines so far, and those of the arenas that are left
abbrev pub invariant-loop-end : goal.invariant-loop-end
invariant-loop-end l = l.out.items ++ ends_text (drop l.end-index l.ends) ≡ l.fn.out.items ++ ends_text l.ends
