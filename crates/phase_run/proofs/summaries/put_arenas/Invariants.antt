use Rattle.std.proofs.Common.{◌≡◌, ◌++◌, drop}
use Rattle.phase_run.specs.Summaries.{arenas_text}
use Rattle.phase_run.proofs.summaries.put_arenas.Given as goal

-- the lines so far, and those of the arenas that are left
abbrev pub invariant-loop-i : goal.invariant-loop-i
invariant-loop-i l = l.out.items ++ arenas_text (drop l.i l.journals) ≡ l.fn.out.items ++ arenas_text l.journals
