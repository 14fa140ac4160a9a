use Rattle.std.proofs.Common.{◌≡◌, drop, map}
use Rattle.ctl_names.specs.Rows.{shown}
use Rattle.ctl_names.specs.Names.{first_row}
use Rattle.ctl_names.proofs.names.first.Given as goal

-- no row so far
abbrev pub invariant-loop-number : goal.invariant-loop-number
invariant-loop-number l = first_row l.number (map shown (drop l.number l.rows)) l.name ≡ first_row 0 (map shown l.rows) l.name
