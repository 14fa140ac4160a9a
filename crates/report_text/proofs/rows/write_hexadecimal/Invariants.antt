use Rattle.std.proofs.Common.{◌≡◌, suc, ◌+◌, ◌-◌, ◌^◌, ◌<◌, ◌≤◌, ◌++◌, false, drop}
use Rattle.std.specs.Fmt.{digits_onto}
use Rattle.report_text.specs.Places.{hexadecimal}
use Rattle.report_text.proofs.rows.write_hexadecimal.Given as goal

-- the digits behind `first` are laid, and those of `rest` fit before them
abbrev pub invariant-loop-rest : goal.invariant-loop-rest
invariant-loop-rest l = record {
  within : l.first < l.end;
  low : l.end ≤ l.first + 16;
  short : l.rest < 16 ^ suc (l.first + 16 - l.end);
  laid : digits_onto (l.first + 65 - l.end) 16 false l.rest (drop (l.first + 1) l.bytes) ≡ hexadecimal l.number ++ drop l.end l.fn.bytes;
}

abbrev pub decreases-loop-rest : goal.decreases-loop-rest
decreases-loop-rest l = l.rest
