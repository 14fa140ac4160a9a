use Rattle.replay_run.proofs.Words.{◌≡◌, List, [], ◌++◌, None, length, Line, Lines, Here, now_of, Nothing}
use Rattle.replay_run.proofs.soaks.carry_lines.Given as goal

-- the lines so far were carried out, and the others are left
abbrev pub invariant-draws : goal.invariant-draws
invariant-draws g l = record {
  done : List Line;
  are : l.fn.lines ≡ done ++ l.lines;
  here : Here (record { shelf = l.initial.shelf; held = None; form = Lines }) done Nothing [] (now_of l.state l.shelf None);
}

-- each turn draws a line
abbrev pub decreases-draws : goal.decreases-draws
decreases-draws g l = length l.lines
