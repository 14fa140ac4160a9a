use Rattle.replay_run.proofs.Words.{arith}
use Rattle.replay_run.proofs.LinesRead.{newline_first, none_seen, none_stands}
use Rattle.replay_run.proofs.input.line_in.Goals.{in_default-via-in-Some+else-place-le-LINE_BYTES, in_default-via-in_default}
use Rattle.replay_run.proofs.input.line_in.Goals as goal

pub returns-in-Some-clause-first : goal.returns-in-Some-clause-first
returns-in-Some-clause-first c = newline_first c.args.pending.now c.in-Some.place c.in-Some.ensures.0 c.in-Some.ensures.1

pub returns-in_default-clause-first : goal.returns-in_default-clause-first
returns-in_default-clause-first c =
    elim c.in_default.branch [
      | in_default-via-in-Some+else-place-le-LINE_BYTES w ↦
          none_seen c.args.pending.now w.in-Some.place 257 w.in-Some.ensures.0.before (omega (arith, w.if-place-le-LINE_BYTES.false))
      | in_default-via-in_default w ↦ none_seen c.args.pending.now _ 257 w.in_default.ensures (omega (arith, c.if-pending-gt-LINE_BYTES.true))
    ]

pub returns-in_default-2-clause-none : goal.returns-in_default-2-clause-none
returns-in_default-2-clause-none c same =
    elim c.in_default.branch [
      | in_default-via-in-Some+else-place-le-LINE_BYTES w ↦
          absurd (omega (arith, w.in-Some.ensures.0.high, w.if-place-le-LINE_BYTES.false, c.if-pending-gt-LINE_BYTES.false))
      | in_default-via-in_default w ↦ (omega (arith, c.if-pending-gt-LINE_BYTES.false), none_stands c.args.pending.now w.in_default.ensures)
    ]
