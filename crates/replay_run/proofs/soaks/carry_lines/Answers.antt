use Rattle.replay_run.proofs.Words.{arith, length, [], ◌∷◌, ◌++◌, refl, ap, NoMemory}
use Rattle.replay_run.proofs.Begins.{unbegun_stops}
use Rattle.replay_run.proofs.Came.{here_ahead}
use Rattle.replay_run.proofs.Ends.{here_none}
use Rattle.replay_run.proofs.GivenLines.{client_call_free, client_call_limits, halted_by, one_more_done}
use Rattle.replay_run.proofs.soaks.carry_lines.Goals as goal

pub draws-init : goal.draws-init
draws-init g c = record {
  done = [];
  are = refl;
  here = here_none _ _ c.requires.heap c.requires.calls c.requires.names c.requires.tally c.requires.controls c.requires.moment refl refl (record { arenas = c.stands.ensures.arenas; seats = c.stands.ensures.seats });
}

pub returns-in_err-line-clause-halted : goal.returns-in_err-line-clause-halted
returns-in_err-line-clause-halted g c =
    let so = c.draws.invariant in
    halted_by c.args.lines so.done c.draws.lines c.from_residual.result NoMemory c.from_residual.ensures.1 so.are (unbegun_stops so.here NoMemory (λ four. absurd (cc (four))))

pub carry_line-requires-clause-cause : goal.carry_line-requires-clause-cause
carry_line-requires-clause-cause g c = client_call_free _ c.in-Some.line (rw c.in-Some.is at c.in_ok-line.ensures.call)

pub carry_line-requires-clause-limits : goal.carry_line-requires-clause-limits
carry_line-requires-clause-limits g c = client_call_limits c.in-Some.line (rw c.in-Some.is at c.in_ok-line.ensures.call)

pub returns-in_err-carry_line-clause-halted : goal.returns-in_err-carry_line-clause-halted
returns-in_err-carry_line-clause-halted g c =
    let so = c.draws.invariant in
    let line = c.in-Some.line in
    let takes = rw c.in-Some.is at c.in_ok-line.ensures.takes in
    halted_by c.args.lines (so.done ++ line ∷ []) c.next_line.new.self c.from_residual-in_err-carry_line.result c.in_err-carry_line.field-0.0 c.from_residual-in_err-carry_line.ensures.1
    (one_more_done _ _ _ _ line so.are takes) (c.in_err-carry_line.ensures.goes _ _ (here_ahead so.here line))

pub draws-smaller : goal.draws-smaller
draws-smaller g c =
    let takes = rw c.in-Some.is at c.in_ok-line.ensures.takes in
    omega (arith, ap length takes)

pub draws-preserved : goal.draws-preserved
draws-preserved g c =
    let so = c.draws.invariant in
    let line = c.in-Some.line in
    let takes = rw c.in-Some.is at c.in_ok-line.ensures.takes in record {
      done = so.done ++ line ∷ [];
      are = one_more_done _ _ _ _ line so.are takes;
      here = c.in_ok-carry_line.ensures.goes _ _ (here_ahead so.here line);
    }
