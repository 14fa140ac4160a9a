use Rattle.replay_run.proofs.Words.{List, [], ◌∷◌, ◌++◌, subst, Found, NoMemory, InBounds, IsFirst, Line}
use Rattle.replay_run.proofs.Came.{here_ahead}
use Rattle.replay_run.proofs.NextLines.{bad_goes, between_found, between_kept, line_read_next, next_stop, unread_goes}
use Rattle.replay_run.proofs.Stops.{stop_ends, stops_between, stops_reading}
use Rattle.replay_run.proofs.replays.next_line.Goals as goal

pub returns-in_err-found-clause-goes : goal.returns-in_err-found-clause-goes
returns-in_err-found-clause-goes g c = λ from left count below between.
    next_stop from left count c.from_residual.result c.in_err-found.field-0.0 _ _ c.from_residual.ensures.1
    (stops_reading (between_kept between (g.K.Sink.held c.find_line.new.sink) c.find_line.ensures.kept) below c.in_err-found.field-0.0 (g.S.Source.left c.find_line.new.source) (g.S.Source.ended c.find_line.new.source) c.in_err-found.ensures.stopped)

pub returns-in_default-clause-goes : goal.returns-in_default-clause-goes
returns-in_default-clause-goes g c = λ from left count below between.
    unread_goes (between_found between c.find_line.new.pending (g.S.Source.left c.find_line.new.source) (g.S.Source.ended c.find_line.new.source) (g.K.Sink.held c.find_line.new.sink) c.in_ok-found.ensures.moved c.find_line.ensures.kept)
    c.in_ok-found.found c.unread.result below c.in_default.not-Line c.in_ok-found.ensures.bounds c.in_ok-found.ensures.first c.in_ok-found.ensures.end c.unread.ensures

pub returns-in_err-cause-clause-goes : goal.returns-in_err-cause-clause-goes
returns-in_err-cause-clause-goes g c = λ from left count below between.
    next_stop from left count c.from_residual-in_err-cause.result NoMemory _ _ c.from_residual-in_err-cause.ensures.1
    (stops_between (between_found between c.find_line.new.pending (g.S.Source.left c.find_line.new.source) (g.S.Source.ended c.find_line.new.source) (g.K.Sink.held c.find_line.new.sink) c.in_ok-found.ensures.moved c.find_line.ensures.kept)
    NoMemory (λ four. absurd (cc (four))))

pub returns-in-Err-clause-goes : goal.returns-in-Err-clause-goes
returns-in-Err-clause-goes g c = λ from left count below between.
    bad_goes (between_found between c.find_line.new.pending (g.S.Source.left c.find_line.new.source) (g.S.Source.ended c.find_line.new.source) (g.K.Sink.held c.find_line.new.sink) c.in_ok-found.ensures.moved c.find_line.ensures.kept)
    c.in-Line.end c.in-Err.cause below (subst (λ (f : Found). InBounds f c.find_line.new.pending) c.in-Line.is c.in_ok-found.ensures.bounds)
    (subst (λ (f : Found). IsFirst f c.find_line.new.pending) c.in-Line.is c.in_ok-found.ensures.first) (rw (c.in-Err.is, c.as_slice.ensures) at c.in_ok-cause.ensures)

pub returns-in_err-carry_line-in-Ok-clause-goes : goal.returns-in_err-carry_line-in-Ok-clause-goes
returns-in_err-carry_line-in-Ok-clause-goes g c = λ from left count below between.
    let said = rw (c.in-Ok.is, c.as_slice.ensures) at c.in_ok-cause.ensures in
    let found = between_found between c.find_line.new.pending (g.S.Source.left c.find_line.new.source) (g.S.Source.ended c.find_line.new.source) (g.K.Sink.held c.find_line.new.sink) c.in_ok-found.ensures.moved c.find_line.ensures.kept in
    let read = line_read_next found.read c.in-Line.end c.in-Ok.line below (subst (λ (f : Found). InBounds f c.find_line.new.pending) c.in-Line.is c.in_ok-found.ensures.bounds)
    (subst (λ (f : Found). IsFirst f c.find_line.new.pending) c.in-Line.is c.in_ok-found.ensures.first) said.0 in
    let lines : List Line = found.lines ++ c.in-Ok.line ∷ [] in
    next_stop from left count c.from_residual-in_err-carry_line-in-Ok.result c.in_err-carry_line-in-Ok.field-0.0 _ _ c.from_residual-in_err-carry_line-in-Ok.ensures.1
    (stop_ends c.in_err-carry_line-in-Ok.field-0.0 (c.in_err-carry_line-in-Ok.ensures.goes from lines (here_ahead found.here c.in-Ok.line)) read)

pub returns-in_ok-carry_line-in-Ok-clause-goes : goal.returns-in_ok-carry_line-in-Ok-clause-goes
returns-in_ok-carry_line-in-Ok-clause-goes g c = λ from left count below between.
    let said = rw (c.in-Ok.is, c.as_slice.ensures) at c.in_ok-cause.ensures in
    let found = between_found between c.find_line.new.pending (g.S.Source.left c.find_line.new.source) (g.S.Source.ended c.find_line.new.source) (g.K.Sink.held c.find_line.new.sink) c.in_ok-found.ensures.moved c.find_line.ensures.kept in
    let lines : List Line = found.lines ++ c.in-Ok.line ∷ [] in record {
      lines = lines;
      read = rw c.skip.ensures (line_read_next found.read c.in-Line.end c.in-Ok.line below (subst (λ (f : Found). InBounds f c.find_line.new.pending) c.in-Line.is c.in_ok-found.ensures.bounds)
          (subst (λ (f : Found). IsFirst f c.find_line.new.pending) c.in-Line.is c.in_ok-found.ensures.first) said.0);
      here = c.in_ok-carry_line-in-Ok.ensures.goes from lines (here_ahead found.here c.in-Ok.line);
    }
