use Rattle.replay_run.proofs.Words.{arith, map, refl, inl, inr, ◌∙◌, journal_of, opening_heap}
use Rattle.replay_run.proofs.Ends.{read_faulted, replay_ended, replay_none, replay_or, whole_left, write_faulted}
use Rattle.replay_run.proofs.NewHeaps.{opening_sound}
use Rattle.replay_run.proofs.replays.replay.Goals as goal

pub returns-clause-replay : goal.returns-clause-replay
returns-clause-replay g c = (
  map journal_of c.run_lines-ended.new.state.heap.records,
  rw (c.leave.ensures.heard, c.leave.ensures.shelf) (replay_or c.leave.result.status c.leave.ensures.status c.leave.ensures.kept c.run_lines-ended.ensures.replay),
  inl c.leave.ensures.journals,
)

pub returns-in_default-clause-replay : goal.returns-in_default-clause-replay
returns-in_default-clause-replay g c = (
  map journal_of opening_heap.records,
  rw (c.nothing.ensures.status, c.nothing.ensures.heard, c.nothing.ensures.shelf) (replay_none _ _ _ _ _ opening_sound),
  inr (c.nothing.ensures.journals, record { memory = c.nothing.ensures.status; unheard = c.nothing.ensures.heard; unasked = c.nothing.ensures.shelf; untaken = refl; unprinted = refl }),
)

pub returns-clause-ended : goal.returns-clause-ended
returns-clause-ended g c = λ zero. replay_ended (replay_or c.leave.result.status c.leave.ensures.status c.leave.ensures.kept c.run_lines-ended.ensures.replay) zero

pub returns-clause-read_fault : goal.returns-clause-read_fault
returns-clause-read_fault g c = λ four. read_faulted c.run_lines-ended.result c.leave.result.status _ _ _ _ c.leave.ensures.status c.run_lines-ended.ensures.status c.run_lines-ended.ensures.cause four

pub returns-clause-write_fault : goal.returns-clause-write_fault
returns-clause-write_fault g c = λ five.
    write_faulted c.run_lines-ended.result c.leave.result.status _ _ _ _ _ c.run_lines-ended.ensures.sink_counts c.leave.ensures.counts c.leave.ensures.status c.run_lines-ended.ensures.status c.run_lines-ended.ensures.cause five

pub returns-clause-unfailed : goal.returns-clause-unfailed
returns-clause-unfailed g c = whole_left c.run_lines-ended.result c.leave.result.status c.leave.ensures.status c.run_lines-ended.ensures.unfailed

pub returns-clause-sink_unfailed : goal.returns-clause-sink_unfailed
returns-clause-sink_unfailed g c = λ whole. c.leave.ensures.unfailed whole ∙ whole_left c.run_lines-ended.result c.leave.result.status c.leave.ensures.status c.run_lines-ended.ensures.sink_unfailed whole

pub returns-in_default-clause-unfailed : goal.returns-in_default-clause-unfailed
returns-in_default-clause-unfailed g c = λ whole. absurd (omega (arith, c.nothing.ensures.status, whole))

pub returns-in_default-clause-sink_unfailed : goal.returns-in_default-clause-sink_unfailed
returns-in_default-clause-sink_unfailed g c = λ whole. absurd (omega (arith, c.nothing.ensures.status, whole))

pub returns-in_default-clause-handed_on : goal.returns-in_default-clause-handed_on
returns-in_default-clause-handed_on g c = λ whole. absurd (omega (arith, c.nothing.ensures.status, whole))
