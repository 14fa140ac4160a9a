use Rattle.replay_run.proofs.Words.{map, refl, inl, inr, ◌∙◌, journal_of, opening_heap}
use Rattle.replay_run.proofs.Ends.{status_closed, whole_left, write_faulted}
use Rattle.replay_run.proofs.NewHeaps.{opening_sound}
use Rattle.replay_run.proofs.GivenLines.{soak_none, soak_or, soak_status}
use Rattle.replay_run.proofs.soaks.soak.Goals as goal

pub leave-requires : goal.leave-requires
leave-requires g c = status_closed c.run_soak-ended.result c.run_soak-ended.ensures.status

pub returns-clause-soak : goal.returns-clause-soak
returns-clause-soak g c = (
  map journal_of c.run_soak-ended.new.state.heap.records,
  rw (c.leave.ensures.heard, c.leave.ensures.shelf) (soak_or c.leave.result.status c.leave.ensures.status c.leave.ensures.kept c.run_soak-ended.ensures.soak),
  inl c.leave.ensures.journals,
)

pub returns-in_default-clause-soak : goal.returns-in_default-clause-soak
returns-in_default-clause-soak g c = (
  map journal_of opening_heap.records,
  rw (c.nothing.ensures.status, c.nothing.ensures.heard, c.nothing.ensures.shelf) (soak_none _ _ _ opening_sound),
  inr (c.nothing.ensures.journals, record { memory = c.nothing.ensures.status; unheard = c.nothing.ensures.heard; unasked = c.nothing.ensures.shelf; untaken = refl; unprinted = refl }),
)

pub returns-clause-write_fault : goal.returns-clause-write_fault
returns-clause-write_fault g c = λ five.
    write_faulted c.run_soak-ended.result c.leave.result.status 0 0 _ _ _ c.run_soak-ended.ensures.counts c.leave.ensures.counts c.leave.ensures.status
    (status_closed c.run_soak-ended.result c.run_soak-ended.ensures.status) c.run_soak-ended.ensures.cause five

pub returns-clause-known : goal.returns-clause-known
returns-clause-known g c = soak_status c.run_soak-ended.result c.leave.result.status _ _ c.leave.ensures.status c.run_soak-ended.ensures.status c.run_soak-ended.ensures.cause

pub returns-clause-unfailed : goal.returns-clause-unfailed
returns-clause-unfailed g c = λ zero.
    c.leave.ensures.unfailed (inl zero) ∙ whole_left c.run_soak-ended.result c.leave.result.status c.leave.ensures.status c.run_soak-ended.ensures.unfailed (inl zero)

pub returns-clause-handed_on : goal.returns-clause-handed_on
returns-clause-handed_on g c = λ zero. c.leave.ensures.handed_on (inl zero)
