use Rattle.replay_run.proofs.Ends.{last_status, status_flushed, whole_passed}
use Rattle.replay_run.proofs.replays.leave.Goals as goal

pub status_in-requires : goal.status_in-requires
status_in-requires g c = status_flushed c.args.ended c.flush_last-ended.result c.flush_last-ended.ensures.same c.requires

pub returns-clause-status : goal.returns-clause-status
returns-clause-status g c = last_status c.args.ended c.flush_last-ended.result c.status_in.result c.flush_last-ended.ensures.same c.status_in.ensures.status

pub returns-clause-unfailed : goal.returns-clause-unfailed
returns-clause-unfailed g c = whole_passed c.flush_last-ended.result c.status_in.result c.status_in.ensures.status c.flush_last-ended.ensures.unfailed

pub returns-clause-handed_on : goal.returns-clause-handed_on
returns-clause-handed_on g c = whole_passed c.flush_last-ended.result c.status_in.result c.status_in.ensures.status c.flush_last-ended.ensures.handed_on
