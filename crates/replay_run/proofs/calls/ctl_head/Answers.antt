use Rattle.replay_run.proofs.Words.{refl, sym, ◌∙◌, call_line}
use Rattle.replay_run.proofs.calls.ctl_head.Goals as goal

pub returns-then-is_of_all : goal.returns-then-is_of_all
unfolding call_line
returns-then-is_of_all c = λ client answer. rw (sym c.is_of_all.ensures ∙ c.if-is_of_all.true, c.as_bytes.ensures.bytes) refl

pub returns-else-is_of_all : goal.returns-else-is_of_all
unfolding call_line
returns-else-is_of_all c = λ client answer. rw (sym c.is_of_all.ensures ∙ c.if-is_of_all.false, c.as_bytes-else-is_of_all.ensures.bytes) refl
