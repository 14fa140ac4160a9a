use Rattle.replay_run.proofs.Words.{refl, call_line}
use Rattle.replay_run.proofs.calls.head.Goals as goal

pub returns-in-Malloc : goal.returns-in-Malloc
unfolding call_line
returns-in-Malloc c = λ client answer. rw (c.in-Malloc.is, c.as_bytes.ensures.bytes) refl

pub returns-in-Memalign : goal.returns-in-Memalign
unfolding call_line
returns-in-Memalign c = λ client answer. rw (c.in-Memalign.is, c.as_bytes-in-Memalign.ensures.bytes) refl

pub returns-in-Realloc : goal.returns-in-Realloc
unfolding call_line
returns-in-Realloc c = λ client answer. rw (c.in-Realloc.is, c.as_bytes-in-Realloc.ensures.bytes) refl

pub returns-in-MallocIn : goal.returns-in-MallocIn
unfolding call_line
returns-in-MallocIn c = λ client answer. rw (c.in-MallocIn.is, c.as_bytes-in-MallocIn.ensures.bytes) refl

pub returns-in-CtlPlain : goal.returns-in-CtlPlain
returns-in-CtlPlain c = λ client answer. rw c.in-CtlPlain.is (c.ctl_head.ensures client answer)

pub returns-in-CtlWrite : goal.returns-in-CtlWrite
unfolding call_line
returns-in-CtlWrite c = λ client answer. rw (c.in-CtlWrite.is, c.as_bytes-in-CtlWrite.ensures.bytes) refl
