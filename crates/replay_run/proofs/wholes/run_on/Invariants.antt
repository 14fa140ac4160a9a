use Rattle.replay_run.proofs.Words.{◌≡◌, ◌+◌, ◌-◌, true, None, cond, has_open_call, is_none, step_limit, steps_of}
use Rattle.heap_core.specs.Carrying.{CarriedOn}
use Rattle.replay_run.proofs.wholes.run_on.Given as goal

-- so far steps were made, and the call is open as long as it has no answer
abbrev pub invariant-steps : goal.invariant-steps
invariant-steps g l = record {
  ran : CarriedOn l.initial.heap l.initial.shelf l.client l.initial.told.ended l.heap l.shelf l.told.ended;
  goes : l.told.ended ≡ None → has_open_call l.heap l.client ≡ true;
}

-- a step gives the answer, or adds an entry to a journal, or an ask, and there is an end of what fits into memory
abbrev pub decreases-steps : goal.decreases-steps
decreases-steps g l = cond (is_none l.told.ended) (step_limit + 1 - steps_of l.heap) 0
