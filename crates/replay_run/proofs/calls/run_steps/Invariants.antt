use Rattle.replay_run.proofs.Words.{◌≡◌, ◌-◌, Some, false, List, [], Line, client_awaited, Here, Outset, is_one_step, now_of, step_limit, steps_of, Awaits, awaits_after, has_open_call}
use Rattle.replay_run.proofs.calls.run_steps.Given as goal

-- the call goes on, or has ended, and nothing failed
abbrev pub invariant-steps : goal.invariant-steps
invariant-steps g l = record {
  goes : (from : Outset) (lines : List Line) (awaits : Awaits) → client_awaited awaits ≡ Some l.client → is_one_step awaits ≡ false
      → Here from lines (awaits_after awaits (has_open_call l.initial.state.heap l.client)) [] (now_of l.initial.state l.initial.shelf (g.K.Sink.held l.initial.sink))
      → Here from lines (awaits_after awaits (has_open_call l.state.heap l.client)) [] (now_of l.state l.shelf (g.K.Sink.held l.sink));
  faults : g.K.Sink.faults l.sink ≡ g.K.Sink.faults l.initial.sink;
}

-- each step adds an entry to a journal, or an ask, and there is an end of what fits into memory
abbrev pub decreases-steps : goal.decreases-steps
decreases-steps g l = step_limit - steps_of l.state.heap
