use Rattle.replay_run.proofs.Words.{◌≡◌, ◌++◌, ℕ, List, ◌∙◌, ap}
use Rattle.report_text.specs.Lines.{calls_line}
use Rattle.replay_run.specs.World.{closing}
use Rattle.replay_run.proofs.GivenLines.{passed_on}
use Rattle.replay_run.proofs.soaks.soak_text.Goals as goal

pub returns-in_err-calls_line : goal.returns-in_err-calls_line
returns-in_err-calls_line c =
    passed_on c.from_residual-in_err-calls_line.result (λ text. text.items ≡ closing c.args.state.now.heap ++ calls_line c.args.calls c.args.state.now.tally.good c.args.state.now.tally.failed) _
    c.from_residual-in_err-calls_line.ensures.1

pub returns : goal.returns
returns c = c.in_ok-calls_line.ensures ∙ ap (λ (text : List ℕ). text ++ calls_line c.args.calls c.args.state.now.tally.good c.args.state.now.tally.failed) c.in_ok-text.ensures
