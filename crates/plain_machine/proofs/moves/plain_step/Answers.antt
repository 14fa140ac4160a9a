use Rattle.space_model.proofs.Steps.{Outcome-sound, Outcome-good, Outcome-others}
use Rattle.plain_machine.proofs.moves.plain_step.Goals as goal

pub returns-clause-sound : goal.returns-clause-sound
returns-clause-sound c =
    Outcome-sound c.args.space.now c.step.new.space c.args.entry.now c.step.result
    (record { after = c.step.ensures.after; told = c.step.ensures.reply; same = c.step.ensures.err }) c.requires.sound c.requires.stands

pub returns-clause-good : goal.returns-clause-good
returns-clause-good c =
    Outcome-good c.args.space.now c.step.new.space c.args.entry.now c.step.result
    (record { after = c.step.ensures.after; told = c.step.ensures.reply; same = c.step.ensures.err }) c.requires.stands

pub returns-clause-others : goal.returns-clause-others
returns-clause-others c =
    Outcome-others c.args.space.now c.step.new.space c.args.entry.now c.step.result
    (record { after = c.step.ensures.after; told = c.step.ensures.reply; same = c.step.ensures.err }) c.requires.sound c.requires.stands
