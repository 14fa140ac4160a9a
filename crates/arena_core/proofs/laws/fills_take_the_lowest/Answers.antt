use Rattle.arena_core.proofs.Booked.{fills_taken}
use Rattle.arena_core.proofs.laws.fills_take_the_lowest.Goals as goal

pub returns : goal.returns
returns c = fills_taken
