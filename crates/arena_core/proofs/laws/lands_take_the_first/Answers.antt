use Rattle.arena_core.proofs.BookLands.{lands_first}
use Rattle.arena_core.proofs.laws.lands_take_the_first.Goals as goal

pub returns : goal.returns
returns c = lands_first
