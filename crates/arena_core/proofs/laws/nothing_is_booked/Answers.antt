use Rattle.arena_core.proofs.Books.{nothing_booked}
use Rattle.arena_core.proofs.laws.nothing_is_booked.Goals as goal

pub returns : goal.returns
returns c = nothing_booked
