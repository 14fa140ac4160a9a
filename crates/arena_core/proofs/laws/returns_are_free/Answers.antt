use Rattle.arena_core.proofs.Booked.{freed}
use Rattle.arena_core.proofs.laws.returns_are_free.Goals as goal

pub returns : goal.returns
returns c = freed
