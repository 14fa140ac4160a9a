use Rattle.deeds.proofs.Reallocs.{reallocs-leave}
use Rattle.deeds.proofs.laws.reallocs_leave.Goals as goal

pub returns : goal.returns
returns c = reallocs-leave
