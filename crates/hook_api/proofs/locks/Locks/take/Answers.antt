use Rattle.hook_api.proofs.Words.{rules}
use Rattle.hook_api.proofs.ShareKeeps.{waits_for}
use Rattle.hook_api.proofs.locks.Locks.take.Goals as goal

pub compare_exchange-found-requires : goal.compare_exchange-found-requires
compare_exchange-found-requires g c = (search rules, search rules, waits_for _ _ _ _ _ _ _ _ c.requires.inside (search rules) (search rules))
