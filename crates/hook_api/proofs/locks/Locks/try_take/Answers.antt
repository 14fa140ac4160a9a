use Rattle.hook_api.proofs.Words.{rules}
use Rattle.hook_api.proofs.ShareKeeps.{takes_box}
use Rattle.hook_api.proofs.locks.Locks.try_take.Goals as goal

pub compare_exchange-found-requires : goal.compare_exchange-found-requires
compare_exchange-found-requires g c = (search rules, search rules, takes_box _ _ _ _ _ _ _ c.requires.inside.0 c.requires.inside.1 c.requires.idle.0 c.requires.idle.1)
