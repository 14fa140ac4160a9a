use Rattle.hook_api.proofs.Words.{rules, subst, HasBox}
use Rattle.hook_api.proofs.ShareKeeps.{gives_kept, gives_counted}
use Rattle.hook_api.proofs.locks.Locks.give.Goals as goal

pub swap-found-requires : goal.swap-found-requires
swap-found-requires g c = (search rules, search rules, gives_counted _ _ _ _ c.args.place.now.me c.args.i c.requires.inside (search rules) (subst (λ b. HasBox c.args.i b c.args.place.now.me) c.if-refused.true c.requires.taken))

pub swap-found-requires-else-refused : goal.swap-found-requires-else-refused
swap-found-requires-else-refused g c = (search rules, search rules, gives_kept _ _ _ _ c.args.place.now.me c.args.i c.requires.inside (search rules) (subst (λ b. HasBox c.args.i b c.args.place.now.me) c.if-refused.false c.requires.taken))
