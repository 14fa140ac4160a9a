use Rattle.hook_api.proofs.Words.{ap}
use Rattle.hook_api.proofs.ShareDeals.{covered}
use Rattle.hook_api.proofs.locks.Locks.close.Goals as goal

pub returns-in-Some-clause-covered : goal.returns-in-Some-clause-covered
returns-in-Some-clause-covered g c all n below =
    let end = c.close_with.ensures.values.2 in
    covered _ _ _ _ c.args.items.items _ end.0 end.1.0 end.1.1 end.4 (ap (λ m. m.0) c.in-Some.ensures.some.1) all n below
