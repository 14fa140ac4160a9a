use Rattle.hook_api.proofs.Chains.{chain_extended}
use Rattle.hook_api.proofs.laws.chain_extends.Goals as goal

pub returns : goal.returns
returns c = chain_extended
