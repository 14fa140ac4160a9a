use Rattle.hook_api.proofs.Chains.{chain_at_box}
use Rattle.hook_api.proofs.laws.chain_at_each_box.Goals as goal

pub returns : goal.returns
returns c = chain_at_box
