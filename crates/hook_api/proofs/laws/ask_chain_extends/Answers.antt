use Rattle.hook_api.proofs.Chains.{ask_chain_extended}
use Rattle.hook_api.proofs.laws.ask_chain_extends.Goals as goal

pub returns : goal.returns
returns c = ask_chain_extended
