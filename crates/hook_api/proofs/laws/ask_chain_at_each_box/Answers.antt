use Rattle.hook_api.proofs.Chains.{ask_chain_at_box}
use Rattle.hook_api.proofs.laws.ask_chain_at_each_box.Goals as goal

pub returns : goal.returns
returns c = ask_chain_at_box
