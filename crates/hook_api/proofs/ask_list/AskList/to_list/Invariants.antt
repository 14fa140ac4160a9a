use Rattle.hook_api.proofs.Words.{◌≡◌, ◌++◌, length}
use Rattle.hook_api.proofs.ask_list.AskList.to_list.Given as goal

-- the list and the asks that are left are all asks
abbrev pub invariant-loop-asked : goal.invariant-loop-asked
invariant-loop-asked l = l.list.items ++ l.left ≡ l.self.items

-- an ask less is left
abbrev pub decreases-loop-asked : goal.decreases-loop-asked
decreases-loop-asked l = length l.left
