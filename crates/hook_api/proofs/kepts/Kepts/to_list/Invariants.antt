use Rattle.hook_api.proofs.Words.{◌≡◌, ◌++◌, length}
use Rattle.hook_api.proofs.kepts.Kepts.to_list.Given as goal

-- the list and the entries that are left are all entries
abbrev pub invariant-loop-list : goal.invariant-loop-list
invariant-loop-list l = l.list.items ++ l.left ≡ l.self

-- an entry less is left
abbrev pub decreases-loop-list : goal.decreases-loop-list
decreases-loop-list l = length l.left
