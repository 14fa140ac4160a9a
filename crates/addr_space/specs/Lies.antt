-- What hooks that lie answer.
use Rattle.std.specs.Prelude.{ℕ, ◌+◌, if◌then◌else◌, List, [], ◌∷◌, drop, Option, Some, None, is_some}
use Rattle.hook_api.specs.Counts.{capped}
use Rattle.hook_api.specs.Hooks.{Account}
use Rattle.hook_api.specs.declared.hooks.Placed.{Placed}
use Rattle.addr_space.specs.declared.lying.Lies.{Lies as Kept}
use Rattle.addr_space.specs.declared.lying.Lies.TheVariants as kept

-- The ranges that the allocs to come are given: one for each of them, or those of a list, one behind the other.
pub data Lies : Type 0 where
  Always : Placed → Lies
  Listed : List Placed → Lies

-- what the next allocs are given, and how often an alloc was refused
pub record Lying : Type 0 where
  pub lies : Lies
  pub refusals : ℕ

-- what is kept of lies is which they are
abbrev pub lies_of : Kept → Lies
lies_of (kept.Always placed) = Always placed
lies_of (kept.Listed places) = Listed places.items

-- the range that the next alloc is given, where there is one
abbrev pub next_lie : Lies → Option Placed
next_lie (Always placed) = Some placed
next_lie (Listed []) = None
next_lie (Listed (placed ∷ places)) = Some placed

-- what is left of them after an alloc: a range of a list is given once
abbrev pub lies_after : Lies → Lies
lies_after (Always placed) = Always placed
lies_after (Listed places) = Listed (drop 1 places)

-- the hooks after an alloc: where no range was left it was refused, which is counted
abbrev pub after_lie : Lying → Lying
after_lie old = record {
  lies = lies_after old.lies;
  refusals = if is_some (next_lie old.lies) then old.refusals else capped (old.refusals + 1);
}

-- hooks that lie tell nothing, and count what they refuse
abbrev pub lying_account : Lying → Account
lying_account hooks = record { told = None; refusals = hooks.refusals }
