-- What one thing that a call does leaves.
use Rattle.heap_runs.proofs.Words.{◌≡◌, ℕ, ◌++◌, ◌∷◌, [], false, Option, List, arc_value, AreArenas, AreWays, CallFacts, Comes, Did, HasBox, IsWantedAt, Took, Way, after, item_of, known, moment_at, seen_at, took_in, turns_in, Ctx, SharedHeap}
use Rattle.deeds.specs.Dids.{told_by}
use Rattle.heap_runs.specs.Meets.{Meets}

-- the box that is known behind it: the one that it told, if it was a turn
abbrev pub IsItsBox : Did → ℕ → Type 0
IsItsBox (Took arena deed told) box_no = box_no ≡ told.box_no
IsItsBox did box_no = Unit {0}

-- One thing that a call does is what the table wants there, and leaves its context these passes, with all that the call has to know
-- where it goes then.
pub record Leaves (heap : SharedHeap) (ctx : Ctx) (call : CallFacts) (did : Did) (later : List Way) : Type 0 where
  pub ways : AreWays heap.locks.items ctx.client later
  pub arenas : AreArenas false (known (arc_value heap.table) (seen_at later))
  pub comes : Comes false (known (arc_value heap.table) (seen_at later)) ctx.client (after (moment_at call ctx.desk.facts) (item_of did))
  pub wanted : IsWantedAt ctx.client (moment_at call ctx.desk.facts).stage.arena (moment_at call ctx.desk.facts).stage.next did
  pub met : Meets ctx.client (moment_at call ctx.desk.facts).stage.next did
  pub box : (last : Option (ℕ × ℕ)) (box_no : ℕ) → IsItsBox did box_no → HasBox (after (moment_at call ctx.desk.facts) (item_of did)).stage (told_by last did) box_no
  pub turns : (i : ℕ) → turns_in (arc_value heap.table) ctx.client i (seen_at later i) ≡ turns_in (arc_value heap.table) ctx.client i (seen_at ctx.passes.items i) ++ took_in i (did ∷ [])
