-- What a call of a hook does, as far as anything is known of a box.
use Rattle.std.specs.Prelude.{◌≡◌, ◌≢◌, ℕ, ◌≤◌, Bool, true, false, IsTrue, List, [], ◌∷◌, ◌++◌, Option, Some, None, IfSome, IsSomeAnd}
use Rattle.space_model.specs.declared.Ask.{Ask}
use Rattle.space_model.specs.declared.Ask.TheVariants.{Alloc, Destroy}
use Rattle.space_model.specs.declared.Answer.{Answer}
use Rattle.space_model.specs.declared.Answer.TheVariants.{Refused, Done, Placed}
use Rattle.space_model.specs.declared.Heard.{Heard}
use Rattle.hook_api.specs.declared.hooks.Said.{Said}
use Rattle.hook_api.specs.declared.hooks.Said.TheVariants as said
use Rattle.hook_api.specs.declared.hooks.Placed as range
use Rattle.hook_api.specs.Counts.{Rose}

-- what a box has told so far, where it tells, and how often it has refused
pub record Account : Type 0 where
  pub told : Option (List Heard)
  pub refusals : ℕ

-- who tells now told before too, and has told just this more
abbrev pub Tells : Option (List Heard) → Heard → Option (List Heard) → Type 0
Tells old heard new = IfSome new (λ all. IsSomeAnd old (λ before. all ≡ before ++ heard ∷ []))

-- an answer of the ask's kind: an alloc places or refuses, a destroy is done, any other ask is done or refused
abbrev pub Answers : Ask → Answer → Type 0
Answers (Alloc commit at pages align) answer = answer ≢ Done
Answers (Destroy span committed) answer = answer ≡ Done
Answers _ answer = (first : ℕ) (committed zeroed : Bool) → answer ≢ Placed committed zeroed first

-- whether the ask is a destroy
abbrev pub is_destroy : Ask → Bool
is_destroy (Destroy span committed) = true
is_destroy _ = false

-- one call of a hook: the account of the box before, the ask, its answer, and the account after
pub record HookCall (old : Account) (ask : Ask) (answer : Answer) (new : Account) : Type 0 where
  pub answers : Answers ask answer
  pub tells : Tells old.told (record { ask = ask; answer = answer }) new.told
  pub never_falls : old.refusals ≤ new.refusals
  pub cause : answer ≡ Refused → Rose old.refusals new.refusals
  pub destroy_counts_nothing : IsTrue (is_destroy ask) → new.refusals ≡ old.refusals

-- what `alloc` gives, as an answer
abbrev pub placed_answer : Option range.Placed → Answer
placed_answer None = Refused
placed_answer (Some placed) = Placed placed.committed placed.zeroed placed.first

-- what another hook says, as an answer
abbrev pub said_answer : Said → Answer
said_answer said.Done = Done
said_answer said.Refused = Refused
