-- What is known of one ask of a shelf.
use Rattle.std.specs.Prelude.{◌≡◌, ℕ, Bool, true, false, not, ◌&&◌}
use Rattle.space_model.specs.declared.Ask.{Ask}
use Rattle.space_model.specs.declared.Answer.{Answer}
use Rattle.space_model.specs.declared.Answer.TheVariants.{Refused, Done, Placed}
use Rattle.space_model.specs.declared.Heard.{Heard}
use Rattle.hook_api.specs.Counts.{Rose}

-- an ask that was made: of which box number and at which place there, its answer, the count of refusals before and after, and whether a plan refused it
pub record AskFacts : Type 0 where
  pub box_no : ℕ
  pub place : ℕ
  pub ask : Ask
  pub answer : Answer
  pub before : ℕ
  pub after : ℕ
  pub planned : Bool

-- the ask with its answer
abbrev pub heard_in : AskFacts → Heard
heard_in asked = record { ask = asked.ask; answer = asked.answer }

-- a refusal was counted
abbrev pub RefusalCounts : Answer → ℕ → ℕ → Type 0
RefusalCounts answer before after = answer ≡ Refused → Rose before after

-- whether an answer is a refusal
abbrev pub is_refusal : Answer → Bool
is_refusal Refused = true
is_refusal Done = false
is_refusal (Placed committed zeroed first) = false

-- whether the box refused the ask, and no plan
abbrev pub by_box : AskFacts → Bool
by_box asked = is_refusal asked.answer && not asked.planned
