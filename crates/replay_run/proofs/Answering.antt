-- What an answer is.
use Rattle.replay_run.proofs.Words.{◌≡◌, false, refl, Answered}
use Rattle.call_plan.specs.declared.needs.Answered.TheVariants.{Ok}
use Rattle.call_plan.specs.declared.needs.Given.{Given}
use Rattle.replay_run.specs.World.{is_good}

-- an answer that isn't Ok
pub other_answer : (answer : Answered) → ((given : Given) → answer ≡ Ok given → ⊥) → false ≡ is_good answer
other_answer (Ok given) other = absurd (other given refl)
other_answer answer other = refl
