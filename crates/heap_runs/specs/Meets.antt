-- What a call met by what it did.
use Rattle.std.specs.Prelude.{◌≡◌, ℕ, ◌<◌, true, List, [], ◌∷◌}
use Rattle.arena_core.specs.Arenas.{entry_of}
use Rattle.call_plan.specs.Laws.{KnowsNext}
use Rattle.call_plan.specs.Runs.{Moment, after}
use Rattle.call_plan.specs.Stages.{Next}
use Rattle.deeds.specs.Dids.{Asked, Did, Lacked, Took, item_of}
use Rattle.deeds.specs.declared.deeds.Deed.{Deed}
use Rattle.deeds.specs.declared.deeds.Told.{Told}
use Rattle.hook_api.specs.Hooks.{Answers}
use Rattle.space_model.specs.Own.{mine}
use Rattle.space_model.specs.Sound.{Sound}
use Rattle.space_model.specs.Step.{reply_to, stands}
use Rattle.space_model.specs.declared.spaces.Space.{Space}

-- What a turn of a client met where its call came to this: a sound space of one of the 32 arenas, in which the client owned what its call
-- has to know there, and the entry might stand. The reply is that of this space.
pub record TurnMeets (c arena : ℕ) (next : Next) (deed : Deed) (told : Told) : Type 0 where
  pub there : arena < 32
  pub space : Space
  pub sound : Sound space
  pub knows : KnowsNext (mine c space) next
  pub stands : stands space (entry_of c deed.op) ≡ true
  pub reply : told.reply ≡ reply_to space (entry_of c deed.op)

-- what a call met by one thing that it did: a turn met such a space, and an ask had an answer of its kind
abbrev pub Meets : ℕ → Next → Did → Type 0
Meets c next (Took arena deed told) = TurnMeets c arena next deed told
Meets c next (Asked arena asked) = Answers asked.ask asked.answer
Meets c next Lacked = Unit {0}

-- what it met by all that it did, one behind the other
abbrev pub AllMeet : ℕ → Moment → List Did → Type 0
AllMeet c at [] = Unit {0}
AllMeet c at (did ∷ dids) = Meets c at.stage.next did × AllMeet c (after at (item_of did)) dids
