-- Sweeps: an upkeep of all arenas that are live where a line is carried out, one after another.
use Rattle.std.specs.Prelude.{ℕ, List, [], ◌∷◌, Option, None, Some}
use Rattle.call_plan.specs.declared.needs.Request.{Request}
use Rattle.ctl_values.specs.declared.steps.Upkeep.{Upkeep}
use Rattle.ctl_values.specs.Steps.{request_of}

-- An upkeep of arenas, and those that are left.
pub record SweepFacts : Type 0 where
  pub upkeep : Upkeep
  pub arenas : List ℕ

-- the request that does an upkeep to the first of some arenas, if there is one
abbrev pub request_on : Upkeep → List ℕ → Option Request
request_on upkeep [] = None
request_on upkeep (arena ∷ arenas) = Some (request_of upkeep arena)

-- the other arenas
abbrev pub other_arenas : List ℕ → List ℕ
other_arenas [] = []
other_arenas (arena ∷ arenas) = arenas

-- the next request of a sweep, if an arena is left
abbrev pub request_next : SweepFacts → Option Request
request_next sweep = request_on sweep.upkeep sweep.arenas

-- what is left of it behind that
abbrev pub advanced : SweepFacts → SweepFacts
advanced sweep = record sweep { arenas = other_arenas sweep.arenas }
