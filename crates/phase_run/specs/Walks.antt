-- A worker carries the calls of its client in a phase out, one behind the other: what a call asks for depends on where the
-- regions lie that the calls before it got.
use Rattle.std.specs.Prelude.{◌≡◌, ℕ, true, List, [], ◌∷◌, count_by}
use Rattle.std.specs.List.{list_any}
use Rattle.call_plan.specs.declared.needs.Answered.{Answered}
use Rattle.call_plan.specs.declared.needs.Request.{Request}
use Rattle.call_plan.specs.Clients.{DeskFacts}
use Rattle.trace_phase.specs.Apart.{names_it}
use Rattle.trace_phase.specs.declared.parts.PhaseCall.{PhaseCall}
use Rattle.trace_phase.specs.declared.parts.Work.{Work}
use Rattle.phase_run.specs.declared.names.Place.{Place}
use Rattle.phase_run.specs.Names.{place_in}
use Rattle.phase_run.specs.Requests.{is_failed, names_after, request_of}

-- two lists of names tell the same of each name that the calls have
abbrev pub AgreeOn : List PhaseCall → List (List ℕ × Place) → List (List ℕ × Place) → Type 0
AgreeOn calls names others = (name : List ℕ) → list_any (names_it name) calls ≡ true → place_in names name ≡ place_in others name

-- Calls that were carried out, of any kind: what each was asked for, what it answered, and whether it is one from what its
-- client had to what it has then.
module _ {D : Type 0} (asked : D → Request) (told : D → Answered) (IsDone : DeskFacts → D → DeskFacts → Type 0) where
  -- The calls of a client were carried out in a phase at this moment, from what it had and the names that its worker knew to
  -- what it has and knows then. Each was asked for what its line comes to by the names so far, and its answer binds its name.
  abbrev pub WalksLines : ℕ → List (List ℕ × Place) → DeskFacts → List PhaseCall → List D → DeskFacts → List (List ℕ × Place) → Type 0
  WalksLines now names had [] [] has names' = (has ≡ had) × (names' ≡ names)
  WalksLines now names had (call ∷ calls) (done ∷ later) has names' =
      (mid : DeskFacts) × (asked done ≡ request_of now names call) × IsDone had done mid
      × WalksLines now (names_after names call (told done) mid) mid calls later has names'
  WalksLines now names had calls dones has names' = ⊥

-- What a worker did in a phase: what its client had, the calls that were carried out, and what the client has then.
pub record Worker (D : Type 0) : Type 0 where
  pub had : DeskFacts
  pub calls : List D
  pub has : DeskFacts

module _ {D : Type 0} (asked : D → Request) (told : D → Answered) (IsDone : ℕ → DeskFacts → D → DeskFacts → Type 0) where
  -- a worker carried out what is a client's in a phase, from names that it knew to those that it knows then
  abbrev pub Works : ℕ → List (List ℕ × Place) → Work → Worker D → List (List ℕ × Place) → Type 0
  Works now names work worker names' = WalksLines asked told (IsDone work.client) now names worker.had work.calls worker.calls worker.has names'

  -- The workers of a phase, as if one came behind the other, each knowing the names that those before it bound.
  abbrev pub WorkInTurn : ℕ → List (List ℕ × Place) → List Work → List (Worker D) → List (List ℕ × Place) → Type 0
  WorkInTurn now names [] [] names' = names' ≡ names
  WorkInTurn now names (work ∷ works) (worker ∷ workers) names' =
      (mid : List (List ℕ × Place)) × Works now names work worker mid × WorkInTurn now mid works workers names'
  WorkInTurn now names works workers names' = ⊥

  -- The workers of a phase beside each other, each by names of its own that tell of its calls what those of the phase tell.
  abbrev pub WorkAtOnce : ℕ → List (List ℕ × Place) → List Work → List (Worker D) → Type 0
  WorkAtOnce now names [] [] = Unit {0}
  WorkAtOnce now names (work ∷ works) (worker ∷ workers) =
      ((own : List (List ℕ × Place)) × (own' : List (List ℕ × Place)) × AgreeOn work.calls own names × Works now own work worker own') × WorkAtOnce now names works workers
  WorkAtOnce now names works workers = ⊥
