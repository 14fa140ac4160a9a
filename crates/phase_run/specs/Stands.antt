-- How the clients of a trace stand between its parts, and what a part comes to.
use Rattle.std.specs.Prelude.{◌≡◌, ◌≢◌, ℕ, ◌+◌, ◌<◌, ◌==◌, ◌++◌, Bool, true, false, List, [], ◌∷◌, Option, None, Some, length, map, replicate, filter, nat_lt, slice_index_or, slice_set, if◌then◌else◌}
use Rattle.std.specs.List.{All, flat_map, range_with_len}
use Rattle.call_plan.specs.declared.needs.Answered.{Answered}
use Rattle.call_plan.specs.declared.needs.Answered.TheVariants.{Ok}
use Rattle.call_plan.specs.declared.needs.Given.TheVariants.{Arena}
use Rattle.deeds.specs.Dids.{asks_of}
use Rattle.heap_runs.specs.Deals.{no_desk}
use Rattle.heap_runs.specs.Walks.{Done, dids_of}
use Rattle.heap_runs.specs.declared.heaps.Ctx.{Ctx}
use Rattle.hook_api.specs.Asked.{AskFacts}
use Rattle.hook_api.specs.Orders.{IsByPlanOf, no_orders, plan_for}
use Rattle.hook_api.specs.Plans.{kind_of}
use Rattle.hook_api.specs.Shared.{with_plan_set}
use Rattle.hook_api.specs.declared.orders.Orders.{Orders}
use Rattle.call_plan.specs.Clients.{DeskFacts}
use Rattle.trace_phase.specs.declared.parts.Part.{Part}
use Rattle.trace_phase.specs.declared.parts.Part.TheVariants as part
use Rattle.trace_phase.specs.declared.parts.Phase.{Phase}
use Rattle.trace_phase.specs.declared.parts.PhaseCall.{PhaseCall}
use Rattle.trace_phase.specs.declared.parts.Setting.TheVariants as setting
use Rattle.trace_phase.specs.declared.parts.SettingCall.{SettingCall}
use Rattle.trace_phase.specs.declared.parts.SettingCall.TheVariants.{Create}
use Rattle.trace_phase.specs.declared.parts.Work.{Work}
use Rattle.phase_run.specs.Names.{known_to, merged}
use Rattle.phase_run.specs.Requests.{setting_request}
use Rattle.phase_run.specs.Shifts.{IsMade, MakesLines, answer_to, background}
use Rattle.phase_run.specs.Tally.{no_answers, tally_with}
use Rattle.phase_run.specs.declared.names.Place.{Place}
use Rattle.phase_run.specs.declared.tally.Tally.{Tally}

-- What is known between two parts of a trace: what each of the 32 clients has, the names with their places, which arenas are live,
-- the plans that were set last for the boxes, and how many calls were made in phases.
pub record Stand : Type 0 where
  pub desks : List DeskFacts
  pub names : List (List ℕ × Place)
  pub live : List Bool
  pub orders : List Orders
  pub tally : Tally

-- before the first part, where these plans were set last for the boxes
abbrev pub opening_stand : List Orders → Stand
opening_stand orders = record { desks = replicate 32 no_desk; names = []; live = true ∷ replicate 31 false; orders = orders; tally = no_answers }

-- ---- a phase

-- the indexes of the live arenas, rising
abbrev pub live_in : List Bool → List ℕ
live_in live = filter (λ i. slice_index_or live i false) (range_with_len 0 32)

-- what is to be done is a client's
abbrev pub is_of : ℕ → Work → Bool
is_of c work = work.client == c

-- the calls of a client's lines in a phase
abbrev pub calls_by : ℕ → List Work → List PhaseCall
calls_by c [] = []
calls_by c (work ∷ works) = if is_of c work then work.calls else calls_by c works

-- the rounds that a client makes in a phase: those of the worker in the background are client 31's
abbrev pub rounds_by : ℕ → ℕ → ℕ
rounds_by c rounds = if c == 31 then rounds else 0

-- all calls of a client in a phase: those of its lines, and its rounds over the arenas that are live
abbrev pub calls_in : List Bool → Phase → ℕ → List PhaseCall
calls_in live phase c = calls_by c phase.works ++ background (live_in live) (rounds_by c phase.rounds)

-- The clients of a phase from one on, each from what it had to what it has: its calls were carried out from the names of its lines as
-- they were known before the phase, and each leaves the names that it knows then.
abbrev pub WalkClients : ℕ → Stand → Phase → List DeskFacts → List (List Done) → List DeskFacts → List (List (List ℕ × Place)) → Type 0
WalkClients c s phase [] [] [] [] = Unit {0}
WalkClients c s phase (had ∷ hads) (done ∷ dones) (has ∷ hass) (known ∷ knowns) =
    MakesLines c phase.moment (known_to s.names (calls_by c phase.works)) had (calls_in s.live phase c) done has known × WalkClients (c + 1) s phase hads dones hass knowns
WalkClients c s phase hads dones hass knowns = ⊥

-- the names behind a phase: those before it, with those that each client's worker knows then
abbrev pub all_merged : List (List ℕ × Place) → List (List (List ℕ × Place)) → List (List ℕ × Place)
all_merged names [] = names
all_merged names (known ∷ knowns) = all_merged (merged names known) knowns

-- the tally with the calls of all clients
abbrev pub all_tallied : Tally → List (List Done) → Tally
all_tallied tally [] = tally
all_tallied tally (done ∷ dones) = all_tallied (tally_with tally (map answer_to done)) dones

-- ---- a part

-- whether an ask was refused as planned is what is left of the plan that was set last for its box and kind tells
abbrev pub IsByPlan : List Orders → AskFacts → Type 0
IsByPlan orders asked = IsByPlanOf (plan_for (slice_index_or orders asked.box_no no_orders) (kind_of asked.ask)) asked.planned

-- the asks of calls are so
abbrev pub AreByPlan : List Orders → List Done → Type 0
AreByPlan orders dones = All (IsByPlan orders) (asks_of (dids_of dones))

-- the arenas that are live behind a call
abbrev pub live_after : List Bool → SettingCall → Answered → List Bool
live_after live (Create box_no) (Ok (Arena index)) = if nat_lt index 32 then slice_set live index true else live
live_after live call answer = live

-- one client alone made calls
abbrev pub alone : ℕ → List Done → List (List Done)
alone c dones = replicate c [] ++ dones ∷ []

-- what a client has
abbrev pub desk_in : Stand → ℕ → DeskFacts
desk_in s c = slice_index_or s.desks c no_desk

-- a part was carried out, from how things stood to how they stand; each client, by its number, made these calls
abbrev pub WalksPart : Stand → Part → List (List Done) → Stand → Type 0
WalksPart s (part.Setting (setting.Refuse box_no kind nth)) dones s' = (dones ≡ []) × (s' ≡ record s { orders = with_plan_set s.orders box_no kind nth })
WalksPart s (part.Setting (setting.Call c moment call)) dones s' =
    (done : Done) × (has : DeskFacts) × (dones ≡ alone c (done ∷ [])) × (done.request ≡ setting_request moment call) × IsMade c (desk_in s c) done has × AreByPlan s.orders (done ∷ [])
    × (s' ≡ record s { desks = slice_set s.desks c has; live = live_after s.live call done.answer })
WalksPart s (part.Phase phase) dones s' =
    (knowns : List (List (List ℕ × Place))) × WalkClients 0 s phase s.desks dones s'.desks knowns × All (AreByPlan s.orders) dones
    × (s' ≡ record s { desks = s'.desks; names = all_merged s.names knowns; tally = all_tallied s.tally dones })

-- the calls of each client, with more behind them
abbrev pub behind : List (List Done) → List (List Done) → List (List Done)
behind [] more = more
behind (one ∷ ones) [] = one ∷ ones
behind (one ∷ ones) (more ∷ mores) = (one ++ more) ∷ behind ones mores

-- Parts were carried out one behind the other; each client made these calls in all of them.
abbrev pub WalksParts : Stand → List Part → List (List Done) → Stand → Type 0
WalksParts s [] dones s' = (dones ≡ []) × (s' ≡ s)
WalksParts s (p ∷ parts) dones s' =
    (first : List (List Done)) × (mid : Stand) × (later : List (List Done)) × WalksPart s p first mid × WalksParts mid parts later s' × (dones ≡ behind first later)
