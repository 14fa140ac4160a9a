-- Which calls of a run of threads are valid, and what may still fail one: the refusal of an ask that it needed, or a wrong answer.
use Rattle.std.specs.Prelude.{◌≡◌, ◌≢◌, ℕ, zero, suc, ◌-◌, ◌<◌, ◌≤◌, ◌^◌, ◌==◌, true, replicate, List, [], ◌∷◌, ◌++◌, length, map, slice_get, slice_index_or, Option, None, Some, if◌then◌else◌}
use Rattle.std.specs.Option.{option_map, option_map_or}
use Rattle.call_plan.specs.Causes.{CauseOf}
use Rattle.call_plan.specs.Clients.{DeskFacts}
use Rattle.call_plan.specs.Items.{Item, Replied}
use Rattle.call_plan.specs.Runs.{begin, run}
use Rattle.call_plan.specs.declared.needs.Request.{Request}
use Rattle.call_plan.specs.declared.needs.Request.TheVariants.{Malloc, Memalign, Free, Publish, Take, Flush, Cache, Purge, Decay, Time, Create, Bind}
use Rattle.deeds.specs.Dids.{Asked, Did, Lacked, Took, item_of}
use Rattle.heap_runs.specs.Deals.{no_desk}
use Rattle.heap_runs.specs.Walks.{Done, dids_of}
use Rattle.heap_runs.specs.Ways.{took_in}
use Rattle.hook_api.specs.declared.kept.Journal.{Journal}
use Rattle.recorded_arena.specs.Records.{entries_of, opening_space}
use Rattle.replay_run.specs.Served.{IsHeldBy, IsHelped, IsMetBy, MayCome, Serves}
use Rattle.size_classes.specs.Classes.{IsAlignment}
use Rattle.space_model.specs.Step.{is_live, space_after}
use Rattle.space_model.specs.declared.Reply.TheVariants.{Nothing}
use Rattle.space_model.specs.declared.entries.Entry.{Entry}
use Rattle.space_model.specs.declared.entries.Op.{Op}
use Rattle.space_model.specs.declared.spaces.Space.{Space}

-- ---- what a call began with, and what the turn met that answered it

-- what a call of a client did, as it was fed
abbrev pub items_of : Done → List Item
items_of done = map item_of done.dids

-- what a client has behind some calls, of what it had before them: each leaves what the table of calls says
abbrev pub desk_behind : DeskFacts → List Done → DeskFacts
desk_behind had [] = had
desk_behind had (done ∷ later) = desk_behind (run (begin done.request had) (items_of done)).desk later

-- the space that an entry of a client meets, by how many of its entries stand before it, from a space on: what all entries before it leave
abbrev pub met_by : ℕ → ℕ → Space → List Entry → Space
met_by c k s [] = s
met_by c zero s (e ∷ es) = if e.client == c then s else met_by c zero (space_after s e) es
met_by c (suc k) s (e ∷ es) = if e.client == c then met_by c k (space_after s e) es else met_by c (suc k) (space_after s e) es

-- the entries in the journal of an arena
abbrev pub entries_in : List Journal → ℕ → List Entry
entries_in journals arena = entries_of (option_map_or (λ (j : Journal). j.kept) (slice_get journals arena) [])

-- the arena and the operation of a turn
abbrev pub turned : Did → Option (ℕ × Op)
turned (Took arena deed told) = Some (arena, deed.op)
turned (Asked arena asked) = None
turned Lacked = None

-- the arena and the operation of what a call did last, if that was a turn
abbrev pub turned_last : List Did → Option (ℕ × Op)
turned_last [] = None
turned_last (did ∷ []) = turned did
turned_last (did ∷ more ∷ dids) = turned_last (more ∷ dids)

-- the space that a client met, by the journals, with the last turn of an arena that it made in some calls
abbrev pub met_last : List Journal → ℕ → List Done → ℕ → Space
met_last journals c calls arena = met_by c (length (took_in arena (dids_of calls)) - 1) (opening_space arena) (entries_in journals arena)

-- what the turn met that answered a call of a client, behind those before it: the space, and the operation; or no turn answered
abbrev pub met_behind : List Journal → ℕ → List Done → Done → Option (Space × Op)
met_behind journals c earlier done = option_map (λ (t : ℕ × Op). (met_last journals c (earlier ++ done ∷ []) t.0, t.1)) (turned_last done.dids)

-- the turn met a live arena
abbrev pub MeetsLive : Option (Space × Op) → Type 0
MeetsLive None = Unit {0}
MeetsLive (Some met) = is_live met.0.life ≡ true

-- the turn found what its operation needs: a region to take over is published
abbrev pub MeetsNeeded : ℕ → Option (Space × Op) → Type 0
MeetsNeeded c None = Unit {0}
MeetsNeeded c (Some met) = IsMetBy met.0 c met.1

-- ---- valid calls

-- A call of a client is valid, by what the turn met that answers it, by what its client had where it began, by what it was replied, and by
-- what it asks for: a size of at most 2 ^ 35 bytes and an alignment that may be asked for; a region that its client holds, or that is
-- published in the arena where it is taken over; arenas that are live; and for a create an index that has no arena at its turn. The lines of
-- a run of threads come to no other requests.
abbrev pub IsValidCall : ℕ → Option (Space × Op) → DeskFacts → List Item → Request → Type 0
IsValidCall c met had items (Malloc size) = size ≤ 2 ^ 35
IsValidCall c met had items (Memalign align size) = IsAlignment align × (size ≤ 2 ^ 35)
IsValidCall c met had items (Free addr) = IsHeldBy had addr
IsValidCall c met had items (Publish addr) = IsHeldBy had addr
IsValidCall c met had items (Take addr arena) = (arena < 32) × MeetsNeeded c met
IsValidCall c met had items Flush = Unit {0}
IsValidCall c met had items (Cache on) = Unit {0}
IsValidCall c met had items (Create box_no dirty_ms muzzy_ms now) = items ≢ replicate 31 (Replied Nothing)
IsValidCall c met had items (Purge arena) = (arena < 32) × MeetsLive met
IsValidCall c met had items (Decay arena now) = (arena < 32) × MeetsLive met
IsValidCall c met had items (Time arena rest ms now) = (arena < 32) × MeetsLive met
IsValidCall c met had items (Bind arena) = (arena < 32) × MeetsLive met
IsValidCall c met had items request = ⊥

-- a call of a client is valid behind those before it, the first of which began with nothing
abbrev pub IsValidBehind : List Journal → ℕ → List Done → Done → Type 0
IsValidBehind journals c earlier done = IsValidCall c (met_behind journals c earlier done) (desk_behind no_desk earlier) (items_of done) done.request

-- The answer of a call has its cause in what that very call was fed. A valid call has one of these answers.
pub record IsServedCall (journals : List Journal) (c : ℕ) (earlier : List Done) (done : Done) : Type 0 where
  pub caused : CauseOf (desk_behind no_desk earlier) done.request (items_of done) done.answer
  pub fails : IsValidBehind journals c earlier done → MayCome done.answer
  pub helped : IsValidBehind journals c earlier done → IsHelped done.request (items_of done) → Serves done.answer

-- each call of each client is served
abbrev pub AllServed : List Journal → List (List Done) → Type 0
AllServed journals dones = (c : ℕ) (earlier later : List Done) (done : Done) → c < 32 → slice_index_or dones c [] ≡ earlier ++ done ∷ later → IsServedCall journals c earlier done
