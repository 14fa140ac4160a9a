-- The calls of one client in all parts of a trace, one behind the other.
use Rattle.std.proofs.Common.{◌≡◌, ◌∙◌, ℕ, zero, suc, ◌+◌, ◌<◌, List, [], ◌∷◌, ◌++◌, refl, sym, ap, subst, arith, length, map, replicate, zero-add}
use Rattle.std.specs.Prelude.{slice_index_or, slice_set}
use Rattle.std.proofs.lemmas.List.{get_or-replicate, get_or-set_other, get_or-set_same, length-replicate, length-set}
use mathlib.Core.Logic.{dite}
use native.Mathlib.Decide.{ℕ_discrete}
use Rattle.call_plan.specs.Clients.{DeskFacts}
use Rattle.call_plan.specs.Runs.{Moment, after, begin, run}
use Rattle.deeds.specs.Dids.{Did, Led, item_of, told_by}
use Rattle.heap_runs.specs.Deals.{no_desk}
use Rattle.heap_runs.specs.Walks.{Done}
use Rattle.hook_api.specs.declared.orders.Orders.{Orders}
use Rattle.std.specs.Prelude.{Option}
use Rattle.trace_phase.specs.declared.parts.Part.{Part}
use Rattle.trace_phase.specs.declared.parts.Part.TheVariants as part
use Rattle.trace_phase.specs.declared.parts.Phase.{Phase}
use Rattle.trace_phase.specs.declared.parts.PhaseCall.{PhaseCall}
use Rattle.trace_phase.specs.declared.parts.Setting.TheVariants as setting
use Rattle.phase_run.proofs.Parting.{behind_at}
use Rattle.phase_run.proofs.Setting.{alone_here, alone_other}
use Rattle.phase_run.specs.Requests.{names_after}
use Rattle.phase_run.specs.Shifts.{IsMade, MakesLines}
use Rattle.phase_run.specs.Stands.{Stand, WalkClients, WalksPart, WalksParts, alone, desk_in, opening_stand}
use Rattle.phase_run.specs.declared.names.Place.{Place}
use Rattle.jarena.specs.Served.{desk_behind, items_of}

-- the calls of a client follow one another, from what it had to what it has
abbrev pub MadeFrom : ℕ → DeskFacts → List Done → DeskFacts → Type 0
MadeFrom c had [] has = has ≡ had
MadeFrom c had (done ∷ dones) has = (mid : DeskFacts) × IsMade c had done mid × MadeFrom c mid dones has

made_on : (c : ℕ) (had : DeskFacts) (dones : List Done) (mid : DeskFacts) (more : List Done) (has : DeskFacts) → MadeFrom c had dones mid → MadeFrom c mid more has → MadeFrom c had (dones ++ more) has
made_on c had [] mid more has one two = subst (λ d. MadeFrom c d more has) one two
made_on c had (d ∷ dones) mid more has one two = (one.0, one.1, made_on c one.0 dones mid more has one.2 two)

-- ---- in a phase

lines_made : (c now : ℕ) (names : List (List ℕ × Place)) (had : DeskFacts) (calls : List PhaseCall) (dones : List Done) (has : DeskFacts) (names' : List (List ℕ × Place)) → MakesLines c now names had calls dones has names' → MadeFrom c had dones has
lines_made c now names had [] [] has names' makes = makes.0
lines_made c now names had [] (done ∷ dones) has names' makes = absurd makes
lines_made c now names had (call ∷ calls) [] has names' makes = absurd makes
lines_made c now names had (call ∷ calls) (done ∷ dones) has names' makes =
    (makes.0, makes.2, lines_made c now (names_after names call done.answer makes.0) makes.0 calls dones has names' makes.3)

clients_count : (c : ℕ) (s : Stand) (phase : Phase) (hads : List DeskFacts) (dones : List (List Done)) (hass : List DeskFacts) (knowns : List (List (List ℕ × Place))) → WalkClients c s phase hads dones hass knowns → length hass ≡ length hads
clients_count c s phase [] [] [] [] walk = refl
clients_count c s phase (had ∷ hads) (done ∷ dones) (has ∷ hass) (known ∷ knowns) walk = ap suc (clients_count (c + 1) s phase hads dones hass knowns walk.1)
clients_count c s phase hads dones hass knowns walk = absurd walk

clients_made : (c : ℕ) (s : Stand) (phase : Phase) (hads : List DeskFacts) (dones : List (List Done)) (hass : List DeskFacts) (knowns : List (List (List ℕ × Place))) → WalkClients c s phase hads dones hass knowns
    → (k : ℕ) → MadeFrom (c + k) (slice_index_or hads k no_desk) (slice_index_or dones k []) (slice_index_or hass k no_desk)
clients_made c s phase [] [] [] [] walk k = refl
clients_made c s phase (had ∷ hads) (done ∷ dones) (has ∷ hass) (known ∷ knowns) walk zero =
    let same : c ≡ c + 0 = omega arith in subst (λ n. MadeFrom n had done has) same (lines_made c phase.moment _ had _ done has known walk.0)
clients_made c s phase (had ∷ hads) (done ∷ dones) (has ∷ hass) (known ∷ knowns) walk (suc k) =
    let same : c + 1 + k ≡ c + suc k = omega arith in
    subst (λ n. MadeFrom n (slice_index_or hads k no_desk) (slice_index_or dones k []) (slice_index_or hass k no_desk)) same (clients_made (c + 1) s phase hads dones hass knowns walk.1 k)
clients_made c s phase hads dones hass knowns walk k = absurd walk

-- ---- in a part

-- a client that is one of those that there are made these calls, and is one of those that there are still
abbrev Made : Stand → List (List Done) → Stand → ℕ → Type 0
Made s dones s' k = (k < length s'.desks) × MadeFrom k (desk_in s k) (slice_index_or dones k []) (desk_in s' k)

part_made : (s : Stand) (p : Part) (dones : List (List Done)) (s' : Stand) → WalksPart s p dones s' → (k : ℕ) → k < length s.desks → Made s dones s' k
part_made s (part.Setting (setting.Refuse box_no kind nth)) dones s' walk k low =
    subst (λ (ds : List (List Done)). Made s ds s' k) (sym walk.0) (subst (λ (t : Stand). Made s [] t k) (sym walk.1) (low, refl))
part_made s (part.Setting (setting.Call c moment call)) dones s' walk k low =
    let done : Done = walk.0 in
    let has : DeskFacts = walk.1 in
    let desks : List DeskFacts = slice_set s.desks c has in
    let within : k < length desks = (let count = length-set s.desks c has in omega (arith, low, count)) in
    let made : MadeFrom k (desk_in s k) (slice_index_or (alone c (done ∷ [])) k []) (slice_index_or desks k no_desk) =
    dite (ℕ_discrete k c)
    (λ same.
    let there : c < length s.desks = omega (arith, low, same) in
    subst (λ i. MadeFrom i (desk_in s i) (slice_index_or (alone c (done ∷ [])) i []) (slice_index_or desks i no_desk)) (sym same)
    (subst (λ (ds : List Done). MadeFrom c (desk_in s c) ds (slice_index_or desks c no_desk)) (sym (alone_here c (done ∷ [])))
    (subst (λ (d : DeskFacts). MadeFrom c (desk_in s c) (done ∷ []) d) (sym (get_or-set_same s.desks c has no_desk there)) (has, walk.4, refl))))
    (λ far.
    subst (λ (ds : List Done). MadeFrom k (desk_in s k) ds (slice_index_or desks k no_desk)) (sym (alone_other c k (done ∷ []) far)) (get_or-set_other s.desks c k has no_desk far)) in
    subst (λ (ds : List (List Done)). Made s ds s' k) (sym walk.2) (subst (λ (t : Stand). Made s (alone c (done ∷ [])) t k) (sym walk.6) (within, made))
part_made s (part.Phase phase) dones s' walk k low =
    let count : length s'.desks ≡ length s.desks = clients_count 0 s phase s.desks dones s'.desks walk.0 walk.1 in
    (omega (arith, low, count), subst (λ n. MadeFrom n (desk_in s k) (slice_index_or dones k []) (desk_in s' k)) (zero-add k) (clients_made 0 s phase s.desks dones s'.desks walk.0 walk.1 k))

parts_made : (s : Stand) (parts : List Part) (dones : List (List Done)) (s' : Stand) → WalksParts s parts dones s' → (k : ℕ) → k < length s.desks → MadeFrom k (desk_in s k) (slice_index_or dones k []) (desk_in s' k)
parts_made s [] dones s' walk k low =
    subst (λ (ds : List (List Done)). MadeFrom k (desk_in s k) (slice_index_or ds k []) (desk_in s' k)) (sym walk.0) (ap (λ (t : Stand). desk_in t k) walk.1)
parts_made s (p ∷ parts) dones s' walk k low =
    let one = part_made s p walk.0 walk.1 walk.3 k low in
    let rest = parts_made walk.1 parts walk.2 s' walk.4 k one.0 in
    subst (λ (ds : List (List Done)). MadeFrom k (desk_in s k) (slice_index_or ds k []) (desk_in s' k)) (sym walk.5)
    (subst (λ (ds : List Done). MadeFrom k (desk_in s k) ds (desk_in s' k)) (sym (behind_at walk.0 walk.2 k))
    (made_on k (desk_in s k) (slice_index_or walk.0 k []) (desk_in walk.1 k) (slice_index_or walk.2 k []) (desk_in s' k) one.1 rest))

-- the calls of a client in all parts, of which it had nothing before
pub client_made : (orders : List Orders) (parts : List Part) (dones : List (List Done)) (s' : Stand) → WalksParts (opening_stand orders) parts dones s' → (c : ℕ) → c < 32
    → MadeFrom c no_desk (slice_index_or dones c []) (desk_in s' c)
client_made orders parts dones s' walk c low =
    let count : length (replicate 32 no_desk) ≡ 32 = length-replicate 32 no_desk in
    subst (λ (d : DeskFacts). MadeFrom c d (slice_index_or dones c []) (desk_in s' c)) (get_or-replicate 32 c no_desk no_desk low)
    (parts_made (opening_stand orders) parts dones s' walk c (omega (arith, low, count)))

-- ---- a call among them

-- a call leads where it is run by what it was fed
pub led_runs : (c : ℕ) (at : Moment) (last : Option (ℕ × ℕ)) (dids : List Did) (new : Moment) → Led c at last dids new → new ≡ run at (map item_of dids)
led_runs c at last [] new led = led
led_runs c at last (did ∷ dids) new led = led_runs c (after at (item_of did)) (told_by last did) dids new led.1

left_is : (c : ℕ) (had : DeskFacts) (done : Done) (has : DeskFacts) → IsMade c had done has → has ≡ (run (begin done.request had) (items_of done)).desk
left_is c had done has made = sym made.0.leaves ∙ ap (λ (m : Moment). m.desk) (led_runs c (begin done.request had) _ done.dids made.0.last made.0.led)

-- a call was made behind those before it
pub made_behind : (c : ℕ) (had : DeskFacts) (earlier : List Done) (done : Done) (later : List Done) (has : DeskFacts) → MadeFrom c had (earlier ++ done ∷ later) has → (mid : DeskFacts) × IsMade c (desk_behind had earlier) done mid
made_behind c had [] done later has made = (made.0, made.1)
made_behind c had (d ∷ earlier) done later has made =
    made_behind c (run (begin d.request had) (items_of d)).desk earlier done later has (subst (λ (x : DeskFacts). MadeFrom c x (earlier ++ done ∷ later) has) (left_is c had d made.0 made.1) made.2)
