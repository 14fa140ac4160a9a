-- Each ask of a call is carried by an entry, unless the call destroys an arena.
use Rattle.std.proofs.Common.{◌≡◌, ◌≢◌, ◌∙◌, ℕ, zero, suc, ◌+◌, Bool, true, false, List, [], ◌∷◌, ◌++◌, Option, None, Some, refl, sym, ap, append_assoc, append-nil, arith}
use Rattle.std.specs.Prelude.{slice_index_or}
use Rattle.std.proofs.lemmas.Bool.Decides.{nat_tests}
use mathlib.Core.Logic.{dite}
use native.Mathlib.Decide.{ℕ_discrete}
use Rattle.back_purge.proofs.Making.{dids_append}
use Rattle.call_plan.specs.Clients.{DeskFacts, hit}
use Rattle.call_plan.specs.Desks.{desk_fed, meant, ready}
use Rattle.call_plan.specs.Runs.{Moment, after, all_goes, begin, begin_stage, move_stage, settle, step_next}
use Rattle.call_plan.specs.Stages.{Asks, Ends, Go, NotLive, NextBatch, Move, Next, Nowhere, InArena, Point, Tells, Turns}
use Rattle.call_plan.specs.Table.{done_at, is_marked, starved, step, told, turn_replied, want}
use Rattle.call_plan.specs.declared.needs.Answered.{Answered}
use Rattle.call_plan.specs.declared.needs.Request.{Request}
use Rattle.call_plan.specs.declared.needs.Request.TheVariants.{Destroy}
use Rattle.call_plan.specs.declared.points.AskPoint.{AskPoint}
use Rattle.call_plan.specs.declared.points.TurnPoint.{TurnPoint}
use Rattle.call_plan.specs.declared.points.TurnPoint.TheVariants.{Destroying, Dooming}
use Rattle.deeds.proofs.Leading.{asks_more}
use Rattle.deeds.specs.Dids.{Asked, Did, Follows, IsCall, IsWanted, IsWantedAt, Lacked, Led, Took, asks_of, carried, item_of, told_by}
use Rattle.deeds.specs.declared.deeds.Deed.{Deed}
use Rattle.heap_runs.specs.Walks.{Done, dids_of}
use Rattle.hook_api.specs.Asked.{AskFacts}
use Rattle.space_model.specs.declared.Reply.{Reply}
use Rattle.trace_phase.specs.declared.parts.Part.{Part}
use Rattle.trace_phase.specs.declared.parts.Part.TheVariants as part
use Rattle.trace_phase.specs.declared.parts.Phase.{Phase}
use Rattle.trace_phase.specs.declared.parts.PhaseCall.{PhaseCall}
use Rattle.trace_phase.specs.declared.parts.PhaseCall.TheVariants.{Decay, Flush, Free, Malloc, Memalign, Publish, Purge, Take}
use Rattle.trace_phase.specs.declared.parts.Setting.TheVariants as setting
use Rattle.trace_phase.specs.declared.parts.SettingCall.{SettingCall}
use Rattle.trace_phase.specs.declared.parts.SettingCall.TheVariants.{Bind, Cache, Create, Time}
use Rattle.phase_run.specs.Requests.{names_after, request_of, setting_request}
use Rattle.phase_run.specs.Shifts.{IsMade, MakesLines}
use Rattle.phase_run.specs.Stands.{Stand, WalkClients, WalksPart, WalksParts, behind}
use Rattle.phase_run.specs.Threads.{ask_in, carried_of}
use Rattle.phase_run.specs.declared.names.Place.{Place}
use Rattle.phase_run.proofs.Parting.{behind_at}
use Rattle.phase_run.proofs.Setting.{alone_here, alone_other}

-- ---- what a call owes an entry, and whether it ends an arena

abbrev owed_at : Point → List AskFacts
owed_at (Asks point (Some asked)) = asked ∷ []
owed_at point = []

abbrev owed : Next → List AskFacts
owed (Go point) = owed_at point
owed (InArena index point) = owed_at point
owed next = []

abbrev dooms_at : Point → Bool
dooms_at (Turns (Destroying cached)) = true
dooms_at (Turns Dooming) = true
dooms_at (Tells span b) = true
dooms_at point = false

abbrev dooms : Next → Bool
dooms (Go point) = dooms_at point
dooms (InArena index point) = dooms_at point
dooms next = false

abbrev destroys : Request → Bool
destroys (Destroy arena) = true
destroys request = false

-- ---- the table

starved_owed : (marked : Bool) → owed (starved marked) ≡ []
starved_owed true = refl
starved_owed false = refl

turned_owed : (point : TurnPoint) (reply : Reply) → owed (turn_replied point reply) ≡ []
turned_owed point reply = grind (arith, nat_tests)

told_owed : (point : AskPoint) (asked : AskFacts) (reply : Reply) → owed (told point asked reply) ≡ []
told_owed point asked reply = grind (arith, nat_tests)

settled_owed : (request : Request) (desk : DeskFacts) (arena : ℕ) (next : Next) → owed (settle request desk arena next).next ≡ owed next
settled_owed request desk arena next = grind (arith, nat_tests)

begun_owed : (request : Request) (desk : DeskFacts) → owed (begin_stage request desk).next ≡ []
begun_owed request desk = grind (arith, nat_tests)

starved_dooms : (marked : Bool) → dooms (starved marked) ≡ false
starved_dooms true = refl
starved_dooms false = refl

turned_dooms : (point : TurnPoint) (reply : Reply) → dooms_at (Turns point) ≡ false → dooms (turn_replied point reply) ≡ false
turned_dooms point reply none = grind (arith, nat_tests)

told_dooms : (point : AskPoint) (asked : AskFacts) (reply : Reply) → dooms (told point asked reply) ≡ false
told_dooms point asked reply = grind (arith, nat_tests)

more_dooms : (request : Request) (desk : DeskFacts) (arena : ℕ) → dooms (all_goes request desk arena).next ≡ false
more_dooms request desk arena = grind (arith, nat_tests)

move_dooms : (request : Request) (arena class : ℕ) (desk : DeskFacts) → dooms (move_stage request arena class (hit class desk) desk).next ≡ false
move_dooms request arena class desk = grind (arith, nat_tests)

settled_dooms : (request : Request) (desk : DeskFacts) (arena : ℕ) (next : Next) → dooms next ≡ false → dooms (settle request desk arena next).next ≡ false
settled_dooms request desk arena (Go point) none = none
settled_dooms request desk arena (InArena index point) none = none
settled_dooms request desk arena NextBatch none = more_dooms request desk arena
settled_dooms request desk arena (Move class) none = move_dooms request arena class desk
settled_dooms request desk arena NotLive none = refl
settled_dooms request desk arena (Ends answer) none = refl
settled_dooms request desk arena Nowhere none = refl

begun_dooms : (request : Request) (desk : DeskFacts) → destroys request ≡ false → dooms (begin_stage request desk).next ≡ false
begun_dooms (Destroy arena) desk mild = absurd cc
begun_dooms request desk mild = grind (arith, nat_tests)

meant_destroys : (request : Request) (desk : DeskFacts) → destroys (meant request desk) ≡ destroys request
meant_destroys request desk = grind (arith, nat_tests)

unmarked : (point : AskPoint) (asked : AskFacts) → is_marked (done_at point asked) ≡ false
unmarked point asked = grind arith

-- ---- one thing that a call did

abbrev asks_by : Did → List AskFacts
asks_by (Asked arena asked) = asked ∷ []
asks_by did = []

asks_first : (did : Did) (dids : List Did) → asks_of (did ∷ dids) ≡ asks_by did ++ asks_of dids
asks_first (Asked arena asked) dids = refl
asks_first (Took arena deed told) dids = refl
asks_first Lacked dids = refl

no_true : (b : Bool) → b ≡ true → b ≡ false → ⊥
no_true b is not = absurd cc

step_carries : (c arena : ℕ) (point : Point) (did : Did) → IsWanted c arena (want point) did → dooms_at point ≡ false → owed_at point ++ asks_by did ≡ ask_in (carried did) ++ owed (step point (item_of did))
step_carries c arena (Turns point) (Took b deed told) wanted none = sym (ap (λ (o : Option AskFacts). ask_in o ++ owed (turn_replied point told.reply)) (ap (λ (d : Deed). d.asked) wanted.1.1) ∙ turned_owed point told.reply)
step_carries c arena (Turns point) Lacked wanted none = sym (starved_owed _)
step_carries c arena (Turns point) (Asked b asked) wanted none = absurd wanted
step_carries c arena (Asks point None) (Asked b asked) wanted none = refl
step_carries c arena (Asks point None) (Took b deed told) wanted none = absurd wanted
step_carries c arena (Asks point None) Lacked wanted none = absurd wanted
step_carries c arena (Asks point (Some asked)) (Took b deed answer) wanted none =
    sym (ap (λ (o : Option AskFacts). ask_in o ++ owed (told point asked answer.reply)) (ap (λ (d : Deed). d.asked) wanted.1.1) ∙ ap (λ l. asked ∷ l) (told_owed point asked answer.reply))
step_carries c arena (Asks point (Some asked)) Lacked wanted none = absurd (no_true (is_marked (done_at point asked)) wanted (unmarked point asked))
step_carries c arena (Asks point (Some asked)) (Asked b x) wanted none = absurd wanted
step_carries c arena (Tells span b) did wanted none = absurd cc

step_dooms : (c arena : ℕ) (point : Point) (did : Did) → IsWanted c arena (want point) did → dooms_at point ≡ false → dooms (step point (item_of did)) ≡ false
step_dooms c arena (Turns point) (Took b deed told) wanted none = turned_dooms point told.reply none
step_dooms c arena (Turns point) Lacked wanted none = starved_dooms _
step_dooms c arena (Turns point) (Asked b asked) wanted none = absurd wanted
step_dooms c arena (Asks point None) (Asked b asked) wanted none = refl
step_dooms c arena (Asks point None) (Took b deed told) wanted none = absurd wanted
step_dooms c arena (Asks point None) Lacked wanted none = absurd wanted
step_dooms c arena (Asks point (Some asked)) (Took b deed answer) wanted none = told_dooms point asked answer.reply
step_dooms c arena (Asks point (Some asked)) Lacked wanted none = absurd (no_true (is_marked (done_at point asked)) wanted (unmarked point asked))
step_dooms c arena (Asks point (Some asked)) (Asked b x) wanted none = absurd wanted
step_dooms c arena (Tells span b) did wanted none = absurd cc

at_carries : (c arena : ℕ) (next : Next) (did : Did) → IsWantedAt c arena next did → dooms next ≡ false → (owed next ++ asks_by did ≡ ask_in (carried did) ++ owed (step_next next (item_of did))) × (dooms (step_next next (item_of did)) ≡ false)
at_carries c arena (Go point) did wanted none = (step_carries c arena point did wanted none, step_dooms c arena point did wanted none)
at_carries c arena next did wanted none = absurd wanted

-- ---- a whole call

led_carries : (c : ℕ) (at : Moment) (last : Option (ℕ × ℕ)) (dids : List Did) (new : Moment) → Led c at last dids new → dooms at.stage.next ≡ false
    → owed at.stage.next ++ asks_of dids ≡ carried_of dids ++ owed new.stage.next
led_carries c at last [] new led none = append-nil (owed at.stage.next) ∙ ap (λ (m : Moment). owed m.stage.next) (sym led)
led_carries c at last (did ∷ dids) new led none =
    let mid = after at (item_of did) in
    let one = at_carries c at.stage.arena at.stage.next did led.0.wanted none in
    let leads = step_next at.stage.next (item_of did) in
    let desk = desk_fed at.desk at.stage.arena at.stage.next (item_of did) in
    let settles : owed leads ≡ owed mid.stage.next = sym (settled_owed at.request desk at.stage.arena leads) in
    let rest = led_carries c mid (told_by last did) dids new led.1 (settled_dooms at.request desk at.stage.arena leads one.1) in
    ap (λ l. owed at.stage.next ++ l) (asks_first did dids) ∙ sym (append_assoc (owed at.stage.next) (asks_by did) (asks_of dids)) ∙ ap (λ l. l ++ asks_of dids) one.0
    ∙ append_assoc (ask_in (carried did)) (owed leads) (asks_of dids) ∙ ap (λ l. ask_in (carried did) ++ (l ++ asks_of dids)) settles ∙ ap (λ l. ask_in (carried did) ++ l) rest
    ∙ sym (append_assoc (ask_in (carried did)) (carried_of dids) (owed new.stage.next))

-- the asks of a whole call that destroys no arena are those that its entries carry, in order
pub call_carries : (c : ℕ) (had : DeskFacts) (request : Request) (dids : List Did) (answer : Answered) (has : DeskFacts) → IsCall c had request dids answer has → destroys request ≡ false → asks_of dids ≡ carried_of dids
call_carries c had request dids answer has call mild =
    let stays : destroys (meant request had) ≡ false = meant_destroys request had ∙ mild in
    let all = led_carries c (begin request had) None dids call.last call.led (begun_dooms (meant request had) (ready request had) stays) in
    ap (λ l. l ++ asks_of dids) (sym (begun_owed (meant request had) (ready request had))) ∙ all ∙ ap (λ n. carried_of dids ++ owed n) call.ends ∙ append-nil (carried_of dids)

-- ---- all calls of a client

carried_more : (dids more : List Did) → carried_of (dids ++ more) ≡ carried_of dids ++ carried_of more
carried_more [] more = refl
carried_more (did ∷ dids) more = ap (λ l. ask_in (carried did) ++ l) (carried_more dids more) ∙ sym (append_assoc (ask_in (carried did)) (carried_of dids) (carried_of more))

abbrev Carries : List Done → Type 0
Carries dones = asks_of (dids_of dones) ≡ carried_of (dids_of dones)

both_carry : (dids more : List Did) → asks_of dids ≡ carried_of dids → asks_of more ≡ carried_of more → asks_of (dids ++ more) ≡ carried_of (dids ++ more)
both_carry dids more first later = asks_more dids more ∙ ap (λ l. l ++ asks_of more) first ∙ ap (λ l. carried_of dids ++ l) later ∙ sym (carried_more dids more)

phase_request : (now : ℕ) (names : List (List ℕ × Place)) (call : PhaseCall) → destroys (request_of now names call) ≡ false
phase_request now names (Malloc name size) = refl
phase_request now names (Memalign name align size) = refl
phase_request now names (Free name) = refl
phase_request now names (Publish name) = refl
phase_request now names (Take name) = refl
phase_request now names Flush = refl
phase_request now names (Purge arena) = refl
phase_request now names (Decay arena) = refl

setting_is : (now : ℕ) (call : SettingCall) → destroys (setting_request now call) ≡ false
setting_is now (Create box_no) = refl
setting_is now (Time arena rest ms) = refl
setting_is now (Bind arena) = refl
setting_is now (Cache is_on) = refl

made_carries : (c : ℕ) (had : DeskFacts) (done : Done) (has : DeskFacts) (request : Request) → done.request ≡ request → destroys request ≡ false → IsMade c had done has → asks_of done.dids ≡ carried_of done.dids
made_carries c had done has request is mild made = call_carries c had done.request done.dids done.answer has made.0 (ap destroys is ∙ mild)

lines_carry : (c now : ℕ) (names : List (List ℕ × Place)) (had : DeskFacts) (calls : List PhaseCall) (dones : List Done) (has : DeskFacts) (names' : List (List ℕ × Place)) → MakesLines c now names had calls dones has names' → Carries dones
lines_carry c now names had [] [] has names' makes = refl
lines_carry c now names had [] (done ∷ dones) has names' makes = absurd makes
lines_carry c now names had (call ∷ calls) [] has names' makes = absurd makes
lines_carry c now names had (call ∷ calls) (done ∷ dones) has names' makes =
    both_carry done.dids (dids_of dones) (made_carries c had done makes.0 (request_of now names call) makes.1 (phase_request now names call) makes.2) (lines_carry c now (names_after names call done.answer makes.0) makes.0 calls dones has names' makes.3)

clients_carry : (c : ℕ) (s : Stand) (phase : Phase) (hads : List DeskFacts) (dones : List (List Done)) (hass : List DeskFacts) (knowns : List (List (List ℕ × Place))) → WalkClients c s phase hads dones hass knowns → (k : ℕ) → Carries (slice_index_or dones k [])
clients_carry c s phase [] [] [] [] walk k = refl
clients_carry c s phase (had ∷ hads) (done ∷ dones) (has ∷ hass) (known ∷ knowns) walk zero = lines_carry c phase.moment _ had _ done has known walk.0
clients_carry c s phase (had ∷ hads) (done ∷ dones) (has ∷ hass) (known ∷ knowns) walk (suc k) = clients_carry (c + 1) s phase hads dones hass knowns walk.1 k
clients_carry c s phase hads dones hass knowns walk k = absurd walk

-- ---- all parts

part_carries : (s : Stand) (p : Part) (dones : List (List Done)) (s' : Stand) → WalksPart s p dones s' → (k : ℕ) → Carries (slice_index_or dones k [])
part_carries s (part.Setting (setting.Refuse box_no kind nth)) dones s' walk k = rw walk.0 refl
part_carries s (part.Setting (setting.Call c moment call)) dones s' walk k =
    let done : Done = walk.0 in
    let one : Carries (done ∷ []) = both_carry done.dids [] (made_carries c _ done walk.1 (setting_request moment call) walk.3 (setting_is moment call) walk.4) refl in
    rw walk.2 (dite (ℕ_discrete k c) (λ same. rw (same, alone_here c (done ∷ [])) one) (λ far. rw (alone_other c k (done ∷ []) far) refl))
part_carries s (part.Phase phase) dones s' walk k = clients_carry 0 s phase s.desks dones s'.desks walk.0 walk.1 k

pub parts_carry : (s : Stand) (parts : List Part) (dones : List (List Done)) (s' : Stand) → WalksParts s parts dones s' → (k : ℕ) → Carries (slice_index_or dones k [])
parts_carry s [] dones s' walk k = rw walk.0 refl
parts_carry s (p ∷ parts) dones s' walk k =
    let first = slice_index_or walk.0 k [] in
    let later = slice_index_or walk.2 k [] in
    rw (walk.5, behind_at walk.0 walk.2 k, dids_append first later)
    (both_carry (dids_of first) (dids_of later) (part_carries s p walk.0 walk.1 walk.3 k) (parts_carry walk.1 parts walk.2 s' walk.4 k))
