-- A call between phases: from what it did to what its part comes to.
use Rattle.std.proofs.Common.{◌≡◌, ◌≢◌, ◌⊎◌, inl, inr, ◌∙◌, ℕ, zero, suc, ◌+◌, ◌<◌, Bool, List, [], ◌∷◌, ◌++◌, Some, refl, sym, ap, subst, append-nil, arith, get_or, length, map, zero-add}
use Rattle.std.proofs.Math.ListN.{set}
use Rattle.std.specs.Prelude.{slice_get, slice_index_or, slice_set}
use Rattle.std.specs.List.{All}
use Rattle.std.proofs.lemmas.List.{length-set}
use Rattle.std.proofs.lemmas.List.Elements.{All-set}
use mathlib.Core.Logic.{dite}
use native.Mathlib.Decide.{ℕ_discrete}
use Rattle.heap_runs.proofs.Passing.{get_other, get_same, same_element}
use Rattle.call_plan.specs.declared.needs.Answered.{Answered}
use Rattle.call_plan.specs.declared.needs.Answered.TheVariants.{NoMemory}
use Rattle.call_plan.specs.declared.needs.Request.{Request}
use Rattle.call_plan.specs.Runs.{begin}
use Rattle.deeds.specs.Dids.{IsCall, asks_of}
use Rattle.hook_api.specs.Shared.{orders_of, same_locks, with_plan_set}
use Rattle.hook_api.specs.declared.locks.Locks.{Locks}
use Rattle.hook_api.specs.declared.plans.Kind.{Kind}
use Rattle.hook_api.specs.declared.shared.SharedShelf.{SharedShelf}
use Rattle.trace_phase.specs.declared.parts.Part.TheVariants as part
use Rattle.trace_phase.specs.declared.parts.Setting.TheVariants as setting
use Rattle.trace_phase.specs.declared.parts.SettingCall.{SettingCall}
use Rattle.heap_runs.specs.Deals.{no_desk}
use Rattle.heap_runs.specs.Heaps.{Called, Gains, MayCall, Refrained, shelf_id}
use Rattle.heap_runs.specs.Meets.{AllMeet}
use Rattle.heap_runs.specs.Walks.{Done, dids_of}
use Rattle.heap_runs.specs.declared.heaps.Ctx.{Ctx}
use Rattle.heap_runs.specs.declared.heaps.SharedHeap.{SharedHeap}
use Rattle.call_plan.specs.Clients.{DeskFacts}
use Rattle.phase_run.specs.Crews.{AreFrom, Carried, HasGained, HaveGained, IsReady, desk_of, stand_of}
use Rattle.phase_run.specs.Requests.{setting_request}
use Rattle.phase_run.specs.Shifts.{IsMade}
use Rattle.phase_run.specs.Stands.{IsByPlan, alone, live_after}
use Rattle.phase_run.specs.declared.crews.Crew.{Crew}

pub alone_here : (c : ℕ) (dones : List Done) → slice_index_or (alone c dones) c [] ≡ dones
alone_here zero dones = refl
alone_here (suc c) dones = alone_here c dones

pub alone_other : (c k : ℕ) (dones : List Done) → k ≢ c → slice_index_or (alone c dones) k [] ≡ []
alone_other zero zero dones differ = absurd (differ refl)
alone_other zero (suc k) dones differ = refl
alone_other (suc c) zero dones differ = refl
alone_other (suc c) (suc k) dones differ = alone_other c k dones (λ e. differ (ap suc e))

-- a context that did nothing gained nothing
pub gained_none : (heap : SharedHeap) (ctx : Ctx) → HasGained heap ctx [] ctx
gained_none heap ctx = record { client = refl; turns = λ i low. sym (append-nil _); asks = refl; refused = refl }

pub none_gained : (heap : SharedHeap) (ctxs : List Ctx) → HaveGained heap ctxs [] ctxs
none_gained heap ctxs c old new at here =
    subst (λ (x : Ctx). HasGained heap old (dids_of (slice_index_or [] c [])) x) (same_element old new (sym at ∙ here)) (gained_none heap old)

-- one context alone gained
pub gained_alone : (heap : SharedHeap) (ctxs : List Ctx) (c : ℕ) (dones : List Done) (old new : Ctx) → c < length ctxs → slice_get ctxs c ≡ Some old → HasGained heap old (dids_of dones) new → HaveGained heap ctxs (alone c dones) (slice_set ctxs c new)
gained_alone heap ctxs c dones old new within was gained k o n at here = dite (ℕ_discrete k c)
    (λ same.
    subst (λ i. HasGained heap o (dids_of (slice_index_or (alone c dones) i [])) n) (sym same)
    (subst (λ (ds : List Done). HasGained heap o (dids_of ds) n) (sym (alone_here c dones))
    (subst (λ (x : Ctx). HasGained heap x (dids_of dones) n) (same_element old o (sym was ∙ subst (λ i. slice_get ctxs i ≡ Some o) same at))
    (subst (λ (x : Ctx). HasGained heap old (dids_of dones) x) (same_element new n (sym (get_same ctxs c new within) ∙ subst (λ i. slice_get (slice_set ctxs c new) i ≡ Some n) same here)) gained))))
    (λ far.
    subst (λ (ds : List Done). HasGained heap o (dids_of ds) n) (sym (alone_other c k dones far))
    (subst (λ (x : Ctx). HasGained heap o [] x) (same_element o n (sym at ∙ sym (get_other ctxs c k new far) ∙ here)) (gained_none heap o)))

pub desks_set : (ctxs : List Ctx) (c : ℕ) (new : Ctx) → map desk_of (set ctxs c new) ≡ set (map desk_of ctxs) c (desk_of new)
desks_set [] c new = refl
desks_set (x ∷ ctxs) zero new = refl
desks_set (x ∷ ctxs) (suc c) new = ap (λ l. desk_of x ∷ l) (desks_set ctxs c new)

pub desk_at : (ctxs : List Ctx) (c : ℕ) (old : Ctx) (d : DeskFacts) → slice_get ctxs c ≡ Some old → slice_index_or (map desk_of ctxs) c d ≡ desk_of old
desk_at [] c old d was = absurd cc
desk_at (x ∷ ctxs) zero old d was = ap desk_of (same_element x old was)
desk_at (x ∷ ctxs) (suc c) old d was = desk_at ctxs c old d was

pub from_set : (b : ℕ) (ctxs : List Ctx) (c : ℕ) (old new : Ctx) → slice_get ctxs c ≡ Some old → new.client ≡ old.client → AreFrom b ctxs → AreFrom b (set ctxs c new)
from_set b [] c old new was same are = tt
from_set b (x ∷ ctxs) zero old new was same are = (same ∙ ap (λ (k : Ctx). k.client) (sym (same_element x old was)) ∙ are.0, are.1)
from_set b (x ∷ ctxs) (suc c) old new was same are = (are.0, from_set (b + 1) ctxs c old new was same are.1)

-- the context of a client stands at its number
pub client_at : (b : ℕ) (ctxs : List Ctx) (c : ℕ) (ctx : Ctx) → AreFrom b ctxs → slice_get ctxs c ≡ Some ctx → ctx.client ≡ b + c
client_at b [] c ctx are at = absurd cc
client_at b (x ∷ ctxs) zero ctx are at = ap (λ (k : Ctx). k.client) (sym (same_element x ctx at)) ∙ are.0 ∙ omega arith
client_at b (x ∷ ctxs) (suc c) ctx are at = client_at (b + 1) ctxs c ctx are.1 at ∙ omega arith

-- ---- the call

module _ {H : Type 0} (shelf : SharedShelf H) (heap : SharedHeap) where
  made_by : (c : ℕ) (old new : Ctx) (request : Request) (answer : Answered) → old.client ≡ c → Called shelf heap old new request answer ⊎ Refrained shelf heap old new answer → answer ≢ NoMemory
      → (done : Done) × (done.request ≡ request) × (done.answer ≡ answer) × IsMade c (desk_of old) done (desk_of new) × Gains shelf heap old new done.dids
  made_by c old new request answer client (inl called) fine = (
    record { request = request; dids = called.dids; answer = answer },
    refl,
    refl,
    (subst (λ k. IsCall k (desk_of old) request called.dids answer (desk_of new)) (called.gains.client ∙ client) called.call, fine, subst (λ k. AllMeet k (begin request (desk_of old)) called.dids) (called.gains.client ∙ client) called.met),
    called.gains,
  )
  made_by c old new request answer client (inr none) fine = absurd (fine none.told)

  pub call_carried : (old new : Crew) (c moment : ℕ) (call : SettingCall) (ctx ctx' : Ctx) (answer : Answered) → IsReady (shelf_id shelf) heap old → c < 32 → slice_get old.ctxs.items c ≡ Some ctx
      → Called shelf heap ctx ctx' (setting_request moment call) answer ⊎ Refrained shelf heap ctx ctx' answer → answer ≢ NoMemory → MayCall (shelf_id shelf) heap ctx'
      → new.ctxs.items ≡ slice_set old.ctxs.items c ctx' → new.names ≡ old.names → new.live ≡ live_after old.live call answer → new.tally ≡ old.tally → Carried shelf heap old (part.Setting (setting.Call c moment call)) shelf new
  call_carried old new c moment call ctx ctx' answer ready low at did fine may ctxs names live tally =
      let client : ctx.client ≡ c = client_at 0 old.ctxs.items c ctx ready.clients at ∙ zero-add c in
      let made = made_by c ctx ctx' (setting_request moment call) answer client did fine in
      let done : Done = made.0 in
      let gains = made.4 in
      let alone_did : dids_of (done ∷ []) ≡ done.dids = append-nil done.dids in
      let within : c < length old.ctxs.items = (let n = ready.count in omega (arith, n, low)) in record {
        dones = alone c (done ∷ []);
        walks = (
          done,
          desk_of ctx',
          refl,
          made.1,
          subst (λ d. IsMade c d done (desk_of ctx')) (sym (desk_at old.ctxs.items c ctx no_desk at)) made.3,
          subst (λ ds. All (IsByPlan (orders_of shelf)) (asks_of ds)) (sym alone_did) gains.planned,
          λ i. record {
            desks = (ap (map desk_of) ctxs ∙ desks_set old.ctxs.items c ctx') i;
            names = names i;
            live = (live ∙ ap (live_after old.live call) (sym made.2)) i;
            orders = orders_of shelf;
            tally = tally i;
          },
        );
        gained = subst (HaveGained heap old.ctxs.items (alone c (done ∷ []))) (sym ctxs)
            (gained_alone heap old.ctxs.items c (done ∷ []) ctx ctx' within at (subst (λ ds. HasGained heap ctx ds ctx') (sym alone_did) (record { client = gains.client; turns = gains.turns; asks = gains.asks; refused = gains.refused })));
        ready = record {
          clients = subst (AreFrom 0) (sym ctxs) (from_set 0 old.ctxs.items c ctx ctx' at gains.client ready.clients);
          count = ap length ctxs ∙ length-set old.ctxs.items c ctx' ∙ ready.count;
          may = subst (All (MayCall (shelf_id shelf) heap)) (sym ctxs) (All-set (MayCall (shelf_id shelf) heap) old.ctxs.items c ctx' may ready.may);
        };
        locks = refl;
      }

  -- a plan that is set
  pub plan_carried : (shelf' : SharedShelf H) (crew : Crew) (box_no : ℕ) (kind : Kind) (nth : ℕ) → IsReady (shelf_id shelf) heap crew → orders_of shelf' ≡ with_plan_set (orders_of shelf) box_no kind nth → same_locks shelf shelf'
      → Carried shelf heap crew (part.Setting (setting.Refuse box_no kind nth)) shelf' crew
  plan_carried shelf' crew box_no kind nth ready orders locks = record {
    dones = [];
    walks = (refl, λ i. stand_of (orders i) crew);
    gained = none_gained heap crew.ctxs.items;
    ready = subst (λ t. IsReady t heap crew) (sym (ap (λ (l : Locks H). l.table.shared.table_id) locks)) ready;
    locks = locks;
  }
