-- The parts of a trace, one behind the other.
use Rattle.std.proofs.Common.{◌≡◌, ◌∙◌, ℕ, zero, suc, ◌+◌, ◌<◌, List, [], ◌∷◌, ◌++◌, Some, refl, sym, ap, subst, append_assoc, append-nil, arith, length, map}
use Rattle.std.specs.Prelude.{slice_get, slice_index_or}
use Rattle.deeds.proofs.Leading.{asks_more, next_more}
use Rattle.deeds.specs.Dids.{Did, HaveNext, asks_of}
use Rattle.std.proofs.lemmas.Option.{slice_get_within}
use Rattle.heap_runs.proofs.Passing.{same_element}
use Rattle.heap_runs.proofs.Columns.{get_some}
use Rattle.heap_runs.proofs.Leading.{counted_more, took_more}
use Rattle.heap_runs.specs.Heaps.{counted_by, shelf_id, turns_of}
use Rattle.heap_runs.specs.Walks.{Done, dids_of}
use Rattle.heap_runs.specs.Ways.{took_in}
use Rattle.heap_runs.specs.declared.heaps.Ctx.{Ctx}
use Rattle.heap_runs.specs.declared.heaps.SharedHeap.{SharedHeap}
use Rattle.hook_api.specs.Shared.{orders_of, same_locks}
use Rattle.hook_api.specs.declared.orders.Orders.{Orders}
use Rattle.hook_api.specs.declared.shared.SharedShelf.{SharedShelf}
use Rattle.trace_phase.specs.declared.parts.Part.{Part}
use Rattle.phase_run.specs.Crews.{AllCarried, Carried, HasGained, HaveGained, IsReady, stand_of}
use Rattle.phase_run.specs.Stands.{Stand, WalksPart, WalksParts, behind, opening_stand}
use Rattle.phase_run.specs.declared.crews.Crew.{Crew}
use Rattle.phase_run.proofs.Setting.{none_gained}
use Rattle.back_purge.proofs.Making.{dids_append}

-- ---- calls of all clients, one part behind the other

pub behind_none : (dones : List (List Done)) → behind dones [] ≡ dones
behind_none [] = refl
behind_none (d ∷ dones) = refl

pub behind_assoc : (some more others : List (List Done)) → behind some (behind more others) ≡ behind (behind some more) others
behind_assoc [] more others = refl
behind_assoc (a ∷ some) [] others = refl
behind_assoc (a ∷ some) (b ∷ more) [] = refl
behind_assoc (a ∷ some) (b ∷ more) (c ∷ others) = λ i. sym (append_assoc a b c) i ∷ behind_assoc some more others i

pub behind_at : (some more : List (List Done)) (c : ℕ) → slice_index_or (behind some more) c [] ≡ slice_index_or some c [] ++ slice_index_or more c []
behind_at [] more c = refl
behind_at (a ∷ some) [] c = sym (append-nil (slice_index_or (a ∷ some) c []))
behind_at (a ∷ some) (b ∷ more) zero = refl
behind_at (a ∷ some) (b ∷ more) (suc c) = behind_at some more c

-- ---- what contexts gained

pub gained_more : (heap : SharedHeap) (old mid new : Ctx) (dids more : List Did) → HasGained heap old dids mid → HasGained heap mid more new → HasGained heap old (dids ++ more) new
gained_more heap old mid new dids more first later = record {
  client = later.client ∙ first.client;
  turns = λ i low. later.turns i low ∙ ap (λ l. l ++ took_in i more) (first.turns i low) ∙ append_assoc (turns_of heap old i) (took_in i dids) (took_in i more)
      ∙ ap (λ l. turns_of heap old i ++ l) (sym (took_more i dids more));
  asks = subst (λ l. HaveNext old.seat.places l new.seat.places) (sym (asks_more dids more)) (next_more old.seat.places (asks_of dids) (asks_of more) mid.seat.places new.seat.places first.asks later.asks);
  refused = later.refused ∙ ap (λ l. counted_by l (asks_of more)) first.refused ∙ counted_more old.seat.refused (asks_of dids) (asks_of more) ∙ ap (counted_by old.seat.refused) (sym (asks_more dids more));
}

pub all_gained_more : (heap : SharedHeap) (olds mids news : List Ctx) (dones more : List (List Done)) → length mids ≡ length olds → HaveGained heap olds dones mids → HaveGained heap mids more news → HaveGained heap olds (behind dones more) news
all_gained_more heap olds mids news dones more count first later c old new at here =
    let mid = get_some mids c (let low = slice_get_within olds c old at in omega (arith, low, count)) in
    subst (λ (ds : List Done). HasGained heap old (dids_of ds) new) (sym (behind_at dones more c))
    (subst (λ ds. HasGained heap old ds new) (sym (dids_append (slice_index_or dones c []) (slice_index_or more c [])))
    (gained_more heap old mid.0 new (dids_of (slice_index_or dones c [])) (dids_of (slice_index_or more c [])) (first c old mid.0 at mid.1) (later c mid.0 new mid.1 here)))

-- ---- all parts

module _ {H : Type 0} (heap : SharedHeap) where
  -- Some parts of all were carried out, and the others lead on to where all lead.
  pub record PartsSoFar (first : SharedShelf H) (ctxs : List Ctx) (parts rest : List Part) (shelf : SharedShelf H) (crew : Crew) : Type 0 where
    pub dones : List (List Done)
    pub leads : (more : List (List Done)) (s : Stand) → WalksParts (stand_of (orders_of shelf) crew) rest more s → WalksParts (opening_stand (orders_of first)) parts (behind dones more) s
    pub gained : HaveGained heap ctxs dones crew.ctxs.items
    pub ready : IsReady (shelf_id shelf) heap crew
    pub locks : same_locks first shelf
    pub count : length crew.ctxs.items ≡ length ctxs

  pub no_parts : (shelf : SharedShelf H) (ctxs : List Ctx) (parts : List Part) (crew : Crew) → crew.ctxs.items ≡ ctxs → stand_of (orders_of shelf) crew ≡ opening_stand (orders_of shelf) → IsReady (shelf_id shelf) heap crew → PartsSoFar shelf ctxs parts parts shelf crew
  no_parts shelf ctxs parts crew same stands ready = record {
    dones = [];
    leads = λ more s walks. subst (λ (t : Stand). WalksParts t parts more s) stands walks;
    gained = subst (HaveGained heap ctxs []) (sym same) (none_gained heap ctxs);
    ready = ready;
    locks = refl;
    count = ap length same;
  }

  pub part_more : (first : SharedShelf H) (ctxs : List Ctx) (parts rest : List Part) (part : Part) (shelf : SharedShelf H) (crew : Crew) (shelf' : SharedShelf H) (crew' : Crew)
      → PartsSoFar first ctxs parts (part ∷ rest) shelf crew → Carried shelf heap crew part shelf' crew' → PartsSoFar first ctxs parts rest shelf' crew'
  part_more first ctxs parts rest part shelf crew shelf' crew' so one = record {
    dones = behind so.dones one.dones;
    leads = λ more s walks.
        subst (λ ds. WalksParts (opening_stand (orders_of first)) parts ds s) (behind_assoc so.dones one.dones more)
        (so.leads (behind one.dones more) s (one.dones, stand_of (orders_of shelf') crew', more, one.walks, walks, refl));
    gained = all_gained_more heap ctxs crew.ctxs.items crew'.ctxs.items so.dones one.dones so.count so.gained one.gained;
    ready = one.ready;
    locks = one.locks ∙ so.locks;
    count = one.ready.count ∙ sym so.ready.count ∙ so.count;
  }

  pub all_parts : (first : SharedShelf H) (ctxs : List Ctx) (parts : List Part) (shelf : SharedShelf H) (crew : Crew) → PartsSoFar first ctxs parts [] shelf crew → AllCarried first heap ctxs parts shelf crew
  all_parts first ctxs parts shelf crew so = record {
    dones = so.dones;
    walks = subst (λ ds. WalksParts (opening_stand (orders_of first)) parts ds (stand_of (orders_of shelf) crew)) (behind_none so.dones) (so.leads [] (stand_of (orders_of shelf) crew) (refl, refl));
    gained = so.gained;
    ready = so.ready;
    locks = so.locks;
  }
