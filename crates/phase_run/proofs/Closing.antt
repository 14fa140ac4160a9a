-- The end of a trace: from what its clients gained and what their heap left to what its journals are.
use Rattle.std.proofs.Common.{◌≡◌, ◌≢◌, ◌∙◌, ℕ, ◌+◌, ◌<◌, ◌≤◌, ◌++◌, List, [], ◌∷◌, Some, refl, sym, ap, subst, append-nil, arith, length, map, replicate, suc, zero-add}
use Rattle.std.specs.Arc.{arc_value}
use Rattle.std.specs.Prelude.{slice_get, slice_index, slice_index_or}
use Rattle.std.specs.List.{All, range_with_len, sum_by}
use Rattle.std.proofs.lemmas.List.{length-map}
use Rattle.std.proofs.lemmas.List.Sums.{sum_by-cons}
use Rattle.std.proofs.lemmas.List.Elements.{All-cons, All-head, All-nil, All-tail}
use Rattle.std.proofs.lemmas.Option.{get_or_from_slice_get, slice_get_within}
use Rattle.deeds.specs.Dids.{HaveNext, asks_of}
use Rattle.heap_runs.proofs.Columns.{get_some}
use Rattle.heap_runs.proofs.Journals.{tells, tells_none}
use Rattle.heap_runs.specs.Closes.{HasClosed, HasJournal, seat_of_ctx}
use Rattle.heap_runs.specs.Deals.{IsNew, IsNewCtx}
use Rattle.heap_runs.proofs.Passing.{same_element}
use Rattle.heap_runs.specs.Heaps.{MayCall, counted_by, shelf_id, turns_of}
use Rattle.hook_api.specs.Seats.{refused_at}
use Rattle.heap_runs.specs.Walks.{Done, dids_of}
use Rattle.heap_runs.specs.Ways.{told_of, took_in, turns_in}
use Rattle.heap_runs.specs.declared.closes.Closed.{Closed}
use Rattle.heap_runs.specs.declared.heaps.Ctx.{Ctx}
use Rattle.heap_runs.specs.declared.heaps.SharedHeap.{SharedHeap}
use Rattle.heap_shared.specs.Shared.{Facts, after_entry, opening_facts, snap}
use Rattle.heap_runs.specs.Histories.{told_to}
use Rattle.hook_api.specs.Shared.{IsNewSeat, IsSeatOf, orders_of}
use Rattle.hook_api.specs.declared.kept.Journal.{Journal}
use Rattle.hook_api.specs.declared.seat.AskSeat.{AskSeat}
use Rattle.hook_api.specs.declared.shared.SharedShelf.{SharedShelf}
use Rattle.space_model.specs.Sound.{Sound}
use Rattle.space_model.specs.declared.spaces.Space.{Space}
use Rattle.chunk_table.specs.Rule.{owns}
use Rattle.heap_shared.specs.Claims.{is_met}
use Rattle.hook_api.specs.declared.locks.Locks.{Locks}
use Rattle.trace_phase.specs.declared.parts.Part.{Part}
use Rattle.trace_phase.specs.declared.parts.Phases.{Phases}
use Rattle.phase_run.specs.Crews.{AllCarried, AreFrom, HasGained, stand_of}
use Rattle.phase_run.specs.Threads.{AreCarried, CarriedOut, IsJournalOf, numbers_of, refused_in, refused_of}
use Rattle.phase_run.specs.declared.summaries.Numbers.{Numbers}
use Rattle.phase_run.specs.declared.crews.Crew.{Crew}
use Rattle.phase_run.specs.Stands.{opening_stand}
use Rattle.phase_run.proofs.Carrying.{parts_carry}
use Rattle.phase_run.proofs.Setting.{client_at}

all_map : {X Y : Type 0} (f : X → Y) (P : X → Type 0) (Q : Y → Type 0) → ((x : X) → P x → Q (f x)) → (xs : List X) → All P xs → All Q (map f xs)
all_map f P Q each [] all = All-nil Q
all_map f P Q each (x ∷ xs) all = All-cons Q (f x) (map f xs) (each x (All-head P x xs all)) (all_map f P Q each xs (All-tail P x xs all))

-- the seats are those of the shelf
pub seats_are : {H : Type 0} (shelf : SharedShelf H) (heap : SharedHeap) (ctxs : List Ctx) → All (MayCall (shelf_id shelf) heap) ctxs → All (IsSeatOf shelf) (map seat_of_ctx ctxs)
seats_are shelf heap ctxs may = all_map seat_of_ctx (MayCall (shelf_id shelf) heap) (IsSeatOf shelf) (λ ctx m. m.is.seat) ctxs may

-- what seats of contexts counted, of which each counted this by its place, is the sum of these
sums_from : (f : ℕ → ℕ) (n b : ℕ) (ctxs : List Ctx) → ((k : ℕ) (ctx : Ctx) → slice_get ctxs k ≡ Some ctx → refused_at ctx.seat n ≡ f (b + k))
    → sum_by (λ (seat : AskSeat). refused_at seat n) (map seat_of_ctx ctxs) ≡ sum_by f (range_with_len b (length ctxs))
sums_from f n b [] each = refl
sums_from f n b (x ∷ ctxs) each =
    let rest = sum_by (λ (seat : AskSeat). refused_at seat n) (map seat_of_ctx ctxs) in
    let first : b + 0 ≡ b = omega arith in
    sum_by-cons (λ (seat : AskSeat). refused_at seat n) x.seat (map seat_of_ctx ctxs)
    ∙ ap (λ k. k + rest) (each 0 x refl ∙ ap f first)
    ∙ ap (λ k. f b + k) (sums_from f n (b + 1) ctxs (λ k ctx at. each (suc k) ctx at ∙ ap f (let next : b + suc k ≡ b + 1 + k = omega arith in next)))
    ∙ sym (sum_by-cons f b (range_with_len (b + 1) (length ctxs)))

-- an element at a place is so as all are
pub all_there : {X : Type 0} (P : X → Type 0) (xs : List X) (i : ℕ) (x : X) → All P xs → slice_get xs i ≡ Some x → P x
all_there P xs i x all at = subst P (get_or_from_slice_get xs i x x at) (all i x (slice_get_within xs i x at))

module _ {H : Type 0} (shelf shelf' : SharedShelf H) (heap : SharedHeap) (seats : List AskSeat) (ctxs : List Ctx) (parts : List Part) (crew : Crew) (closed : Closed)
    (new : IsNew heap seats ctxs) (full : length seats ≡ 32) (fresh : All (λ (seat : AskSeat). IsSeatOf shelf seat × IsNewSeat seat) seats) (all : AllCarried shelf heap ctxs parts shelf' crew) (has : HasClosed heap crew.ctxs.items closed) where
  old_at : (c : ℕ) → c < 32 → (ctx : Ctx) × (slice_get ctxs c ≡ Some ctx)
  old_at c low = get_some ctxs c (let n = new.count in omega (arith, n, full, low))

  new_at : (c : ℕ) → c < 32 → (ctx : Ctx) × (slice_get crew.ctxs.items c ≡ Some ctx)
  new_at c low = get_some crew.ctxs.items c (let n = all.ready.count in omega (arith, n, low))

  seat_at : (c : ℕ) → c < 32 → (seat : AskSeat) × (slice_get seats c ≡ Some seat)
  seat_at c low = get_some seats c (omega (arith, full, low))

  began : (c : ℕ) (low : c < 32) → IsNewCtx heap c (seat_at c low).0 (old_at c low).0
  began c low = new.each c (seat_at c low).0 (old_at c low).0 (seat_at c low).1 (old_at c low).1

  gained : (c : ℕ) (low : c < 32) → HasGained heap (old_at c low).0 (dids_of (slice_index_or all.dones c [])) (new_at c low).0
  gained c low = all.gained c (old_at c low).0 (new_at c low).0 (old_at c low).1 (new_at c low).1

  -- a client's turns are what its calls did, since it began with none
  turns_are : (c : ℕ) (low : c < 32) (i : ℕ) → i < 32 → turns_of heap (new_at c low).0 i ≡ took_in i (dids_of (slice_index_or all.dones c []))
  turns_are c low i small =
      (gained c low).turns i small
      ∙ ap (λ l. told_to after_entry (old_at c low).0.client (opening_facts i (arc_value heap.table)) l ++ took_in i (dids_of (slice_index_or all.dones c []))) ((began c low).fresh i)

  own_at : (i : ℕ) (journal : Journal) → i < 32 → HasJournal heap crew.ctxs.items closed.chunks i journal → (c : ℕ) → c < 32 → told_of (arc_value heap.table) c i (map snap journal.kept) ≡ took_in i (dids_of (slice_index_or all.dones c []))
  own_at i journal small is c low =
      let table = arc_value heap.table in
      let ctx = new_at c low in
      let client : ctx.0.client ≡ c = client_at 0 crew.ctxs.items c ctx.0 all.ready.clients ctx.1 ∙ zero-add c in
      ap (λ k. told_of table c i (map snap k)) is.kept ∙ ap (told_of table c i) is.closed.kept ∙ sym (tells table i c is.closed.log is.closed.legal)
      ∙ ap (λ k. turns_in table k i is.closed.log) (sym client) ∙ is.closed.own c ctx.0 ctx.1 ∙ turns_are c low i small

  none_at : (i : ℕ) (journal : Journal) → HasJournal heap crew.ctxs.items closed.chunks i journal → (n : ℕ) → 32 ≤ n → told_of (arc_value heap.table) n i (map snap journal.kept) ≡ []
  none_at i journal is n high =
      let table = arc_value heap.table in
      let nobody = is.closed.others n (λ j ctx at same.
      let low = slice_get_within crew.ctxs.items j ctx at in
      let client = client_at 0 crew.ctxs.items j ctx all.ready.clients at in
      let count = all.ready.count in
      omega (arith, low, client, same, count, high)) in
      ap (λ k. told_of table n i (map snap k)) is.kept ∙ ap (told_of table n i) is.closed.kept ∙ sym (tells table i n is.closed.log is.closed.legal) ∙ tells_none table i n is.closed.log nobody

  journal_is : (i : ℕ) (journal : Journal) → slice_get closed.journals i ≡ Some journal → IsJournalOf (arc_value heap.table) all.dones closed.chunks i journal
  journal_is i journal at =
      let is = has.each i journal at in
      let small : i < 32 = (let low = slice_get_within closed.journals i journal at in let count = has.count in omega (arith, low, count)) in record {
        index = is.index;
        stand = is.stand;
        own = own_at i journal small is;
        others = none_at i journal is;
        sound = subst Sound is.space is.sound;
        share = is.share;
        account = is.account;
        owned = λ chunk. is.owned chunk ∙ ap (is_met chunk) is.space;
        found = is.found;
        elsewhere = is.others;
      }

  -- a client's seat counted the refusals of its asks, since it began with none
  counted_at : (n k : ℕ) (ctx : Ctx) → slice_get crew.ctxs.items k ≡ Some ctx → refused_at ctx.seat n ≡ refused_of all.dones n (0 + k)
  counted_at n k ctx at =
      let low : k < 32 = (let within = slice_get_within crew.ctxs.items k ctx at in let count = all.ready.count in omega (arith, within, count)) in
      let asks = asks_of (dids_of (slice_index_or all.dones k [])) in
      let none = (all_there (λ (seat : AskSeat). IsSeatOf shelf seat × IsNewSeat seat) seats k (seat_at k low).0 fresh (seat_at k low).1).1.1 in
      ap (λ (x : Ctx). refused_at x.seat n) (same_element ctx (new_at k low).0 (sym at ∙ (new_at k low).1)) ∙ ap (λ l. slice_index l n) (gained k low).refused
      ∙ ap (λ l. slice_index (counted_by l asks) n) (ap (λ (seat : AskSeat). seat.refused) (began k low).seat ∙ none) ∙ ap (refused_of all.dones n) (sym (zero-add k))

  pub refused_is : (n : ℕ) → sum_by (λ (seat : AskSeat). refused_at seat n) closed.seats.items ≡ refused_in all.dones n
  refused_is n =
      ap (sum_by (λ (seat : AskSeat). refused_at seat n)) has.seats ∙ sums_from (refused_of all.dones n) n 0 crew.ctxs.items (counted_at n)
      ∙ ap (λ k. sum_by (refused_of all.dones n) (range_with_len 0 k)) all.ready.count

  pub seats_count : length closed.seats.items ≡ 32
  seats_count = ap length has.seats ∙ length-map crew.ctxs.items seat_of_ctx ∙ all.ready.count

  pub carried_out : AreCarried (orders_of shelf) parts (stand_of (orders_of shelf') crew) closed.journals closed.chunks
  carried_out = record {
    dones = all.dones;
    walks = all.walks;
    places = λ c low. (
      (new_at c low).0.seat.places,
      subst (λ ps. HaveNext ps (asks_of (dids_of (slice_index_or all.dones c []))) (new_at c low).0.seat.places)
          (ap (λ (seat : AskSeat). seat.places) (began c low).seat ∙ (all_there (λ (seat : AskSeat). IsSeatOf shelf seat × IsNewSeat seat) seats c (seat_at c low).0 fresh (seat_at c low).1).1.0)
          (gained c low).asks,
    );
    entered = λ c low. parts_carry (opening_stand (orders_of shelf)) parts all.dones (stand_of (orders_of shelf') crew) all.walks c;
    table = arc_value heap.table;
    count = has.count;
    each = journal_is;
    once = has.once;
    apart = has.apart;
  }

-- what phases leave that were carried out over a shared shelf, with the numbers that are told of them
pub closed_out : {H : Type 0} (shelf shelf' : SharedShelf H) (heap : SharedHeap) (seats : List AskSeat) (ctxs : List Ctx) (phases : Phases) (crew : Crew) (closed : Closed) (told : Numbers)
    → IsNew heap seats ctxs → length seats ≡ 32 → All (λ (seat : AskSeat). IsSeatOf shelf seat × IsNewSeat seat) seats → AllCarried shelf heap ctxs phases.parts shelf' crew → HasClosed heap crew.ctxs.items closed
    → told ≡ numbers_of phases (stand_of (orders_of shelf') crew) → CarriedOut shelf phases closed told
unfolding carried_out
closed_out shelf shelf' heap seats ctxs phases crew closed told new full fresh all has numbers = record {
  last = stand_of (orders_of shelf') crew;
  carried = carried_out shelf shelf' heap seats ctxs phases.parts crew closed new full fresh all has;
  counts = has.counts;
  numbers = numbers;
  seats = subst (λ (l : Locks _). All (λ (seat : AskSeat). seat.badge.table_id ≡ l.table.shared.table_id) closed.seats.items) all.locks (subst (All (IsSeatOf shelf')) (sym has.seats) (seats_are shelf' heap crew.ctxs.items all.ready.may));
  count = seats_count shelf shelf' heap seats ctxs phases.parts crew closed new full fresh all has;
  refused = λ n low. refused_is shelf shelf' heap seats ctxs phases.parts crew closed new full fresh all has n;
}
