-- Passes are dealt to contexts.
use Rattle.std.proofs.Common.{◌≡◌, ℕ, ◌+◌, ◌<◌, ◌≤◌, List, [], ◌∷◌, ◌++◌, suc, zero, map, drop, false, Option, None, Some, inl, inr, length, length-append, replicate, sym, refl, ap, ◌∙◌, subst, arith}
use Rattle.std.specs.Prelude.{slice_get, slice_set}
use Rattle.std.proofs.lemmas.List.{length-set}
use Rattle.std.proofs.lemmas.Option.{get_or_from_slice_get, slice_get_within}
use mathlib.Core.Logic.{dite}
use native.Mathlib.Decide.{ℕ_discrete}
use Rattle.std.specs.declared.snapshot.Snapshot.{Snapshot}
use Rattle.turn_lock.specs.declared.machine.Machine.{Ghosts}
use Rattle.turn_lock.specs.declared.lock.Pass.{Pass}
use Rattle.turn_lock.specs.Locks.{number, seen, spare, IsPassOf}
use Rattle.deeds.specs.declared.deeds.Deed.{Deed}
use Rattle.deeds.specs.declared.deeds.Doing.{Doing}
use Rattle.deeds.specs.declared.deeds.Told.{Told}
use Rattle.heap_shared.specs.Shared.{Facts, Owned}
use Rattle.heap_runs.proofs.Passing.{get_other, get_same}
use Rattle.heap_shared.specs.declared.machine.ArenaTurns.{ArenaTurns}
use Rattle.heap_runs.specs.declared.heaps.Ctx.{Ctx}
use Rattle.std.specs.Arc.{arc_value}
use Rattle.sits.specs.Sitting.{IsAtRest}
use Rattle.std.specs.List.{All, range_with_len}
use Rattle.chunk_table.specs.Rule.{blank}
use Rattle.chunk_table.specs.Steps.{first_of}
use Rattle.chunk_table.specs.Tables.{share_of}
use Rattle.chunk_table.specs.declared.table.ChunkSeat.{ChunkSeat}
use Rattle.atomic_table.specs.Seated.{TableId}
use Rattle.heap_runs.specs.Ways.{known}
use Rattle.heap_runs.proofs.Opening.{begin_arenas, begin_rests}
use Rattle.std.specs.Option.{option_map_or}
use Rattle.chunk_table.specs.declared.table.ChunkTable.{ChunkTable}
use Rattle.hook_api.specs.declared.seat.AskSeat.{AskSeat}
use Rattle.heap_shared.specs.Shared.{opening_facts, seated_facts}
use Rattle.turn_lock.specs.Locks.{first, seat_count}
use Rattle.heap_runs.specs.declared.heaps.SharedHeap.{SharedHeap}
use Rattle.heap_runs.specs.Heaps.{MayCall, log_of}
use Rattle.heap_runs.specs.Deals.{AreFresh, AreGiven, AreMade, GivenTo, HasPasses, IsAdded, IsFresh, IsGiven, IsNew, IsNewCtx, IsNext, Lock, no_desk}
use Rattle.heap_runs.proofs.Columns.{all_at, get_more, get_some}

one : {X : Type 0} (x y : X) → Some x ≡ Some y → x ≡ y
one x y e = cc

module _ {g : Ghosts ArenaTurns Facts Doing (Snapshot Deed) Told Owned} (lock : Lock) where
  -- the pass that keeps its number alone, and the one with the others
  pub next_own : (j count : ℕ) (pass own : Pass ArenaTurns Facts Doing (Snapshot Deed) Told Owned g) → IsNext lock j count pass → IsPassOf lock own → (number own ≡ number pass) × (spare own ≡ 0) → seen own ≡ seen pass → IsNext lock j (j + 1) own
  next_own j count pass own next is first told = record {
    own = is;
    number = first.0 ∙ next.number;
    spare = let s = first.1 in omega (arith, s);
    fresh = told ∙ next.fresh;
  }

  pub next_rest : (j count : ℕ) (pass rest : Pass ArenaTurns Facts Doing (Snapshot Deed) Told Owned g) → IsNext lock j count pass → IsPassOf lock rest → (number rest ≡ number pass + 1) × (spare rest + 1 ≡ spare pass) → seen rest ≡ seen pass → IsNext lock (j + 1) count rest
  next_rest j count pass rest next is second told = record {
    own = is;
    number = second.0 ∙ ap (λ n. n + 1) next.number;
    spare = let s = second.1 in let n = next.spare in omega (arith, s, n);
    fresh = told ∙ next.fresh;
  }

module _ (lock : Lock) (olds : List Ctx) where
  pub given_none : GivenTo lock olds 0 olds
  given_none = record { count = refl; given = λ k old new low ok nk. absurd (omega (arith, low)); kept = λ k high. refl }

  pub given_more : (j : ℕ) (news : List Ctx) (old new : Ctx) → GivenTo lock olds j news → slice_get news j ≡ Some old → j < length news → IsGiven lock j old new → GivenTo lock olds (j + 1) (slice_set news j new)
  given_more j news old new to at within is =
      let was : slice_get olds j ≡ Some old = sym (to.kept j (omega arith)) ∙ at in record {
        count = length-set news j new ∙ to.count;
        given = λ k o m low ok mk. dite (ℕ_discrete k j)
            (λ same.
            let is_old : old ≡ o = one old o (sym was ∙ subst (λ i. slice_get olds i ≡ Some o) same ok) in
            let is_new : new ≡ m = one new m (sym (get_same news j new within) ∙ subst (λ i. slice_get (slice_set news j new) i ≡ Some m) same mk) in
            subst (λ i. IsGiven lock i o m) (sym same) (subst (λ (x : Ctx). IsGiven lock j x m) is_old (subst (λ (x : Ctx). IsGiven lock j old x) is_new is)))
            (λ far. to.given k o m (omega (arith, low, far)) ok (sym (get_other news j k new far) ∙ mk));
        kept = λ k high. get_other news j k new (λ e. omega (arith, e, high)) ∙ to.kept k (omega (arith, high));
      }

  pub given_all : (j : ℕ) (news : List Ctx) → GivenTo lock olds j news → length olds ≤ j → AreGiven lock olds news
  given_all j news to all = record {
    count = to.count;
    each = λ k old new ok nk. to.given k old new (let a = slice_get_within olds k old ok in omega (arith, a, all)) ok nk;
  }

-- ---- all locks

module _ (table : ChunkTable) (clients : ℕ) (olds : List Ctx) where
  pub made_none : ((j : ℕ) (old : Ctx) → slice_get olds j ≡ Some old → old.passes.items ≡ []) → AreMade table clients [] olds olds
  made_none bare = record {
    count = refl;
    begun = λ i lock at. absurd (nothing at);
    each = λ j old new ok nk. let same = one old new (sym ok ∙ nk) in record {
      client = ap (λ (c : Ctx). c.client) (sym same);
      desk = ap (λ (c : Ctx). c.desk) (sym same);
      seat = ap (λ (c : Ctx). c.seat) (sym same);
      full = ap length (bare j new (ok ∙ ap Some same));
      own = λ i lock pass at here. absurd (nothing at);
    };
  }
    where
      nothing : {X : Type 0} {x : X} → None ≡ Some x → ⊥
      nothing e = absurd (cc)

  pub made_more : (number : ℕ) (locks new_locks : List Lock) (mids news : List Ctx) → number ≡ length locks → AreMade table clients locks olds mids → IsAdded table number clients locks new_locks mids news → AreMade table clients new_locks olds news
  made_more number locks new_locks mids news own made added = record {
    count = added.given.count ∙ made.count;
    begun = λ i lock at. elim (get_more locks added.lock i lock (sym (ap (λ l. slice_get l i) added.locks) ∙ at)) [
      | inl last ↦ (
        ap first (sym last.1) ∙ added.begun ∙ ap (λ k. seated_facts (length locks) k table) own ∙ ap (λ k. opening_facts k table) (sym last.0),
        ap seat_count (sym last.1) ∙ added.seats,
      )
      | inr within ↦ made.begun i lock within
    ];
    each = λ j old new ok nk.
        let below : j < length mids = (let a = slice_get_within news j new nk in let b = added.given.count in omega (arith, a, b)) in
        let mid = get_some mids j below in
        let had = made.each j old mid.0 ok mid.1 in
        let got = added.given.each j mid.0 new mid.1 nk in
        let long = length-append mid.0.passes.items (got.passes.pass ∷ []) in
        let more = length-append locks (added.lock ∷ []) in
        let full = had.full in record {
          client = got.client ∙ had.client;
          desk = got.desk ∙ had.desk;
          seat = got.seat ∙ had.seat;
          full = ap length got.passes.items ∙ long ∙ ap (λ n. n + 1) full ∙ sym more ∙ ap length (sym added.locks);
          own = λ i lock pass at here.
              elim (get_more locks added.lock i lock (sym (ap (λ l. slice_get l i) added.locks) ∙ at)) [
                | inl last ↦ elim (get_more mid.0.passes.items got.passes.pass i pass (sym (ap (λ l. slice_get l i) got.passes.items) ∙ here)) [
                  | inl same ↦ subst (λ (p : _). IsNext lock j (j + 1) p) same.1 (subst (λ (l : Lock). IsNext l j (j + 1) got.passes.pass) last.1 got.passes.is)
                  | inr within ↦ absurd (let a = slice_get_within mid.0.passes.items i pass within in let b = last.0 in omega (arith, a, b, full))
                ]
                | inr inside ↦ elim (get_more mid.0.passes.items got.passes.pass i pass (sym (ap (λ l. slice_get l i) got.passes.items) ∙ here)) [
                  | inl same ↦ absurd (let a = slice_get_within locks i lock inside in let b = same.0 in omega (arith, a, b, full))
                  | inr within ↦ had.own i lock pass inside within
                ]
              ];
        };
  }

-- the seats of a table that are left have the numbers from k on
abbrev pub AreFrom : ℕ → List ChunkSeat → Type 0
AreFrom k [] = Unit {0}
AreFrom k (seat ∷ seats) = ((share_of seat).number ≡ k) × AreFrom (k + 1) seats

-- those of a new table have the numbers from 0 on
pub blanks_from : (arenas k n : ℕ) (seats : List ChunkSeat) → map share_of seats ≡ map (blank arenas) (range_with_len k n) → AreFrom k seats
blanks_from arenas k n [] free = tt
blanks_from arenas k zero (seat ∷ seats) free = absurd (cc)
blanks_from arenas k (suc n) (seat ∷ seats) free = (ap (λ l. (first_of l).number) free, blanks_from arenas (k + 1) n seats (ap (drop 1) free))

pub fresh_more : (seats : List AskSeat) (ctxs : List Ctx) (seat : AskSeat) (ctx : Ctx) → AreFresh seats ctxs → IsFresh (length seats) seat ctx → AreFresh (seats ++ seat ∷ []) (ctxs ++ ctx ∷ [])
fresh_more seats ctxs seat ctx are is =
    let count = are.count in record {
      count = length-append ctxs (ctx ∷ []) ∙ ap (λ n. n + 1) count ∙ sym (length-append seats (seat ∷ []));
      each = λ j s c sk ck. elim (get_more seats seat j s sk) [
        | inl last ↦ elim (get_more ctxs ctx j c ck) [
          | inl same ↦ subst (λ (x : Ctx). IsFresh j s x) same.1 (subst (λ (x : AskSeat). IsFresh j x ctx) last.1 (subst (λ n. IsFresh n seat ctx) (sym last.0) is))
          | inr within ↦ absurd (let a = slice_get_within ctxs j c within in let b = last.0 in omega (arith, a, b, count))
        ]
        | inr inside ↦ elim (get_more ctxs ctx j c ck) [
          | inl same ↦ absurd (let a = slice_get_within seats j s inside in let b = same.0 in omega (arith, a, b, count))
          | inr within ↦ are.each j s c inside within
        ]
      ];
    }

-- ---- the new heap

module _ (heap : SharedHeap) (seats : List AskSeat) (olds news : List Ctx) (table : ChunkTable) (clients : ℕ) (made : AreMade table clients heap.locks.items olds news) (fresh : AreFresh seats olds) (full : length heap.locks.items ≡ 32) (few : length seats ≤ 32) (told : heap.clients ≡ length seats) (boxes : heap.boxes ≡ Some 0 ∷ replicate 31 None) where
  unseen : (j : ℕ) (old new : Ctx) → HasPasses heap.locks.items j old new → (i : ℕ) → log_of new i ≡ []
  unseen j old new has i = at (slice_get new.passes.items i) refl
    where
      at : (o : Option _) → slice_get new.passes.items i ≡ o → option_map_or seen o [] ≡ []
      at None is = refl
      at (Some pass) is =
          let here : i < length heap.locks.items = (let a = slice_get_within new.passes.items i pass is in let b = has.full in omega (arith, a, b)) in
          let lock = get_some heap.locks.items i here in
          (has.own i lock.0 pass lock.1 is).fresh

  new_ctx : (j : ℕ) (seat : AskSeat) (old new : Ctx) → IsFresh j seat old → HasPasses heap.locks.items j old new → j < length seats → IsNewCtx heap j seat new
  new_ctx j seat old new is has low =
      let same : new.client ≡ j = has.client ∙ is.client in
      let low-c : new.client < 32 = omega (arith, same, low, few) in
      let desk : new.desk.facts ≡ no_desk = ap (λ (d : _). d.facts) has.desk ∙ is.desk in
      let bare = unseen j old new has in record {
        client = same;
        desk = desk;
        seat = has.seat ∙ is.seat;
        ways = record {
          few = low-c;
          full = has.full ∙ full;
          own = λ i lock pass at here. let next = has.own i lock pass at here in (next.own, next.number ∙ sym same, let s = next.spare in omega (arith, s));
        };
        fresh = bare;
        arenas = begin_arenas (arc_value heap.table) (log_of new) bare;
        rests = subst (IsAtRest false (known (arc_value heap.table) (log_of new)) new.client) (sym desk) (begin_rests (arc_value heap.table) (log_of new) bare new.client low-c);
      }

  pub is_new : IsNew heap seats news
  is_new = record {
    clients = told;
    boxes = boxes;
    count = made.count ∙ fresh.count;
    each = λ j seat ctx sk ck.
        let low = slice_get_within seats j seat sk in
        let below : j < length olds = (let c = fresh.count in omega (arith, low, c)) in
        let old = get_some olds j below in
        new_ctx j seat old.0 ctx (fresh.each j seat old.0 sk old.1) (made.each j old.0 ctx old.1 ck) low;
  }

-- fresh contexts have no passes
pub bare : (seats : List AskSeat) (ctxs : List Ctx) → AreFresh seats ctxs → (j : ℕ) (old : Ctx) → slice_get ctxs j ≡ Some old → old.passes.items ≡ []
bare seats ctxs fresh j old at =
    let low : j < length seats = (let a = slice_get_within ctxs j old at in let b = fresh.count in omega (arith, a, b)) in
    let seat = get_some seats j low in
    (fresh.each j seat.0 old seat.1 at).passes

-- each context of a new heap may call, where its seat is one of a shelf
pub new_calls : (heap : SharedHeap) (seats : List AskSeat) (ctxs : List Ctx) → IsNew heap seats ctxs → (shelf : TableId) → All (λ (seat : AskSeat). seat.badge.table_id ≡ shelf) seats → All (MayCall shelf heap) ctxs
new_calls heap seats ctxs new shelf of = all_at (MayCall shelf heap) ctxs (λ j ctx at.
    let low : j < length seats = (let a = slice_get_within ctxs j ctx at in let b = new.count in omega (arith, a, b)) in
    let seat = get_some seats j low in
    let is = new.each j seat.0 ctx seat.1 at in
    record { is = record { ways = is.ways; seat = ap (λ (s : AskSeat). s.badge.table_id) (is.seat ∙ sym (get_or_from_slice_get seats j seat.0 seat.0 seat.1)) ∙ of j seat.0 low; arenas = is.arenas }; rests = is.rests })
