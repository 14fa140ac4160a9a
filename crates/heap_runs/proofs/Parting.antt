-- What is left of the arenas of a closed heap.
use Rattle.std.specs.Prelude.{Option, true}
use Rattle.heap_runs.proofs.Words.{arc_value, suc, zero, ◌≡◌, ◌≢◌, ◌∙◌, ◌+◌, ◌-◌, ◌<◌, ◌++◌, ◌∷◌, [], inl, inr, ℕ, List, Some, All, length, length-append, map, range_with_len, sym, refl, ap, subst, arith, take, slice_get, slice_get_within, Snapshot, Turn, ChunkTable, Deed, Facts, after_entry, opening_facts, replay_turns, state_of, replayed_sound}
use Rattle.std.specs.Prelude.{◌/◌, ◌≤◌}
use Rattle.std.specs.List.{count_by}
use Rattle.chunk_table.specs.Rule.{owns}
use Rattle.recorded_arena.specs.Records.{entries_of, opening_space}
use Rattle.space_model.specs.Journal.{all_stand, replay}
use Rattle.chunk_table.specs.Tables.{accounts, share_of, IsSeatOf}
use Rattle.chunk_table.specs.declared.view.Taken.{Taken}
use Rattle.chunk_table.specs.declared.table.ChunkBook.{ChunkBook}
use Rattle.chunk_table.specs.declared.table.ChunkSeat.{ChunkSeat}
use Rattle.hook_api.specs.declared.kept.Journal.{Journal}
use Rattle.heap_runs.specs.declared.heaps.Ctx.{Ctx}
use Rattle.heap_runs.specs.declared.heaps.SharedHeap.{SharedHeap}
use Rattle.space_model.specs.declared.counts.Counts.{Counts}
use Rattle.heap_shared.specs.Shared.{live_counts}
use Rattle.heap_runs.proofs.Counting.{counts_are}
use Rattle.heap_runs.specs.Closes.{AreApart, AreClosed, AreCounted, AreLeft, AreParted, counts_left, HasJournal, IsClosed, IsParted, is_page_of, seat_of_ctx}
use Rattle.heap_runs.proofs.Columns.{all_at, get_more, get_some, lock_is}
use Rattle.heap_runs.proofs.Apart.{only_one, page_meets}
use Rattle.heap_runs.proofs.Passing.{same_element}

-- ---- arena by arena

-- so many journals and seats are those of the last arenas
abbrev pub PartedTo : List Facts → List Journal → List ChunkSeat → Type 0
PartedTo states journals seats = (k : ℕ) (state : Facts) (journal : Journal) (seat : ChunkSeat) → slice_get states (length states - (k + 1)) ≡ Some state → slice_get journals k ≡ Some journal → slice_get seats k ≡ Some seat → IsParted state journal seat

pub parted_none : (states : List Facts) (journals : List Journal) (seats : List ChunkSeat) → journals ≡ [] → PartedTo states journals seats
parted_none states journals seats none k state journal seat at here there = absurd (let low = slice_get_within journals k journal here in let long = ap length none in omega (arith, low, long))

module _ (states left rest : List Facts) (state : Facts) (journals : List Journal) (journal : Journal) (seats : List ChunkSeat) (seat : ChunkSeat) (is : left ≡ take (length left) states) (out : left ≡ rest ++ state ∷ [])
    (count : length journals + length left ≡ length states) (same : length seats ≡ length journals) where
  longer : length left ≡ length rest + 1
  longer = ap length out ∙ length-append rest (state ∷ [])

  pub parted_more : PartedTo states journals seats → IsParted state journal seat → PartedTo states (journals ++ journal ∷ []) (seats ++ seat ∷ [])
  parted_more to one k s j t at here there =
      elim (get_more journals journal k j here) [
        | inl last ↦ elim (get_more seats seat k t there) [
          | inl also ↦
              let place : length states - (k + 1) ≡ length rest = (let e = last.0 in omega (arith, e, count, longer)) in
              let first : state ≡ s = same_element state s (sym (lock_is states left rest state is out).0 ∙ ap (slice_get states) (sym place) ∙ at) in
              subst (λ (x : Facts). IsParted x j t) first (subst (λ (x : Journal). IsParted state x t) last.1 (subst (λ (x : ChunkSeat). IsParted state journal x) also.1 one))
          | inr within ↦ absurd (let low = slice_get_within seats k t within in let e = last.0 in omega (arith, low, e, same))
        ]
        | inr inside ↦ elim (get_more seats seat k t there) [
          | inl also ↦ absurd (let low = slice_get_within journals k j inside in let e = also.0 in omega (arith, low, e, same))
          | inr within ↦ to k s j t at inside within
        ]
      ]

-- ---- an arena's index, the number of its seat, and its table

-- no entry changes them
kept_by : (s : Facts) (log : List (Turn (Snapshot Deed))) → ((replay_turns after_entry s log).arena.index ≡ s.arena.index) × ((replay_turns after_entry s log).table ≡ s.table) × ((replay_turns after_entry s log).number ≡ s.number)
kept_by s [] = (refl, refl, refl)
kept_by s (t ∷ log) = kept_by (after_entry s t.entry).0 log

pub index_of : (table : ChunkTable) (i : ℕ) (log : List (Turn (Snapshot Deed))) → (state_of table i log).arena.index ≡ i
index_of table i log = (kept_by (opening_facts i table) log).0

pub table_of : (table : ChunkTable) (i : ℕ) (log : List (Turn (Snapshot Deed))) → (state_of table i log).table ≡ table
table_of table i log = (kept_by (opening_facts i table) log).1

pub number_of : (table : ChunkTable) (i : ℕ) (log : List (Turn (Snapshot Deed))) → (state_of table i log).number ≡ i
number_of table i log = (kept_by (opening_facts i table) log).2

-- ---- all of them

by_index : (low : ℕ) (journals : List Journal) → ((k : ℕ) (j : Journal) → slice_get journals k ≡ Some j → j.index ≡ low + k) → map (λ (j : Journal). j.index) journals ≡ range_with_len low (length journals)
by_index low [] each = refl
by_index low (j ∷ journals) each =
    let rest = by_index (low + 1) journals (λ k x at. let is = each (suc k) x at in omega (arith, is)) in
    let first : j.index ≡ low = (let is = each 0 j refl in omega (arith, is)) in
    λ i. first i ∷ rest i

get_map : {X Y : Type 0} (f : X → Y) (xs : List X) (i : ℕ) (x : X) → slice_get xs i ≡ Some x → slice_get (map f xs) i ≡ Some (f x)
get_map f [] i x at = absurd (cc)
get_map f (y ∷ ys) zero x at = ap (λ z. Some (f z)) (same_element y x at)
get_map f (y ∷ ys) (suc i) x at = get_map f ys i x at

module _ (heap : SharedHeap) (ctxs : List Ctx) (states : List Facts) (journals : List Journal) (seats : List ChunkSeat) (count : length states ≡ 32) (parted : AreParted states journals seats) (closed : AreClosed heap ctxs states) where
  -- the state of which a journal and a seat are
  state_at : (i : ℕ) → i < 32 → (state : Facts) × (slice_get states (31 - i) ≡ Some state)
  state_at i low = get_some states (31 - i) (omega (arith, low, count))

  part_at : (i : ℕ) (state : Facts) (journal : Journal) (seat : ChunkSeat) → slice_get states (31 - i) ≡ Some state → slice_get journals i ≡ Some journal → slice_get seats i ≡ Some seat → IsParted state journal seat
  part_at i state journal seat at here there = parted.each i state journal seat (ap (slice_get states) place ∙ at) here there
    where
      place : length states - (i + 1) ≡ 31 - i
      place = omega (arith, count)

  closed_at : (i : ℕ) (state : Facts) → i < 32 → slice_get states (31 - i) ≡ Some state → IsClosed heap ctxs i state
  closed_at i state low at = subst (λ n. IsClosed heap ctxs n state) place (closed (31 - i) state at)
    where
      place : 31 - (31 - i) ≡ i
      place = omega (arith, low)

  journal_low : (i : ℕ) (journal : Journal) → slice_get journals i ≡ Some journal → i < 32
  journal_low i journal here = let low = slice_get_within journals i journal here in let all = parted.counts.0 in omega (arith, low, all, count)

  seat_low : (i : ℕ) (seat : ChunkSeat) → slice_get seats i ≡ Some seat → i < 32
  seat_low i seat there = let low = slice_get_within seats i seat there in let all = parted.counts.1 in omega (arith, low, all, count)

  journal_at : (i : ℕ) → i < 32 → (journal : Journal) × (slice_get journals i ≡ Some journal)
  journal_at i low = get_some journals i (let all = parted.counts.0 in omega (arith, low, all, count))

  seat_at : (i : ℕ) → i < 32 → (seat : ChunkSeat) × (slice_get seats i ≡ Some seat)
  seat_at i low = get_some seats i (let all = parted.counts.1 in omega (arith, low, all, count))

  -- the journals stand by their indexes
  pub indexes : map (λ (j : Journal). j.index) journals ≡ range_with_len 0 32
  indexes = by_index 0 journals each ∙ ap (range_with_len 0) (parted.counts.0 ∙ count)
    where
      each : (k : ℕ) (j : Journal) → slice_get journals k ≡ Some j → j.index ≡ 0 + k
      each k j here =
          let low = journal_low k j here in
          let state = state_at k low in
          let seat = seat_at k low in
          let is = closed_at k state.0 low state.1 in
          (part_at k state.0 j seat.0 state.1 here seat.1).index ∙ ap (λ (s : Facts). s.arena.index) is.replayed ∙ index_of (arc_value heap.table) k is.log ∙ omega arith

  -- the counts are those of what the journals leave
  pub counted : (counts : List (Option Counts)) → AreCounted states counts → counts ≡ map counts_left journals
  counted counts are = counts_are journals counts (are.count ∙ sym parted.counts.0) each
    where
      each : (i : ℕ) (j : Journal) (c : Option Counts) → slice_get journals i ≡ Some j → slice_get counts i ≡ Some c → c ≡ counts_left j
      each i j c here there =
          let low = journal_low i j here in
          let state = state_at i low in
          let seat = seat_at i low in
          let part = part_at i state.0 j seat.0 state.1 here seat.1 in
          let place : length states - (i + 1) ≡ 31 - i = omega (arith, count) in
          are.each i state.0 c (ap (slice_get states) place ∙ state.1) there
          ∙ ap live_counts (part.replayed.space ∙ ap (λ n. replay (opening_space n) (entries_of state.0.arena.kept)) (sym part.index) ∙ ap (λ k. replay (opening_space j.index) (entries_of k)) (sym part.kept))

  -- the seats are seats of the heap's table
  pub seated : All (IsSeatOf (arc_value heap.table)) seats
  seated = all_at (IsSeatOf (arc_value heap.table)) seats (λ i seat there.
      let low = seat_low i seat there in
      let state = state_at i low in
      let journal = journal_at i low in
      let is = closed_at i state.0 low state.1 in
      subst (λ t. IsSeatOf t seat) (ap (λ (s : Facts). s.table) is.replayed ∙ table_of (arc_value heap.table) i is.log) (part_at i state.0 journal.0 seat state.1 journal.1 there).table)

  pub left_of : (book : ChunkBook) → accounts book ≡ map share_of seats → (i : ℕ) (journal : Journal) → slice_get journals i ≡ Some journal → HasJournal heap ctxs book i journal
  left_of book is i journal here =
      let low = journal_low i journal here in
      let state = state_at i low in
      let seat = seat_at i low in
      let part = part_at i state.0 journal seat.0 state.1 here seat.1 in
      let closes = closed_at i state.0 low state.1 in
      let index = ap (λ (s : Facts). s.arena.index) closes.replayed ∙ index_of (arc_value heap.table) i closes.log in
      let number = part.number ∙ ap (λ (s : Facts). s.number) closes.replayed ∙ number_of (arc_value heap.table) i closes.log in record {
        state = state.0;
        closed = closes;
        index = part.index ∙ index;
        kept = part.kept;
        space = part.replayed.space ∙ ap (λ n. replay (opening_space n) (entries_of state.0.arena.kept)) index ∙ ap (λ k. replay (opening_space i) (entries_of k)) (sym part.kept);
        stand = subst (λ k. all_stand (opening_space i) (entries_of k) ≡ true) (sym part.kept)
            (subst (λ n. all_stand (opening_space n) (entries_of state.0.arena.kept) ≡ true) index part.replayed.stand);
        share = share_of seat.0;
        account = ap (λ l. slice_get l i) is ∙ get_map share_of seats i seat.0 seat.1;
        owned = part.owned;
        number = number;
        found = part.found;
        others = subst (λ n. All (λ (t : Taken). t.owner ≢ n + 1) (share_of seat.0).taken) number part.others;
        sound = replayed_sound state.0.arena.index state.0.arena.kept state.0.arena.space part.replayed;
      }

-- no page is in the spaces that two journals leave
pub journals_apart : (heap : SharedHeap) (ctxs : List Ctx) (book : ChunkBook) (journals : List Journal) → ((i : ℕ) (journal : Journal) → slice_get journals i ≡ Some journal → HasJournal heap ctxs book i journal)
    → ((chunk : ℕ) → count_by (owns chunk) (accounts book) ≤ 1) → AreApart journals
journals_apart heap ctxs book journals each once page i j one other at there here also =
    let first = each i one at in
    let second = each j other there in
    only_one (owns (page / 512)) (accounts book) i j first.share second.share (once (page / 512)) first.account second.account
    (first.owned (page / 512) ∙ page_meets page first.state.arena.space.parts (ap (is_page_of page) first.space ∙ here))
    (second.owned (page / 512) ∙ page_meets page second.state.arena.space.parts (ap (is_page_of page) second.space ∙ also))

-- contexts whose passes were taken have their seats
pub seats_left : (olds news : List Ctx) (n : ℕ) → AreLeft olds n news → map seat_of_ctx news ≡ map seat_of_ctx olds
seats_left olds news n left = same_map olds news left.count (λ j old new ok nk. (left.each j old new ok nk).seat)
  where
    same_map : (olds news : List Ctx) → length news ≡ length olds → ((j : ℕ) (old new : Ctx) → slice_get olds j ≡ Some old → slice_get news j ≡ Some new → new.seat ≡ old.seat) → map seat_of_ctx news ≡ map seat_of_ctx olds
    same_map [] [] count each = refl
    same_map [] (n ∷ ns) count each = absurd (omega (arith, count))
    same_map (o ∷ os) [] count each = absurd (omega (arith, count))
    same_map (o ∷ os) (n ∷ ns) count each = λ i. each 0 o n refl refl i ∷ same_map os ns (omega (arith, count)) (λ j old new ok nk. each (suc j) old new ok nk) i
