-- What a heap leaves.
use Rattle.std.specs.Prelude.{◌≡◌, ◌≢◌, ◌+◌, ◌-◌, ℕ, ◌<◌, ◌≤◌, Bool, true, List, [], Option, Some, length, map, slice_get}
use Rattle.std.specs.List.{All, count_by, list_any}
use Rattle.std.specs.Arc.{arc_value}
use Rattle.std.specs.declared.snapshot.Snapshot.{Snapshot}
use Rattle.turn_lock.specs.declared.view.Turn.{Turn}
use Rattle.turn_lock.specs.History.{entries, entries_by, IsLegal}
use Rattle.deeds.specs.declared.deeds.Deed.{Deed}
use Rattle.chunk_table.specs.Rule.{owns}
use Rattle.chunk_table.specs.Tables.{accounts, share_of, IsSeatOf}
use Rattle.chunk_table.specs.declared.table.ChunkBook.{ChunkBook}
use Rattle.chunk_table.specs.declared.table.ChunkSeat.{ChunkSeat}
use Rattle.chunk_table.specs.declared.view.Share.{Share}
use Rattle.chunk_table.specs.declared.view.Taken.{Taken}
use Rattle.heap_shared.specs.Claims.{AreOthers, HasFound, OwnsMet, founds, is_met}
use Rattle.hook_api.specs.Kept.{KeptFacts}
use Rattle.recorded_arena.specs.Records.{IsReplayed, entries_of, opening_space}
use Rattle.space_model.specs.Journal.{all_stand, replay}
use Rattle.space_model.specs.Span.{has_page}
use Rattle.space_model.specs.declared.counts.Counts.{Counts}
use Rattle.space_model.specs.declared.spaces.Space.{Space}
use Rattle.space_model.specs.Sound.{Sound}
use Rattle.hook_api.specs.declared.kept.Journal.{Journal}
use Rattle.hook_api.specs.declared.seat.AskSeat.{AskSeat}
use Rattle.heap_runs.specs.declared.closes.Closed.{Closed}
use Rattle.heap_shared.specs.Shared.{Facts, Logs, after_entry, live_counts, opening_facts, snap}
use Rattle.heap_runs.specs.declared.heaps.Ctx.{Ctx}
use Rattle.heap_runs.specs.declared.heaps.SharedHeap.{SharedHeap}
use Rattle.heap_runs.specs.Heaps.{turns_of}
use Rattle.heap_runs.specs.Ways.{state_of, turns_in}

-- An arena for which the passes of all contexts were given back: it is what a whole history leaves of its opening, whose entries its
-- journal has. Each context's client was told in it what its pass knew, and every entry is of one of these clients.
pub record IsClosed (heap : SharedHeap) (ctxs : List Ctx) (i : ℕ) (state : Facts) : Type 0 where
  pub log : List (Turn (Snapshot Deed))
  pub replayed : state ≡ state_of (arc_value heap.table) i log
  pub legal : IsLegal Logs after_entry (opening_facts i (arc_value heap.table)) log
  pub kept : map snap state.arena.kept ≡ entries log
  pub own : (j : ℕ) (ctx : Ctx) → slice_get ctxs j ≡ Some ctx → turns_in (arc_value heap.table) ctx.client i log ≡ turns_of heap ctx i
  pub others : (n : ℕ) → ((j : ℕ) (ctx : Ctx) → slice_get ctxs j ≡ Some ctx → ctx.client ≢ n) → entries_by n log ≡ []

-- what is left of a context once the passes of the arenas from n on were taken out
pub record IsLeft (old : Ctx) (n : ℕ) (new : Ctx) : Type 0 where
  pub count : length new.passes.items ≡ n
  pub passes : (i : ℕ) → i < n → slice_get new.passes.items i ≡ slice_get old.passes.items i
  pub seat : new.seat ≡ old.seat

-- the same of all contexts
pub record AreLeft (olds : List Ctx) (n : ℕ) (news : List Ctx) : Type 0 where
  pub count : length news ≡ length olds
  pub each : (j : ℕ) (old new : Ctx) → slice_get olds j ≡ Some old → slice_get news j ≡ Some new → IsLeft old n new

-- the arenas that are closed, the last one first
abbrev pub AreClosed : SharedHeap → List Ctx → List Facts → Type 0
AreClosed heap ctxs states = (k : ℕ) (state : Facts) → slice_get states k ≡ Some state → IsClosed heap ctxs (31 - k) state

-- the seat of a context at the shared shelf
abbrev pub seat_of_ctx : Ctx → AskSeat
seat_of_ctx ctx = ctx.seat

-- What is left of an arena: its journal, and its seat of the chunk table, which owns just the chunks that its extents meet, and failed to
-- claim just those that its entries found, whose owner never was the arena itself.
pub record IsParted (state : Facts) (journal : Journal) (seat : ChunkSeat) : Type 0 where
  pub index : journal.index ≡ state.arena.index
  pub kept : journal.kept ≡ state.arena.kept
  pub table : IsSeatOf state.table seat
  pub owned : OwnsMet seat state.arena.space
  pub found : HasFound seat journal.kept
  pub number : (share_of seat).number ≡ state.number
  pub others : AreOthers (share_of seat)
  pub replayed : IsReplayed state.arena.index state.arena.kept state.arena.space

-- What is left of arenas, the last one first.
pub record AreParted (states : List Facts) (journals : List Journal) (seats : List ChunkSeat) : Type 0 where
  pub counts : (length journals ≡ length states) × (length seats ≡ length states)
  pub each : (k : ℕ) (state : Facts) (journal : Journal) (seat : ChunkSeat) → slice_get states (length states - (k + 1)) ≡ Some state → slice_get journals k ≡ Some journal → slice_get seats k ≡ Some seat → IsParted state journal seat

-- The counts of arenas, the last one first, by their indexes, where they are live.
pub record AreCounted (states : List Facts) (counts : List (Option Counts)) : Type 0 where
  pub count : length counts ≡ length states
  pub each : (k : ℕ) (state : Facts) (c : Option Counts) → slice_get states (length states - (k + 1)) ≡ Some state → slice_get counts k ≡ Some c → c ≡ live_counts state.arena.space

-- the space that a journal leaves of the arena with an index
abbrev pub space_left : ℕ → List KeptFacts → Space
space_left i kept = replay (opening_space i) (entries_of kept)

-- the counts of what a journal leaves of its arena, where that is live
abbrev pub counts_left : Journal → Option Counts
counts_left journal = live_counts (space_left journal.index journal.kept)

-- whether an extent of a space has a page
abbrev pub is_page_of : ℕ → Space → Bool
is_page_of page s = list_any (λ p. has_page page p.span) s.parts

-- no page is in the spaces that two journals leave
abbrev pub AreApart : List Journal → Type 0
AreApart journals = (page i j : ℕ) (one other : Journal) → slice_get journals i ≡ Some one → slice_get journals j ≡ Some other → is_page_of page (space_left i one.kept) ≡ true → is_page_of page (space_left j other.kept) ≡ true → i ≡ j

-- What is left of the arena with an index: a journal that has the entries of its history, each of which may stand where it comes, and
-- its account in the book of chunks, which has the arena's index as its number. It owned at the end just the chunks that its extents
-- meet, and the chunks that its entries found in other arenas are those that it failed to claim, in order, each of which named an owner
-- that is not the arena itself.
pub record HasJournal (heap : SharedHeap) (ctxs : List Ctx) (book : ChunkBook) (i : ℕ) (journal : Journal) : Type 0 where
  pub state : Facts
  pub closed : IsClosed heap ctxs i state
  pub index : journal.index ≡ i
  pub kept : journal.kept ≡ state.arena.kept
  pub space : state.arena.space ≡ space_left i journal.kept
  pub stand : all_stand (opening_space i) (entries_of journal.kept) ≡ true
  pub share : Share
  pub account : slice_get (accounts book) i ≡ Some share
  pub number : share.number ≡ i
  pub owned : (chunk : ℕ) → owns chunk share ≡ is_met chunk state.arena.space
  pub found : map (λ (t : Taken). t.chunk) share.taken ≡ founds journal.kept
  pub others : All (λ (t : Taken). t.owner ≢ i + 1) share.taken
  pub sound : Sound state.arena.space

-- What a closed heap leaves: the journals of its 32 arenas and the chunks of each, of which none is owned by two, so that no page is in
-- the spaces that two journals leave; the seats of all contexts at the shared shelf; and of each arena the counts of the space that its
-- journal leaves, where that is live.
pub record HasClosed (heap : SharedHeap) (ctxs : List Ctx) (left : Closed) : Type 0 where
  pub count : length left.journals ≡ 32
  pub each : (i : ℕ) (journal : Journal) → slice_get left.journals i ≡ Some journal → HasJournal heap ctxs left.chunks i journal
  pub once : (chunk : ℕ) → count_by (owns chunk) (accounts left.chunks) ≤ 1
  pub apart : AreApart left.journals
  pub seats : left.seats.items ≡ map seat_of_ctx ctxs
  pub counts : left.counts.items ≡ map counts_left left.journals
