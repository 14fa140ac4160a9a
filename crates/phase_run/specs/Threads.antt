-- What a run of threads does and leaves.
use Rattle.std.specs.Prelude.{◌≡◌, ◌≢◌, ◌⊎◌, ℕ, ◌+◌, ◌<◌, ◌≤◌, Bool, true, false, IsTrue, List, [], ◌∷◌, ◌++◌, Option, None, Some, length, map, replicate, slice_get, slice_index, slice_index_or, IfSome}
use Rattle.std.specs.List.{All, AllByRecursion, count_by, range_with_len, sum_by}
use Rattle.chunk_table.specs.Rule.{owns}
use Rattle.chunk_table.specs.Tables.{accounts}
use Rattle.chunk_table.specs.declared.table.ChunkBook.{ChunkBook}
use Rattle.chunk_table.specs.declared.table.ChunkTable.{ChunkTable}
use Rattle.chunk_table.specs.declared.view.Share.{Share}
use Rattle.chunk_table.specs.declared.view.Taken.{Taken}
use Rattle.deeds.specs.Dids.{Did, HaveNext, asks_of, carried}
use Rattle.edge_io.specs.Bytes.{Appends, AppendsPrefix, Rose}
use Rattle.heap_runs.specs.Closes.{AreApart, counts_left, space_left}
use Rattle.heap_runs.specs.Heaps.{counted_by}
use Rattle.heap_runs.specs.Walks.{Done, dids_of}
use Rattle.heap_runs.specs.declared.closes.Closed.{Closed}
use Rattle.hook_api.specs.Asked.{AskFacts}
use Rattle.hook_api.specs.Seats.{refused_at}
use Rattle.hook_api.specs.Shared.{HasCounted, IsSeatOf, orders_of}
use Rattle.hook_api.specs.declared.shared.SharedShelf.{SharedShelf}
use Rattle.heap_runs.specs.Ways.{told_of, took_in}
use Rattle.heap_shared.specs.Claims.{founds, is_met}
use Rattle.heap_shared.specs.Shared.{snap}
use Rattle.hook_api.specs.Orders.{no_orders, plan_for}
use Rattle.hook_api.specs.Plans.{plan_at}
use Rattle.hook_api.specs.Shelf.{Shelf, box_at}
use Rattle.hook_api.specs.declared.kept.Journal.{Journal}
use Rattle.hook_api.specs.declared.orders.Orders.{Orders}
use Rattle.hook_api.specs.declared.plans.Kind.{Kind}
use Rattle.journal.specs.Texts.{AreReadAgain}
use Rattle.line_reader.specs.Lines.{lines_of}
use Rattle.recorded_arena.specs.Records.{entries_of, opening_space}
use Rattle.report_text.specs.Lines.{bad_line}
use Rattle.report_text.specs.declared.causes.Cause.{Cause}
use Rattle.report_text.specs.declared.causes.Cause.TheVariants.{Cut, LimitBytes, LimitLines, LimitThreads}
use Rattle.space_model.specs.Journal.{all_stand}
use Rattle.space_model.specs.Sound.{Sound}
use Rattle.trace_phase.specs.declared.parts.Part.{Part}
use Rattle.trace_phase.specs.declared.parts.Phases.{Phases}
use Rattle.phase_run.specs.Reading.{BadAt, Come, outcome, reading}
use Rattle.phase_run.specs.Stands.{Stand, WalksParts, opening_stand}
use Rattle.phase_run.specs.Summaries.{phase_count, summary_text}
use Rattle.phase_run.specs.declared.reading.Unread.{Unread}
use Rattle.phase_run.specs.declared.reading.Unread.TheVariants.{Bad, NoMemory, ReadFault}
use Rattle.phase_run.specs.declared.summaries.Numbers.{Numbers}

-- the status of a bad line
abbrev pub status_of : Cause → ℕ
status_of LimitLines = 7
status_of LimitBytes = 7
status_of LimitThreads = 7
status_of cause = 3

-- ---- the streams

-- what is told of a sink: the bytes that it holds, where it tells them, its count of faults, and whether bytes may wait in it
pub record Held : Type 0 where
  pub bytes : Option (List ℕ)
  pub faults : ℕ
  pub waits : Bool

-- a sink, as it tells itself
abbrev pub held_by : Option (List ℕ) → ℕ → Bool → Held
held_by bytes faults waits = record { bytes = bytes; faults = faults; waits = waits }

-- a text was written whole, nothing failed and nothing waits
abbrev pub IsWritten : List ℕ → Held → Held → Type 0
IsWritten text old new = Appends old.bytes new.bytes text × (new.faults ≡ old.faults) × (new.waits ≡ false)

-- a text is told whole, with this status; or a beginning of it, with status 5, where a write failed
abbrev pub TellsWhole : List ℕ → ℕ → ℕ → Held → Held → Type 0
TellsWhole text done status old new = ((status ≡ done) × IsWritten text old new) ⊎ ((status ≡ 5) × Rose old.faults new.faults × AppendsPrefix old.bytes new.bytes text)

-- a text is told so; or nothing is, with status 6, for want of memory
abbrev pub TellsText : List ℕ → ℕ → ℕ → Held → Held → Type 0
TellsText text done status old new = TellsWhole text done status old new ⊎ ((status ≡ 6) × (new ≡ old))

-- why lines weren't read is told: a bad line by its text, and nothing else by any
abbrev pub TellsUnread : Unread → ℕ → Held → Held → Type 0
TellsUnread (Bad line cause) status old new = TellsText (bad_line line cause) (status_of cause) status old new
TellsUnread ReadFault status old new = (status ≡ 4) × (new ≡ old)
TellsUnread NoMemory status old new = (status ≡ 6) × (new ≡ old)

-- ---- what the journals are

-- The journal of an arena has just the turns of the clients' calls: those of each client in the order of its calls, each with the reply
-- that its place gives it, and no entry of anybody else. Each entry may stand where it comes. The arena owned at the end just the chunks that
-- its extents meet, and the chunks that its entries found in other arenas are those that it failed to claim, in order; each of these claims
-- named an owner that isn't the arena itself.
pub record IsJournalOf (table : ChunkTable) (dones : List (List Done)) (book : ChunkBook) (i : ℕ) (journal : Journal) : Type 0 where
  pub index : journal.index ≡ i
  pub stand : all_stand (opening_space i) (entries_of journal.kept) ≡ true
  pub own : (c : ℕ) → c < 32 → told_of table c i (map snap journal.kept) ≡ took_in i (dids_of (slice_index_or dones c []))
  pub others : (n : ℕ) → 32 ≤ n → told_of table n i (map snap journal.kept) ≡ []
  pub sound : Sound (space_left i journal.kept)
  pub share : Share
  pub account : slice_get (accounts book) i ≡ Some share
  pub owned : (chunk : ℕ) → owns chunk share ≡ is_met chunk (space_left i journal.kept)
  pub found : map (λ (t : Taken). t.chunk) share.taken ≡ founds journal.kept
  pub elsewhere : All (λ (t : Taken). t.owner ≢ i + 1) share.taken

-- the plans of boxes are those of a shelf
abbrev pub AreThose : List Orders → Shelf → Type 0
AreThose orders shelf = (n : ℕ) → n < 32 → (kind : Kind) → plan_for (slice_index_or orders n no_orders) (Some kind) ≡ plan_at (box_at shelf n).book.plans kind

-- the ask that an entry carries, if it carries one
abbrev pub ask_in : Option AskFacts → List AskFacts
ask_in None = []
ask_in (Some asked) = asked ∷ []

-- the asks that the entries carry of what was done, in order
abbrev pub carried_of : List Did → List AskFacts
carried_of [] = []
carried_of (did ∷ dids) = ask_in (carried did) ++ carried_of dids

-- how many asks of a client's calls a box refused by itself, up to 2^58
abbrev pub refused_of : List (List Done) → ℕ → ℕ → ℕ
refused_of dones n c = slice_index (counted_by (replicate 32 0) (asks_of (dids_of (slice_index_or dones c [])))) n

-- how many asks of all clients' calls a box refused by itself, up to 2^58 of each client
abbrev pub refused_in : List (List Done) → ℕ → ℕ
refused_in dones n = sum_by (refused_of dones n) (range_with_len 0 32)

-- The parts of a trace were carried out by its clients over boxes with these plans, and the journals are just what they did. The asks
-- of a client have the places of its own from 0 on, each once, of each box, and each of them is carried by the entry behind it. No chunk is owned by two arenas, and no page is in the spaces
-- that two journals leave.
pub record AreCarried (orders : List Orders) (parts : List Part) (last : Stand) (journals : List Journal) (book : ChunkBook) : Type 0 where
  pub dones : List (List Done)
  pub walks : WalksParts (opening_stand orders) parts dones last
  pub places : (c : ℕ) → c < 32 → (places : List ℕ) × HaveNext (replicate 32 0) (asks_of (dids_of (slice_index_or dones c []))) places
  pub entered : (c : ℕ) → c < 32 → asks_of (dids_of (slice_index_or dones c [])) ≡ carried_of (dids_of (slice_index_or dones c []))
  pub table : ChunkTable
  pub count : length journals ≡ 32
  pub each : (i : ℕ) (journal : Journal) → slice_get journals i ≡ Some journal → IsJournalOf table dones book i journal
  pub once : (chunk : ℕ) → count_by (owns chunk) (accounts book) ≤ 1
  pub apart : AreApart journals

-- ---- the endings

-- What a run leaves: its status, the journals, and the chunks that the arenas owned.
pub record Left : Type 0 where
  pub status : ℕ
  pub journals : List Journal
  pub chunks : Option ChunkBook

-- what is left, by its parts
abbrev pub left_by : ℕ → List Journal → Option ChunkBook → Left
left_by status journals chunks = record { status = status; journals = journals; chunks = chunks }

-- no journals are left
abbrev pub HasNone : Left → Type 0
HasNone left = (left.journals ≡ []) × (left.chunks ≡ None)

-- The first bad line of the input is told, and nothing was carried out.
pub record TellsBad (input : Option (List ℕ)) (ended : Bool) (shelf shelf' : Shelf) (left : Left) (sink sink' : Held) : Type 0 where
  pub line : ℕ
  pub cause : Cause
  pub bad : IfSome input (λ bytes. outcome (reading (lines_of bytes)) ≡ BadAt line (Some cause))
  pub cut : cause ≡ Cut → ended ≡ true
  pub tells : TellsText (bad_line line cause) (status_of cause) left.status sink sink'
  pub none : HasNone left
  pub same : shelf' ≡ shelf

-- A read failed before reading was over: nothing was carried out or written.
pub record FailsReading (faults faults' : ℕ) (shelf shelf' : Shelf) (left : Left) (sink sink' : Held) : Type 0 where
  pub status : left.status ≡ 4
  pub rose : Rose faults faults'
  pub none : HasNone left
  pub same : shelf' ≡ shelf
  pub unwritten : sink' ≡ sink

-- Memory was wanting: nothing was written.
pub record LacksMemory (left : Left) (sink sink' : Held) : Type 0 where
  pub status : left.status ≡ 6
  pub none : HasNone left
  pub unwritten : sink' ≡ sink

-- the numbers of a trace: its clients, its phases, and what was counted in these
abbrev pub numbers_of : Phases → Stand → Numbers
numbers_of phases last = record { clients = phases.clients; phases = phase_count phases.parts; tally = last.tally }

-- Phases were carried out over the boxes of a shelf, each of which counted at least the refusals that its asks tell; the summary of the
-- journals is told, and behind it the journals where they are wanted.
pub record HasCarried (with_journals : Bool) (phases : Phases) (shelf shelf' : Shelf) (left : Left) (sink sink' : Held) : Type 0 where
  pub orders : List Orders
  pub plans : AreThose orders shelf
  pub last : Stand
  pub book : ChunkBook
  pub chunks : left.chunks ≡ Some book
  pub carried : AreCarried orders phases.parts last left.journals book
  pub counted : (n : ℕ) → n < 32 → HasCounted (box_at shelf n).account.refusals (box_at shelf' n).account.refusals (refused_in carried.dones n)
  pub tells : TellsWhole (summary_text left.journals (numbers_of phases last) with_journals) 0 left.status sink sink'
  pub again : IsTrue with_journals → AllByRecursion AreReadAgain left.journals

-- All lines were read to the end of the input, and carried out.
pub record HasRun (with_journals : Bool) (input : Option (List ℕ)) (is_ended : Bool) (shelf shelf' : Shelf) (left : Left) (sink sink' : Held) : Type 0 where
  pub phases : Phases
  pub come : IfSome input (λ bytes. outcome (reading (lines_of bytes)) ≡ Come phases)
  pub ended : is_ended ≡ true
  pub carried : HasCarried with_journals phases shelf shelf' left sink sink'

-- What the phases of a trace leave that were carried out over a shared shelf: the seats are its own.
pub record CarriedOut {H : Type 0} (shelf : SharedShelf H) (phases : Phases) (closed : Closed) (told : Numbers) : Type 0 where
  pub last : Stand
  pub carried : AreCarried (orders_of shelf) phases.parts last closed.journals closed.chunks
  pub counts : closed.counts.items ≡ map counts_left closed.journals
  pub numbers : told ≡ numbers_of phases last
  pub seats : All (IsSeatOf shelf) closed.seats.items
  pub count : length closed.seats.items ≡ 32
  pub refused : (n : ℕ) → n < 32 → sum_by (λ seat. refused_at seat n) closed.seats.items ≡ refused_in carried.dones n

-- What such phases leave is told and handed on; or memory for the text was wanting.
abbrev pub TellsCarried : Bool → Closed → Numbers → Left → Held → Held → Type 0
TellsCarried with_journals closed numbers left sink sink' =
    ((left.journals ≡ closed.journals) × (left.chunks ≡ Some closed.chunks) × TellsWhole (summary_text closed.journals numbers with_journals) 0 left.status sink sink'
    × (IsTrue with_journals → AllByRecursion AreReadAgain closed.journals)) ⊎ LacksMemory left sink sink'

-- what a run of phases over a shelf does
abbrev pub RunsPhases : Bool → Phases → Shelf → Shelf → Left → Held → Held → Type 0
RunsPhases with_journals phases shelf shelf' left sink sink' = HasCarried with_journals phases shelf shelf' left sink sink' ⊎ LacksMemory left sink sink'

-- what a run of threads does
abbrev pub Runs : Bool → Option (List ℕ) → Bool → ℕ → ℕ → Shelf → Shelf → Left → Held → Held → Type 0
Runs with_journals input ended faults faults' shelf shelf' left sink sink' =
    HasRun with_journals input ended shelf shelf' left sink sink' ⊎ (TellsBad input ended shelf shelf' left sink sink'
    ⊎ (FailsReading faults faults' shelf shelf' left sink sink' ⊎ LacksMemory left sink sink'))
