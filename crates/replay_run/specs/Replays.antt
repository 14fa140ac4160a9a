-- A replay, as a play from the opening world.
use Rattle.std.specs.Prelude.{length, map, ◌+◌, ◌≤◌, ◌≡◌, ◌≢◌, ◌⊎◌, ℕ, Bool, true, List, [], ◌++◌, Option, Some}
use Rattle.edge_io.specs.Bytes.{Appends, AppendsPrefix, Consumes, IsAtEnd}
use Rattle.hook_api.specs.Asked.{AskFacts}
use Rattle.hook_api.specs.Chain.{Chain}
use Rattle.hook_api.specs.Shelf.{Shelf}
use Rattle.hook_api.specs.declared.kept.Journal.{Journal}
use Rattle.heap_core.specs.Arenas.{journal_of}
use Rattle.report_text.specs.declared.causes.Cause.{Cause}
use Rattle.report_text.specs.declared.causes.Cause.TheVariants.{Cut}
use Rattle.report_text.specs.Lines.{bad_line, newline}
use Rattle.heap_core.specs.Heaps.{HeapFacts}
use Rattle.heap_stats.specs.Json.{json_text}
use Rattle.trace_text.specs.Lines.{HasNoNewline}
use Rattle.replay_run.specs.declared.replays.Closing.{Closing}
use Rattle.replay_run.specs.declared.replays.Closing.TheVariants.{Lines, Json}
use Rattle.replay_run.specs.Counts.{all_counts}
use Rattle.replay_run.specs.Causes.{byte_limit, cause_of, first_line, has_newline, line_limit, status_of}
use Rattle.replay_run.specs.Input.{ReadsTo}
use Rattle.replay_run.specs.Plays.{AllWorlds, WorldEvent, HasSoundHeap, IsPlay, asks_among, lines_in, shelf_events, world_after}
use Rattle.replay_run.specs.World.{Nothing, World, closing, opening_world}

-- nothing is waited for: the lines so far were carried out
abbrev pub IsComplete : World → Type 0
IsComplete w = w.awaits ≡ Nothing

-- Some bytes are left, and what stands first among them is a line that has this cause at the moment, the first that holds; it is
-- cut only where the source has met its end.
pub record IsBadLine (now number : ℕ) (rest : List ℕ) (met : Bool) (cause : Cause) : Type 0 where
  pub some : rest ≢ []
  pub why : cause_of now number (first_line rest) (has_newline rest) ≡ Some cause
  pub cut : cause ≡ Cut → met ≡ true

-- what stands last in a report: the counts of all live arenas, or the first bad line, or neither
pub data Ending : Type 0 where
  Whole : Ending
  Bad : Cause → Ending
  Open : Ending

-- the counts of the live arenas as one line of JSON
abbrev pub json_line : HeapFacts → List ℕ
json_line h = json_text (all_counts h.records) ++ newline

-- the counts of the live arenas at the end of a replay, told in this form
abbrev pub closing_in : Closing → HeapFacts → List ℕ
closing_in Lines h = closing h
closing_in Json h = json_line h

-- its text, behind so many lines, where the counts are told in this form
abbrev pub ending_text : Closing → World → ℕ → Ending → List ℕ
ending_text form w count Whole = closing_in form w.heap
ending_text form w count (Bad cause) = bad_line (count + 1) cause
ending_text form w count Open = []

-- An ending is right where so many lines were carried out and these bytes are left of those that were taken: the counts where
-- none is left and the source has met its end, and a bad line where the next one is bad.
abbrev pub IsEnding : World → ℕ → List ℕ → Option (List ℕ) → Bool → Ending → Type 0
IsEnding w count rest left met Whole = IsComplete w × (rest ≡ []) × IsAtEnd left × (met ≡ true)
IsEnding w count rest left met (Bad cause) = IsComplete w × IsBadLine w.moment (count + 1) rest met cause
IsEnding w count rest left met Open = Unit {0}

-- No limit is passed where so many lines were carried out, and these bytes without a newline are left of those that were taken:
-- they are no more than a line may have, and there are none behind the last line that a trace may have.
abbrev pub IsWithinTrace : ℕ → List ℕ → Type 0
IsWithinTrace count rest = (length rest ≤ byte_limit) × (count ≡ line_limit → rest ≡ [])

-- What was printed where a replay ends with a status is the beginning of a report: the text of the play and its ending. It is
-- the whole report at status 0, with the counts; at status 3 and 7, with the bad line whose cause has that status; and at
-- status 4, without an ending, where all lines that were taken whole were carried out, and no limit was passed.
pub record Prints (form : Closing) (status : ℕ) (w : World) (count : ℕ) (rest : List ℕ) (ending : Ending) (before after : Option (List ℕ)) : Type 0 where
  pub beginning : AppendsPrefix before after (w.text ++ ending_text form w count ending)
  pub whole : status ≡ 0 → (ending ≡ Whole) × Appends before after (w.text ++ ending_text form w count ending)
  pub refused : status ≡ 3 → (cause : Cause) × (ending ≡ Bad cause) × (status_of cause ≡ 3) × Appends before after (w.text ++ ending_text form w count ending)
  pub limited : status ≡ 7 → (cause : Cause) × (ending ≡ Bad cause) × (status_of cause ≡ 7) × Appends before after (w.text ++ ending_text form w count ending)
  pub cut_off : status ≡ 4 → (ending ≡ Open) × IsComplete w × HasNoNewline rest × Appends before after w.text
  pub within : status ≡ 4 → IsWithinTrace count rest

-- What was carried out is a play from the opening world, each world of which is sound: the journals are those of its last
-- world, its asks are all that was heard, and what it did to the shelf leads from the shelf before to that after.
pub record RunOf (journals : List Journal) (heard : List AskFacts) (shelf_before shelf_after : Shelf) (events : List WorldEvent) : Type 0 where
  pub play : IsPlay opening_world events
  pub sound : AllWorlds HasSoundHeap opening_world events
  pub in_journals : map journal_of (world_after opening_world events).heap.records ≡ journals
  pub hears : asks_among events ≡ heard
  pub chain : Chain shelf_before (shelf_events events) shelf_after

-- Events were carried out whose lines are those at the beginning of the bytes that were taken, and what stands behind them and
-- what was printed is as the status says, with the counts in this form.
pub record ReplayOf (form : Closing) (status : ℕ) (journals : List Journal) (heard : List AskFacts) (shelf_before shelf_after : Shelf)
    (met : Bool) (left_before left before after : Option (List ℕ)) : Type 0 where
  pub events : List WorldEvent
  pub ran : RunOf journals heard shelf_before shelf_after events
  pub taken : List ℕ
  pub takes : Consumes left_before left taken
  pub rest : List ℕ
  pub reads : ReadsTo (lines_in events) taken rest
  pub few : length (lines_in events) ≤ line_limit
  pub ending : Ending
  pub ends : IsEnding (world_after opening_world events) (length (lines_in events)) rest left met ending
  pub prints : Prints form status (world_after opening_world events) (length (lines_in events)) rest ending before after

-- Nothing was done for want of memory: nothing was taken of a source, the shelf was asked nothing, nothing was heard, and nothing
-- was printed.
pub record DoesNothing (status : ℕ) (heard : List AskFacts) (shelf_before shelf_after : Shelf) (left_before left before after : Option (List ℕ)) : Type 0 where
  pub memory : status ≡ 6
  pub unheard : heard ≡ []
  pub unasked : shelf_after ≡ shelf_before
  pub untaken : left ≡ left_before
  pub unprinted : after ≡ before

-- the journals of the run are handed out, or none where that is so, as that nothing was done
abbrev pub HandsOut : List Journal → List Journal → Type 0 → Type 0
HandsOut journals journals' nothing = (journals' ≡ journals) ⊎ ((journals' ≡ []) × nothing)
