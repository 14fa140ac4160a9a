-- A soak: given lines are carried out as a play from the opening world, of which only the end is printed.
use Rattle.std.specs.Prelude.{length, ◌≡◌, ◌⊎◌, ℕ, List, [], ◌++◌, Option}
use Rattle.edge_io.specs.Bytes.{Appends, AppendsPrefix}
use Rattle.hook_api.specs.Asked.{AskFacts}
use Rattle.hook_api.specs.Shelf.{Shelf}
use Rattle.hook_api.specs.declared.kept.Journal.{Journal}
use Rattle.report_text.specs.Lines.{calls_line}
use Rattle.trace_text.specs.declared.lines.Line.{Line}
use Rattle.replay_run.specs.Plays.{WorldEvent, lines_in, world_after}
use Rattle.replay_run.specs.Replays.{IsComplete, RunOf}
use Rattle.replay_run.specs.World.{World, closing, opening_world}

-- what is printed of a soak of so many calls: the counts of the live arenas, and how many calls answered Ok and how many otherwise
abbrev pub soak_text : ℕ → World → List ℕ
soak_text calls w = closing w.heap ++ calls_line calls w.tally.good w.tally.failed

-- every given line was carried out
abbrev pub IsThrough : World → List Line → Type 0
IsThrough w rest = (rest ≡ []) × IsComplete w

-- What was printed where a soak ends with a status is nothing, or, behind the last line, the beginning of its text; it is the
-- whole text at status 0, and then every line was carried out.
pub record PrintsSoak (status calls : ℕ) (w : World) (rest : List Line) (before after : Option (List ℕ)) : Type 0 where
  pub beginning : Appends before after [] ⊎ (IsThrough w rest × AppendsPrefix before after (soak_text calls w))
  pub whole : status ≡ 0 → IsThrough w rest × Appends before after (soak_text calls w)

-- Events were carried out whose lines are the first of those given, and the rest of them was not; what was printed is as the
-- status says.
pub record SoakOf (status : ℕ) (lines : List Line) (journals : List Journal) (heard : List AskFacts) (shelf_before shelf_after : Shelf)
    (before after : Option (List ℕ)) : Type 0 where
  pub events : List WorldEvent
  pub ran : RunOf journals heard shelf_before shelf_after events
  pub rest : List Line
  pub given : lines ≡ lines_in events ++ rest
  pub prints : PrintsSoak status (length lines) (world_after opening_world events) rest before after

-- the statuses with which a soak ends
abbrev pub IsSoakStatus : ℕ → Type 0
IsSoakStatus status = (status ≡ 0) ⊎ (status ≡ 5) ⊎ (status ≡ 6)
