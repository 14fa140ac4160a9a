-- The trace in which the rounds of workers in the background are written out, as calls of client 31. A round is a decay of each
-- live arena, by rising indexes. Arena 0 is live, and so is each that a `create` before the phase answered.
use Rattle.std.specs.Prelude.{ℕ, zero, suc, ◌+◌, ◌==◌, List, [], ◌∷◌, ◌++◌, map, nat_lt, Option, None, Some, if◌then◌else◌}
use Rattle.trace_text.specs.declared.lines.Line.{Line}
use Rattle.trace_text.specs.declared.lines.Line.TheVariants as line
use Rattle.trace_text.specs.declared.lines.Verb.TheVariants as verb
use Rattle.trace_phase.specs.declared.parts.Part.{Part}
use Rattle.trace_phase.specs.declared.parts.Part.TheVariants as part
use Rattle.trace_phase.specs.declared.parts.Phase.{Phase}
use Rattle.trace_phase.specs.declared.parts.PhaseCall.{PhaseCall}
use Rattle.trace_phase.specs.declared.parts.PhaseCall.TheVariants.{Decay}
use Rattle.trace_phase.specs.declared.parts.Setting.TheVariants as setting
use Rattle.trace_phase.specs.declared.parts.SettingCall.TheVariants.{Create}
use Rattle.trace_phase.specs.declared.parts.Work.{Work}
use Rattle.trace_phase.specs.Parts.{with_call}

-- indexes that rise, with one more where it isn't among them
abbrev pub with_index : ℕ → List ℕ → List ℕ
with_index i [] = i ∷ []
with_index i (j ∷ indexes) = if nat_lt i j then i ∷ j ∷ indexes else if i == j then j ∷ indexes else j ∷ with_index i indexes

-- the live arenas with the one that a `create` answered, if it answered one
abbrev pub with_created : List ℕ → Option ℕ → List ℕ
with_created live None = live
with_created live (Some index) = with_index index live

-- so many rounds, as the indexes that are decayed
abbrev pub rounds_over : List ℕ → ℕ → List ℕ
rounds_over live zero = []
rounds_over live (suc rounds) = live ++ rounds_over live rounds

-- ---- by lines

-- the lines of so many rounds
abbrev pub round_lines : List ℕ → ℕ → List Line
round_lines live rounds = map (λ i. line.Call 31 (verb.Decay i)) (rounds_over live rounds)

-- Lines with the rounds written out before each `join`, where these arenas are live, the phase that is open has so many
-- rounds, and the `create` lines to come have these answers.
abbrev pub lines_expanded : List ℕ → ℕ → List (Option ℕ) → List Line → List Line
lines_expanded live rounds answers [] = []
lines_expanded live rounds answers (line.Phase more ∷ lines) = line.Phase more ∷ lines_expanded live more answers lines
lines_expanded live rounds answers (line.Join ∷ lines) = round_lines live rounds ++ line.Join ∷ lines_expanded live 0 answers lines
lines_expanded live rounds (answer ∷ answers) (line.Call client (verb.Create box_no) ∷ lines) =
    line.Call client (verb.Create box_no) ∷ lines_expanded (with_created live answer) rounds answers lines
lines_expanded live rounds answers (other ∷ lines) = other ∷ lines_expanded live rounds answers lines

-- the trace, whose `create` lines have these answers
abbrev pub expanded : List (Option ℕ) → List Line → List Line
expanded answers lines = lines_expanded (0 ∷ []) 0 answers lines

-- ---- by parts

-- what each client does, with some more calls of a client, one behind the other
abbrev pub with_calls : ℕ → List PhaseCall → List Work → List Work
with_calls client [] works = works
with_calls client (call ∷ calls) works = with_calls client calls (with_call client call works)

-- a phase with its rounds written out
abbrev pub with_rounds : List ℕ → Phase → Phase
with_rounds live phase = record phase { works = with_calls 31 (map (λ i. Decay i) (rounds_over live phase.rounds)) phase.works }

-- parts with the rounds written out, where these arenas are live, and the `create` calls to come have these answers
abbrev pub parts_expanded : List ℕ → List (Option ℕ) → List Part → List Part
parts_expanded live answers [] = []
parts_expanded live answers (part.Phase phase ∷ parts) = part.Phase (with_rounds live phase) ∷ parts_expanded live answers parts
parts_expanded live (answer ∷ answers) (part.Setting (setting.Call client moment (Create box_no)) ∷ parts) =
    part.Setting (setting.Call client moment (Create box_no)) ∷ parts_expanded (with_created live answer) answers parts
parts_expanded live answers (other ∷ parts) = other ∷ parts_expanded live answers parts
