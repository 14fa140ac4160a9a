-- The rule of phases: what the lines of a trace come to, one behind the other, and the first line that can't stand.
use Rattle.std.specs.Prelude.{◌≡◌, ℕ, ◌+◌, ◌==◌, Bool, true, false, not, nat_lt, ◌&&◌, ◌||◌, List, [], ◌∷◌, ◌++◌, Option, None, Some, is_none, is_some, if◌then◌else◌, length, count_by, replicate, slice_index_or, slice_set, Result, Ok, Err}
use Rattle.trace_text.specs.declared.lines.Line.{Line}
use Rattle.trace_text.specs.declared.lines.Line.TheVariants as line
use Rattle.trace_text.specs.declared.lines.Verb.{Verb}
use Rattle.trace_phase.specs.declared.course.Course.{Course}
use Rattle.trace_phase.specs.declared.course.OpenPhase.{OpenPhase}
use Rattle.trace_phase.specs.declared.faults.PhaseCause.{PhaseCause}
use Rattle.trace_phase.specs.declared.faults.PhaseCause.TheVariants.{Clock, Phase, NotJoined}
use Rattle.trace_phase.specs.declared.faults.PhaseFault.{PhaseFault}
use Rattle.trace_phase.specs.declared.faults.PhaseFault.TheVariants.{At, NoMemory}
use Rattle.trace_phase.specs.declared.parts.NumberedLine.{NumberedLine}
use Rattle.trace_phase.specs.declared.parts.Part.TheVariants as part
use Rattle.trace_phase.specs.declared.parts.PhaseCall.{PhaseCall}
use Rattle.trace_phase.specs.declared.parts.Phases.{Phases}
use Rattle.trace_phase.specs.declared.parts.Setting.{Setting}
use Rattle.trace_phase.specs.declared.parts.Setting.TheVariants as setting
use Rattle.trace_phase.specs.declared.parts.SettingCall.{SettingCall}
use Rattle.trace_phase.specs.Names.{call_stands, names_after}
use Rattle.trace_phase.specs.Parts.{phase_call, setting_call, with_call}

-- before the first line
abbrev pub opening : Course
opening = record { moment = 0; current = None; has_background = false; clients = replicate 32 false; names = []; parts = [] }

-- the place that a phase which is open takes among the parts
abbrev pub place_of_phase : Course → ℕ
place_of_phase course = length course.parts

-- ---- what speaks against a line

-- a line that can't stand has this cause
abbrev pub unless_stands : Bool → Option PhaseCause
unless_stands true = None
unless_stands false = Some Phase

-- a call of a client within a phase: only some calls may stand there, and only where the names allow it
abbrev pub phase_call_stands : Course → ℕ → Option PhaseCall → Bool
phase_call_stands course client None = false
phase_call_stands course client (Some call) = call_stands (place_of_phase course) client course.names call

-- a call of a client, within the phase that is open or outside
abbrev pub call_stands_in : Course → ℕ → Verb → Option OpenPhase → Bool
call_stands_in course client verb None = is_some (setting_call verb)
call_stands_in course client verb (Some phase) = phase_call_stands course client (phase_call verb)

-- the client is the worker in the background, since there was a phase with one
abbrev pub is_worker : Course → ℕ → Bool
is_worker course client = course.has_background && client == 31

-- a phase with so many rounds may begin: with a background worker only where no line was one of client 31
abbrev pub phase_stands : Course → ℕ → Bool
phase_stands course rounds = is_none course.current && (rounds == 0 || not (slice_index_or course.clients 31 false))

-- a moment is told again only where it isn't below the last one, and outside phases
abbrev pub moment_cause : Course → ℕ → Option PhaseCause
moment_cause course moment = if nat_lt moment course.moment then Some Clock else unless_stands (is_none course.current)

-- what speaks against a line, if anything does
abbrev pub cause_of : Course → Line → Option PhaseCause
cause_of course line.Blank = None
cause_of course (line.At moment) = moment_cause course moment
cause_of course (line.Refuse box_no kind nth) = unless_stands (is_none course.current)
cause_of course (line.Phase rounds) = unless_stands (phase_stands course rounds)
cause_of course line.Join = unless_stands (is_some course.current)
cause_of course (line.Call client verb) = unless_stands (not (is_worker course client) && call_stands_in course client verb course.current)
cause_of course line = Some Phase

-- ---- what a line comes to

-- one more setting
abbrev pub with_setting : Course → Setting → Course
with_setting course setting = record course { parts = course.parts ++ part.Setting setting ∷ [] }

-- a call of a client outside phases
abbrev pub setting_called : Course → ℕ → Option SettingCall → Course
setting_called course client None = course
setting_called course client (Some call) = with_setting course (setting.Call client course.moment call)

-- the phase that is open, with one more call of a client
abbrev pub with_phase_call : OpenPhase → ℕ → PhaseCall → OpenPhase
with_phase_call current client call = record current { phase = record current.phase { works = with_call client call current.phase.works } }

-- a call of a client within the phase that is open
abbrev pub phase_called : Course → OpenPhase → ℕ → Option PhaseCall → Course
phase_called course current client None = course
phase_called course current client (Some call) =
    record course { current = Some (with_phase_call current client call); names = names_after (place_of_phase course) client course.names call }

-- a call of a client, within the phase that is open or outside
abbrev pub called : Course → Option OpenPhase → ℕ → Verb → Course
called course None client verb = setting_called course client (setting_call verb)
called course (Some current) client verb = phase_called course current client (phase_call verb)

-- a client has had a line
abbrev pub named : Course → ℕ → Course
named course client = record course { clients = slice_set course.clients client true }

-- a phase begins with a line of this number
abbrev pub begun : Course → ℕ → ℕ → Course
begun course number rounds =
    record course {
      has_background = course.has_background || not (rounds == 0);
      current = Some (record { line = number; phase = record { moment = course.moment; rounds = rounds; works = [] } });
    }

-- the phase that is open is over
abbrev pub joined : Course → Option OpenPhase → Course
joined course None = course
joined course (Some current) = record course { current = None; parts = course.parts ++ part.Phase current.phase ∷ [] }

-- what the lines come to with one more
abbrev pub after : Course → ℕ → Line → Course
after course number (line.At moment) = record course { moment = moment }
after course number (line.Refuse box_no kind nth) = with_setting course (setting.Refuse box_no kind nth)
after course number (line.Phase rounds) = begun course number rounds
after course number line.Join = joined course course.current
after course number (line.Call client verb) = called (named course client) course.current client verb
after course number line = course

-- what they come to with some more
abbrev pub after_all : Course → List NumberedLine → Course
after_all course [] = course
after_all course (line ∷ lines) = after_all (after course line.number line.line) lines

-- ---- the first line that can't stand

-- a fault of the line with this number, where there is a cause
abbrev pub fault_of : ℕ → Option PhaseCause → Option (ℕ × PhaseCause)
fault_of number None = None
fault_of number (Some cause) = Some (number, cause)

-- the first of two faults
abbrev pub first_of : Option (ℕ × PhaseCause) → Option (ℕ × PhaseCause) → Option (ℕ × PhaseCause)
first_of (Some fault) later = Some fault
first_of None later = later

-- at the end of the lines: a phase that isn't joined is bad by the line that began it
abbrev pub closing_fault : Option OpenPhase → Option (ℕ × PhaseCause)
closing_fault None = None
closing_fault (Some current) = Some (current.line, NotJoined)

-- the first line that can't stand, by its number, and the cause; where every line can, the phase that isn't joined
abbrev pub first_fault : Course → List NumberedLine → Option (ℕ × PhaseCause)
first_fault course [] = closing_fault course.current
first_fault course (line ∷ lines) =
    first_of (fault_of line.number (cause_of course line.line)) (first_fault (after course line.number line.line) lines)

-- the first line that can't stand among lines behind which others come
abbrev pub misplaced : Course → List NumberedLine → Option (ℕ × PhaseCause)
misplaced course [] = None
misplaced course (line ∷ lines) =
    first_of (fault_of line.number (cause_of course line.line)) (misplaced (after course line.number line.line) lines)

-- ---- what all lines come to

-- how many clients are named, the worker in the background among them
abbrev pub client_count : Course → ℕ
client_count course = count_by (λ b. b) course.clients + (if course.has_background then 1 else 0)

-- what it all came to
abbrev pub phases_in : Course → Phases
phases_in course = record { parts = course.parts; clients = client_count course }

-- what the lines of a trace come to
abbrev pub phases_of : List NumberedLine → Phases
phases_of lines = phases_in (after_all opening lines)

-- a fault that was told is the first one, unless memory was wanting
abbrev pub Tells : PhaseFault → Option (ℕ × PhaseCause) → Type 0
Tells (At line cause) first = first ≡ Some (line, cause)
Tells NoMemory first = Unit {0}

-- A line was taken in, and the course is the one behind it; or it is told that it can't stand, with its number and the cause.
abbrev pub Takes : Result (Unit {0}) PhaseFault → Course → ℕ → Line → Course → Type 0
Takes (Ok u) old number line new = (cause_of old line ≡ None) × (new ≡ after old number line)
Takes (Err fault) old number line new = Tells fault (fault_of number (cause_of old line))

-- the same for a call of a client, by whether it stands and by the course behind it
abbrev pub TakesCall : Result (Unit {0}) PhaseFault → ℕ → Bool → Course → Course → Type 0
TakesCall (Ok u) number stands behind new = (stands ≡ true) × (new ≡ behind)
TakesCall (Err fault) number stands behind new = Tells fault (fault_of number (unless_stands stands))
