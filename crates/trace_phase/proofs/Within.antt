-- The limits that parts keep to.
use Rattle.std.proofs.Common.{◌≡◌, ℕ, zero, suc, ◌+◌, ◌^◌, ◌<◌, ◌≤◌, Bool, true, false, eqb, List, [], ◌∷◌, ◌++◌, length, get_or, Option, None, Some, refl, arith}
use Rattle.std.specs.List.{All, AllByRecursion}
use Rattle.trace_text.specs.Grammar.{IsVerbWithinLimits, IsWithinLimits}
use Rattle.trace_text.specs.declared.lines.Line.{Line}
use Rattle.trace_text.specs.declared.lines.Line.TheVariants as line
use Rattle.trace_text.specs.declared.lines.Verb.{Verb}
use Rattle.trace_text.specs.declared.lines.Verb.TheVariants as verb
use Rattle.trace_phase.specs.Limits.{IsCallWithinLimits, IsPartWithinLimits, PartsKeepLimits}
use Rattle.trace_phase.specs.Parts.{first_work, phase_call, setting_call, with_call}
use Rattle.trace_phase.specs.Rule.{after, after_all, called, joined, named, opening, phase_called, setting_called}
use Rattle.trace_phase.specs.declared.course.Course.{Course}
use Rattle.trace_phase.specs.declared.course.OpenPhase.{OpenPhase}
use Rattle.trace_phase.specs.declared.parts.NumberedLine.{NumberedLine}
use Rattle.trace_phase.specs.declared.parts.Part.{Part}
use Rattle.trace_phase.specs.declared.parts.Part.TheVariants as part
use Rattle.trace_phase.specs.declared.parts.PhaseCall.{PhaseCall}
use Rattle.trace_phase.specs.declared.parts.SettingCall.{SettingCall}
use Rattle.trace_phase.specs.declared.parts.Work.{Work}

-- what is so of each line, one behind the other
each : {X : Type 0} (P : X → Type 0) (xs : List X) → All P xs → AllByRecursion P xs
each P [] all = tt
each P (x ∷ xs) all = (all 0 x (omega arith), each P xs (λ k d lt. all (suc k) d (omega (arith, lt))))

abbrev AreWithin : List Work → Type 0
AreWithin works = AllByRecursion (λ (work : Work). work.client < 32) works

abbrev IsOpenWithin : Option OpenPhase → Type 0
IsOpenWithin None = Unit {0}
IsOpenWithin (Some current) = (current.phase.rounds ≤ 1000) × AreWithin current.phase.works

abbrev IsCourseWithin : Course → Type 0
IsCourseWithin course = AllByRecursion IsPartWithinLimits course.parts × IsOpenWithin course.current

works_within : (client : ℕ) (call : PhaseCall) → client < 32 → (works : List Work) → AreWithin works → AreWithin (with_call client call works)
works_within client call lt [] within = (lt, tt)
works_within client call lt (w ∷ ws) within = by (eqb w.client client) refl (works_within client call lt ws within.1)
  where
    by : (b : Bool) → eqb w.client client ≡ b → AreWithin (with_call client call ws) → AreWithin (with_call client call (w ∷ ws))
    by true is later = rw is within
    by false is later = rw is (within.0, later)

all_push : (parts : List Part) (p : Part) → AllByRecursion IsPartWithinLimits parts → IsPartWithinLimits p → AllByRecursion IsPartWithinLimits (parts ++ p ∷ [])
all_push [] p all one = (one, tt)
all_push (q ∷ parts) p all one = (all.0, all_push parts p all.1 one)

abbrev IfSetting : Option SettingCall → Type 0
IfSetting None = Unit {0}
IfSetting (Some call) = IsCallWithinLimits call

setting_within : (said : Verb) → IsVerbWithinLimits said → IfSetting (setting_call said)
setting_within (verb.Create box_no) within = within
setting_within (verb.Time arena rest ms) within = within
setting_within (verb.Bind arena) within = within
setting_within (verb.Cache is_on) within = tt
setting_within (verb.Malloc name size) within = tt
setting_within (verb.Memalign name align size) within = tt
setting_within (verb.Realloc name size) within = tt
setting_within (verb.Free target) within = tt
setting_within (verb.Publish target) within = tt
setting_within (verb.Take target) within = tt
setting_within (verb.Purge arena) within = tt
setting_within (verb.Decay arena) within = tt
setting_within (verb.Reset arena) within = tt
setting_within (verb.Destroy arena) within = tt
setting_within verb.Flush within = tt
setting_within (verb.MallocIn name size slot) within = tt
setting_within (verb.FreeIn region slot) within = tt
setting_within (verb.CtlPlain name) within = tt
setting_within (verb.CtlWrite name value) within = tt

call_within : (course : Course) (client : ℕ) (said : Verb) (current : Option OpenPhase) → client < 32 → IsVerbWithinLimits said → IsCourseWithin course → IsOpenWithin current → IsCourseWithin (called course current client said)
call_within course client said None lt within so opens = by (setting_call said) (setting_within said within)
  where
    by : (call : Option SettingCall) → IfSetting call → IsCourseWithin (setting_called course client call)
    by None some = so
    by (Some call) some = (all_push course.parts _ so.0 (lt, some), so.1)
call_within course client said (Some current) lt within so opens = by (phase_call said)
  where
    by : (call : Option PhaseCall) → IsCourseWithin (phase_called course current client call)
    by None = so
    by (Some call) = (so.0, (opens.0, works_within client call lt current.phase.works opens.1))

join_within : (course : Course) (current : Option OpenPhase) → IsCourseWithin course → IsOpenWithin current → IsCourseWithin (joined course current)
join_within course None so opens = so
join_within course (Some current) so opens = (all_push course.parts (part.Phase current.phase) so.0 opens, tt)

line_within : (course : Course) (number : ℕ) (said : Line) → IsWithinLimits said → IsCourseWithin course → IsCourseWithin (after course number said)
line_within course number line.Blank within so = so
line_within course number (line.At moment) within so = so
line_within course number (line.Refuse box_no kind nth) within so = (all_push course.parts _ so.0 within, so.1)
line_within course number (line.Phase rounds) within so = (so.0, (within, tt))
line_within course number line.Join within so = join_within course course.current so so.1
line_within course number (line.Call client said) within so = call_within (named course client) client said course.current within.0 within.1 so so.1
line_within course number (line.Start client said) within so = so
line_within course number (line.Step client) within so = so
line_within course number (line.End client) within so = so
line_within course number (line.Counts arena) within so = so

lines_within : (course : Course) (lines : List NumberedLine) → AllByRecursion (λ (l : NumberedLine). IsWithinLimits l.line) lines → IsCourseWithin course → AllByRecursion IsPartWithinLimits (after_all course lines).parts
lines_within course [] within so = so.0
lines_within course (l ∷ lines) within so = lines_within (after course l.number l.line) lines within.1 (line_within course l.number l.line within.0 so)

pub parts_within : PartsKeepLimits
parts_within lines within = lines_within opening lines (each (λ (l : NumberedLine). IsWithinLimits l.line) lines within) (tt, tt)
