-- The lines that a recurrence draws.
use Rattle.std.specs.Prelude.{◌≡◌, ◌==◌, ℕ, zero, suc, ◌+◌, ◌*◌, ◌/◌, ◌%◌, ◌^◌, ◌<◌, List, [], ◌∷◌, ◌++◌, codes, replicate, slice_index_or, slice_set, Option, None, Some, if◌then◌else◌}
use Rattle.std.specs.Fmt.{decimal}
use Rattle.trace_text.specs.declared.lines.Line.{Line}
use Rattle.trace_text.specs.declared.lines.Line.TheVariants.{Call}
use Rattle.trace_text.specs.declared.lines.Ptr.TheVariants.{Name}
use Rattle.trace_text.specs.declared.lines.Verb.{Verb}
use Rattle.trace_text.specs.declared.lines.Verb.TheVariants as verb
use Rattle.trace_soak.specs.declared.draws.Drawn.{Drawn}
use Rattle.trace_soak.specs.declared.draws.Drawn.TheVariants.{Purge, Malloc, Free}

-- ---- what is drawn

-- the member that the recurrence has come to, the owner of each slot, and the number of the last line
pub record State : Type 0 where
  pub member : ℕ
  pub owners : List (Option ℕ)
  pub number : ℕ

-- before the first line no slot has an owner
abbrev pub opening : ℕ → State
opening start = record { member = start; owners = replicate 256 None; number = 0 }

-- the next member of the recurrence
abbrev pub member_after : ℕ → ℕ
member_after member = (member * 6364136223846793005 + 1442695040888963407) % 2 ^ 64

-- what a draw gives that comes to a member
abbrev pub drawn_of : ℕ → ℕ
drawn_of member = member / 2 ^ 33

-- a call, and the state after it
pub record Drawing : Type 0 where
  pub call : Drawn
  pub after : State

-- The call for a slot, behind the draws of a client and of the slot: its owner frees its region, or the client allocates for it
-- and owns it then, where two more draws tell the size.
abbrev pub draws_for : State → ℕ → ℕ → ℕ → Option ℕ → Drawing
draws_for s member client slot (Some owner) =
    record { call = Free owner slot; after = record { member = member; owners = slice_set s.owners slot None; number = s.number + 1 } }
draws_for s member client slot None =
    let power = member_after member in
    let last = member_after power in
    record {
      call = Malloc client slot (1 + drawn_of last % 2 ^ (drawn_of power % 17));
      after = record { member = last; owners = slice_set s.owners slot (Some client); number = s.number + 1 };
    }

-- The next call: every 64th purges, and draws nothing.
abbrev pub draws : State → Drawing
draws s =
    let first = member_after s.member in
    let second = member_after first in
    let slot = drawn_of second % 256 in
    if (s.number + 1) % 64 == 0 then record { call = Purge; after = record s { number = s.number + 1 } }
    else draws_for s second (drawn_of first % 4) slot (slice_index_or s.owners slot None)

-- ---- the lines

-- the name of a slot: the letter n, and its number
abbrev pub slot_name : ℕ → List ℕ
slot_name slot = codes "n" ++ decimal slot

-- the line of a call
abbrev pub line_for : Drawn → Line
line_for Purge = Call 0 (verb.Purge 0)
line_for (Malloc client slot size) = Call client (verb.Malloc (slot_name slot) size)
line_for (Free client slot) = Call client (verb.Free (Name (slot_name slot)))

-- so many lines from a state on
abbrev pub lines_from : ℕ → State → List Line
lines_from zero s = []
lines_from (suc n) s = line_for (draws s).call ∷ lines_from n (draws s).after

-- the first lines, so many, from a start
abbrev pub lines : ℕ → ℕ → List Line
lines start calls = lines_from calls (opening start)

-- ---- what is said of them

-- the client of a call that was drawn is one of the four
abbrev pub IsOfClient : Drawn → Type 0
IsOfClient Purge = Unit {0}
IsOfClient (Malloc client slot size) = client < 4
IsOfClient (Free client slot) = client < 4

-- a malloc, a free or a purge
abbrev pub IsDrawnVerb : Verb → Type 0
IsDrawnVerb (verb.Malloc name size) = Unit {0}
IsDrawnVerb (verb.Free region) = Unit {0}
IsDrawnVerb (verb.Purge arena) = arena < 2 ^ 32
IsDrawnVerb other = ⊥

-- a whole call of a client below 32, which is a malloc, a free or a purge
abbrev pub IsClientCall : Line → Type 0
IsClientCall (Call client verb) = (client < 32) × IsDrawnVerb verb
IsClientCall line = ⊥

-- the first of the lines was taken, and the others are left; or there is none
abbrev pub Takes : Option Line → List Line → List Line → Type 0
Takes None old new = (old ≡ []) × (new ≡ [])
Takes (Some line) old new = old ≡ line ∷ new
