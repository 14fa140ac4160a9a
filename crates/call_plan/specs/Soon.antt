-- Calls that end where they begin, or by their first turn.
use Rattle.std.specs.Prelude.{◌≡◌, ◌<◌, ◌≤◌, ◌^◌, ℕ, true, false, Option, None, Some}
use Rattle.call_plan.specs.Runs.{Moment, after, begin, share}
use Rattle.call_plan.specs.Words.{Request, Malloc, Replied, Region, Finished, Answered, Ok, Ends, Reply, Took, Span, Held, DeskFacts, class_for, held_at, hit, is_cacheable}

-- Nothing is in hand or gained, and no explicit cache is in the place of the client's own one.
pub record IsPlain (desk : DeskFacts) : Type 0 where
  pub hand : desk.hand ≡ None
  pub gained : desk.gained ≡ None
  pub swapped : desk.swapped ≡ None

-- at a moment the call has ended with an answer, and its client has this
abbrev pub EndsSo : Moment → Answered → DeskFacts → Type 0
EndsSo at answer desk = (at.stage.next ≡ Ends answer) × (desk ≡ at.desk)

-- a region is the answer
abbrev pub gives_region : ℕ → ℕ → Answered
gives_region addr class = Ok (Region addr class)

-- all is done
abbrev pub all_is_done : Answered
all_is_done = Ok Finished

-- the moment after the reply to the turn with which a request begins
abbrev pub replied_first : Request → DeskFacts → Reply → Moment
replied_first request desk reply = after (begin request desk) (Replied reply)

-- A malloc of so many bytes begins with a turn that looks for one region of a class, or for an extent for it, since none is cached.
pub record Gets (size : ℕ) (desk : DeskFacts) (class : ℕ) : Type 0 where
  pub plain : IsPlain desk
  pub below : class < 121
  pub missed : hit class desk ≡ None
  pub single : share class desk ≡ 1
  pub of_size : class_for size ≡ class
  pub fits : size ≤ 2 ^ 35

-- the moment where it took an extent as a whole
abbrev pub took_whole : ℕ → DeskFacts → Span → Moment
took_whole size desk span = replied_first (Malloc size) desk (Took span true 0)

-- A free of a held region begins with a turn that gives it back alone, since none of its class is cached.
pub record Gives (addr : ℕ) (desk : DeskFacts) (region : Held) : Type 0 where
  pub plain : IsPlain desk
  pub held : held_at addr desk ≡ Some region
  pub uncached : is_cacheable region.class desk ≡ false
