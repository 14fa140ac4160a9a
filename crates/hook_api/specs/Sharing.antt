-- The rule of the locks of a shared shelf.
-- Word i is 0 where the box i is at home in slot i, and else a seat has taken the box.
use Rattle.std.specs.Prelude.{ℕ, ◌≡◌, ◌==◌, ◌+◌, ◌≤◌, ◌<◌, List, length, slice_index, replicate, if◌then◌else◌, Option, Some, None}
use Rattle.std.specs.List.{sum_by}
use mathlib.Core.Option.{some}
use lib.ListN.{get_elem?}
use Rattle.atomic_table.specs.Table.{State}
use Rattle.hook_api.specs.declared.sights.Tally.{Tally}
use Rattle.hook_api.specs.declared.sights.Taken.{Taken}
use Rattle.hook_api.specs.declared.sights.Sight.{Sight}
use Rattle.hook_api.specs.Counts.{capped}
use Rattle.hook_api.specs.Shelf.{BoxState}

-- how often asks of the box i were refused, in one tally
abbrev pub refused_in : ℕ → Tally → ℕ
refused_in i t = slice_index t.refused i

-- and in all tallies of a view
abbrev pub refused_by : ℕ → Sight → ℕ
refused_by i v = sum_by (refused_in i) v.tallies

-- how many clients a seat stands for
abbrev pub clients_of : Sight → ℕ
clients_of v = length v.tallies

-- 1 where what was taken is the box i, and else 0
abbrev pub taken_is : ℕ → Option Taken → ℕ
taken_is i None = 0
taken_is i (Some t) = if t.box_no == i then 1 else 0

-- 1 where the seat has taken the box i, and else 0
abbrev pub takers : ℕ → Sight → ℕ
takers i v = taken_is i v.taken

-- a box that counted `first` refusals at the start and is at `own` counted at least so many since, or stands at the greatest u64
abbrev pub Covers : ℕ → ℕ → ℕ → Type 0
Covers own first refused = capped (first + refused) ≤ own

-- a tally of no refusal
abbrev pub blank : Tally
blank = record { refused = replicate 32 0 }

-- the view of the first seat, which stands for all clients
abbrev pub opening_sight : ℕ → Sight
opening_sight clients = record { taken = None; tallies = replicate clients blank }

-- what a box counted covers the refusals of all seats, whether it is at home or was taken; one seat at most has a box
pub record Rule (own : List ℕ) (clients : ℕ) (s : State BoxState Sight) : Type 0 where
  pub size : length s.words ≡ 32
  pub room : sum_by clients_of s.views ≡ clients
  pub out : (i : ℕ) → sum_by (takers i) s.views ≡ (if slice_index s.words i == 0 then 0 else 1)
  pub home : (i : ℕ) → i < 32 → slice_index s.words i ≡ 0
      → (x : BoxState) × (get_elem? s.homes i ≡ some (some x)) × Covers x.account.refusals (slice_index own i) (sum_by (refused_by i) s.views)
  pub away : (j : ℕ) (v : Sight) (t : Taken) → get_elem? s.views j ≡ some v → v.taken ≡ Some t
      → (0 < clients_of v) × Covers t.own (slice_index own t.box_no) (sum_by (refused_by t.box_no) s.views)
