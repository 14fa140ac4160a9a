-- How many turns that take no memory a call may still make before its next one that does.
use Rattle.std.specs.Prelude.{◌≡◌, ℕ, ◌+◌, ◌-◌, ◌*◌, ◌<◌, ◌≤◌, ◌==◌, Bool, false, length, filter, max, if◌then◌else◌}
use Rattle.space_model.specs.declared.Op.TheVariants.{Back}
use Rattle.space_model.specs.Step.{is_emptied, staying}
use Rattle.call_plan.specs.Words.{Item, TurnPoint, Landing, Finding, Offering, AskPoint, Skipping, Trimming, Growing, SplittingGrown, GrowingExactly, SplittingExact, Committing, Merging, PurgingLazily, Returning, Decommitting, Forcing, Cutting, Extending, Sparing, Backing, Joining, Point, Turns, Asks, Tells, Next, Go, Op, Space, Sound, Mine, mine}
use Rattle.call_plan.specs.Table.{Want, WantTurn, WantAsk, want, step, is_marked}
use Rattle.call_plan.specs.Knows.{Knows}
use Rattle.call_plan.specs.Laws.{Moves}

-- ---- what is needed

-- the looks for a neighbour that are still to come, and a merge before each but the first
abbrev pub looks_to_come : ℕ → ℕ
looks_to_come tries = if tries == 0 then 5 else if tries == 1 then 3 else 1

-- the turns of a purge that may still come, with those by which the extent is put down after it
abbrev pub purge_to_come : Bool → ℕ
purge_to_come fresh = if fresh then 10 else 0

-- the turns without memory from a point of a turn on, where the client has so many extents in flight: none where this very
-- turn takes memory
abbrev pub needed_turn : ℕ → TurnPoint → ℕ
needed_turn flights (Landing wish span) = 1
needed_turn flights (Finding own tries fresh later) = 16 * (flights - 1) + looks_to_come tries + purge_to_come fresh
needed_turn flights (Offering span later) = 16 * (flights - 1) + 9
needed_turn flights point = 0

-- likewise from a point of an ask on
abbrev pub needed_ask : ℕ → AskPoint → ℕ
needed_ask flights (Skipping wish span is_committed skip) = 6
needed_ask flights (Trimming wish span is_committed) = 5
needed_ask flights (Growing wish chunks) = 6
needed_ask flights (SplittingGrown wish span is_committed) = 5
needed_ask flights (GrowingExactly wish) = 4
needed_ask flights (SplittingExact wish span is_committed) = 3
needed_ask flights (Committing wish span) = 2
needed_ask flights (Merging low high own_low fresh later) = 16 * (flights - 2) + 1 + (if own_low then 3 else 1) + purge_to_come fresh
needed_ask flights (PurgingLazily span later) = 16 * (flights - 1) + 10
needed_ask flights (Returning span later) = 16 * flights + 8
needed_ask flights (Decommitting span later) = 16 * (flights - 1) + 7
needed_ask flights (Forcing span later) = 16 * (flights - 1) + 6
needed_ask flights (Cutting resize) = 16
needed_ask flights (Extending resize) = 16
needed_ask flights (Sparing resize span is_committed) = 3
needed_ask flights (Backing resize span) = 2
needed_ask flights (Joining resize span) = 1

-- the turns without memory from a point on
abbrev pub needed_at : ℕ → Point → ℕ
needed_at flights (Turns point) = needed_turn flights point
needed_at flights (Asks point heard) = needed_ask flights point
needed_at flights (Tells span is_committed) = 0

-- and where a call goes next: where it goes over to another arena, a turn that takes memory comes first
abbrev pub needed_next : ℕ → Next → ℕ
needed_next flights (Go point) = needed_at flights point
needed_next flights next = 0

-- how many extents are in flight of what a client owns
abbrev pub flying : Mine → ℕ
flying m = length m.flights

-- ---- what is there

-- how many extents an operation empties: only a return does
abbrev pub empties : ℕ → Op → Space → ℕ
empties c (Back addrs) s = length (filter (is_emptied (staying c addrs s.regions)) s.parts)
empties c op s = 0

-- how many turns without memory a client may make after a turn, if it might make so many before: one that takes memory makes
-- room for 16 more, or for 16 by each extent that it empties, and any other uses one up
abbrev pub room_then : ℕ → Space → ℕ → Op → ℕ
room_then c s room op = if is_marked op then max (max room 16) (16 * empties c op s) else room - 1

-- the room is enough for what is wanted, and what is left of it for what comes after
abbrev pub Suffices : ℕ → Space → Space → ℕ → Want → Next → Type 0
Suffices c s t room (WantTurn op asked) next = (is_marked op ≡ false → 0 < room) × (needed_next (flying (mine c t)) next ≤ room_then c s room op)
Suffices c s t room (WantAsk ask) next = needed_next (flying (mine c t)) next ≤ room

-- whoever has the room that is needed at a point has it for its turn there, and wherever it goes
abbrev pub RoomsSuffice : Type 0
RoomsSuffice = (c : ℕ) (s t : Space) (point : Point) (item : Item) (room : ℕ) → Sound s → Knows (mine c s) point
    → Moves c s (want point) item t → needed_at (flying (mine c s)) point ≤ room → Suffices c s t room (want point) (step point item)
