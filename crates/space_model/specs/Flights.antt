-- How many extents a client has in flight, and how many more or fewer after its operation.
use Rattle.std.specs.Prelude.{ℕ, length, filter, if◌then◌else◌}
use Rattle.std.specs.List.{sum_by}
use Rattle.space_model.specs.Types.{Op, Look, CutDone, GrowDone, CommitDone, Land, Back, PutLook, MergeDone, PurgeTake, Offer, OfferDone, Widen, JoinDone, TrimDone, Reply, Noted, Took, Cut, Whole, Grown, Landed, Next, Beside, Joined, Taken, Kept, Part, Space}
use Rattle.space_model.specs.Part.{is_flight}
use Rattle.space_model.specs.Step.{staying, is_emptied}

-- 1 where the client has the extent in flight
abbrev pub flight : ℕ → Part → ℕ
flight c p = if is_flight c p.state then 1 else 0

-- how many extents the client has in flight
abbrev pub flights : ℕ → Space → ℕ
flights c s = sum_by (flight c) s.parts

-- how many of the client's extents aren't in flight any more after an operation with its reply: those that are put
-- down or offered, that serve regions from then on, or that became one with another
abbrev pub lost : Op → Reply → ℕ
lost (CutDone heard keep_low) Whole = 1
lost (CommitDone heard) Whole = 1
lost (Land span class count) (Landed first n) = 1
lost (PutLook span tries) (Next next) = 1
lost (MergeDone heard own_low) (Joined span) = 1
lost (Offer span) Noted = 1
lost (JoinDone heard class) Whole = 1
lost (JoinDone heard class) (Landed first n) = 1
lost op reply = 0

-- how many extents are in flight of the client since an operation with its reply: those that were found,
-- granted, emptied or cut off
abbrev pub won : ℕ → Space → Op → Reply → ℕ
won c s (Look pages align) (Took span committed skip) = 1
won c s (GrowDone heard found) (Grown span committed) = 1
won c s (Back addrs) reply = length (filter (is_emptied (staying c addrs s.regions)) s.parts)
won c s (PutLook span tries) (Beside other) = 1
won c s (PurgeTake rest keep) (Taken span lazy n) = 1
won c s (OfferDone heard found) Kept = 1
won c s (Widen addr pages) (Took span committed skip) = 1
won c s (TrimDone heard class) (Cut span) = 1
won c s op reply = 0
