-- What callers see of an arena, and the room that its clients have.
use Rattle.std.specs.Prelude.{◌≡◌, ℕ, ◌-◌, ◌*◌, ◌≤◌, ◌==◌, Bool, true, false, List, filter, length, max, slice_index_or, slice_set, Result, OnOk, IfOk, OnErr, if◌then◌else◌}
use Rattle.std.specs.List.{sum_by}
use Rattle.space_model.specs.declared.entries.Entry.{Entry}
use Rattle.space_model.specs.declared.entries.Op.{Op}
use Rattle.space_model.specs.declared.entries.Op.TheVariants.{Look, Back, Fill, Advance, PurgeTake, Publish, TakeOver, Reset, Destroy, DestroyTake, Counts, Set, Widen, Trim}
use Rattle.space_model.specs.declared.entries.Reply.{Reply}
use Rattle.space_model.specs.declared.spaces.Space.{Space}
use Rattle.space_model.specs.Step.{is_emptied, staying, step_of}
use Rattle.space_model.specs.Sound.{Sound}
use Rattle.arena_core.specs.declared.steps.Body.{Body}
use Rattle.arena_core.specs.Indexes.{HasPlaces, space_of}
use Rattle.arena_core.specs.Slabs.{IsBooked}

-- an arena's space, and the room of each client: how many more operations it may make that take no memory
pub record Standing : Type 0 where
  pub space : Space
  pub rooms : List ℕ

-- the room of a client
abbrev pub room_of : ℕ → List ℕ → ℕ
room_of client rooms = slice_index_or rooms client 0

-- the rooms of all clients together
abbrev pub all_rooms : List ℕ → ℕ
all_rooms rooms = sum_by (λ room. room) rooms

-- whether an operation is the first one of a unit, for which memory is taken
abbrev pub opens : Op → Bool
opens (Look pages align) = true
opens (Back addrs) = true
opens (Fill class count) = true
opens (Advance now) = true
opens (PurgeTake rest keep) = true
opens (Publish addr) = true
opens (TakeOver addr) = true
opens (Reset cached) = true
opens (Destroy cached) = true
opens DestroyTake = true
opens Counts = true
opens (Set setting) = true
opens (Widen addr pages) = true
opens (Trim addr class) = true
opens _ = false

-- whether an operation gives regions back
abbrev pub is_return : Op → Bool
is_return (Back addrs) = true
is_return _ = false

-- whether memory may be wanting for the operation itself
abbrev pub may_fail : Op → Bool
may_fail (Fill class count) = true
may_fail Counts = true
may_fail _ = false

-- how many extents are emptied when the client gives regions back
abbrev pub emptied_by_return : ℕ → List ℕ → Space → ℕ
emptied_by_return client addrs s = length (filter (is_emptied (staying client addrs s.regions)) s.parts)

-- how many extents an operation empties: only a return does
abbrev pub emptied_by_op : ℕ → Op → Space → ℕ
emptied_by_op client (Back addrs) s = emptied_by_return client addrs s
emptied_by_op client op s = 0

-- how many regions an operation gives back
abbrev pub given_by : Op → ℕ
given_by (Back addrs) = length addrs
given_by op = 0

-- a client's room after an operation: the first one of a unit makes room for 16 more, a return for 16 by each extent that
-- it empties, and any other operation uses one up
abbrev pub room_after : Space → ℕ → ℕ → Op → ℕ
room_after s room client op = if opens op then max (max room 16) (16 * emptied_by_op client op s) else room - 1

-- the rooms after an operation: that of the client alone changes
abbrev pub rooms_after : Standing → ℕ → Op → List ℕ
rooms_after a client op = slice_set a.rooms client (room_after a.space (room_of client a.rooms) client op)

-- the rooms after room was made for a client: 16, where it had none
abbrev pub rooms_made : ℕ → List ℕ → List ℕ
rooms_made client rooms = if room_of client rooms == 0 then slice_set rooms client 16 else rooms

-- an operation of a client as an entry
abbrev pub entry_of : ℕ → Op → Entry
entry_of client op = record { client = client; op = op }

-- what callers see of the body
abbrev pub standing_of : Body → Standing
standing_of body = record { space = space_of body.indexes; rooms = body.rooms }

-- the indexes have the places that stand ready, which are enough for all rooms
pub record IsReady (body : Body) : Type 0 where
  pub places : HasPlaces body.indexes body.ready
  pub rooms : all_rooms body.rooms ≤ body.ready

-- the space is sound, there are 32 rooms, there are places for all of them, and the slabs are the space's
pub record IsBody (body : Body) : Type 0 where
  pub sound : Sound (space_of body.indexes)
  pub clients : length body.rooms ≡ 32
  pub ready : IsReady body
  pub booked : IsBooked (space_of body.indexes) body.indexes.regions.slabs

-- a body took the step of an operation of a client, or stayed as callers see it where memory was wanting
pub record Turns {E : Type 0} (old new : Body) (client : ℕ) (op : Op) (r : Result Reply E) : Type 0 where
  pub after : OnOk r (space_of new.indexes ≡ (step_of (space_of old.indexes) client op).after)
  pub reply : IfOk r (λ told. told ≡ (step_of (space_of old.indexes) client op).reply)
  pub rooms : OnOk r (new.rooms ≡ rooms_after (standing_of old) client op)
  pub err : OnErr r (standing_of new ≡ standing_of old)
  pub ready : IsReady new
  pub booked : IsBooked (space_of new.indexes) new.indexes.regions.slabs
