-- What a turn of a client finds, and what it leaves.
use Rattle.std.specs.Prelude.{◌≡◌, ℕ, ◌<◌, List, Option}
use Rattle.std.specs.declared.snapshot.Snapshot.{Snapshot}
use Rattle.space_model.specs.declared.spaces.Space.{Space}
use Rattle.space_model.specs.Own.{mine}
use Rattle.space_model.specs.Step.{space_after, reply_to}
use Rattle.arena_core.specs.Arenas.{entry_of, room_after}
use Rattle.call_plan.specs.Laws.{with_found}
use Rattle.turn_lock.specs.declared.machine.Machine.{Ghosts}
use Rattle.turn_lock.specs.declared.lock.TurnLock.{TurnLock}
use Rattle.turn_lock.specs.declared.lock.Pass.{Pass}
use Rattle.turn_lock.specs.declared.view.Turn.{Turn}
use Rattle.turn_lock.specs.History.{replay_turns}
use Rattle.turn_lock.specs.Locks.{first, number, own_known, seen}
use Rattle.deeds.specs.declared.deeds.Deed.{Deed}
use Rattle.deeds.specs.declared.deeds.Doing.{Doing}
use Rattle.deeds.specs.declared.deeds.Told.{Told}
use Rattle.heap_shared.specs.Claims.{IsElsewhere, wanted}
use Rattle.heap_shared.specs.Shared.{Facts, MayStand, Owned, after_entry, owned_by}

module _ {M : Type 0} where
  -- the space after a history
  abbrev pub space_of_history : TurnLock M Facts Doing (Snapshot Deed) Told Owned → List (Turn (Snapshot Deed)) → Space
  space_of_history lock log = (replay_turns after_entry (first lock) log).arena.space

  module _ {g : Ghosts M Facts Doing (Snapshot Deed) Told Owned} where
    -- an operation may stand by what the pass knows of its client
    abbrev pub PassMay : TurnLock M Facts Doing (Snapshot Deed) Told Owned → Pass M Facts Doing (Snapshot Deed) Told Owned g → Doing → Type 0
    PassMay lock pass doing = MayStand (own_known after_entry owned_by lock pass) doing

  -- a turn of a client, whose pass is `old` before it and `new` after it
  pub record Turned {g : Ghosts M Facts Doing (Snapshot Deed) Told Owned} (lock : TurnLock M Facts Doing (Snapshot Deed) Told Owned) (old new : Pass M Facts Doing (Snapshot Deed) Told Owned g) (doing : Doing) (told : Told) : Type 0 where
    pub before : List (Turn (Snapshot Deed))
    -- the entry made is the operation given, with the chunk that was found in another arena, if one was: one of the range that
    -- the operation takes, which no extent of this arena meets
    pub chunk : Option ℕ
    pub elsewhere : IsElsewhere (wanted doing.op) (space_of_history lock before) chunk
    -- the client owns what it owned after its last turn, whatever others did since
    pub found : mine (number old) (space_of_history lock before) ≡ mine (number old) (space_of_history lock (seen old))
    -- the reply is that of the step of one arena, beside the box that the arena asks then, and the pass knows what the client owns
    -- then
    pub reply : told.reply ≡ reply_to (space_of_history lock before) (entry_of (number old) (with_found chunk doing.op))
    pub box : told.box_no ≡ (space_after (space_of_history lock before) (entry_of (number old) (with_found chunk doing.op))).box_no
    pub left : mine (number old) (space_of_history lock (seen new)) ≡ mine (number old) (space_after (space_of_history lock before) (entry_of (number old) (with_found chunk doing.op)))
    -- and it knows how many operations that take no memory the client may make then
    pub room : number old < 32 → (own_known after_entry owned_by lock new).room ≡ room_after (space_of_history lock before) (own_known after_entry owned_by lock old).room (number old) (with_found chunk doing.op)
