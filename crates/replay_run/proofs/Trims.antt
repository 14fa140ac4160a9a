-- No trim outlives its call: a client without an open call has none, since the heap is sound.
use Rattle.replay_run.proofs.Words.{◌≡◌, ℕ, false, List, [], ◌∷◌, Option, None, Some, CallFacts, DeskFacts, Record, HasSoundHeap, AllWorlds, WorldEvent, World, after_event, record_at, seat_at, IsSeated}
use Rattle.space_model.specs.Clients.{is_in}
use Rattle.replay_run.specs.Leaving.{HasNoTrims, NoTrimsOpen}

resting : (records : List Record) (c : ℕ) (desk : DeskFacts) (call : Option CallFacts) → IsSeated records c desk call → call ≡ None → (i : ℕ) → is_in c (record_at records i).space.trims ≡ false
resting records c desk None seated e i = (seated.idle i).calm.1
resting records c desk (Some call) seated e i = absurd (cc)

untrimmed : (w : World) → HasSoundHeap w → HasNoTrims w
untrimmed w sound c there rests i = resting w.heap.records c (seat_at w.heap.seats c).desk (seat_at w.heap.seats c).call (sound.seats c there) rests i

each : (w : World) (events : List WorldEvent) → AllWorlds HasSoundHeap w events → AllWorlds HasNoTrims w events
each w [] sound = untrimmed w sound
each w (event ∷ events) (here, more) = (untrimmed w here, each (after_event w event) events more)

pub no-trims_open : NoTrimsOpen
no-trims_open events play sound = each _ events sound
