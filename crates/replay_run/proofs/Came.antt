-- A play that goes on by an event, and where it ends.
use Rattle.replay_run.proofs.Words.{arith, length, length-append, ◌+◌, ◌≡◌, ◌≤◌, ◌<◌, ℕ, Bool, List, [], ◌∷◌, ◌++◌, Option, Ok, sym, ◌∙◌, ap, subst, append-nil, append_assoc, flat_map-append, fold_push, Consumes-trans, Chain, ShelfEvent, Line, line_of, HasNoNewline, byte_limit, line_limit, ReadsTo, TakesMore, HasRead, Reading, reading, WorldEvent, HasSoundHeap, IsNext, IsSound, after_event, line_in, lines_in, shelf_event, shelf_events, world_after, Reached, Between, Here, Now, Outset, world_at, Awaits, World, opening_world}
use Rattle.replay_run.proofs.LinesRead.{reads_further, reads_one_more}
use Rattle.replay_run.proofs.Plays.{chain_append, last_world, play_push, worlds_push}

-- What an event does to a moment: it can come next, and leads to another moment, at which this is waited for and this text is
-- printed, and it reads the first of the lines that were ahead, or none.
pub record Leads (event : WorldEvent) (awaits : Awaits) (ahead : List Line) (text : List ℕ) (now : Now) (awaits' : Awaits) (ahead' : List Line) (text' : List ℕ) (now' : Now) : Type 0 where
  pub next : IsNext (world_at now text awaits) event
  pub after : after_event (world_at now text awaits) event ≡ world_at now' text' awaits'
  pub sound : IsSound now'.heap
  pub lines : ahead ≡ line_in event ++ ahead'
  pub chain : Chain now.shelf (shelf_event event) now'.shelf

-- a play goes on by one event
pub came_next : {from : Outset} {lines : List Line} {awaits : Awaits} {ahead : List Line} {text : List ℕ} {now : Now} {event : WorldEvent} {awaits' : Awaits} {ahead' : List Line} {text' : List ℕ} {now' : Now} →
    Reached from lines awaits ahead text now → Leads event awaits ahead text now awaits' ahead' text' now' → Reached from lines awaits' ahead' text' now'
came_next {from} {lines} {awaits} {ahead} {text} {now} {event} {awaits'} {ahead'} {text'} {now'} came leads =
    let events : List WorldEvent = came.events ++ event ∷ [] in
    let world : after_event (world_after opening_world came.events) event ≡ world_at now' text' awaits' = ap (λ (w : World). after_event w event) came.here ∙ leads.after in
    let same : lines_in came.events ++ ahead ≡ lines_in events ++ ahead' = rw leads.lines (simp (flat_map-append, append-nil, append_assoc)) in record {
      events = events;
      play = play_push opening_world came.events event came.play (subst (λ (w : World). IsNext w event) (sym came.here) leads.next);
      here = fold_push after_event opening_world came.events event ∙ world;
      sound = worlds_push HasSoundHeap opening_world came.events event came.sound (subst HasSoundHeap (sym world) leads.sound);
      chain = subst (λ (es : List ShelfEvent). Chain from.shelf es now'.shelf)
          (ap (λ (es : List ShelfEvent). shelf_events came.events ++ es) (sym (append-nil (shelf_event event))) ∙ sym (flat_map-append shelf_event came.events (event ∷ [])))
          (chain_append from.shelf now.shelf now'.shelf (shelf_events came.events) (shelf_event event) came.chain leads.chain);
      of_lines = sym same ∙ came.of_lines;
    }

-- the heap of a play is sound
pub came_sound : {from : Outset} {lines : List Line} {awaits : Awaits} {ahead : List Line} {text : List ℕ} {now : Now} → Reached from lines awaits ahead text now → IsSound now.heap
came_sound {from} {lines} {awaits} {ahead} {text} {now} came =
    subst HasSoundHeap came.here (last_world HasSoundHeap opening_world came.events came.sound)

-- what the sink holds is no part of how a play came here
pub came_held : {from : Outset} {lines : List Line} {awaits : Awaits} {ahead : List Line} {text : List ℕ} {now : Now} → Reached from lines awaits ahead text now → (held : Option (List ℕ)) →
    Reached from lines awaits ahead text (record now { held = held })
came_held {from} {lines} {awaits} {ahead} {text} {now} came held =
    record { events = came.events; play = came.play; here = came.here; sound = came.sound; chain = came.chain; of_lines = came.of_lines }

-- one more line is ahead
pub here_ahead : {from : Outset} {lines : List Line} {awaits : Awaits} {now : Now} → Here from lines awaits [] now → (line : Line) → Here from (lines ++ line ∷ []) awaits (line ∷ []) now
here_ahead {from} {lines} {awaits} {now} so line =
    let came = so.came in
    let those : lines_in came.events ≡ lines = sym (append-nil (lines_in came.events)) ∙ came.of_lines in record {
      text = so.text;
      came = record {
        events = came.events;
        play = came.play;
        here = came.here;
        sound = came.sound;
        chain = came.chain;
        of_lines = ap (λ (ls : List Line). ls ++ line ∷ []) those;
      };
      prints = so.prints;
    }

-- ---- what was read

-- more bytes were taken
pub read_more : {left : Option (List ℕ)} {lines : List Line} {count : ℕ} {at : Reading} → HasRead left lines count at → (pending : List ℕ) (left' : Option (List ℕ)) (met : Bool) →
    TakesMore at.pending pending at.left left' → HasRead left lines count (reading pending left' met)
read_more {left} {lines} {count} {at} read pending left' met more = record {
  taken = read.taken ++ more.0;
  takes = Consumes-trans left at.left left' read.taken more.0 read.takes more.1;
  reads = subst (ReadsTo lines (read.taken ++ more.0)) (sym more.2) (reads_further lines read.taken at.pending more.0 read.reads);
  number = read.number;
  few = read.few;
}

-- the pending bytes begin with one more line
pub read_one_more : {left : Option (List ℕ)} {lines : List Line} {count : ℕ} {at : Reading} → HasRead left lines count at → (text behind : List ℕ) (line : Line) → count < line_limit →
    HasNoNewline text → length text ≤ byte_limit → line_of text ≡ Ok line → at.pending ≡ text ++ 10 ∷ behind → HasRead left (lines ++ line ∷ []) (count + 1) (reading behind at.left at.met)
read_one_more {left} {lines} {count} {at} read text behind line below plain short says are = record {
  taken = read.taken;
  takes = read.takes;
  reads = reads_one_more lines read.taken text behind line plain short says (rw are at read.reads);
  number = length-append lines (line ∷ []) ∙ ap (λ (n : ℕ). n + 1) read.number;
  few = omega (arith, below);
}

pub between_read : {from : Outset} {left : Option (List ℕ)} {count : ℕ} {at : Reading} {now : Now} → Between from left count at now → (pending : List ℕ) (left' : Option (List ℕ)) (met : Bool) →
    TakesMore at.pending pending at.left left' → Between from left count (reading pending left' met) now
between_read between pending left' met more = record { lines = between.lines; read = read_more between.read pending left' met more; here = between.here }
