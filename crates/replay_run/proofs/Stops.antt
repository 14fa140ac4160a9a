-- Runs that stop, and replays that end.
use Rattle.replay_run.proofs.Words.{arith, length, map, ◌≡◌, ◌<◌, ◌≤◌, ◌≢◌, ◌⊎◌, ℕ, Bool, false, List, [], ◌++◌, eqb, Option, Result, Ok, Err, IfOk, IfErr, OnOk, OnErr, refl, sym, ◌∙◌, ap, subst, append-nil, Appends-trans, All-nil, IsErrAnd, Appends, AppendsPrefix, Consumes, AskFacts, Shelf, Journal, journal_of, Cause, Closing, Line, Stop, ReadFault, line_limit, status_of, IsUnended, ReadsTo, TakesSome, WorldEvent, lines_in, world_after, Bad, Ending, IsEnding, Open, Prints, ReplayOf, RunOf, Whole, ending_text, Reached, Between, EndsHere, GoesOn, Halted, StopOf, HasRead, Now, Outset, Reading, reading, world_at, HasStopCause, status_for, status_in, Awaits, Nothing, World, opening_world}
use Rattle.replay_run.proofs.Asks.{came_asks}
use Rattle.replay_run.proofs.Came.{between_read, came_held}
use Rattle.replay_run.proofs.Endings.{all_of, behind, longer, read_fault, sink_fault, stop_bounds}

-- ---- what a run has done

-- what was carried out where a play came here
pub came_ran : {from : Outset} {lines : List Line} {awaits : Awaits} {ahead : List Line} {text : List ℕ} {now : Now} → (came : Reached from lines awaits ahead text now) →
    RunOf (map journal_of now.heap.records) now.heap.heard from.shelf now.shelf came.events
came_ran {from} {lines} {awaits} {ahead} {text} {now} came = record {
  play = came.play;
  sound = came.sound;
  in_journals = ap (λ (w : World). map journal_of w.heap.records) came.here;
  hears = came_asks came;
  chain = came.chain;
}

-- the lines of its events, where none is ahead
pub came_lines : {from : Outset} {lines : List Line} {awaits : Awaits} {text : List ℕ} {now : Now} → (came : Reached from lines awaits [] text now) → lines_in came.events ≡ lines
came_lines came = sym (append-nil (lines_in came.events)) ∙ came.of_lines

-- the beginning of a text was printed where something other than the source stopped the run
pub stops_after : {from : Outset} {lines : List Line} {awaits : Awaits} {text : List ℕ} {now : Now} → Reached from lines awaits [] text now → (stop : Stop) → status_for stop ≢ 4 →
    AppendsPrefix from.held now.held text → Halted from lines stop now
stops_after {from} {lines} {awaits} {text} {now} came stop other begun = record {
  events = came.events;
  ran = came_ran came;
  of_lines = came_lines came;
  begun = subst (AppendsPrefix from.held now.held) (sym (ap (λ (w : World). w.text) came.here)) begun;
  why = other;
}

-- ---- where a replay ends

-- Events were carried out, and the replay ends here, by what is right of their last world.
ends_by : {form : Closing} {journals : List Journal} {heard : List AskFacts} {shelf_before shelf_after : Shelf} {before after left : Option (List ℕ)} {lines : List Line} {count : ℕ} {at : Reading} {events : List WorldEvent} →
    RunOf journals heard shelf_before shelf_after events → lines_in events ≡ lines → HasRead left lines count at → (status : ℕ) (ending : Ending) →
    IsEnding (world_after opening_world events) count at.pending at.left at.met ending → Prints form status (world_after opening_world events) count at.pending ending before after →
    ReplayOf form status journals heard shelf_before shelf_after at.met left at.left before after
ends_by {lines = lines} {count = count} {at = at} {events = events} ran same read status ending ends prints =
    let number : length (lines_in events) ≡ count = ap length same ∙ read.number in record {
      events = events;
      ran = ran;
      taken = read.taken;
      takes = read.takes;
      rest = at.pending;
      reads = subst (λ (ls : List Line). ReadsTo ls read.taken at.pending) (sym same) read.reads;
      few = omega (arith, number, read.few);
      ending = ending;
      ends = rw number ends;
      prints = rw number prints;
    }

-- A play came to this moment, and the replay ends here, by what is right of its last world.
ends_here : {from : Outset} {left : Option (List ℕ)} {lines : List Line} {count : ℕ} {at : Reading} {awaits : Awaits} {text : List ℕ} {now : Now} → Reached from lines awaits [] text now → HasRead left lines count at → (status : ℕ) (ending : Ending) →
    IsEnding (world_at now text awaits) count at.pending at.left at.met ending → Prints from.form status (world_at now text awaits) count at.pending ending from.held now.held → EndsHere from left status at now
ends_here {from} {left} {lines} {count} {at} {awaits} {text} {now} came read status ending ends prints =
    ends_by (came_ran came) (came_lines came) read status ending (rw came.here ends) (rw came.here prints)

-- ---- stops in the middle

-- the beginning of a report was printed at least, where the status says no more
pub prints_begun : {form : Closing} {status : ℕ} {w : World} {count : ℕ} {rest : List ℕ} {ending : Ending} {before after : Option (List ℕ)} → 5 ≤ status → status ≤ 6 →
    AppendsPrefix before after (w.text ++ ending_text form w count ending) → Prints form status w count rest ending before after
prints_begun low high begun = record {
  beginning = begun;
  whole = λ is. absurd (omega (arith, is, low));
  refused = λ is. absurd (omega (arith, is, low));
  limited = λ is. absurd (omega (arith, is, high));
  cut_off = λ is. absurd (omega (arith, is, low));
  within = λ is. absurd (omega (arith, is, low));
}

-- a replay ends where its run stopped
pub stop_ends : {form : Closing} {journals : List Journal} {heard : List AskFacts} {shelf_before shelf_after : Shelf} {before after left : Option (List ℕ)} {lines : List Line} {count : ℕ} {at : Reading} (stop : Stop) →
    StopOf lines stop journals heard shelf_before shelf_after before after → HasRead left lines count at → ReplayOf form (status_for stop) journals heard shelf_before shelf_after at.met left at.left before after
stop_ends {before = before} {after = after} stop halted read =
    let bounds = stop_bounds stop in
    ends_by halted.ran halted.of_lines read (status_for stop) Open tt
    (prints_begun (omega (arith, bounds.0, halted.why)) bounds.1 (longer before after (world_after opening_world halted.events).text [] halted.begun))

-- all so far was printed where something stopped the replay between two lines
pub stops_between : {from : Outset} {left : Option (List ℕ)} {count : ℕ} {at : Reading} {now : Now} → Between from left count at now → (stop : Stop) → (status_for stop ≡ 4 → IsUnended at.pending × (count ≡ line_limit → at.pending ≡ [])) →
    EndsHere from left (status_for stop) at now
stops_between {from} {left} {count} {at} {now} between stop cut =
    let so = between.here in
    let bounds = stop_bounds stop in
    ends_here so.came between.read (status_for stop) Open tt (record {
      beginning = longer from.held now.held so.text [] (all_of from.held now.held so.text so.prints);
      whole = λ is. absurd (omega (arith, is, bounds.0));
      refused = λ is. absurd (omega (arith, is, bounds.0));
      limited = λ is. absurd (omega (arith, is, bounds.1));
      cut_off = λ is. (refl, refl, (cut is).0.0, so.prints);
      within = λ is. ((cut is).0.1, (cut is).1);
    })

-- a read failed, or memory for what was read was wanting
pub stops_reading : {from : Outset} {left : Option (List ℕ)} {count : ℕ} {at : Reading} {now : Now} → Between from left count at now → count < line_limit → (stop : Stop) (left' : Option (List ℕ)) (met : Bool) →
    TakesSome (stop ≡ ReadFault) at.pending at.left left' → EndsHere from left (status_for stop) (reading at.pending left' met) now
stops_reading {from} {left} {count} {at} {now} between below stop left' met takes =
    stops_between (between_read between (at.pending ++ takes.0) left' met (takes.0, takes.1, refl)) stop
    (λ four. (takes.2 (read_fault stop four), λ full. absurd (omega (arith, below, full))))

-- a read failed by which more was looked for where nothing is pending
pub stops_looking : {from : Outset} {left : Option (List ℕ)} {count : ℕ} {at : Reading} {now : Now} → Between from left count at now → (stop : Stop) (left' : Option (List ℕ)) (met : Bool) →
    at.pending ≡ [] → Consumes at.left left' [] → EndsHere from left (status_for stop) (reading [] left' met) now
stops_looking {from} {left} {count} {at} {now} between stop left' met none takes =
    stops_between (between_read between [] left' met ([], takes, rw none refl)) stop
    (λ four. ((All-nil (λ (b : ℕ). eqb b 10 ≡ false), omega arith), λ full. refl))

-- ---- the last text

-- the statuses of a replay that went on to its end, and its ending
abbrev pub IsLast : ℕ → Ending → Type 0
IsLast status Whole = status ≡ 0
IsLast status (Bad cause) = status ≡ status_of cause
IsLast status Open = ⊥

-- a cause has one of two statuses
pub status_cause : (cause : Cause) → (status_of cause ≡ 3) ⊎ (status_of cause ≡ 7)
status_cause cause = grind arith

-- what is printed where the whole report was
prints_last : (form : Closing) (status : ℕ) (w : World) (count : ℕ) (rest : List ℕ) (ending : Ending) (before after : Option (List ℕ)) → IsLast status ending →
    Appends before after (w.text ++ ending_text form w count ending) → Prints form status w count rest ending before after
prints_last form status w count rest Whole before after is all = record {
  beginning = all_of before after (w.text ++ ending_text form w count Whole) all;
  whole = λ zero. (refl, all);
  refused = λ three. absurd (omega (arith, is, three));
  limited = λ seven. absurd (omega (arith, is, seven));
  cut_off = λ four. absurd (omega (arith, is, four));
  within = λ four. absurd (omega (arith, is, four));
}
prints_last form status w count rest (Bad cause) before after is all = let which = status_cause cause in record {
  beginning = all_of before after (w.text ++ ending_text form w count (Bad cause)) all;
  whole = λ zero. absurd (omega (arith, which, is, zero));
  refused = λ three. (cause, refl, sym is ∙ three, all);
  limited = λ seven. (cause, refl, sym is ∙ seven, all);
  cut_off = λ four. absurd (omega (arith, which, is, four));
  within = λ four. absurd (omega (arith, which, is, four));
}
prints_last form status w count rest Open before after is all = absurd is

-- the last text of a report was printed, or something stopped the replay there
pub ends_last : {from : Outset} {left : Option (List ℕ)} {count : ℕ} {at : Reading} {now : Now} (between : Between from left count at now) (r : Result ℕ Stop) (status : ℕ) (ending : Ending) (k k' : ℕ) (held : Option (List ℕ)) →
    IsLast status ending → IsEnding (world_at now between.here.text Nothing) count at.pending at.left at.met ending → IfOk r (λ n. n ≡ status) →
    OnOk r (Appends now.held held (ending_text from.form (world_at now between.here.text Nothing) count ending)) → OnErr r (AppendsPrefix now.held held (ending_text from.form (world_at now between.here.text Nothing) count ending)) →
    IfErr r (λ stop. HasStopCause stop 0 0 k k') → EndsHere from left (status_in r) at (record now { held = held })
ends_last {from} {left} {count} {at} {now} between (Ok n) status ending k k' held last ends is ok err cause =
    let so = between.here in
    let w : World = world_at now so.text Nothing in
    rw is (ends_here (came_held so.came held) between.read status ending ends
    (prints_last from.form status w count at.pending ending from.held held last (Appends-trans from.held now.held held so.text (ending_text from.form w count ending) so.prints ok)))
ends_last {from} {left} {count} {at} {now} between (Err stop) status ending k k' held last ends is ok err cause =
    let so = between.here in
    let w : World = world_at now so.text Nothing in
    let bounds = stop_bounds stop in
    let other = sink_fault stop k k' cause in
    ends_here (came_held so.came held) between.read (status_for stop) ending ends
    (prints_begun (omega (arith, bounds.0, other)) bounds.1 (behind from.held now.held held so.text (ending_text from.form w count ending) so.prints err))

-- ---- what stops passes on

-- a stop that was passed on ends the run
pub goes_stop : {A : Type 0} (from : Outset) (lines : List Line) (awaits : Awaits) (r : Result A Stop) (stop : Stop) (now : Now) → IsErrAnd r (λ passed. passed ≡ stop) →
    Halted from lines stop now → GoesOn from lines awaits r now
goes_stop {A} from lines awaits (Ok done) stop now is halted = absurd is
goes_stop {A} from lines awaits (Err passed) stop now is halted = rw is halted
