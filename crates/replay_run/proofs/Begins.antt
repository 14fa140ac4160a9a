-- The beginning of a call is an event.
use Rattle.replay_run.proofs.Words.{arith, ◌≡◌, ◌≢◌, ℕ, Bool, true, false, List, [], ◌++◌, Option, None, Some, Result, Ok, Err, IfErr, OnOk, OnErr, refl, Appends-trans, slice_set, Appends, AppendsPrefix, Answered, NotHeld, Request, HeapFacts, started, answer_of, begun, Line, Tally, Verb, Stop, answer_line, Began, IsSound, Reached, GoesOn, Halted, Here, Now, Outset, is_one_step, world_at, HasStopCause, status_for, Awaits, Nothing, OneStep, TheEndBefore, TheStart, awaits_after, awaits_begun, awaits_call, after_event, has_open_call, names_ended, tallied, Beginning, CtlAnswer, FindsNone, AsksFor, TellsAt, OpenCall, Starting, ControlFacts, World, ap, sym, ◌∙◌, settled, State, Shelf, now_of, beginning_of, SweepFacts, begins, controls_of, target_of, told_line}
use Rattle.replay_run.proofs.Came.{Leads, came_next, came_sound}
use Rattle.replay_run.proofs.Endings.{all_of, behind, sink_fault}
use Rattle.replay_run.proofs.Stops.{stops_after}

-- what is waited for behind a call that has ended, or that goes on
pub awaits_ended : (c : ℕ) (whole : Bool) → awaits_after (awaits_begun c whole) false ≡ Nothing
awaits_ended c whole = grind arith

pub awaits_open : (c : ℕ) (whole : Bool) → awaits_after (awaits_begun c whole) true ≡ awaits_begun c whole
awaits_open c whole = grind arith

-- an end that is waited for is so while the call goes on
pub awaits_going : (awaits : Awaits) → is_one_step awaits ≡ false → awaits_after awaits true ≡ awaits
awaits_going (OneStep client) shown = absurd (cc (shown))
awaits_going awaits shown = refl

-- a call that is to begin waits for the end of the one that is open
pub awaits_before : (open_call : Bool) (c : ℕ) (verb : Verb) (whole : Bool) → awaits_call open_call c verb whole ≡ awaits_after (TheEndBefore c verb whole) open_call
awaits_before open_call c verb whole = grind arith

-- nothing is waited for behind a call that is only begun
pub awaits_begun_only : (c : ℕ) (goes : Bool) → awaits_after (awaits_begun c false) goes ≡ Nothing
awaits_begun_only c goes = grind arith

-- the moment behind a call that had its answer where it began
abbrev pub now_answered : Now → Verb → Answered → HeapFacts → Option (List ℕ) → Now
now_answered now verb answer heap held = record now { heap = heap; names = names_ended now.names verb answer; tally = tallied now.tally answer; held = held }

-- a call is to begin, once it is known what it comes to, and what its line sets of the controls is set
pub starting_so : {from : Outset} {lines : List Line} (old new : State) (shelf : Shelf) (held : Option (List ℕ)) (c : ℕ) (verb : Verb) (whole : Bool) (b : Beginning) → Here from lines (TheStart c verb whole) [] (now_of old shelf held) →
    new.heap ≡ old.heap → new.calls.items ≡ old.calls.items → new.names ≡ old.names → new.tally ≡ old.tally → new.moment ≡ old.moment → new.controls ≡ controls_of old.heap.records old.controls old.moment verb →
    beginning_of old.heap old.names old.controls old.moment c verb ≡ b → Starting from lines c verb whole b (now_of new shelf held)
starting_so {from} {lines} old new shelf held c verb whole b so heap calls names tally moment controls comes = record {
  before = old.controls;
  here = rw (heap, calls, names, tally, moment) so;
  comes = rw (heap, names, moment) comes;
  sets = rw (heap, moment) controls;
}

-- the call begins as what it comes to says
starts_as : {from : Outset} {lines : List Line} {now : Now} (c : ℕ) (verb : Verb) (whole : Bool) (b : Beginning) (so : Starting from lines c verb whole b now) →
    after_event (world_at (record now { controls = so.before }) so.here.text (TheStart c verb whole)) (Began c verb whole) ≡ begins (world_at now so.here.text (TheStart c verb whole)) c verb whole b
starts_as {from} {lines} {now} c verb whole b so =
    let w : World = world_at (record now { controls = so.before }) so.here.text (TheStart c verb whole) in
    ap (begins (settled w verb) c verb whole) so.comes ∙ ap (λ (k : ControlFacts). begins (record w { controls = k }) c verb whole b) (sym so.sets)

-- a play goes on by the beginning of a call, to where that leads
begun_came : {from : Outset} {lines : List Line} {now : Now} (c : ℕ) (verb : Verb) (whole : Bool) (b : Beginning) (so : Starting from lines c verb whole b now) (awaits : Awaits) (text : List ℕ) (heap : HeapFacts)
    (calls : List (Option OpenCall)) (names : List (List ℕ × ℕ)) (tally : Tally) (held : Option (List ℕ)) →
    begins (world_at now so.here.text (TheStart c verb whole)) c verb whole b ≡ world_at (record now { heap = heap; calls = calls; names = names; tally = tally; held = held }) text awaits → IsSound heap →
    Reached from lines awaits [] text (record now { heap = heap; calls = calls; names = names; tally = tally; held = held })
begun_came {from} {lines} {now} c verb whole b so awaits text heap calls names tally held after sound =
    let before : Now = record now { controls = so.before } in
    let now' : Now = record now { heap = heap; calls = calls; names = names; tally = tally; held = held } in
    let leads : Leads (Began c verb whole) (TheStart c verb whole) [] so.here.text before awaits [] text now' =
    record { next = refl; after = starts_as c verb whole b so ∙ after; sound = sound; lines = refl; chain = refl } in
    came_next so.here.came leads

-- the heap of a call that is to begin is sound
starting_sound : {from : Outset} {lines : List Line} {now : Now} {c : ℕ} {verb : Verb} {whole : Bool} {b : Beginning} → Starting from lines c verb whole b now → IsSound now.heap
starting_sound so = came_sound so.here.came

-- a call that asks for nothing: no region is there
pub refused_came : {from : Outset} {lines : List Line} {now : Now} (c : ℕ) (verb : Verb) (whole : Bool) (so : Starting from lines c verb whole FindsNone now) (answer : Answered) (held : Option (List ℕ)) →
    answer ≡ NotHeld (target_of now.names verb) → Reached from lines Nothing [] (so.here.text ++ answer_line c verb answer) (now_answered now verb answer now.heap held)
refused_came {from} {lines} {now} c verb whole so answer held is =
    begun_came c verb whole FindsNone so Nothing (so.here.text ++ answer_line c verb answer) now.heap now.calls (names_ended now.names verb answer) (tallied now.tally answer) held (rw is refl) (starting_sound so)

-- a line of a control that is answered at once
pub told_came : {from : Outset} {lines : List Line} {now : Now} (c : ℕ) (verb : Verb) (whole : Bool) (answer : CtlAnswer) (so : Starting from lines c verb whole (TellsAt answer) now) (held : Option (List ℕ)) →
    Reached from lines Nothing [] (so.here.text ++ told_line c verb answer) (record now { held = held })
told_came {from} {lines} {now} c verb whole answer so held =
    begun_came c verb whole (TellsAt answer) so Nothing (so.here.text ++ told_line c verb answer) now.heap now.calls now.names now.tally held refl (starting_sound so)

-- a call that has its answer where it begins
pub answered_came : {from : Outset} {lines : List Line} {now : Now} (c : ℕ) (verb : Verb) (whole : Bool) (request : Request) (sweep : Option SweepFacts) (so : Starting from lines c verb whole (AsksFor request sweep) now)
    (answer : Answered) (heap : HeapFacts) (held : Option (List ℕ)) → heap ≡ started now.heap c request → Some answer ≡ answer_of (begun now.heap.seats c request) → IsSound heap →
    Reached from lines Nothing [] (so.here.text ++ answer_line c verb answer) (now_answered now verb answer heap held)
answered_came {from} {lines} {now} c verb whole request sweep so answer heap held begins_so ends sound =
    begun_came c verb whole (AsksFor request sweep) so Nothing (so.here.text ++ answer_line c verb answer) heap now.calls (names_ended now.names verb answer) (tallied now.tally answer) held (rw (begins_so, ← ends) refl) sound

-- a call that is open behind its beginning
pub opened_goes : {from : Outset} {lines : List Line} {now : Now} (c : ℕ) (verb : Verb) (whole : Bool) (request : Request) (sweep : Option SweepFacts) (so : Starting from lines c verb whole (AsksFor request sweep) now) (heap : HeapFacts) →
    heap ≡ started now.heap c request → None ≡ answer_of (begun now.heap.seats c request) → IsSound heap →
    Here from lines (awaits_begun c whole) [] (record now { heap = heap; calls = slice_set now.calls c (Some (record { verb = verb; sweep = sweep })) })
opened_goes {from} {lines} {now} c verb whole request sweep so heap begins_so goes_so sound = record {
  text = so.here.text;
  came = begun_came c verb whole (AsksFor request sweep) so (awaits_begun c whole) so.here.text heap (slice_set now.calls c (Some (record { verb = verb; sweep = sweep }))) now.names now.tally now.held
      (rw (begins_so, ← goes_so) refl) sound;
  prints = so.here.prints;
}

-- what is so is so behind an Ok
pub ok_holds : {A : Type 0} (r : Result A Stop) (P : Type 0) → P → OnOk r P
ok_holds (Ok done) P holds = holds
ok_holds (Err stop) P holds = tt

-- and behind an error
pub err_holds : {A : Type 0} (r : Result A Stop) (P : Type 0) → P → OnErr r P
err_holds (Ok done) P holds = tt
err_holds (Err stop) P holds = holds

-- memory for the beginning was wanting
pub unbegun_stops : {from : Outset} {lines : List Line} {now : Now} {awaits : Awaits} (so : Here from lines awaits [] now) (stop : Stop) → status_for stop ≢ 4 → Halted from lines stop now
unbegun_stops {from} {lines} {now} {awaits} so stop other = stops_after so.came stop other (all_of from.held now.held so.text so.prints)

-- ---- by what printing the answer gave

-- where a text was printed, or a beginning of it
pub printed_result : {from : Outset} {lines : List Line} {awaits : Awaits} (text more : List ℕ) {now : Now} (had : Option (List ℕ)) (came : Reached from lines awaits [] (text ++ more) now) (prints : Appends from.held had text)
    (k k' : ℕ) (r : Result (Unit {0}) Stop) → OnOk r (Appends had now.held more) → OnErr r (AppendsPrefix had now.held more) → IfErr r (λ stop. HasStopCause stop 0 0 k k') → GoesOn from lines awaits r now
printed_result {from} {lines} {awaits} text more {now} had came prints k k' (Ok done) ok err cause =
    record { text = text ++ more; came = came; prints = Appends-trans from.held had now.held text more prints ok }
printed_result {from} {lines} {awaits} text more {now} had came prints k k' (Err stop) ok err cause =
    stops_after came stop (sink_fault stop k k' cause) (behind from.held had now.held text more prints err)

pub answer_result : {from : Outset} {lines : List Line} (now : Now) (c : ℕ) (verb : Verb) (whole : Bool) (text : List ℕ) (answer : Answered) (heap : HeapFacts)
    (names : List (List ℕ × ℕ)) (tally : Tally) (held : Option (List ℕ)) (k k' : ℕ) (r : Result (Unit {0}) Stop) → Appends from.held now.held text → Reached from lines Nothing [] (text ++ answer_line c verb answer) (now_answered now verb answer heap held) →
    has_open_call heap c ≡ false → tally ≡ tallied now.tally answer → OnOk r (names ≡ names_ended now.names verb answer) → OnOk r (Appends now.held held (answer_line c verb answer)) → OnErr r (AppendsPrefix now.held held (answer_line c verb answer)) →
    IfErr r (λ stop. HasStopCause stop 0 0 k k') → GoesOn from lines (awaits_after (awaits_begun c whole) (has_open_call heap c)) r (record now { heap = heap; names = names; tally = tally; held = held })
answer_result {from} {lines} now c verb whole text answer heap names tally held k k' (Ok done) prints came rests counted named ok err cause =
    rw (rests, awaits_ended c whole, counted, named) (printed_result _ _ _ came prints k k' (Ok done) ok tt tt)
answer_result {from} {lines} now c verb whole text answer heap names tally held k k' (Err stop) prints came rests counted named ok err cause =
    printed_result _ _ _ came prints k k' (Err stop) tt err cause

pub told_result : {from : Outset} {lines : List Line} {now : Now} (c : ℕ) (verb : Verb) (whole : Bool) (answer : CtlAnswer) (so : Starting from lines c verb whole (TellsAt answer) now) (held : Option (List ℕ)) (k k' : ℕ)
    (r : Result (Unit {0}) Stop) → has_open_call now.heap c ≡ false → OnOk r (Appends now.held held (told_line c verb answer)) → OnErr r (AppendsPrefix now.held held (told_line c verb answer)) →
    IfErr r (λ stop. HasStopCause stop 0 0 k k') → GoesOn from lines (awaits_after (awaits_begun c whole) (has_open_call now.heap c)) r (record now { held = held })
told_result {from} {lines} {now} c verb whole answer so held k k' r rests ok err cause =
    rw (rests, awaits_ended c whole) (printed_result so.here.text (told_line c verb answer) now.held (told_came c verb whole answer so held) so.here.prints k k' r ok err cause)
