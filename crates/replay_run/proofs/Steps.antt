-- A step of a client's open call is an event.
use Rattle.replay_run.proofs.Words.{◌≡◌, ◌≢◌, inl, inr, ℕ, Bool, true, List, [], ◌++◌, Option, Some, is_none, refl, sym, ◌∙◌, ap, append-nil, Appends, AppendsPrefix, Chain, Shelf, CallFacts, Want, WantAsk, WantTurn, want, Did, Stepped, ToldItem, HeapFacts, IsStepFor, IsStep, answered_by, holder_for, moment_after, answer_of, seat_at, ask_line, turn_line, Line, WorldEvent, IsNext, IsWanted, Ask, Starved, Told, Turned, after_event, client_awaited, line_in, shelf_event, Stop, IsSound, Reached, Halted, Here, Now, Outset, did_line, is_one_step, shown_line, world_at, status_for, Awaits, OneStep, World, awaits_after, ended_line, has_open_call, names_closed, step_text, stepped, tally_closed, verb_at, AskFacts, last_asked, subst, false, None, Result, Ok, Err, IfErr, OnOk, OnErr, Answered, Request, HasStopCause, GoesOn, OpenCall, Tally, TheNext, IsErrAnd, StepsOn, WentOn, begun, call_at, calls_closed, calls_swept, came_to, goes_on, started, step_line, stepped_on}
use Rattle.std.proofs.Common.{◌∷◌, ◌+◌, arith, length, subst}
use Rattle.std.proofs.Math.Seq.{get_or-append_seam}
use Rattle.std.proofs.lemmas.List.{length-append}
use Rattle.std.proofs.lemmas.Option.{slice_get-get_or}
use Rattle.std.specs.List.{slice_get}
use Rattle.hook_api.specs.Asked.{AskFacts}
use Rattle.heap_core.specs.Logs.{last_asked}
use Rattle.call_plan.specs.declared.needs.Answered.TheVariants.{NoMemory}
use Rattle.replay_run.proofs.Begins.{printed_result}
use Rattle.replay_run.proofs.Came.{Leads, came_next}
use Rattle.replay_run.proofs.Endings.{all_of, longer}
use Rattle.replay_run.proofs.NewHeaps.{step_made}
use Rattle.replay_run.proofs.Plays.{stepped_heap}
use Rattle.replay_run.proofs.Stops.{stops_after}

-- the ask that was made is the last one
last_pushed : (heard : List AskFacts) (asked : AskFacts) → last_asked (heard ++ asked ∷ []) ≡ Some asked
last_pushed heard asked =
    let behind : length (heard ++ asked ∷ []) ≡ length heard + 1 = length-append heard (asked ∷ []) in
    subst (λ k. slice_get (heard ++ asked ∷ []) k ≡ Some asked) (omega (arith, behind)) (slice_get-get_or (heard ++ asked ∷ []) (length heard) asked (omega (arith, behind)) ∙ ap Some (get_or-append_seam heard asked [] asked))

-- What a step of a client is: an event that can come next, after which the heap is this one, and which does this to the shelf.
-- Unless memory was wanting, the world after it is the one behind what the step told.
pub record StepEvent (w : World) (c : ℕ) (shelf : Shelf) (told : Stepped) (heap : HeapFacts) (shelf' : Shelf) : Type 0 where
  pub event : WorldEvent
  pub next : IsNext w event
  pub lines : line_in event ≡ []
  pub chain : Chain shelf (shelf_event event) shelf'
  pub leads : (after_event w event).heap ≡ heap
  pub more : List ℕ
  pub text : (after_event w event).text ≡ w.text ++ more
  pub after : told.ended ≢ Some NoMemory → after_event w event ≡ stepped w c heap (did_line c told.did (last_asked heap.heard)) told.ended

-- what a step prints more, by the request with which the call goes on
abbrev more_of : World → ℕ → List ℕ → Option Answered → Option Request → List ℕ
more_of w c line answer None = step_text w.awaits line ++ ended_line c (verb_at w.calls c) answer
more_of w c line answer (Some request) = step_text w.awaits line

-- the same, by its answer
abbrev more_at : World → ℕ → List ℕ → Option Answered → List ℕ
more_at w c line answer = more_of w c line answer (goes_on (call_at w.calls c) answer)

stepped_text : (w : World) (c : ℕ) (heap : HeapFacts) (line : List ℕ) (answer : Option Answered) → (stepped w c heap line answer).text ≡ w.text ++ more_at w c line answer
stepped_text w c heap line answer = by (goes_on (call_at w.calls c) answer)
  where
    by : (next : Option Request) → (stepped_on w c heap line answer next).text ≡ w.text ++ more_of w c line answer next
    by None = refl
    by (Some request) = refl

-- a step by what its call wants
step_wanted : (w : World) (c : ℕ) (shelf : Shelf) (call : CallFacts) (told : Stepped) (heap : HeapFacts) (shelf' : Shelf) (wanted : Want) → IsWanted w c call wanted →
    IsStepFor w.heap shelf c call wanted told heap shelf' → StepEvent w c shelf told heap shelf'
step_wanted w c shelf call told heap shelf' (WantTurn op asked) wants (did, same, inl made) = record {
  event = Turned c call op asked;
  next = wants;
  lines = refl;
  chain = same;
  leads = stepped_heap w c _ (turn_line c) _ ∙ sym made.0;
  more = more_at w c (turn_line c) (answered_by w.heap c call op (holder_for w.heap call));
  text = stepped_text w c _ (turn_line c) _;
  after = λ memory. rw (did, made.0, made.1) refl;
}
step_wanted w c shelf call told heap shelf' (WantTurn op asked) wants (did, same, inr (starved, ended)) = record {
  event = Starved c call;
  next = (op, asked, wants, starved.0);
  lines = refl;
  chain = same;
  leads = sym starved.1;
  more = [];
  text = sym (append-nil w.text);
  after = λ memory. absurd (memory ended);
}
step_wanted w c shelf call told heap shelf' (WantAsk ask) wants made = record {
  event = Told c call made.0;
  next = (subst (λ (a : Ask). IsWanted w c call (WantAsk a)) (sym made.2) wants, record { box_no = made.3; answers = made.4.box.answers });
  lines = refl;
  chain = (shelf', made.4, refl);
  leads = stepped_heap w c _ (ask_line c made.0.ask made.0.answer) _ ∙ sym made.5;
  more = more_at w c (ask_line c made.0.ask made.0.answer) (answer_of (moment_after w.heap c call (ToldItem made.0)));
  text = stepped_text w c _ (ask_line c made.0.ask made.0.answer) _;
  after = λ memory. rw (made.1, made.5, made.6, last_pushed w.heap.heard made.0) refl;
}

-- a step of the client that is waited for
pub step_event : (w : World) (c : ℕ) (shelf : Shelf) (told : Stepped) (heap : HeapFacts) (shelf' : Shelf) → client_awaited w.awaits ≡ Some c →
    has_open_call w.heap c ≡ true → IsStep w.heap shelf c (seat_at w.heap.seats c).call told heap shelf' → StepEvent w c shelf told heap shelf'
step_event w c shelf told heap shelf' awaited some step =
    let (call, point, open_call, at, made) = step_made w.heap shelf c (seat_at w.heap.seats c).call told heap shelf' some step in
    step_wanted w c shelf call told heap shelf' (want point) (record { awaited = awaited; open_call = open_call; point = point; at = at; wants = refl }) made

-- ---- a replay that makes a step

-- the line of a step is shown where one step is waited for
shown_where : (awaits : Awaits) (c : ℕ) (did : Did) (last : Option AskFacts) → step_text awaits (did_line c did last) ≡ shown_line (is_one_step awaits) c did last
shown_where (OneStep client) c did last = refl
shown_where awaits c did last = refl

-- no line is printed where none is
none_shown : (awaits : Awaits) → step_text awaits [] ≡ []
none_shown (OneStep client) = refl
none_shown awaits = refl

-- the moment where a client's open call came to this, where so much was printed
abbrev pub now_stepped : Now → ℕ → Stepped → HeapFacts → Shelf → Option (List ℕ) → Now
now_stepped now c told heap shelf held = record now {
  heap = heap;
  calls = calls_closed now.calls c told.ended;
  names = names_closed now.names (verb_at now.calls c) told.ended;
  tally = tally_closed now.tally told.ended;
  shelf = shelf;
  held = held;
}

-- An event brings a client's open call to this heap, with this line.
record Brings (now : Now) (text : List ℕ) (before : Awaits) (event : WorldEvent) (awaits : Awaits) (c : ℕ) (line : List ℕ) (told : Stepped) (heap : HeapFacts) (shelf : Shelf) : Type 0 where
  next : IsNext (world_at now text before) event
  after : after_event (world_at now text before) event ≡ came_to (world_at now text awaits) c heap line told.ended
  sound : IsSound heap
  no_line : line_in event ≡ []
  chain : Chain now.shelf (shelf_event event) shelf

-- the replay came there
brought : {from : Outset} {lines : List Line} {before : Awaits} {now : Now} (so : Here from lines before [] now) (event : WorldEvent) (awaits : Awaits) (c : ℕ) (line : List ℕ) (shown : Bool) (told : Stepped) (heap : HeapFacts) (shelf : Shelf)
    (held : Option (List ℕ)) → Brings now so.text before event awaits c line told heap shelf → step_text awaits line ≡ shown_line shown c told.did (last_asked heap.heard) →
    Reached from lines (awaits_after awaits (is_none told.ended)) [] (so.text ++ step_line shown c now.calls told heap) (now_stepped now c told heap shelf held)
brought {from} {lines} {before} {now} so event awaits c line shown told heap shelf held brings same =
    let now' : Now = now_stepped now c told heap shelf held in
    let leads : Leads event before [] so.text now (awaits_after awaits (is_none told.ended)) [] (so.text ++ step_line shown c now.calls told heap) now' = record {
      next = brings.next;
      after = brings.after ∙ ap (λ (l : List ℕ). world_at now' (so.text ++ (l ++ ended_line c (verb_at now.calls c) told.ended)) (awaits_after awaits (is_none told.ended))) same;
      sound = brings.sound;
      lines = ap (λ (ls : List Line). ls ++ []) (sym brings.no_line);
      chain = brings.chain;
    } in
    came_next so.came leads

-- the replay came behind the step, by which the call ended or goes on
pub step_came : {from : Outset} {lines : List Line} {awaits : Awaits} {now : Now} (so : Here from lines awaits [] now) (c : ℕ) (told : Stepped) (heap : HeapFacts) (shelf : Shelf) (held : Option (List ℕ)) →
    client_awaited awaits ≡ Some c → has_open_call now.heap c ≡ true → IsStep now.heap now.shelf c (seat_at now.heap.seats c).call told heap shelf → IsSound heap → told.ended ≢ Some NoMemory → goes_on (call_at now.calls c) told.ended ≡ None →
    Reached from lines (awaits_after awaits (is_none told.ended)) [] (so.text ++ step_line (is_one_step awaits) c now.calls told heap) (now_stepped now c told heap shelf held)
step_came {from} {lines} {awaits} {now} so c told heap shelf held awaited is step sound memory none =
    let w : World = world_at now so.text awaits in
    let line : List ℕ = did_line c told.did (last_asked heap.heard) in
    let event = step_event w c now.shelf told heap shelf awaited is step in
    let brings : Brings now so.text awaits event.event awaits c line told heap shelf = record {
      next = event.next;
      after = event.after memory ∙ ap (stepped_on w c heap line told.ended) none;
      sound = sound;
      no_line = event.lines;
      chain = event.chain;
    } in
    brought so event.event awaits c line (is_one_step awaits) told heap shelf held brings (shown_where awaits c told.did (last_asked heap.heard))

-- the moment behind a step behind which the call goes on with a request
abbrev pub now_moved : Now → ℕ → Request → HeapFacts → Shelf → Option (List ℕ) → Now
now_moved now c request heap shelf held = record now { heap = heap; calls = calls_swept now.calls c; shelf = shelf; held = held }

-- the replay came behind the step, by which a request of the call ended, and the call goes on with another one
step_moved : {from : Outset} {lines : List Line} {awaits : Awaits} {now : Now} (so : Here from lines awaits [] now) (c : ℕ) (told : Stepped) (request : Request) (heap : HeapFacts) (shelf : Shelf) (held : Option (List ℕ)) →
    client_awaited awaits ≡ Some c → has_open_call now.heap c ≡ true → IsStep now.heap now.shelf c (seat_at now.heap.seats c).call told heap shelf → IsSound heap → told.ended ≢ Some NoMemory → goes_on (call_at now.calls c) told.ended ≡ Some request →
    Reached from lines (TheNext c request awaits) [] (so.text ++ shown_line (is_one_step awaits) c told.did (last_asked heap.heard)) (now_moved now c request heap shelf held)
step_moved {from} {lines} {awaits} {now} so c told request heap shelf held awaited is step sound memory some =
    let w : World = world_at now so.text awaits in
    let line : List ℕ = did_line c told.did (last_asked heap.heard) in
    let now' : Now = now_moved now c request heap shelf held in
    let event = step_event w c now.shelf told heap shelf awaited is step in
    let leads : Leads event.event awaits [] so.text now (TheNext c request awaits) [] (so.text ++ shown_line (is_one_step awaits) c told.did (last_asked heap.heard)) now' = record {
      next = event.next;
      after = event.after memory ∙ ap (stepped_on w c heap line told.ended) some
          ∙ ap (λ (l : List ℕ). world_at now' (so.text ++ l) (TheNext c request awaits)) (shown_where awaits c told.did (last_asked heap.heard));
      sound = sound;
      lines = ap (λ (ls : List Line). ls ++ []) (sym event.lines);
      chain = event.chain;
    } in
    came_next so.came leads

-- the replay stops behind the step, of which nothing was printed
pub step_stops : {from : Outset} {lines : List Line} {awaits : Awaits} {now : Now} (so : Here from lines awaits [] now) (c : ℕ) (told : Stepped) (heap : HeapFacts) (shelf : Shelf) (stop : Stop) →
    client_awaited awaits ≡ Some c → has_open_call now.heap c ≡ true → IsStep now.heap now.shelf c (seat_at now.heap.seats c).call told heap shelf → IsSound heap → status_for stop ≢ 4 →
    Halted from lines stop (record now { heap = heap; shelf = shelf })
step_stops {from} {lines} {awaits} {now} so c told heap shelf stop awaited is step sound other =
    let w : World = world_at now so.text awaits in
    let event = step_event w c now.shelf told heap shelf awaited is step in
    let last : World = after_event w event.event in
    let now' : Now = record now { heap = heap; shelf = shelf; calls = last.calls; names = last.names; tally = last.tally; controls = last.controls; moment = last.moment } in
    let leads : Leads event.event awaits [] so.text now last.awaits [] last.text now' = record {
      next = event.next;
      after = ap (λ (h : HeapFacts). record last { heap = h }) event.leads;
      sound = sound;
      lines = ap (λ (ls : List Line). ls ++ []) (sym event.lines);
      chain = event.chain;
    } in
    stops_after (came_next so.came leads) stop other (rw event.text (longer from.held now.held so.text event.more (all_of from.held now.held so.text so.prints)))

-- ---- by what printing gave

-- What was printed where a client's open call came to this, and what is kept then.
pub record Ended (now : Now) (c : ℕ) (told : Stepped) (heap : HeapFacts) (calls : List (Option OpenCall)) (names : List (List ℕ × ℕ)) (tally : Tally) (shown : Bool) (held : Option (List ℕ)) (k k' : ℕ) (r : Result (Unit {0}) Stop) : Type 0 where
  pub calls_so : OnOk r (calls ≡ calls_closed now.calls c told.ended)
  pub names_so : OnOk r (names ≡ names_closed now.names (verb_at now.calls c) told.ended)
  pub tally_so : OnOk r (tally ≡ tally_closed now.tally told.ended)
  pub ok : OnOk r (Appends now.held held (step_line shown c now.calls told heap))
  pub err : OnErr r (AppendsPrefix now.held held (step_line shown c now.calls told heap))
  pub cause : IfErr r (λ stop. HasStopCause stop 0 0 k k')

-- the run goes on from there, or it stopped
ended_result : {from : Outset} {lines : List Line} {awaits : Awaits} {now : Now} (c : ℕ) (told : Stepped) (heap : HeapFacts) (shelf : Shelf) (calls : List (Option OpenCall)) (names : List (List ℕ × ℕ)) (tally : Tally) (shown : Bool) (held : Option (List ℕ))
    (k k' : ℕ) (r : Result (Unit {0}) Stop) (text : List ℕ) → Appends from.held now.held text → Reached from lines awaits [] (text ++ step_line shown c now.calls told heap) (now_stepped now c told heap shelf held) →
    Ended now c told heap calls names tally shown held k k' r → GoesOn from lines awaits r (record now { heap = heap; calls = calls; names = names; tally = tally; shelf = shelf; held = held })
ended_result {from} {lines} {awaits} {now} c told heap shelf calls names tally shown held k k' (Ok done) text prints came ended =
    rw (ended.calls_so, ended.names_so, ended.tally_so) (printed_result text (step_line shown c now.calls told heap) now.held came prints k k' (Ok done) ended.ok tt tt)
ended_result {from} {lines} {awaits} {now} c told heap shelf calls names tally shown held k k' (Err stop) text prints came ended =
    printed_result text (step_line shown c now.calls told heap) now.held came prints k k' (Err stop) tt ended.err ended.cause

-- where the call ended or goes on by a step
pub step_result : {from : Outset} {lines : List Line} {awaits : Awaits} {now : Now} (so : Here from lines awaits [] now) (c : ℕ) (told : Stepped) (heap : HeapFacts) (shelf : Shelf) (calls : List (Option OpenCall)) (names : List (List ℕ × ℕ)) (tally : Tally)
    (held : Option (List ℕ)) (k k' : ℕ) (r : Result (Unit {0}) Stop) → client_awaited awaits ≡ Some c → has_open_call now.heap c ≡ true → IsStep now.heap now.shelf c (seat_at now.heap.seats c).call told heap shelf → IsSound heap →
    told.ended ≢ Some NoMemory → goes_on (call_at now.calls c) told.ended ≡ None → Ended now c told heap calls names tally (is_one_step awaits) held k k' r →
    GoesOn from lines (awaits_after awaits (is_none told.ended)) r (record now { heap = heap; calls = calls; names = names; tally = tally; shelf = shelf; held = held })
step_result {from} {lines} {awaits} {now} so c told heap shelf calls names tally held k k' r awaited is step sound memory none ended =
    ended_result c told heap shelf calls names tally (is_one_step awaits) held k k' r so.text so.prints (step_came so c told heap shelf held awaited is step sound memory none) ended

-- where the call goes on with a request
pub moved_result : {from : Outset} {lines : List Line} {awaits : Awaits} {now : Now} (so : Here from lines awaits [] now) (c : ℕ) (told : Stepped) (request : Request) (heap : HeapFacts) (shelf : Shelf) (held : Option (List ℕ)) (k k' : ℕ)
    (r : Result (Unit {0}) Stop) → client_awaited awaits ≡ Some c → has_open_call now.heap c ≡ true → IsStep now.heap now.shelf c (seat_at now.heap.seats c).call told heap shelf → IsSound heap → told.ended ≢ Some NoMemory →
    goes_on (call_at now.calls c) told.ended ≡ Some request → OnOk r (Appends now.held held (shown_line (is_one_step awaits) c told.did (last_asked heap.heard))) →
    OnErr r (AppendsPrefix now.held held (shown_line (is_one_step awaits) c told.did (last_asked heap.heard))) → IfErr r (λ stop. HasStopCause stop 0 0 k k') →
    GoesOn from lines (TheNext c request awaits) r (now_moved now c request heap shelf held)
moved_result {from} {lines} {awaits} {now} so c told request heap shelf held k k' r awaited is step sound memory some ok err cause =
    printed_result so.text _ now.held (step_moved so c told request heap shelf held awaited is step sound memory some) so.prints k k' r ok err cause

-- where the next request of the call begins
pub next_result : {from : Outset} {lines : List Line} {now : Now} (c : ℕ) (request : Request) (awaits : Awaits) (so : Here from lines (TheNext c request awaits) [] now) (told : Stepped) (heap : HeapFacts) (calls : List (Option OpenCall))
    (names : List (List ℕ × ℕ)) (tally : Tally) (held : Option (List ℕ)) (k k' : ℕ) (r : Result (Unit {0}) Stop) → heap ≡ started now.heap c request → told.ended ≡ answer_of (begun now.heap.seats c request) → IsSound heap →
    Ended now c told heap calls names tally false held k k' r →
    GoesOn from lines (awaits_after awaits (is_none told.ended)) r (record now { heap = heap; calls = calls; names = names; tally = tally; held = held })
next_result {from} {lines} {now} c request awaits so told heap calls names tally held k k' r begins_so answers sound ended =
    let brings : Brings now so.text (TheNext c request awaits) (WentOn c request awaits) awaits c [] told heap now.shelf = record { next = refl; after = rw (begins_so, answers) refl; sound = sound; no_line = refl; chain = refl } in
    ended_result c told heap now.shelf calls names tally false held k k' r so.text so.prints (brought so (WentOn c request awaits) awaits c [] false told heap now.shelf held brings (none_shown awaits)) ended

-- ---- the request of a step

-- a stop that was passed on ends the run
pub steps_stop : (from : Outset) (lines : List Line) (awaits : Awaits) (c : ℕ) (r : Result (Option Request) Stop) (stop : Stop) (now : Now) → IsErrAnd r (λ passed. passed ≡ stop) → Halted from lines stop now → StepsOn from lines awaits c r now
steps_stop from lines awaits c (Ok next) stop now is halted = absurd is
steps_stop from lines awaits c (Err passed) stop now is halted = rw is halted

-- where the call goes on, the request that the step carried on has ended
pub gone_on_ended : (call : Option OpenCall) (answer : Option Answered) (request : Request) → goes_on call answer ≡ Some request → is_none answer ≡ false
gone_on_ended call None request is = by call is
  where
    by : (call : Option OpenCall) → goes_on call None ≡ Some request → true ≡ false
    by None is = absurd (cc (is))
    by (Some own) is = absurd (cc (is))
gone_on_ended call (Some answer) request is = refl
