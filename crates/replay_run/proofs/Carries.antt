-- A call that is carried out where it begins is a row of events.
use Rattle.replay_run.proofs.Words.{◌≡◌, ◌≢◌, ◌<◌, ◌+◌, ◌-◌, ◌∙◌, ℕ, cond, goes_on, is_some, step_limit, true, false, List, [], ◌∷◌, ◌++◌, Option, None, Some, is_none, length, refl, sym, ap, subst, arith, append-nil, get_or-set_same, Appends, Shelf, Answered, Request, HeapFacts, started, Line, Verb, answer_line, IsSound, Reached, Halted, Here, Now, Outset, Starting, OpenCall, AsksFor, Awaits, Nothing, client_awaited, is_one_step, awaits_after, call_at, has_open_call, asks-sit, holders-publish, turns-sit, slice_set}
use Rattle.std.proofs.lemmas.List.{set-set, set-get_or}
use Rattle.call_plan.specs.declared.needs.Answered.TheVariants.{NoMemory}
use Rattle.heap_core.specs.Carrying.{Carried, CarriedOut, Made, Stands}
use Rattle.replay_run.specs.declared.input.Stop.TheVariants.{NoMemory as Starves}
use Rattle.replay_run.proofs.Begins.{answered_came, awaits_going, now_answered, opened_goes}
use Rattle.replay_run.proofs.Endings.{all_of, longer}
use Rattle.replay_run.proofs.Opens.{start_open, step_open}
use Rattle.replay_run.proofs.Steps.{step_came, step_stops}
use Rattle.replay_run.proofs.Stops.{stops_after}

-- a heap that is as it has to be is sound
pub sound_of : (h : HeapFacts) → Stands h → IsSound h
sound_of h stands = record { arenas = stands.arenas; seats = stands.seats }

-- it was so before the steps that led to it
stands_before : (h : HeapFacts) (shelf : Shelf) (c : ℕ) (ended : Option Answered) (steps : List Made) (h' : HeapFacts) (shelf' : Shelf) (ended' : Option Answered) → Stands h' → Carried h shelf c ended steps h' shelf' ended' → Stands h
stands_before h shelf c ended [] h' shelf' ended' stands carried = subst Stands carried.0 stands
stands_before h shelf c ended (made ∷ later) h' shelf' ended' stands carried = carried.0

-- no step follows an answer
none_follows : (h : HeapFacts) (shelf : Shelf) (c : ℕ) (answer : Answered) (steps : List Made) (h' : HeapFacts) (shelf' : Shelf) (ended' : Option Answered) → Carried h shelf c (Some answer) steps h' shelf' ended' →
    (h' ≡ h) × (shelf' ≡ shelf) × (ended' ≡ Some answer)
none_follows h shelf c answer [] h' shelf' ended' carried = carried
none_follows h shelf c answer (made ∷ later) h' shelf' ended' carried = absurd (let none = carried.1 in cc)

-- steps behind steps
pub carried_more : (h : HeapFacts) (shelf : Shelf) (c : ℕ) (ended : Option Answered) (steps more : List Made) (h' h'' : HeapFacts) (shelf' shelf'' : Shelf) (ended' ended'' : Option Answered) →
    Carried h shelf c ended steps h' shelf' ended' → Carried h' shelf' c ended' more h'' shelf'' ended'' → Carried h shelf c ended (steps ++ more) h'' shelf'' ended''
carried_more h shelf c ended [] more h' h'' shelf' shelf'' ended' ended'' (heap, shelf_is, answer) then =
    subst (λ k. Carried k shelf c ended more h'' shelf'' ended'') heap (subst (λ s. Carried h' s c ended more h'' shelf'' ended'') shelf_is (subst (λ e. Carried h' shelf' c e more h'' shelf'' ended'') answer then))
carried_more h shelf c ended (made ∷ steps) more h' h'' shelf' shelf'' ended' ended'' (stands, none, step, rest) then =
    (stands, none, step, carried_more made.heap made.shelf c made.told.ended steps more h' h'' shelf' shelf'' ended' ended'' rest then)

-- a call that has no answer is open behind them too
pub carried_open : (h : HeapFacts) (shelf : Shelf) (c : ℕ) (ended : Option Answered) (steps : List Made) (h' : HeapFacts) (shelf' : Shelf) (ended' : Option Answered) → c < 32 → (ended ≡ None → has_open_call h c ≡ true) →
    Carried h shelf c ended steps h' shelf' ended' → ended' ≡ None → has_open_call h' c ≡ true
carried_open h shelf c ended [] h' shelf' ended' few goes carried none = rw carried.0 (goes (sym carried.2 ∙ none))
carried_open h shelf c ended (made ∷ later) h' shelf' ended' few goes (stands, first, step, rest) none =
    carried_open made.heap made.shelf c made.told.ended later h' shelf' ended' few (λ (on : made.told.ended ≡ None).
    step_open turns-sit asks-sit holders-publish h shelf c made.told made.heap made.shelf (sound_of h stands) stands.clients few (goes first) (λ e. absurd (cc (on, e))) step ∙ ap is_none on) rest none

-- Where the steps of an open call came, or stopped for want of memory, once it has ended: all is so but for its line.
pub record EndCame (from : Outset) (lines : List Line) (awaits : Awaits) (c : ℕ) (verb : Verb) (now : Now) (heap : HeapFacts) (shelf : Shelf) (answer : Answered) : Type 0 where
  pub text : List ℕ
  pub prints : Appends from.held now.held text
  pub rests : answer ≢ NoMemory → has_open_call heap c ≡ false
  pub came : answer ≢ NoMemory → (held : Option (List ℕ)) → Reached from lines awaits [] (text ++ answer_line c verb answer) (now_answered (record now { shelf = shelf }) verb answer heap held)
  pub stops : answer ≡ NoMemory → Halted from lines Starves (record now { heap = heap; shelf = shelf })

-- a call that is no sweep doesn't go on behind an answer
no_sweep : (verb : Verb) (answer : Option Answered) → goes_on (Some (record { verb = verb; sweep = None })) answer ≡ None
no_sweep verb answer = grind arith

steps_came : (steps : List Made) {from : Outset} {lines : List Line} {awaits : Awaits} {now : Now} (so : Here from lines awaits [] now) (c : ℕ) (verb : Verb) (heap : HeapFacts) (shelf : Shelf) (answer : Answered) → c < 32 →
    client_awaited awaits ≡ Some c → is_one_step awaits ≡ false → call_at now.calls c ≡ Some (record { verb = verb; sweep = None }) → has_open_call now.heap c ≡ true → Stands heap → Carried now.heap now.shelf c None steps heap shelf (Some answer) →
    EndCame from lines (awaits_after awaits false) c verb (record now { calls = slice_set now.calls c None }) heap shelf answer
steps_came [] so c verb heap shelf answer few awaited shown call goes stands carried = absurd (let some = carried.2 in cc)
steps_came (made ∷ later) {from} {lines} {awaits} {now} so c verb heap shelf answer few awaited shown call goes stands (before, none, step, rest) =
    by (λ there opens left. let end = steps_came later there c verb heap shelf answer few awaited shown call opens stands left in record { text = end.text; prints = end.prints; rests = end.rests; came = end.came; stops = end.stops })
    made.told.ended refl
  where
    now' : Now
    now' = record now { heap = made.heap; shelf = made.shelf }

    after_it : Stands made.heap
    after_it = stands_before made.heap made.shelf c made.told.ended later heap shelf (Some answer) stands rest

    opens : made.told.ended ≢ Some NoMemory → has_open_call made.heap c ≡ is_none made.told.ended
    opens memory = step_open turns-sit asks-sit holders-publish now.heap now.shelf c made.told made.heap made.shelf (sound_of now.heap before) before.clients few goes memory step

    by : (Here from lines awaits [] now' → has_open_call made.heap c ≡ true → Carried made.heap made.shelf c None later heap shelf (Some answer) → EndCame from lines (awaits_after awaits false) c verb (record now { calls = slice_set now.calls c None }) heap shelf answer) →
        (ended : Option Answered) → made.told.ended ≡ ended → EndCame from lines (awaits_after awaits false) c verb (record now { calls = slice_set now.calls c None }) heap shelf answer
    by more None is =
        let memory : made.told.ended ≢ Some NoMemory = λ e. absurd (cc (is, e)) in
        let came = step_came so c made.told made.heap made.shelf now.held awaited goes step (sound_of made.heap after_it) memory (rw (is, call) refl) in
        let on : Reached from lines awaits [] so.text now' = rw (is, call, shown, awaits_going awaits shown, append-nil so.text) at came in
        more (record { text = so.text; came = on; prints = so.prints }) (opens memory ∙ ap is_none is) (subst (λ e. Carried made.heap made.shelf c e later heap shelf (Some answer)) is rest)
    by more (Some other) is =
        let last = none_follows made.heap made.shelf c other later heap shelf (Some answer) (subst (λ e. Carried made.heap made.shelf c e later heap shelf (Some answer)) is rest) in
        let told : made.told.ended ≡ Some answer = is ∙ sym last.2 in
        let memory : answer ≢ NoMemory → made.told.ended ≢ Some NoMemory = λ differ e. differ (cc (told, e)) in record {
          text = so.text;
          prints = so.prints;
          rests = λ differ. rw last.0 (opens (memory differ) ∙ ap is_none told);
          came = λ differ held. let came = step_came so c made.told made.heap made.shelf held awaited goes step (sound_of made.heap after_it) (memory differ) (rw (told, call) (no_sweep verb (Some answer))) in rw (last.0, last.1) (rw (told, call, shown) at came);
          stops = λ same. rw (last.0, last.1) (step_stops so c made.told made.heap made.shelf Starves awaited goes step (sound_of made.heap after_it) (λ four. absurd (cc (four))));
        }

-- where a call came that was carried out from its beginning on to its end
pub whole_came : {from : Outset} {lines : List Line} {now : Now} (c : ℕ) (verb : Verb) (request : Request) (so : Starting from lines c verb true (AsksFor request None) now) (heap : HeapFacts) (shelf : Shelf) (answer : Answered) →
    c < 32 → length now.heap.seats ≡ 32 → call_at now.calls c ≡ None → length now.calls ≡ 32 → Stands heap → CarriedOut now.heap now.shelf c request heap shelf (Some answer) → EndCame from lines Nothing c verb now heap shelf answer
whole_came {from} {lines} {now} c verb request so heap shelf answer few number free long stands ([], carried) =
    let came = λ (held : Option (List ℕ)). answered_came c verb true request None so answer heap held carried.0 carried.2 (sound_of heap stands) in record {
      text = so.here.text;
      prints = so.here.prints;
      rests = λ differ. rw carried.0 (start_open now.heap c request number few ∙ ap is_none (sym carried.2));
      came = λ differ held. rw carried.1 (came held);
      stops = λ starves. rw carried.1 (stops_after (came now.held) Starves (λ four. absurd (cc (four))) (longer from.held now.held so.here.text (answer_line c verb answer) (all_of from.held now.held so.here.text so.here.prints)));
    }
whole_came {from} {lines} {now} c verb request so heap shelf answer few number free long stands (made ∷ later, carried) =
    let h : HeapFacts = started now.heap c request in
    let call : Option OpenCall = Some (record { verb = verb; sweep = None }) in
    let opened = opened_goes c verb true request None so h refl (sym carried.1) (sound_of h carried.0) in
    let goes : has_open_call h c ≡ true = start_open now.heap c request number few ∙ ap is_none carried.1 in
    let came = steps_came (made ∷ later) opened c verb heap shelf answer few refl refl (get_or-set_same now.calls c call None (omega (arith, few, long))) goes stands
    (subst (λ e. Carried h now.shelf c e (made ∷ later) heap shelf (Some answer)) carried.1 carried) in
    let closed : slice_set (slice_set now.calls c call) c None ≡ now.calls = set-set now.calls c call None ∙ ap (slice_set now.calls c) (sym free) ∙ set-get_or now.calls c None in
    record { text = came.text; prints = came.prints; rests = came.rests; came = λ differ held. rw closed at (came.came differ held); stops = came.stops }

-- each step but the last adds an entry or an ask
pub steps_fewer : (told told' : Option Answered) (steps steps' : ℕ) → told ≡ None → steps < step_limit → (told' ≡ None → steps < steps') → cond (is_none told') (step_limit + 1 - steps') 0 < cond (is_none told) (step_limit + 1 - steps) 0
steps_fewer told None steps steps' none few longer = let more = longer refl in rw none (omega (arith, few, more))
steps_fewer told (Some answer) steps steps' none few longer = rw none (omega (arith, few))

pub none_of : {A : Type 0} (o : Option A) → is_some o ≡ false → o ≡ None
none_of None e = refl
none_of (Some x) e = absurd (cc (e))
