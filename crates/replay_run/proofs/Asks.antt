-- The asks of a play are those that its heap has heard.
use Rattle.replay_run.proofs.Words.{arith, ◌≡◌, ℕ, Bool, List, [], ◌∷◌, ◌++◌, Option, None, Some, refl, sym, ◌∙◌, ap, append-nil, append_assoc, Op, Held, AskFacts, Answered, CallFacts, HeapFacts, holder_for, published_for, region_for, started, turned_for, answer_of, begun, Line, Verb, WorldEvent, Read, Began, Turned, Told, Starved, after_event, ask_in, asks_among, world_after, Reached, Now, Outset, Awaits, World, begins, begun_as, line_read, opening_world, AsksFor, Beginning, FindsNone, SweepFacts, TellsAt, WentOn, ask_line, beginning_in, settled, turn_line}
use Rattle.replay_run.proofs.Plays.{stepped_heap}

-- no line asks anything
line_hears : (w : World) (line : Line) → (line_read w line).heap.heard ≡ w.heap.heard
line_hears w line = grind arith

-- no call asks anything where it begins
begun_hears : (w : World) (c : ℕ) (verb : Verb) (whole : Bool) (sweep : Option SweepFacts) (answer : Option Answered) → (begun_as w c verb whole sweep answer).heap.heard ≡ w.heap.heard
begun_hears w c verb whole sweep None = refl
begun_hears w c verb whole sweep (Some answer) = refl

begins_hears : (w : World) (c : ℕ) (verb : Verb) (whole : Bool) (b : Beginning) → (begins w c verb whole b).heap.heard ≡ w.heap.heard
begins_hears w c verb whole FindsNone = refl
begins_hears w c verb whole (TellsAt answer) = refl
begins_hears w c verb whole (AsksFor request sweep) = begun_hears (record w { heap = started w.heap c request }) c verb whole sweep (answer_of (begun w.heap.seats c request))

-- nor does a turn
published_hears : (h : HeapFacts) (c : ℕ) (call : CallFacts) (holder : ℕ) (region : Option Held) → (published_for h c call holder region).heard ≡ h.heard
published_hears h c call holder None = refl
published_hears h c call holder (Some region) = refl

turned_hears : (h : HeapFacts) (c : ℕ) (call : CallFacts) (op : Op) (asked : Option AskFacts) (holder : Option ℕ) → (turned_for h c call op asked holder).heard ≡ h.heard
turned_hears h c call op asked None = refl
turned_hears h c call op asked (Some holder) = published_hears h c call holder (region_for h call holder)

-- the ask of an event is heard after it
event_hears : (w : World) (event : WorldEvent) → (after_event w event).heap.heard ≡ w.heap.heard ++ ask_in event
event_hears w (Read line) = line_hears w line ∙ sym (append-nil w.heap.heard)
event_hears w (Began c verb whole) = begins_hears (settled w verb) c verb whole (beginning_in w c verb) ∙ sym (append-nil w.heap.heard)
event_hears w (WentOn c request behind) = sym (append-nil w.heap.heard)
event_hears w (Turned c call op asked) =
    ap (λ (h : HeapFacts). h.heard) (stepped_heap w c _ (turn_line c) _) ∙ turned_hears w.heap c call op asked (holder_for w.heap call) ∙ sym (append-nil w.heap.heard)
event_hears w (Told c call asked) = ap (λ (h : HeapFacts). h.heard) (stepped_heap w c _ (ask_line c asked.ask asked.answer) _)
event_hears w (Starved c call) = sym (append-nil w.heap.heard)

-- the asks of a play are heard after it
play_hears : (w : World) (events : List WorldEvent) → (world_after w events).heap.heard ≡ w.heap.heard ++ asks_among events
play_hears w [] = sym (append-nil w.heap.heard)
play_hears w (event ∷ events) =
    play_hears (after_event w event) events ∙ ap (λ (xs : List AskFacts). xs ++ asks_among events) (event_hears w event) ∙ append_assoc w.heap.heard (ask_in event) (asks_among events)

-- those of a play from the opening world are all that was heard
pub came_asks : {from : Outset} {lines : List Line} {awaits : Awaits} {ahead : List Line} {text : List ℕ} {now : Now} → (came : Reached from lines awaits ahead text now) → asks_among came.events ≡ now.heap.heard
came_asks {from} {lines} {awaits} {ahead} {text} {now} came = sym (play_hears opening_world came.events) ∙ ap (λ (w : World). w.heap.heard) came.here
