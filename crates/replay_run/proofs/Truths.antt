-- What an answer says of the world is so: a bad answer of a hook is one, and an arena that isn't there isn't live.
use Rattle.replay_run.proofs.Words.{◌≡◌, false, is_live, ℕ, max, List, [], ◌∷◌, ◌++◌, Option, None, Some, IfSome, refl, sym, subst, rules, arith, nat_tests, nat_lt, Ask, Alloc, Answer, Placed, BadReply, Reply, Why, Space, Op, AskFacts, Answered, Item, ToldItem, Request, DeskFacts, AskPoint, Growing, GrowingExactly, Mine, Knows, Point, Turns, Asks, Tells, TurnPoint, Next, Go, InArena, NextBatch, NotLive, Ends, Nowhere, CallFacts, ended_by, settle, step_next, WantAsk, WantTurn, want, step, told, turn_replied, after_grow, grow_bad, answered_span, batch_goes, going, flushes, BatchFacts, batch_of, Held, op_goes, both_true, turns-sit, sound_at, Sound, record_at, spaces_of, met_by_alloc, answered_by, moment_after, replied, answer_of, begun, seat_at, tale_begun, tale_in, Tale, AnswerCause, BadAnswer, Verb, Bool, option_map, desk_fed, done_at, ask_at, whole_chunks, step_of, op_for, reply_in, with_chunk_found, ◌<◌, ◌*◌, IsSeated, SitsAt, SpeaksAgainst, IsTrueIn, answer_begun, answer_in, WorldEvent, IsSound, IsWanted, Began, Turned, Told, World, holder_for, AsksFor, TellsAt, FindsNone, Beginning, IsGoneIn, NoSuchArena, WentOn, beginning_in, request_in}
use Rattle.call_plan.specs.Clients.{hit}
use Rattle.call_plan.specs.Runs.{desk_moved, gives, move_stage}
use Rattle.call_plan.specs.Stages.{Move}
use Rattle.space_model.specs.Outcome.{Outcome, LookNoArena, FillNoArena, AdvanceNoArena, PurgeNoArena, TakeNoArena, ResetNoArena, DestroyNoArena, CountsNoArena, SetNoArena}
use Rattle.space_model.specs.declared.Reply.TheVariants.{NoArena}
use Rattle.replay_run.proofs.Tales.{IsHere, seat_there}

-- the arena of a call isn't live
abbrev IsDead : World → CallFacts → Type 0
IsDead w call = is_live (record_at w.heap.records call.stage.arena).space.life ≡ false

-- where a turn leads: an answer there tells what is so in its world, and the arena is gone only where it isn't live
abbrev NextTrue : World → ℕ → CallFacts → Op → Option AskFacts → Next → Type 0
NextTrue w c call op asked (Ends answer) = IsTrueIn w (Turned c call op asked) answer
NextTrue w c call op asked NotLive = IsDead w call
NextTrue w c call op asked next = Unit {0}

-- where all goes back there is an answer only once all is done, which tells nothing of the world
goes_true : (w : World) (c : ℕ) (call : CallFacts) (op : Op) (asked : Option AskFacts) (arena : ℕ) (gained : Option Held) (batch : Option BatchFacts) →
    IfSome (ended_by (batch_goes arena gained batch).next) (IsTrueIn w (Turned c call op asked))
goes_true w c call op asked arena None None = tt
goes_true w c call op asked arena (Some region) None = tt
goes_true w c call op asked arena gained (Some batch) = tt

-- and there is none where a region of a class is to be got in place of the one in hand
move_true : (w : World) (c : ℕ) (call : CallFacts) (op : Op) (asked : Option AskFacts) (desk : DeskFacts) (class : ℕ) (found : Option Held) →
    IfSome (ended_by (move_stage call.request call.stage.arena class found desk).next) (IsTrueIn w (Turned c call op asked))
move_true w c call op asked desk class (Some region) =
    let now : DeskFacts = desk_moved class (Some region) desk in goes_true w c call op asked call.stage.arena (gives call.request now) (batch_of (going (flushes call.request) now))
move_true w c call op asked desk class None = grind (arith, nat_tests)

-- so it is where the call then stands
settled_true : (w : World) (c : ℕ) (call : CallFacts) (op : Op) (asked : Option AskFacts) (desk : DeskFacts) (next : Next) → NextTrue w c call op asked next →
    IfSome (ended_by (settle call.request desk call.stage.arena next).next) (IsTrueIn w (Turned c call op asked))
settled_true w c call op asked desk (Go point) so = tt
settled_true w c call op asked desk (InArena index point) so = tt
settled_true w c call op asked desk NextBatch so = goes_true w c call op asked call.stage.arena (gives call.request desk) (batch_of (going (flushes call.request) desk))
settled_true w c call op asked desk (Move class) so = move_true w c call op asked desk class (hit class desk)
settled_true w c call op asked desk NotLive so = (refl, so)
settled_true w c call op asked desk (Ends answer) so = so
settled_true w c call op asked desk Nowhere so = tt

-- the range that an alloc placed can't be taken where the reply says so
against : (spaces : List Space) (s : Space) (c pages align : ℕ) (answer : Answer) (why : Why) →
    BadReply why ≡ (after_grow s c (met_by_alloc spaces (Alloc false None pages align) answer) (Alloc false None pages align) answer).reply →
    SpeaksAgainst spaces s.parts (Alloc false None pages align) answer (answered_span pages answer) why
against spaces s c pages align (Placed b z first) why e =
    (refl, (grow_bad s c (met_by_alloc spaces (Alloc false None pages align) (Placed b z first)) pages align (Placed b z first) why e).1)
against spaces s c pages align answer why e = absurd (cc)

-- the same for the ask of a place
against_asked : (spaces : List Space) (s : Space) (c pages align : ℕ) (asked : AskFacts) (why : Why) → asked.ask ≡ Alloc false None pages align →
    BadReply why ≡ (after_grow s c (met_by_alloc spaces asked.ask asked.answer) asked.ask asked.answer).reply → SpeaksAgainst spaces s.parts asked.ask asked.answer (answered_span pages asked.answer) why
against_asked spaces s c pages align asked why is e =
    subst (λ (a : Ask). SpeaksAgainst spaces s.parts a asked.answer (answered_span pages asked.answer) why) (sym is)
    (against spaces s c pages align asked.answer why (subst (λ (a : Ask). BadReply why ≡ (after_grow s c (met_by_alloc spaces a asked.answer) a asked.answer).reply) is e))

-- no turn but one that takes the answer to an alloc in leads to a bad answer, and none but one that found no arena leads there
turn_true : (w : World) (c : ℕ) (call : CallFacts) (op : Op) (asked : Option AskFacts) (point : TurnPoint) (reply : Reply) → (reply ≡ NoArena → IsDead w call) →
    NextTrue w c call op asked (turn_replied point reply)
turn_true w c call op asked point NoArena dead = let gone : IsDead w call = dead refl in first_of (search (rules), grind (arith, nat_tests))
turn_true w c call op asked point reply dead = first_of (search (rules), grind (arith, nat_tests))

told_true : (w : World) (c : ℕ) (call : CallFacts) (point : AskPoint) (asked : AskFacts) (reply : Reply) → asked.ask ≡ ask_at point →
    reply ≡ (step_of (record_at w.heap.records call.stage.arena).space c (with_chunk_found (spaces_of w.heap.records) call.stage.arena (done_at point asked))).reply →
    NextTrue w c call (done_at point asked) (Some asked) (told point asked reply)
told_true w c call (Growing wish chunks) asked (BadReply why) is e =
    against_asked (spaces_of w.heap.records) (record_at w.heap.records call.stage.arena).space c (chunks * 512) (max 512 wish.align) asked why is e
told_true w c call (GrowingExactly wish) asked (BadReply why) is e =
    against_asked (spaces_of w.heap.records) (record_at w.heap.records call.stage.arena).space c (whole_chunks wish.pages) (max 512 wish.align) asked why is e
told_true w c call point asked reply is e = first_of (search (rules), grind (arith, nat_tests))

-- an arena that replies so isn't live
pub not_live : (c : ℕ) (s t : Space) (op : Op) (reply : Reply) → Outcome c s t op reply → reply ≡ NoArena → is_live s.life ≡ false
not_live c s t op reply (LookNoArena dead same) e = dead
not_live c s t op reply (FillNoArena dead same) e = dead
not_live c s t op reply (AdvanceNoArena dead same) e = dead
not_live c s t op reply (PurgeNoArena dead same) e = dead
not_live c s t op reply (TakeNoArena dead same) e = dead
not_live c s t op reply (ResetNoArena dead same) e = dead
not_live c s t op reply (DestroyNoArena dead same) e = dead
not_live c s t op reply (CountsNoArena dead same) e = dead
not_live c s t op reply (SetNoArena dead same) e = dead
not_live c s t op reply other e = absurd (cc)

-- where a turn leads by its reply
turned_true : (w : World) (c : ℕ) (call : CallFacts) (op : Op) (asked : Option AskFacts) (point : Point) (m : Mine) → Knows m point → want point ≡ WantTurn op asked →
    (reply_in w.heap.records call.stage.arena c (op_for w.heap call op) ≡ NoArena → IsDead w call) → NextTrue w c call op asked (step point (replied w.heap c call op))
turned_true w c call op asked (Turns point) m knows wants dead = turn_true w c call op asked point (reply_in w.heap.records call.stage.arena c (op_for w.heap call op)) dead
turned_true w c call op asked (Asks point None) m knows wants dead = absurd (cc)
turned_true w c call op asked (Asks point (Some heard)) m knows wants dead =
    let same_op : done_at point heard ≡ op = cc in
    let same_ask : Some heard ≡ asked = cc in
    subst (λ (o : Op). NextTrue w c call o asked (step (Asks point (Some heard)) (replied w.heap c call o))) same_op
    (subst (λ (a : Option AskFacts). NextTrue w c call (done_at point heard) a (step (Asks point (Some heard)) (replied w.heap c call (done_at point heard)))) same_ask
    (told_true w c call point heard (reply_in w.heap.records call.stage.arena c (op_for w.heap call (done_at point heard))) knows.1.0 refl))
turned_true w c call op asked (Tells span b) m knows wants dead = absurd (cc)

-- the answer of a turn, whoever publishes a region by it
answered_true : (w : World) (c : ℕ) (call : CallFacts) (op : Op) (asked : Option AskFacts) (holder : Option ℕ) → IsSound w.heap → c < 32 → IsWanted w c call (WantTurn op asked) →
    IfSome (answered_by w.heap c call op holder) (IsTrueIn w (Turned c call op asked))
answered_true w c call op asked (Some holder) sound there wants = tt
answered_true w c call op asked None sound there wants =
    let desk : DeskFacts = (seat_at w.heap.seats c).desk in
    let item : Item = replied w.heap c call op in
    let s : Space = (record_at w.heap.records call.stage.arena).space in
    let seated : IsSeated w.heap.records c desk (Some call) = subst (IsSeated w.heap.records c desk) wants.open_call (sound.seats c there) in
    let sits : SitsAt w.heap.records c desk call (Go wants.point) = subst (SitsAt w.heap.records c desk call) wants.at seated.1 in
    let can = (turns-sit w.heap.records c desk call wants.point op asked sound.arenas there wants.at sits wants.wants).0 in
    let sound_space : Sound s = sound_at w.heap.records call.stage.arena sound.arenas sits.waits.there in
    let went = (op_goes c s (op_for w.heap call op) sound_space (both_true (nat_lt c 32) _ can.stands).1).outcome in
    let dead : reply_in w.heap.records call.stage.arena c (op_for w.heap call op) ≡ NoArena → IsDead w call = λ e. not_live c s _ (op_for w.heap call op) _ went e in
    let leads : NextTrue w c call op asked (step_next call.stage.next item) =
    subst (λ (n : Next). NextTrue w c call op asked (step_next n item)) (sym wants.at) (turned_true w c call op asked wants.point _ sits.waits.knows wants.wants dead) in
    settled_true w c call op asked (desk_fed desk call.stage.arena call.stage.next item) (step_next call.stage.next item) leads

-- an answer to an ask ends no call
heard_true : (w : World) (c : ℕ) (call : CallFacts) (asked : AskFacts) → IsWanted w c call (WantAsk asked.ask) → IfSome (answer_of (moment_after w.heap c call (ToldItem asked))) (IsTrueIn w (Told c call asked))
heard_true w c call asked wants =
    let desk : DeskFacts = (seat_at w.heap.seats c).desk in
    let item : Item = ToldItem asked in
    subst (λ (n : Next). IfSome (ended_by (settle call.request (desk_fed desk call.stage.arena call.stage.next item) call.stage.arena (step_next n item)).next) (IsTrueIn w (Told c call asked))) (sym wants.at)
    (by (desk_fed desk call.stage.arena call.stage.next item) wants.point)
  where
    by : (desk : DeskFacts) (point : Point) → IfSome (ended_by (settle call.request desk call.stage.arena (step point (ToldItem asked))).next) (IsTrueIn w (Told c call asked))
    by desk (Turns point) = tt
    by desk (Asks point None) = tt
    by desk (Asks point (Some heard)) = tt
    by desk (Tells span b) = tt

-- a list that has an item isn't empty
never_empty : (earlier later : List Item) (item : Item) → [] ≡ earlier ++ item ∷ later → ⊥
never_empty [] later item e = absurd (cc)
never_empty (first ∷ earlier) later item e = absurd (cc)

-- a request that begins was told of no hook
asked_true : (w : World) (event : WorldEvent) (c : ℕ) (request : Request) (answer : Option Answered) → ((index : ℕ) → IsGoneIn w.heap event index) →
    IfSome answer (AnswerCause w event (Some (tale_begun w.heap.seats c request))) → IfSome answer (IsTrueIn w event)
asked_true w event c request None gone cause = tt
asked_true w event c request (Some (BadAnswer span why)) gone cause = absurd (never_empty cause.earlier _ (ToldItem cause.asked) cause.told)
asked_true w event c request (Some (NoSuchArena index)) gone cause = gone index
asked_true w event c request (Some answer) gone cause = tt

began_true : (w : World) (c : ℕ) (verb : Verb) (whole : Bool) (b : Beginning) →
    IfSome (answer_begun w c verb b) (AnswerCause w (Began c verb whole) (option_map (tale_begun w.heap.seats c) (request_in b))) → IfSome (answer_begun w c verb b) (IsTrueIn w (Began c verb whole))
began_true w c verb whole FindsNone cause = tt
began_true w c verb whole (TellsAt answer) cause = tt
began_true w c verb whole (AsksFor request sweep) cause = asked_true w (Began c verb whole) c request (answer_of (begun w.heap.seats c request)) (λ index. tt) cause

-- what the answer of an event says of the world is so
pub event_true : (w : World) (tales : List (Option Tale)) (event : WorldEvent) → IsHere w event → IfSome (answer_in w event) (AnswerCause w event (tale_in w tales event)) → IfSome (answer_in w event) (IsTrueIn w event)
event_true w tales (Began c verb whole) here cause = began_true w c verb whole (beginning_in w c verb) cause
event_true w tales (WentOn c request behind) here cause = asked_true w (WentOn c request behind) c request (answer_of (begun w.heap.seats c request)) (λ index. tt) cause
event_true w tales (Turned c call op asked) here cause =
    answered_true w c call op asked (holder_for w.heap call) here.sound (seat_there w.heap.seats c call here.clients here.next.open_call) here.next
event_true w tales (Told c call asked) here cause = heard_true w c call asked here.next.0
event_true w tales event here cause = tt
