-- What each open call of a play was fed, and what the answers of a play have to be.
use Rattle.std.specs.Prelude.{◌≡◌, ℕ, false, ◌%◌, List, [], ◌∷◌, ◌++◌, Option, None, Some, IfSome, replicate, slice_index_or, slice_set}
use Rattle.std.specs.Option.{option_map}
use Rattle.size_classes.specs.Classes.{aligned_for}
use Rattle.space_model.specs.declared.Op.{Op}
use Rattle.space_model.specs.Step.{is_live, why_not}
use Rattle.call_plan.specs.Clients.{DeskFacts}
use Rattle.call_plan.specs.declared.needs.Answered.{Answered}
use Rattle.call_plan.specs.declared.needs.Answered.TheVariants.{Ok, NotHeld, BadAnswer, NoArena}
use Rattle.call_plan.specs.declared.needs.Given.TheVariants.{Region}
use Rattle.call_plan.specs.Items.{Item, Told as ToldItem}
use Rattle.call_plan.specs.declared.needs.Request.{Request}
use Rattle.call_plan.specs.declared.needs.Request.TheVariants.{Memalign}
use Rattle.call_plan.specs.Calls.{CallFacts}
use Rattle.call_plan.specs.Causes.{CauseOf}
use Rattle.call_plan.specs.Words.{Ask, Alloc, Answer, Placed, Part, Space, Span, Why}
use Rattle.sits.specs.Arenas.{record_at}
use Rattle.heap_core.specs.Arenas.{spaces_of}
use Rattle.heap_core.specs.Chunks.{met_by_alloc}
use Rattle.heap_core.specs.Heaps.{HeapFacts, answered_by, holder_for, moment_after, replied}
use Rattle.sits.specs.Seats.{Seat}
use Rattle.heap_core.specs.Seats.{answer_of, asked_for, begun, seat_at}
use Rattle.trace_text.specs.declared.lines.Verb.{Verb}
use Rattle.trace_text.specs.declared.lines.Verb.TheVariants.{Take}
use Rattle.replay_run.specs.Names.{address_at}
use Rattle.replay_run.specs.declared.beginnings.Beginning.{Beginning}
use Rattle.replay_run.specs.declared.beginnings.Beginning.TheVariants.{Asks, Tells, FindsNone}
use Rattle.replay_run.specs.Beginnings.{arena_with, target_of}
use Rattle.replay_run.specs.Plays.{AllWorlds, WorldEvent, HasSoundHeap, IsPlay, Began, Turned, Told, WentOn, after_event, beginning_in}
use Rattle.replay_run.specs.World.{World, opening_world}

-- ---- what open calls were fed

-- The tale of a call: what its client had before it, what was asked for, and what the call was fed since, in order. Where a line
-- asks for one thing after another, each of them has a tale of its own.
pub record Tale : Type 0 where
  pub began : DeskFacts
  pub request : Request
  pub items : List Item

-- the tale of a client's open call
abbrev pub tale_at : List (Option Tale) → ℕ → Option Tale
tale_at tales c = slice_index_or tales c None

-- no client has an open call before the first line
abbrev pub no_tales : List (Option Tale)
no_tales = replicate 32 None

-- the tale of a call where it begins
abbrev pub tale_begun : List Seat → ℕ → Request → Tale
tale_begun seats c request = record { began = (seat_at seats c).desk; request = asked_for seats c request; items = [] }

-- the tale of a call after one more item
abbrev pub tale_fed : Item → Tale → Tale
tale_fed item tale = record tale { items = tale.items ++ item ∷ [] }

-- a turn is fed to the call for which it is made, but for one by which the holder of a region publishes
abbrev pub tale_turned : HeapFacts → ℕ → CallFacts → Op → Option ℕ → Option Tale → Option Tale
tale_turned h c call op None tale = option_map (tale_fed (replied h c call op)) tale
tale_turned h c call op (Some holder) tale = tale

-- what a call asks for first, if it asks for anything
abbrev pub request_in : Beginning → Option Request
request_in (Asks request sweep) = Some request
request_in (Tells answer) = None
request_in FindsNone = None

-- what the call of an event was fed, what the event feeds to it among that; none, where nothing is asked for
abbrev pub tale_in : World → List (Option Tale) → WorldEvent → Option Tale
tale_in w tales (Began c verb whole) = option_map (tale_begun w.heap.seats c) (request_in (beginning_in w c verb))
tale_in w tales (WentOn c request behind) = Some (tale_begun w.heap.seats c request)
tale_in w tales (Turned c call op asked) = tale_turned w.heap c call op (holder_for w.heap call) (tale_at tales c)
tale_in w tales (Told c call asked) = option_map (tale_fed (ToldItem asked)) (tale_at tales c)
tale_in w tales event = None

-- ---- answers

-- the answer of a call where it begins, if it has one at once; what a control tells at once answers no call
abbrev pub answer_begun : World → ℕ → Verb → Beginning → Option Answered
answer_begun w c verb (Asks request sweep) = answer_of (begun w.heap.seats c request)
answer_begun w c verb (Tells answer) = None
answer_begun w c verb FindsNone = Some (NotHeld (target_of w.names verb))

-- the answer that an event gives to a request, if it gives one; where memory was wanting, nothing is answered any more
abbrev pub answer_in : World → WorldEvent → Option Answered
answer_in w (Began c verb whole) = answer_begun w c verb (beginning_in w c verb)
answer_in w (WentOn c request behind) = answer_of (begun w.heap.seats c request)
answer_in w (Turned c call op asked) = answered_by w.heap c call op (holder_for w.heap call)
answer_in w (Told c call asked) = answer_of (moment_after w.heap c call (ToldItem asked))
answer_in w event = None

-- a call has its tale until it has its answer
abbrev pub tale_until : Option Answered → Option Tale → Option Tale
tale_until None tale = tale
tale_until (Some answer) tale = None

-- a request has a tale of its own, unless it has its answer at once
abbrev pub tales_asked : World → ℕ → Request → List (Option Tale) → List (Option Tale)
tales_asked w c request tales = slice_set tales c (tale_until (answer_of (begun w.heap.seats c request)) (Some (tale_begun w.heap.seats c request)))

-- so has a call that asks for something
abbrev pub tales_begun : World → ℕ → Option Request → List (Option Tale) → List (Option Tale)
tales_begun w c None tales = tales
tales_begun w c (Some request) tales = tales_asked w c request tales

-- the tales of the open calls after an event
abbrev pub tales_after : World → WorldEvent → List (Option Tale) → List (Option Tale)
tales_after w (Began c verb whole) tales = tales_begun w c (request_in (beginning_in w c verb)) tales
tales_after w (WentOn c request behind) tales = tales_asked w c request tales
tales_after w (Turned c call op asked) tales =
    slice_set tales c (tale_until (answer_in w (Turned c call op asked)) (tale_in w tales (Turned c call op asked)))
tales_after w (Told c call asked) tales = slice_set tales c (tale_until (answer_in w (Told c call asked)) (tale_in w tales (Told c call asked)))
tales_after w event tales = tales

-- something is true of each event of a play, with the world and the tales before it
abbrev pub AllEvents : (World → List (Option Tale) → WorldEvent → Type 0) → World → List (Option Tale) → List WorldEvent → Type 0
AllEvents P w tales [] = Unit {0}
AllEvents P w tales (event ∷ events) = P w tales event × AllEvents P (after_event w event) (tales_after w event tales) events

-- ---- causes

-- the call was to take the region at an address over, and no arena has an extent there
abbrev pub NowhereCause : World → WorldEvent → Answered → Type 0
NowhereCause w (Began c (Take target) whole) answer =
    (answer ≡ NotHeld (address_at w.names target)) × (arena_with w.heap.records (address_at w.names target) ≡ None)
NowhereCause w event answer = ⊥

-- an answer has its cause in what its call was fed, or nothing was asked for, since no arena has what is to be taken over
abbrev pub AnswerCause : World → WorldEvent → Option Tale → Answered → Type 0
AnswerCause w event (Some tale) answer = CauseOf tale.began tale.request tale.items answer
AnswerCause w event None answer = NowhereCause w event answer

-- what is told against the range that an alloc placed is the first thing that speaks against it: by the extents of its arena, and
-- by the least chunk that an extent of any arena meets
abbrev pub SpeaksAgainst : List Space → List Part → Ask → Answer → Span → Why → Type 0
SpeaksAgainst spaces parts (Alloc commit at pages align) (Placed committed zeroed first) span why = (span ≡ record { first = first; pages = pages })
    × (why_not (met_by_alloc spaces (Alloc commit at pages align) (Placed committed zeroed first)) align parts span ≡ Some why)
SpeaksAgainst spaces parts ask answer span why = ⊥

-- a bad answer comes of the turn that takes in what the hook answered, and that is a wrong answer in the world of the turn
abbrev pub IsWrongIn : HeapFacts → WorldEvent → Span → Why → Type 0
IsWrongIn h (Turned c call op (Some asked)) span why =
    SpeaksAgainst (spaces_of h.records) (record_at h.records call.stage.arena).space.parts asked.ask asked.answer span why
IsWrongIn h event span why = ⊥

-- an arena that a turn says isn't there is the one in which it is made, and isn't live; no answer to an ask says so
abbrev pub IsGoneIn : HeapFacts → WorldEvent → ℕ → Type 0
IsGoneIn h (Turned c call op asked) index = (index ≡ call.stage.arena) × (is_live (record_at h.records index).space.life ≡ false)
IsGoneIn h (Told c call asked) index = ⊥
IsGoneIn h event index = Unit {0}

-- what an answer says of the world is so
abbrev pub IsTrueIn : World → WorldEvent → Answered → Type 0
IsTrueIn w event (BadAnswer span why) = IsWrongIn w.heap event span why
IsTrueIn w event (NoArena index) = IsGoneIn w.heap event index
IsTrueIn w event answer = Unit {0}

-- the answer that an event gives has its cause, and what it says of the world is so
abbrev pub IsCaused : World → List (Option Tale) → WorldEvent → Type 0
IsCaused w tales event = IfSome (answer_in w event) (λ answer. AnswerCause w event (tale_in w tales event) answer × IsTrueIn w event answer)

-- each answer of a play with sound heaps has its cause in what that very call was fed
abbrev pub AnswersHaveCauses : Type 0
AnswersHaveCauses = (events : List WorldEvent) → IsPlay opening_world events → AllWorlds HasSoundHeap opening_world events → AllEvents IsCaused opening_world no_tales events

-- ---- aligned regions

-- the region that a memalign was given is of the class for its size and alignment, at a multiple of that alignment
abbrev pub IsAlignedFor : Request → Answered → Type 0
IsAlignedFor (Memalign align size) (Ok (Region addr class)) = (class ≡ aligned_for size align) × (addr % align ≡ 0)
IsAlignedFor request answer = Unit {0}

-- the region that an event gives to a memalign, if it gives one, is aligned
abbrev pub IsAligned : World → List (Option Tale) → WorldEvent → Type 0
IsAligned w tales event = IfSome (answer_in w event) (λ answer. IfSome (tale_in w tales event) (λ tale. IsAlignedFor tale.request answer))

-- each region that a memalign is given in a play with sound heaps is aligned
abbrev pub MemalignsAreAligned : Type 0
MemalignsAreAligned = (events : List WorldEvent) → IsPlay opening_world events → AllWorlds HasSoundHeap opening_world events → AllEvents IsAligned opening_world no_tales events
