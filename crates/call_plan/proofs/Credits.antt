-- Where a request begins there is room for its asks and turns. And what a call asks for fits into a number.
use Rattle.call_plan.proofs.Words.{Realloc, InArena, NextBatch, Move, NotLive, Nowhere, get, share, gives, move_stage, begin_resize, begin_realloc, ◌≡◌, ◌≤◌, ◌<◌, ℕ, cond, Option, List, [], arith, subst, nat_tests, class_for_exists, pages_bounds, Request, Malloc, Memalign, Item, Answered, BatchFacts, hit, Next, Go, Ends, Stage, Held, DeskFacts, Moment, batch_goes, begin, begin_get, begin_stage, run, settle, step_next, IsSizedPoint, IsSizedNext, Goes, IsPointOrEnd, IsCall, is_malloc, most_asks, AsksAreFew, IsShort, MallocsAreShort, true, None, Some, nat_lt, ◌==◌, ◌^◌, cond_both, Turns, are_large, resize_at, class_for, resizing}
use Rattle.call_plan.specs.Desks.{meant, ready}
use Rattle.call_plan.specs.Words.{MallocIn}
use Rattle.call_plan.proofs.Swaps.{meant_alike}
use Rattle.call_plan.proofs.Aligned.{aligned_below}
use Rattle.call_plan.proofs.Bounds.{AsksLeft, IsShortStill, credit, run_left, run_short, settle_keeps, turns_at}

-- it waits there at a point, with no more asks and turns to come than so many and what it asks for fitting into a number, or has
-- ended
abbrev pub Begun : ℕ → ℕ → Next → Type 0
Begun asks turns (Go point) = (credit point ≤ asks) × (turns_at point ≤ turns) × IsSizedPoint point
Begun asks turns (Ends answer) = Unit {0}
Begun asks turns next = ⊥

batch_begun : (arena : ℕ) (gained : Option Held) (batch : Option BatchFacts) → Begun 0 9 (batch_goes arena gained batch).next
batch_begun arena gained batch = grind arith

got_begun : (class align : ℕ) (hit : Option Held) (desk : DeskFacts) → class < 121 → Begun 5 8 (begin_get class align hit desk).next
got_begun class align hit desk below = grind (arith, nat_tests, pages_bounds class below)

moved_begun : (request : Request) (arena class : ℕ) (found : Option Held) (desk : DeskFacts) → class < 121 → Begun 9 9 (move_stage request arena class found desk).next
moved_begun request arena class found desk below = grind (arith, nat_tests, pages_bounds class below, batch_begun)

at_begun : (class : ℕ) (region : Held) → class < 121 → are_large class region.class ≡ true → Begun 9 9 (Go (Turns (resize_at class region)))
at_begun class region below large = grind (arith, nat_tests, pages_bounds region.class)

resized_begun : (request : Request) (class : ℕ) (region : Held) (desk : DeskFacts) → class < 121 → Begun 9 9 (begin_resize request class region desk).next
resized_begun request class region desk below =
    cond_both (class == region.class) _ _ (λ (at : Stage). Begun 9 9 at.next) (λ _. tt)
    (λ _. cond_both (are_large class region.class) _ _ (λ (at : Stage). Begun 9 9 at.next) (λ large. at_begun class region below large)
    (λ _. moved_begun request region.arena class (hit class desk) desk below))

realloc_begun : (addr size : ℕ) (held : Option Held) (desk : DeskFacts) → Begun 9 9 (begin_realloc addr size held desk).next
realloc_begun addr size None desk = tt
realloc_begun addr size (Some region) desk =
    cond_both (nat_lt (2 ^ 35) size) _ _ (λ (at : Stage). Begun 9 9 at.next) (λ _. tt)
    (λ h. resized_begun (Realloc addr size) (class_for size) region (resizing addr region desk) (class_for_exists size (grind (arith, nat_tests, h))))

begin_begun : (request : Request) (desk : DeskFacts) → Begun (most_asks request) (cond (is_malloc request) 8 9) (begin_stage request desk).next
begin_begun request desk = grind (arith, nat_tests, got_begun, class_for_exists, aligned_below, batch_begun, realloc_begun)

-- likewise where it begins in the place of an explicit cache
started_begun : (request : Request) (desk : DeskFacts) → Begun (most_asks request) (cond (is_malloc request) 8 9) (begin request desk).stage.next
started_begun request desk =
    let alike = meant_alike request desk in
    let begun = begin_begun (meant request desk) (ready request desk) in
    subst (λ asks. Begun asks (cond (is_malloc request) 8 9) (begin request desk).stage.next) alike.asks
    (subst (λ v. Begun (most_asks (meant request desk)) (cond v 8 9) (begin request desk).stage.next) alike.malloc begun)

begun_call : (asks turns : ℕ) (next : Next) → Begun asks turns next → IsPointOrEnd next × IsSizedNext next
begun_call asks turns next begun = grind arith

pub begin-is_call : (request : Request) (desk : DeskFacts) → IsCall (begin_stage request desk)
begin-is_call request desk = begun_call _ _ (begin_stage request desk).next (begin_begun request desk)

-- ---- the laws

begun_left : (asks turns : ℕ) (desk : DeskFacts) (next : Next) → Begun asks turns next → AsksLeft asks [] desk next
begun_left asks turns desk next begun = grind arith

pub asks-are_few : AsksAreFew
asks-are_few request desk items answer e =
    subst (AsksLeft (most_asks request) items (run (begin request desk) items).desk) e (run_left (most_asks request) items (begin request desk) (begun_left _ _ (begin request desk).desk (begin request desk).stage.next (started_begun request desk)))

begun_short : (desk : DeskFacts) (next : Next) → Begun 5 8 next → IsShortStill [] desk next
begun_short desk next begun = grind arith

ends_short : (items : List Item) (at : Moment) (answer : Answered) → Begun 5 8 at.stage.next → (run at items).stage.next ≡ Ends answer → IsShort items
ends_short items at answer begun e =
    let few = subst (IsShortStill items (run at items).desk) e (run_short items at (begun_short at.desk at.stage.next begun)) in record { asks = few.0; turns = few.1 }

pub mallocs-are_short : MallocsAreShort
mallocs-are_short (Malloc size) desk items answer is e = ends_short items (begin (Malloc size) desk) answer (begin_begun (Malloc size) desk) e
mallocs-are_short (Memalign align size) desk items answer is e = ends_short items (begin (Memalign align size) desk) answer (begin_begun (Memalign align size) desk) e
mallocs-are_short (MallocIn slot size) desk items answer is e = ends_short items (begin (MallocIn slot size) desk) answer (started_begun (MallocIn slot size) desk) e
mallocs-are_short request desk items answer is e = absurd (cc)

-- ---- the stages of a call

pub next_few : (next : Next) (item : Item) → IsSizedNext next → IsSizedNext (step_next next item)
next_few next item few = grind (arith, nat_tests)

pub get_few : (class count : ℕ) → class < 121 → IsSizedNext (get true class 1 count)
get_few class count below = grind (arith, nat_tests, pages_bounds class below)

pub settle_few : (request : Request) (desk : DeskFacts) (arena : ℕ) (next : Next) → IsSizedNext next → IsSizedNext (settle request desk arena next).next
settle_few request =
    settle_keeps request (λ desk next. IsSizedNext next) (record {
      over = λ desk index point few. few;
      gone = λ desk arena few. tt;
      batch = λ desk addrs few. tt;
      done = λ desk e few. tt;
      given = λ desk region e few. tt;
      cached = λ desk class region e few. tt;
      other = λ desk class few. get_few class (share class desk) few;
    })

batch_place : (arena : ℕ) (gained : Option Held) (batch : Option BatchFacts) → IsPointOrEnd (batch_goes arena gained batch).next
batch_place arena gained batch = grind arith

move_place : (request : Request) (arena class : ℕ) (found : Option Held) (desk : DeskFacts) → IsPointOrEnd (move_stage request arena class found desk).next
move_place request arena class found desk = grind (arith, batch_place)

-- a step that goes leads to a point or to the end
pub settle_place : (request : Request) (desk : DeskFacts) (arena : ℕ) (next : Next) → Goes (settle request desk arena next).next → IsPointOrEnd (settle request desk arena next).next
settle_place request desk arena (Go point) goes = tt
settle_place request desk arena (InArena index point) goes = tt
settle_place request desk arena NextBatch goes = batch_place arena (gives request desk) _
settle_place request desk arena (Move class) goes = move_place request arena class (hit class desk) desk
settle_place request desk arena NotLive goes = tt
settle_place request desk arena (Ends answer) goes = tt
settle_place request desk arena Nowhere goes = absurd goes
