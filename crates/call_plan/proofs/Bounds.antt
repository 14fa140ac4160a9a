-- What each step of a call keeps is so after all of them: so each step leaves fewer asks, but for those that its reply brings,
-- and a malloc fewer turns too.
use Rattle.call_plan.specs.Words.{Region}
use Rattle.call_plan.proofs.Words.{not, Option, None, Some, Held, Request, Answered, BatchFacts, AfterFlight, Moving, Widening, Narrowing, Cutting, Extending, Sparing, Backing, Joining, Move, hit, get, share, gives, batch_goes, desk_moved, desk_led, desk_closed, move_stage, ◌≡◌, ℕ, ◌+◌, ◌-◌, ◌≤◌, Bool, true, false, cond, List, [], ◌∷◌, ◌++◌, sym, subst, arith, append_assoc, append-nil, sum_by, count_by, refl, ap, nat_tests, sum_by_push, Item, Finished, Ok, NoSuchArena, TurnPoint, Filling, Looking, Landing, Giving, Finding, Offering, Point, Turns, Asks, Tells, Next, Go, InArena, NextBatch, NotLive, Ends, Nowhere, Stage, DeskFacts, AskPoint, Skipping, Trimming, Growing, SplittingGrown, GrowingExactly, SplittingExact, Committing, Merging, PurgingLazily, Returning, Decommitting, Forcing, Moment, after, run, settle, step_next, desk_fed, unheard, is_told, is_turn, brings}

-- a choice of where to begin
pub chosen_stage : (P : Next → Type 0) (v : Bool) (x y : Stage) → P x.next → P y.next → P (cond v x y).next
chosen_stage P true x y one other = one
chosen_stage P false x y one other = other

-- What is so where a step leads, by what the client has there, is so where the call then stands, by what it has then: at a point, at
-- the next batch, at its end, or where another region takes the place of the one in hand.
pub record Settles (request : Request) (P : DeskFacts → Next → Type 0) : Type 0 where
  pub over : (desk : DeskFacts) (index : ℕ) (point : Point) → P desk (InArena index point) → P desk (Go point)
  pub gone : (desk : DeskFacts) (arena : ℕ) → P desk NotLive → P desk (Ends (NoSuchArena arena))
  pub batch : (desk : DeskFacts) (addrs : List ℕ) → P desk NextBatch → P desk (Go (Turns (Giving addrs)))
  pub done : (desk : DeskFacts) → gives request desk ≡ None → P desk NextBatch → P desk (Ends (Ok Finished))
  pub given : (desk : DeskFacts) (region : Held) → gives request desk ≡ Some region → P desk NextBatch → P desk (Ends (Ok (Region region.addr region.class)))
  pub cached : (desk : DeskFacts) (class : ℕ) (region : Held) → hit class desk ≡ Some region → P desk (Move class) → P (desk_moved class (Some region) desk) NextBatch
  pub other : (desk : DeskFacts) (class : ℕ) → P desk (Move class) → P desk (get true class 1 (share class desk))

batch_keeps : (request : Request) (P : DeskFacts → Next → Type 0) → Settles request P → (desk : DeskFacts) (arena : ℕ) (gained : Option Held) (batch : Option BatchFacts) →
    gives request desk ≡ gained → P desk NextBatch → P desk (batch_goes arena gained batch).next
batch_keeps request P s desk arena None None e is = s.done desk e is
batch_keeps request P s desk arena (Some region) None e is = s.given desk region e is
batch_keeps request P s desk arena gained (Some batch) e is = s.batch desk batch.addrs is

pub move_keeps : (request : Request) (P : DeskFacts → Next → Type 0) → Settles request P → (desk : DeskFacts) (arena class : ℕ) (found : Option Held) → hit class desk ≡ found → P desk (Move class) →
    P (desk_moved class found desk) (move_stage request arena class found desk).next
move_keeps request P s desk arena class None e is = s.other desk class is
move_keeps request P s desk arena class (Some region) e is =
    batch_keeps request P s (desk_moved class (Some region) desk) arena _ _ refl (s.cached desk class region e is)

pub settle_keeps : (request : Request) (P : DeskFacts → Next → Type 0) → Settles request P → (desk : DeskFacts) (arena : ℕ) (next : Next) → P desk next →
    P (desk_led desk next) (settle request desk arena next).next
settle_keeps request P s desk arena (Go point) is = is
settle_keeps request P s desk arena (InArena index point) is = s.over desk index point is
settle_keeps request P s desk arena NextBatch is = batch_keeps request P s desk arena _ _ refl is
settle_keeps request P s desk arena (Move class) is = move_keeps request P s desk arena class (hit class desk) refl is
settle_keeps request P s desk arena NotLive is = s.gone desk arena is
settle_keeps request P s desk arena (Ends answer) is = is
settle_keeps request P s desk arena Nowhere is = is

-- what is so of a call that has ended is so whatever its client then has
abbrev pub Closes : (DeskFacts → Next → Type 0) → Type 0
Closes P = (desk now : DeskFacts) (answer : Answered) → P desk (Ends answer) → P now (Ends answer)

pub close_keeps : (P : DeskFacts → Next → Type 0) → Closes P → (request : Request) (desk : DeskFacts) (arena : ℕ) (next : Next) → P desk next → P (desk_closed request arena next desk) next
close_keeps P closes request desk arena (Ends answer) is = closes desk (desk_closed request arena (Ends answer) desk) answer is
close_keeps P closes request desk arena (Go point) is = is
close_keeps P closes request desk arena (InArena index point) is = is
close_keeps P closes request desk arena NextBatch is = is
close_keeps P closes request desk arena (Move class) is = is
close_keeps P closes request desk arena NotLive is = is
close_keeps P closes request desk arena Nowhere is = is

-- what each step keeps of the items so far, where C is so of each item that is still to come
pub run_keeps : (C : Next → Item → Type 0) (F : Moment → List Item → Type 0) → ((at : Moment) (item : Item) (items : List Item) → F at (item ∷ items) → C at.stage.next item × F (after at item) items) →
    (request : Request) (P : List Item → DeskFacts → Next → Type 0) → ((past : List Item) → Settles request (P past) × Closes (P past)) →
    ((past : List Item) (desk : DeskFacts) (arena : ℕ) (next : Next) (item : Item) → P past desk next → C next item → P (past ++ item ∷ []) (desk_fed desk arena next item) (step_next next item)) →
    (items past : List Item) (at : Moment) → at.request ≡ request → F at items → P past at.desk at.stage.next → P (past ++ items) (run at items).desk (run at items).stage.next
run_keeps C F split request P settles steps [] past at same all is = subst (λ xs. P xs at.desk at.stage.next) (sym (append-nil past)) is
run_keeps C F split request P settles steps (item ∷ items) past at same all is =
    let (one, others) = split at item items all in
    let next : Next = step_next at.stage.next item in
    let fed : DeskFacts = desk_fed at.desk at.stage.arena at.stage.next item in
    let now : List Item = past ++ item ∷ [] in
    let stepped = steps past at.desk at.stage.arena at.stage.next item is one in
    let led = subst (λ (r : Request). P now (desk_led fed next) (settle r fed at.stage.arena next).next) (sym same) (settle_keeps request (P now) (settles now).0 fed at.stage.arena next stepped) in
    let closed = close_keeps (P now) (settles now).1 at.request (desk_led fed next) (settle at.request fed at.stage.arena next).arena (settle at.request fed at.stage.arena next).next led in
    subst (λ xs. P xs (run (after at item) items).desk (run (after at item) items).stage.next) (append_assoc past (item ∷ []) items)
    (run_keeps C F split request P settles steps items now (after at item) same others closed)

-- ---- asks and turns

-- the asks that can come of what follows
abbrev pub credit_then : AfterFlight → ℕ
credit_then (Moving class) = 5
credit_then later = 0

-- the asks that can come from a point on, but for those that replies bring
abbrev pub credit_turn : TurnPoint → ℕ
credit_turn (Filling wish count) = 5
credit_turn (Looking wish) = 5
credit_turn (Finding own tries fresh later) = 2 - tries + credit_then later
credit_turn (Offering span later) = 5 + credit_then later
credit_turn (Widening resize) = 9
credit_turn (Narrowing resize) = 6
credit_turn point = 0

abbrev pub credit_ask : AskPoint → ℕ
credit_ask (Skipping wish span b skip) = 4
credit_ask (Trimming wish span b) = 3
credit_ask (Growing wish chunks) = 4
credit_ask (SplittingGrown wish span b) = 3
credit_ask (GrowingExactly wish) = 2
credit_ask (SplittingExact wish span b) = 1
credit_ask (Committing wish span) = 0
credit_ask (Merging low high own_low fresh later) = cond own_low 1 0 + credit_then later
credit_ask (PurgingLazily span later) = 5 + credit_then later
credit_ask (Returning span later) = 4 + credit_then later
credit_ask (Decommitting span later) = 3 + credit_then later
credit_ask (Forcing span later) = 2 + credit_then later
credit_ask (Cutting resize) = 5
credit_ask (Extending resize) = 8
credit_ask (Sparing resize span b) = 7
credit_ask (Backing resize span) = 6
credit_ask (Joining resize span) = 5

abbrev pub credit : Point → ℕ
credit (Turns point) = credit_turn point
credit (Asks point heard) = credit_ask point + unheard heard
credit (Tells span b) = 1

-- there is room for the asks that were made and those that can still come
abbrev pub Left : ℕ → ℕ → Next → Type 0
Left asks most (Go point) = asks + credit point ≤ most
Left asks most (InArena index point) = asks + credit point ≤ most
Left asks most (Move class) = asks + 5 ≤ most
Left asks most Nowhere = Unit {0}
Left asks most next = asks ≤ most

-- 1 for true, 0 for false
abbrev pub one : Bool → ℕ
one v = cond v 1 0

step_left : (asks most : ℕ) (next : Next) (item : Item) → Left asks most next → Left (asks + one (is_told item)) (most + brings item) (step_next next item)
step_left asks most next item left = grind (arith, nat_tests)

-- what the items so far bring beside the asks that a request makes
abbrev pub AsksLeft : ℕ → List Item → DeskFacts → Next → Type 0
AsksLeft most past desk next = Left (count_by is_told past) (most + sum_by brings past) next

-- where a region is got there is room for the asks of that
get_left : (asks most class count : ℕ) → asks + 5 ≤ most → Left asks most (get true class 1 count)
get_left asks most class count left = grind (arith, nat_tests)

-- a run makes no more asks than are left to it
pub run_left : (most : ℕ) (items : List Item) (at : Moment) → AsksLeft most [] at.desk at.stage.next → AsksLeft most items (run at items).desk (run at items).stage.next
run_left most items at left =
    run_keeps (λ _ _. Unit {0}) (λ _ _. Unit {0}) (λ _ _ _ _. (tt, tt)) at.request (AsksLeft most)
    (λ past. (
      record {
        over = λ desk index point is. is;
        gone = λ desk arena is. is;
        batch = λ desk addrs is. omega arith;
        done = λ desk e is. is;
        given = λ desk region e is. is;
        cached = λ desk class region e is. omega (arith, is);
        other = λ desk class is. get_left (count_by is_told past) (most + sum_by brings past) class (share class desk) is;
      },
      λ desk now answer is. is,
    ))
    (λ past desk arena next item is _.
    let stepped = step_left (count_by is_told past) (most + sum_by brings past) next item is in
    let more : most + sum_by brings past + brings item ≡ most + sum_by brings (past ++ item ∷ []) = omega (arith, sum_by_push brings past item) in
    rw (sum_by_push (λ i. one (is_told i)) past item) (subst (λ n. Left (count_by is_told past + one (is_told item)) n (step_next next item)) more stepped)) items [] at refl tt left

-- whether an ask is one of a malloc, whose region takes no other one's place
abbrev pub is_got : AskPoint → Bool
is_got (Skipping wish span b skip) = not wish.moves
is_got (Trimming wish span b) = not wish.moves
is_got (Growing wish chunks) = not wish.moves
is_got (SplittingGrown wish span b) = not wish.moves
is_got (GrowingExactly wish) = not wish.moves
is_got (SplittingExact wish span b) = not wish.moves
is_got (Committing wish span) = not wish.moves
is_got point = false

-- the turns that can still come in a malloc, of which 8 are too few for what is none
abbrev pub turns_at : Point → ℕ
turns_at (Turns (Filling wish count)) = cond wish.moves 9 8
turns_at (Turns (Looking wish)) = cond wish.moves 9 7
turns_at (Turns (Landing wish span)) = cond wish.moves 9 1
turns_at (Asks point heard) = cond (is_got point) (credit_ask point + 2) 9
turns_at point = 9

-- there is room for the asks and the turns of a malloc
abbrev pub Short : ℕ → ℕ → Next → Type 0
Short asks turns (Go point) = (asks + credit point ≤ 5) × (turns + turns_at point ≤ 8)
Short asks turns (InArena index point) = ⊥
Short asks turns NextBatch = ⊥
Short asks turns (Move class) = ⊥
Short asks turns Nowhere = Unit {0}
Short asks turns next = (asks ≤ 5) × (turns ≤ 8)

step_short : (asks turns : ℕ) (next : Next) (item : Item) → Short asks turns next → Short (asks + one (is_told item)) (turns + one (is_turn item)) (step_next next item)
step_short asks turns next item short = grind (arith, nat_tests)

abbrev pub IsShortStill : List Item → DeskFacts → Next → Type 0
IsShortStill past desk next = Short (count_by is_told past) (count_by is_turn past) next

pub run_short : (items : List Item) (at : Moment) → IsShortStill [] at.desk at.stage.next → IsShortStill items (run at items).desk (run at items).stage.next
run_short items at short =
    run_keeps (λ _ _. Unit {0}) (λ _ _. Unit {0}) (λ _ _ _ _. (tt, tt)) at.request IsShortStill
    (λ past. (
      record {
        over = λ desk index point is. absurd is;
        gone = λ desk arena is. is;
        batch = λ desk addrs is. absurd is;
        done = λ desk e is. absurd is;
        given = λ desk region e is. absurd is;
        cached = λ desk class region e is. absurd is;
        other = λ desk class is. absurd is;
      },
      λ desk now answer is. is,
    ))
    (λ past desk arena next item is _. rw (sum_by_push (λ i. one (is_told i)) past item, sum_by_push (λ i. one (is_turn i)) past item) (step_short (count_by is_told past) (count_by is_turn past) next item is)) items [] at refl tt short
