-- Regions that its client comes to hold have room: where none is wanted, none is wanted either where the call goes.
use Rattle.call_plan.proofs.Words.{◌≡◌, ℕ, ◌+◌, ◌≤◌, ◌||◌, Bool, true, false, Option, None, Some, is_some, arith, refl, nat_tests, Request, Item, Point, Next, Go, InArena, NextBatch, Move, NotLive, Ends, Nowhere, Stage, Held, BatchFacts, DeskFacts, CallFacts, gets_at, frees_at, may_hold, one_if, places, started, NoSuchArena, HasRoomToHold, ended_by, begin, desk_fed, desk_led, desk_moved, begin_desk, begin_stage, batch_goes, get, gives, hit, move_stage, settle, share, step_next, step, List, [], ◌∷◌, sharing, batch_of, going, flushes}
use Rattle.std.proofs.Common.{◌∙◌, ap, refl}
use Rattle.call_plan.specs.Desks.{meant, ready}
use Rattle.call_plan.specs.Runs.{begun}
use Rattle.call_plan.specs.Words.{Region, Ok as Answers}
use Rattle.call_plan.proofs.Credits.{begin-is_call}

-- whether a region that is to be freed may come where it leads
abbrev pub frees : Next → Bool
frees (Go point) = frees_at point
frees (InArena index point) = frees_at point
frees next = false

-- whether a region may come there that stays
abbrev pub gains : Next → Bool
gains (Go point) = gets_at point
gains (InArena index point) = gets_at point
gains (Move class) = true
gains (Ends (Answers (Region addr class))) = true
gains next = false

-- how many regions the client may come to hold where it leads, and what follows
abbrev pub most : DeskFacts → Next → ℕ
most desk next = one_if (is_some desk.hand || frees next) + one_if (is_some desk.gained || gains next)

-- ---- what a call is fed

step_frees : (point : Point) (item : Item) → frees (step point item) ≡ false
step_frees point item = grind (arith, nat_tests)

step_gains : (point : Point) (item : Item) → gets_at point ≡ false → gains (step point item) ≡ false
step_gains point item none = grind (arith, nat_tests)

-- regions that are cached leave those in hand and gained
sharing_hand : (arena class : ℕ) (addrs : List ℕ) (desk : DeskFacts) → ((sharing arena class addrs desk).hand ≡ desk.hand) × ((sharing arena class addrs desk).gained ≡ desk.gained)
sharing_hand arena class [] desk = (refl, refl)
sharing_hand arena class (addr ∷ addrs) desk = let more = sharing_hand arena class addrs desk in grind arith

hand_fed : (desk : DeskFacts) (arena : ℕ) (point : Point) (item : Item) → frees_at point ≡ false → is_some desk.hand ≡ false → is_some (desk_fed desk arena (Go point) item).hand ≡ false
hand_fed desk arena point item not none = grind (arith, sharing_hand)

gained_fed : (desk : DeskFacts) (arena : ℕ) (point : Point) (item : Item) → gets_at point ≡ false → is_some desk.gained ≡ false → is_some (desk_fed desk arena (Go point) item).gained ≡ false
gained_fed desk arena point item not none = grind (arith, sharing_hand)

one_less : (v w : Bool) → (w ≡ false → v ≡ false) → one_if v ≤ one_if w
one_less v w none = grind arith

both_none : (v w : Bool) → (v || w) ≡ false → (v ≡ false) × (w ≡ false)
both_none v w e = grind arith

step_most : (desk : DeskFacts) (arena : ℕ) (point : Point) (item : Item) → most (desk_fed desk arena (Go point) item) (step point item) ≤ places desk (Go point)
step_most desk arena point item =
    let one = one_less (is_some (desk_fed desk arena (Go point) item).hand || frees (step point item)) (is_some desk.hand || frees_at point)
    (λ e. let none = both_none (is_some desk.hand) (frees_at point) e in rw (hand_fed desk arena point item none.1 none.0, step_frees point item) refl) in
    let two = one_less (is_some (desk_fed desk arena (Go point) item).gained || gains (step point item)) (is_some desk.gained || gets_at point)
    (λ e. let none = both_none (is_some desk.gained) (gets_at point) e in rw (gained_fed desk arena point item none.1 none.0, step_gains point item none.1) refl) in
    omega (arith, one, two)

-- ---- where it then stands

batch_places : (desk : DeskFacts) (arena : ℕ) (request : Request) (batch : Option BatchFacts) → places desk (batch_goes arena (gives request desk) batch).next ≤ most desk NextBatch
batch_places desk arena request batch = grind arith

moved_most : (desk : DeskFacts) (class : ℕ) (region : Held) → most (desk_moved class (Some region) desk) NextBatch ≤ most desk (Move class)
moved_most desk class region = grind arith

get_places : (desk : DeskFacts) (class count : ℕ) → places desk (get true class 1 count) ≤ most desk (Move class)
get_places desk class count = grind (arith, nat_tests)

move_places : (desk : DeskFacts) (request : Request) (arena class : ℕ) (found : Option Held) → places (desk_moved class found desk) (move_stage request arena class found desk).next ≤ most desk (Move class)
move_places desk request arena class None = get_places desk class (share class desk)
move_places desk request arena class (Some region) = omega (arith, batch_places (desk_moved class (Some region) desk) arena request (batch_of (going (flushes request) (desk_moved class (Some region) desk))), moved_most desk class region)

next_places : (desk : DeskFacts) (next : Next) → places desk next ≤ most desk next
next_places desk next = grind arith

gone_places : (desk : DeskFacts) (arena : ℕ) → places desk (Ends (NoSuchArena arena)) ≤ most desk NotLive
gone_places desk arena = grind arith

settle_places : (request : Request) (desk : DeskFacts) (arena : ℕ) (next : Next) → places (desk_led desk next) (settle request desk arena next).next ≤ most desk next
settle_places request desk arena (Go point) = next_places desk (Go point)
settle_places request desk arena (InArena index point) = omega arith
settle_places request desk arena NextBatch = batch_places desk arena request (batch_of (going (flushes request) desk))
settle_places request desk arena (Move class) = move_places desk request arena class (hit class desk)
settle_places request desk arena NotLive = gone_places desk arena
settle_places request desk arena (Ends answer) = next_places desk (Ends answer)
settle_places request desk arena Nowhere = omega arith

-- ---- where a request begins

begin_none : (request : Request) (desk : DeskFacts) → may_hold request ≡ false → is_some desk.hand ≡ false → is_some desk.gained ≡ false → places (begin_desk request desk) (begin_stage request desk).next ≡ 0
begin_none request desk none hand gained = grind arith

few_places : (desk : DeskFacts) (next : Next) → places desk next ≤ 2
few_places desk next = grind arith

-- where a request begins there is the room that its first place wants
pub begin_room : (request : Request) (desk now : DeskFacts) (at : Stage) (had has : ℕ) → at ≡ begin_stage request desk → now ≡ begin_desk request desk →
    ((may_hold request || is_some desk.hand || is_some desk.gained) ≡ true → 2 ≤ had) → had ≤ has → places now at.next ≤ has
begin_room request desk now at had has is same room within =
    by (may_hold request) (is_some desk.hand) (is_some desk.gained) refl refl refl
  where
    by : (holds hand gained : Bool) → may_hold request ≡ holds → is_some desk.hand ≡ hand → is_some desk.gained ≡ gained → places now at.next ≤ has
    by false false false one two three = let none = begin_none request desk one two three in rw (is, same) (omega (arith, none))
    by true hand gained one two three = omega (arith, few_places now at.next, within, room (rw one refl))
    by false true gained one two three = omega (arith, few_places now at.next, within, room (rw (one, two) refl))
    by false false true one two three = omega (arith, few_places now at.next, within, room (rw (one, two, three) refl))

-- and where it goes on once it was fed
pub fed_room : (request : Request) (desk told : DeskFacts) (arena : ℕ) (next : Next) (item : Item) (had has : ℕ) → told ≡ desk_fed desk arena next item → had ≤ has → HasRoomToHold desk had next →
    places (desk_led told (step_next next item)) (settle request told arena (step_next next item)).next ≤ has
fed_room request desk told arena (Go point) item had has fed within room =
    rw fed (omega (arith, settle_places request (desk_fed desk arena (Go point) item) arena (step point item), step_most desk arena point item, room, within))
fed_room request desk told arena next item had has fed within room = omega arith

-- a call that begins and hasn't ended is open
pub begins_open : (c : ℕ) (request : Request) (had desk : DeskFacts) (was : Option CallFacts) (at : Stage) → at ≡ begin_stage request had → had ≡ desk → ended_by at.next ≡ None →
    Some (record { client = c; request = request; stage = at }) ≡ started c (begun request desk) was (begin_stage request desk).next
begins_open c request had desk was at is same none = grind (arith, begin-is_call)

-- likewise one that may use an explicit cache
pub starts_open : (c : ℕ) (request : Request) (desk now : DeskFacts) (was : Option CallFacts) (asked : Request) (at : Stage) → asked ≡ meant request now → at ≡ (begin request now).stage → now ≡ desk →
    ended_by at.next ≡ None → Some (record { client = c; request = asked; stage = at }) ≡ started c (begin request desk) was (begin request desk).stage.next
starts_open c request desk now was asked at is here same none =
    ap (λ (r : Request). Some (record { client = c; request = r; stage = at })) (is ∙ ap (meant request) same)
    ∙ begins_open c (meant request desk) (ready request desk) (ready request desk) was at (here ∙ ap (λ (d : DeskFacts). begin_stage (meant request d) (ready request d)) same) refl none
