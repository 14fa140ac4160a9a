-- A call takes no more extents out of a list than stood in it at its first turn there.
use Rattle.call_plan.proofs.Words.{◌≡◌, refl, ℕ, ◌+◌, ◌≤◌, ◌<◌, Bool, cond, List, [], ◌∷◌, Option, None, Some, arith, ap, find, nat_tests, is_listed, listed, after_purge_take, count_listed, purge_at, find-le-sum_by, Request, Item, Replied, Starved, AfterFlight, Batches, Visiting, TurnPoint, Taking, Finding, Offering, AskPoint, Merging, PurgingLazily, Returning, Decommitting, Forcing, Point, Turns, Asks, Next, Go, InArena, Reply, Taken, Rest, Part, Space, mine, AskFacts, DeskFacts, WantTurn, is_marked, op_at, starved, step, told, turn_replied, want, Moment, after, begin, begin_stage, settle, step_next, desk_fed, Knows, KnowsTurn, HasLeft, Moves, Stride, Strides, Walks, taken_by, taken_of, found_by, found_of, PurgesAreFew, Moving, NextBatch, Move, NotLive, Ends, Nowhere, Held, BatchFacts, batch_goes, gives, hit, move_stage, batch_of, going, flushes, Realloc, begin_resize, begin_realloc, held_at, resizing, class_for, cond_both, nat_lt, ◌^◌, Stage}
use Rattle.call_plan.specs.Desks.{meant, ready}
use Rattle.space_model.proofs.Lists.{find_passes}

-- ---- what is still to be taken

-- how many extents may still be taken out of a list after what is at hand
abbrev pub then_takes : Rest → AfterFlight → ℕ
then_takes rest Batches = 0
then_takes rest (Moving class) = 0
then_takes rest (Visiting visit left) = cond (is_listed rest (listed visit.rest)) left 0

abbrev pub turn_takes : Rest → TurnPoint → ℕ
turn_takes rest (Taking visit (Some left)) = cond (is_listed rest (listed visit.rest)) left 0
turn_takes rest (Finding own tries fresh later) = then_takes rest later
turn_takes rest (Offering span later) = then_takes rest later
turn_takes rest point = 0

abbrev pub ask_takes : Rest → AskPoint → ℕ
ask_takes rest (Merging low high own_low fresh later) = then_takes rest later
ask_takes rest (PurgingLazily span later) = then_takes rest later
ask_takes rest (Returning span later) = then_takes rest later
ask_takes rest (Decommitting span later) = then_takes rest later
ask_takes rest (Forcing span later) = then_takes rest later
ask_takes rest point = 0

abbrev pub takes : Rest → Next → ℕ
takes rest (Go (Turns point)) = turn_takes rest point
takes rest (Go (Asks point heard)) = ask_takes rest point
takes rest (InArena index (Turns point)) = turn_takes rest point
takes rest (InArena index (Asks point heard)) = ask_takes rest point
takes rest next = 0

-- ---- a step

-- the extent that is taken is one of those that the reply counts
abbrev pub Counted : Space → Rest → Reply → Type 0
Counted s rest (Taken span lazy count) = (count ≡ count_listed rest s.parts) × (0 < count)
Counted s rest reply = Unit {0}

found_counted : (s : Space) (c : ℕ) (rest : Rest) (found : Option Part) → find (λ p. is_listed rest p.state) s.parts ≡ found → Counted s rest (purge_at s c rest found).reply
found_counted s c rest None e = tt
found_counted s c rest (Some part) e =
    let one = ap {B = ℕ} (λ v. cond v 1 0) (find_passes (λ p. is_listed rest p.state) s.parts part e) in
    (refl, omega (arith, one, find-le-sum_by (λ p. cond (is_listed rest p.state) 1 0) (λ p. is_listed rest p.state) s.parts part e))

taken_counted : (s : Space) (c : ℕ) (rest : Rest) (keep : ℕ) → Counted s rest (after_purge_take s c rest keep).reply
taken_counted s c rest keep = grind (arith, nat_tests, found_counted)

-- what is so of the reply to a turn
abbrev pub IsCounted : Space → TurnPoint → Reply → Type 0
IsCounted s (Taking visit left) reply = HasLeft left × Counted s visit.rest reply
IsCounted s point reply = Unit {0}

is_counted : (c : ℕ) (s t : Space) (point : TurnPoint) (reply : Reply) → KnowsTurn (mine c s) point → Moves c s (WantTurn (op_at point) None) (Replied reply) t → IsCounted s point reply
is_counted c s t point reply knows moves = grind (arith, taken_counted)

turned_takes : (rest : Rest) (s : Space) (point : TurnPoint) (reply : Reply) → IsCounted s point reply →
    taken_by rest (Go (Turns point)) (Replied reply) + takes rest (turn_replied point reply) ≤ found_by rest (Go (Turns point)) s + turn_takes rest point
turned_takes rest s point reply counted = grind (arith, nat_tests)

told_takes : (rest : Rest) (point : AskPoint) (asked : AskFacts) (reply : Reply) → takes rest (told point asked reply) ≤ ask_takes rest point
told_takes rest point asked reply = grind (arith, nat_tests)

starved_takes : (rest : Rest) (s : Space) (point : TurnPoint) (v : Bool) →
    taken_by rest (Go (Turns point)) Starved + takes rest (starved v) ≤ found_by rest (Go (Turns point)) s + turn_takes rest point
starved_takes rest s point v = grind arith

point_takes : (c : ℕ) (rest : Rest) (s t : Space) (point : Point) (item : Item) → Knows (mine c s) point → Moves c s (want point) item t →
    taken_by rest (Go point) item + takes rest (step point item) ≤ found_by rest (Go point) s + takes rest (Go point)
point_takes c rest s t (Turns point) (Replied reply) knows moves = turned_takes rest s point reply (is_counted c s t point reply knows moves)
point_takes c rest s t (Turns point) Starved knows moves = starved_takes rest s point (is_marked (op_at point))
point_takes c rest s t point item knows moves = grind (arith, nat_tests, told_takes)

stride_takes : (c : ℕ) (rest : Rest) (next : Next) (x : Stride) → Strides c next x → taken_by rest next x.item + takes rest (step_next next x.item) ≤ found_by rest next x.before + takes rest next
stride_takes c rest next x strides = grind (arith, point_takes)

-- ---- the fold

batch_takes : (rest : Rest) (arena : ℕ) (gained : Option Held) (batch : Option BatchFacts) → takes rest (batch_goes arena gained batch).next ≡ 0
batch_takes rest arena gained batch = grind arith

move_takes : (rest : Rest) (request : Request) (desk : DeskFacts) (arena class : ℕ) (found : Option Held) → takes rest (move_stage request arena class found desk).next ≡ 0
move_takes rest request desk arena class found = grind (arith, nat_tests, batch_takes)

over_takes : (rest : Rest) (index : ℕ) (point : Point) → takes rest (Go point) ≤ takes rest (InArena index point)
over_takes rest index point = grind arith

settled_takes : (rest : Rest) (request : Request) (desk : DeskFacts) (arena : ℕ) (next : Next) → takes rest (settle request desk arena next).next ≤ takes rest next
settled_takes rest request desk arena (Go point) = omega arith
settled_takes rest request desk arena (InArena index point) = over_takes rest index point
settled_takes rest request desk arena NextBatch = omega (arith, batch_takes rest arena (gives request desk) (batch_of (going (flushes request) desk)))
settled_takes rest request desk arena (Move class) = omega (arith, move_takes rest request desk arena class (hit class desk))
settled_takes rest request desk arena NotLive = omega arith
settled_takes rest request desk arena (Ends answer) = omega arith
settled_takes rest request desk arena Nowhere = omega arith

walk_takes : (c : ℕ) (rest : Rest) (xs : List Stride) (at : Moment) → Walks c at xs → taken_of rest at xs ≤ found_of rest at xs + takes rest at.stage.next
walk_takes c rest [] at walks = omega arith
walk_takes c rest (x ∷ xs) at (strides, follows, walks) =
    let stepped = stride_takes c rest at.stage.next x strides in
    let settled = settled_takes rest at.request (desk_fed at.desk at.stage.arena at.stage.next x.item) at.stage.arena (step_next at.stage.next x.item) in
    omega (arith, stepped, settled, walk_takes c rest xs (after at x.item) walks)

resize_takes : (rest : Rest) (request : Request) (class : ℕ) (region : Held) (desk : DeskFacts) → takes rest (begin_resize request class region desk).next ≡ 0
resize_takes rest request class region desk = grind (arith, nat_tests, move_takes)

realloc_takes : (rest : Rest) (addr size : ℕ) (held : Option Held) (desk : DeskFacts) → takes rest (begin_realloc addr size held desk).next ≡ 0
realloc_takes rest addr size None desk = refl
realloc_takes rest addr size (Some region) desk =
    cond_both (nat_lt (2 ^ 35) size) _ _ (λ (at : Stage). takes rest at.next ≡ 0) (λ _. refl) (λ _. resize_takes rest (Realloc addr size) (class_for size) region (resizing addr region desk))

begin_takes : (rest : Rest) (request : Request) (desk : DeskFacts) → takes rest (begin_stage request desk).next ≡ 0
begin_takes rest (Realloc addr size) desk = realloc_takes rest addr size (held_at addr desk) desk
begin_takes rest request desk = grind (arith, nat_tests)

pub purges-are_few : PurgesAreFew
purges-are_few c request desk rest strides walks = omega (arith, walk_takes c rest strides (begin request desk) walks, begin_takes rest (meant request desk) (ready request desk))
