-- A free makes few asks for what its own returns emptied.
use Rattle.call_plan.proofs.Words.{◌≡◌, ℕ, ◌+◌, ◌-◌, ◌*◌, ◌≤◌, Bool, true, cond, List, [], ◌∷◌, Option, None, Some, sym, subst, arith, add-zero, count_by, nat_tests, sum_by-cons, lost, won, Request, Item, Replied, Told, Starved, Batches, TurnPoint, Giving, Finding, Offering, Owning, AskPoint, Merging, PurgingLazily, Returning, Decommitting, Forcing, Point, Turns, Asks, Tells, Next, Go, InArena, Move, Reply, Space, Sound, mine, AskFacts, DeskFacts, done_at, is_marked, op_at, starved, step, told, turn_replied, want, Moment, after, begin, begin_stage, settle, step_next, desk_fed, Knows, Keeps, Moves, left, stages, unheard, with_found, flying, is_free, is_told, is_purge, Stride, Strides, Follows, Walks, emptied_by, emptied_by_all, asks, purges, FreesAreFew}
use Rattle.call_plan.specs.Desks.{meant, ready}
use Rattle.call_plan.proofs.Swaps.{meant_alike}
use Rattle.std.proofs.Common.{◌∙◌}
use Rattle.call_plan.proofs.Bounds.{one}
use Rattle.call_plan.proofs.Rooms.{HasNext, flown, keeps_next, turn_flies}
use Rattle.call_plan.proofs.Standing.{wants-stand}
use Rattle.call_plan.proofs.Steps.{never_starves, steps-keep}

-- ---- the asks that are paid for

-- in a free with so many extents in flight there is room for the asks that were made and those that can still come
abbrev pub TurnPaid : ℕ → ℕ → ℕ → TurnPoint → Type 0
TurnPaid f made most (Giving addrs) = made ≤ most
TurnPaid f made most (Owning addr true past) = made ≤ most
TurnPaid f made most (Finding own tries fresh Batches) = made + (2 * (f - 1) + (2 - tries)) ≤ most
TurnPaid f made most (Offering span Batches) = made + (2 * (f - 1) + 5) ≤ most
TurnPaid f made most point = ⊥

abbrev pub AskPaid : ℕ → ℕ → ℕ → AskPoint → Type 0
AskPaid f made most (Merging low high own_low fresh Batches) = made + (2 * (f - 2) + cond own_low 1 0) ≤ most
AskPaid f made most (PurgingLazily span Batches) = made + (2 * (f - 1) + 5) ≤ most
AskPaid f made most (Returning span Batches) = made + (2 * f + 4) ≤ most
AskPaid f made most (Decommitting span Batches) = made + (2 * (f - 1) + 3) ≤ most
AskPaid f made most (Forcing span Batches) = made + (2 * (f - 1) + 2) ≤ most
AskPaid f made most point = ⊥

abbrev pub Paid : ℕ → ℕ → ℕ → Next → Type 0
Paid f made most (Go (Turns point)) = TurnPaid f made most point
Paid f made most (Go (Asks point heard)) = AskPaid f (made + unheard heard) most point
Paid f made most (Go (Tells span b)) = ⊥
Paid f made most (InArena index point) = ⊥
Paid f made most (Move class) = ⊥
Paid f made most next = made ≤ most

paid_most : (f made most : ℕ) (next : Next) → Paid f made most next → made ≤ most
paid_most f made most next paid = grind arith

-- ---- a step

turned_paid : (f g made most : ℕ) (point : TurnPoint) (found : Option ℕ) (c : ℕ) (s : Space) (reply : Reply) →
    g + lost (with_found found (op_at point)) reply ≡ f + won c s (with_found found (op_at point)) reply → HasNext g (turn_replied point reply) → HasNext f (Go (Turns point)) → TurnPaid f made most point →
    Paid g made (most + (2 * emptied_by c (Go (Turns point)) s + 6 * one (is_purge (Replied reply)))) (turn_replied point reply)
turned_paid f g made most point found c s reply e has some paid = grind (arith, nat_tests)

told_paid : (f g made most more : ℕ) (point : AskPoint) (asked : AskFacts) (found : Option ℕ) (c : ℕ) (s : Space) (reply : Reply) →
    g + lost (with_found found (done_at point asked)) reply ≡ f + won c s (with_found found (done_at point asked)) reply →
    HasNext g (told point asked reply) → AskPaid f made most point → Paid g made (most + more) (told point asked reply)
told_paid f g made most more point asked found c s reply e has paid = grind (arith, nat_tests)

-- an ask is paid for before it is made
same_paid : (f made most : ℕ) (point : AskPoint) → AskPaid f (made + 1) most point → AskPaid f (made + 1 + 0) (most + 0) point
same_paid f made most point paid = grind arith

starved_paid : (f made most : ℕ) (v : Bool) → made ≤ most → Paid f made most (starved v)
starved_paid f made most v few = grind arith

-- what a stride brings to what is paid for
abbrev brings_by : ℕ → Next → Stride → ℕ
brings_by c next x = 2 * emptied_by c next x.before + 6 * one (is_purge x.item)

point_paid : (c made most : ℕ) (s t : Space) (point : Point) (item : Item) → Sound s → Knows (mine c s) point → Moves c s (want point) item t → Keeps c t (stages point) (left c s point) (step point item) →
    Paid (flying (mine c s)) made most (Go point) → Paid (flying (mine c t)) (made + one (is_told item)) (most + (2 * emptied_by c (Go point) s + 6 * one (is_purge item))) (step point item)
point_paid c made most s t (Turns point) (Replied reply) sound knows (found, after, replied) keeps paid =
    let stands = wants-stand c s (Turns point) sound knows found in
    let e = flown c s t (with_found found (op_at point)) reply sound stands after replied in
    subst (λ n. Paid (flying (mine c t)) n (most + (2 * emptied_by c (Go (Turns point)) s + 6 * one (is_purge (Replied reply)))) (turn_replied point reply)) (sym (add-zero made))
    (turned_paid (flying (mine c s)) (flying (mine c t)) made most point found c s reply e (keeps_next c t _ _ (turn_replied point reply) keeps) (turn_flies (mine c s) point knows) paid)
point_paid c made most s t (Turns point) Starved sound knows (may, same) keeps paid =
    starved_paid (flying (mine c t)) (made + 0) (most + (2 * emptied_by c (Go (Turns point)) s + 6 * 0)) (is_marked (op_at point)) (omega (arith, paid_most (flying (mine c s)) made most (Go (Turns point)) paid))
point_paid c made most s t (Asks point None) (Told asked) sound knows (is, kind, same) keeps paid =
    subst (λ u. AskPaid (flying (mine c u)) (made + 1 + 0) (most + 0) point) (sym same) (same_paid (flying (mine c s)) made most point paid)
point_paid c made most s t (Asks point (Some asked)) (Replied reply) sound (knows, heard) (found, after, replied) keeps paid =
    let stands = wants-stand c s (Asks point (Some asked)) sound (knows, heard) found in
    let e = flown c s t (with_found found (done_at point asked)) reply sound stands after replied in
    told_paid (flying (mine c s)) (flying (mine c t)) (made + 0) most (2 * 0 + 6 * one (is_purge (Replied reply))) point asked found c s reply e (keeps_next c t _ _ (told point asked reply) keeps) paid
point_paid c made most s t (Asks point (Some asked)) Starved sound (knows, heard) (may, same) keeps paid = absurd (let no = never_starves point asked in cc)
point_paid c made most s t (Tells span b) item sound knows moves keeps paid = absurd paid
point_paid c made most s t point item sound knows moves keeps paid = absurd moves

stride_paid : (c made most : ℕ) (next : Next) (x : Stride) → Strides c next x → Paid (flying (mine c x.before)) made most next →
    Paid (flying (mine c x.after)) (made + one (is_told x.item)) (most + brings_by c next x) (step_next next x.item)
stride_paid c made most (Go point) x strides paid =
    let keeps = steps-keep c x.before x.after point x.item strides.0 strides.1 strides.2 in point_paid c made most x.before x.after point x.item strides.0 strides.1 strides.2 keeps paid
stride_paid c made most next x none paid = absurd none

-- ---- the fold

-- what is paid for where a stride of the call follows, and that little was made where none does
abbrev pub PaidFrom : ℕ → ℕ → ℕ → Next → List Stride → Type 0
PaidFrom c made most next [] = made ≤ most
PaidFrom c made most next (x ∷ xs) = Paid (flying (mine c x.before)) made most next

from_paid : (c made most : ℕ) (t : Space) (request : Request) (desk : DeskFacts) (arena : ℕ) (next : Next) (xs : List Stride) → Follows c next t xs → Paid (flying (mine c t)) made most next →
    PaidFrom c made most (settle request desk arena next).next xs
from_paid c made most t request desk arena next xs follows paid = grind (arith, paid_most)

walk_paid : (c made most : ℕ) (xs : List Stride) (at : Moment) → Walks c at xs → PaidFrom c made most at.stage.next xs →
    made + count_by asks xs ≤ most + (2 * emptied_by_all c at xs + 6 * count_by purges xs)
walk_paid c made most [] at walks paid = omega (arith, paid)
walk_paid c made most (x ∷ xs) at (strides, follows, walks) paid =
    let stepped = stride_paid c made most at.stage.next x strides paid in
    let from = from_paid c _ _ x.after at.request (desk_fed at.desk at.stage.arena at.stage.next x.item) at.stage.arena (step_next at.stage.next x.item) xs follows stepped in
    omega (arith, walk_paid c (made + one (is_told x.item)) (most + brings_by c at.stage.next x) xs (after at x.item) walks from, sum_by-cons (λ y. one (asks y)) x xs, sum_by-cons (λ y. one (purges y)) x xs)

begin_paid : (f : ℕ) (request : Request) (desk : DeskFacts) → is_free request ≡ true → Paid f 0 0 (begin_stage request desk).next
begin_paid f request desk is = grind (arith, nat_tests)

pub frees-are_few : FreesAreFew
frees-are_few c request desk strides is walks = omega (arith, walk_paid c 0 0 strides (begin request desk) walks (starts strides))
  where
    starts : (xs : List Stride) → PaidFrom c 0 0 (begin request desk).stage.next xs
    starts [] = omega arith
    starts (x ∷ xs) = begin_paid (flying (mine c x.before)) (meant request desk) (ready request desk) ((meant_alike request desk).free ∙ is)
