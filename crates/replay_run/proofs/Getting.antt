-- A call that gets a region goes nowhere else until it ends.
use Rattle.call_plan.specs.Stages.{Move}
use Rattle.replay_run.proofs.Words.{◌≡◌, false, arith, nat_tests, ℕ, Reply, AskFacts, DeskFacts, Item, TurnPoint, Filling, Looking, Landing, AskPoint, Skipping, Trimming, Growing, SplittingGrown, GrowingExactly, SplittingExact, Committing, Point, Turns, Asks, Tells, Next, Go, InArena, NextBatch, begin_memalign, step, told, turn_replied}

-- the points at which a call gets a region, which takes no other one's place
abbrev pub TurnGets : TurnPoint → Type 0
TurnGets (Filling wish count) = wish.moves ≡ false
TurnGets (Looking wish) = wish.moves ≡ false
TurnGets (Landing wish span) = wish.moves ≡ false
TurnGets point = ⊥

abbrev pub AskGets : AskPoint → Type 0
AskGets (Skipping wish span b skip) = wish.moves ≡ false
AskGets (Trimming wish span b) = wish.moves ≡ false
AskGets (Growing wish chunks) = wish.moves ≡ false
AskGets (SplittingGrown wish span b) = wish.moves ≡ false
AskGets (GrowingExactly wish) = wish.moves ≡ false
AskGets (SplittingExact wish span b) = wish.moves ≡ false
AskGets (Committing wish span) = wish.moves ≡ false
AskGets point = ⊥

abbrev pub PointGets : Point → Type 0
PointGets (Turns point) = TurnGets point
PointGets (Asks point heard) = AskGets point
PointGets (Tells span b) = ⊥

-- the call waits at such a point, or has ended
abbrev pub Gets : Next → Type 0
Gets (Go point) = PointGets point
Gets (InArena index point) = ⊥
Gets NextBatch = ⊥
Gets (Move class) = ⊥
Gets next = Unit {0}

turned_gets : (point : TurnPoint) (reply : Reply) → TurnGets point → Gets (turn_replied point reply)
turned_gets point reply gets = grind (arith, nat_tests)

told_gets : (point : AskPoint) (asked : AskFacts) (reply : Reply) → AskGets point → Gets (told point asked reply)
told_gets point asked reply gets = grind (arith, nat_tests)

pub step_gets : (point : Point) (item : Item) → PointGets point → Gets (step point item)
step_gets point item gets = grind (arith, nat_tests, turned_gets, told_gets)

-- a memalign does from its beginning on
pub begin_gets : (align size : ℕ) (desk : DeskFacts) → Gets (begin_memalign align size desk).next
begin_gets align size desk = grind (arith, nat_tests)
