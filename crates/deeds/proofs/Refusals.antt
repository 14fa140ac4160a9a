-- A refused answer is the ask that the call's last entry carries.
use Rattle.std.proofs.Common.{◌≡◌, ℕ, true, false, Bool, List, [], ◌∷◌, Option, None, Some, refl, sym, ◌∙◌, ap, arith}
use Rattle.std.proofs.lemmas.Bool.Decides.{nat_tests}
use Rattle.call_plan.specs.Desks.{meant, ready}
use Rattle.call_plan.specs.Runs.{begin_stage}
use Rattle.call_plan.specs.declared.needs.Request.{Request}
use Rattle.call_plan.specs.Clients.{DeskFacts}
use Rattle.call_plan.specs.declared.points.AskPoint.{AskPoint}
use Rattle.call_plan.specs.declared.points.TurnPoint.{TurnPoint}
use Rattle.call_plan.specs.Stages.{Point, Turns, Asks, Tells, Next, Go, Ends}
use Rattle.call_plan.specs.declared.needs.Answered.TheVariants.{Refused}
use Rattle.hook_api.specs.Asked.{AskFacts}
use Rattle.space_model.specs.declared.Reply.{Reply}
use Rattle.call_plan.specs.Runs.{Moment, after, begin, settle, step_next}
use Rattle.call_plan.specs.Table.{step, told, turn_replied, want, starved}
use Rattle.call_plan.specs.Desks.{desk_fed}
use Rattle.deeds.specs.declared.deeds.Deed.{Deed}
use Rattle.deeds.specs.Dids.{Did, Took, Asked, Lacked, Follows, RefusalsAreLast, IsWanted, IsWantedAt, Led, carried, carried_last, item_of, told_by}

-- the ask that was refused, where a call ended by that
abbrev refused_by : Next → Option AskFacts
refused_by (Ends (Refused asked)) = Some asked
refused_by next = None

starved_none : (marked : Bool) → refused_by (starved marked) ≡ None
starved_none true = refl
starved_none false = refl

turned_none : (point : TurnPoint) (reply : Reply) → refused_by (turn_replied point reply) ≡ None
turned_none point reply = grind (arith, nat_tests)

told_same : (point : AskPoint) (asked : AskFacts) (reply : Reply) (a : AskFacts) → refused_by (told point asked reply) ≡ Some a → asked ≡ a
told_same point asked reply a is = grind (arith, nat_tests)

settled_refused : (request : Request) (desk : DeskFacts) (arena : ℕ) (next : Next) (a : AskFacts) → refused_by (settle request desk arena next).next ≡ Some a → refused_by next ≡ Some a
settled_refused request desk arena next a is = grind (arith, nat_tests)

none_some : {a : AskFacts} (o : Option AskFacts) → o ≡ None → o ≡ Some a → ⊥
none_some o none is = absurd (cc)

step_refused : (c arena : ℕ) (point : Point) (did : Did) (a : AskFacts) → IsWanted c arena (want point) did → refused_by (step point (item_of did)) ≡ Some a → carried did ≡ Some a
step_refused c arena (Turns point) (Took b deed told) a wanted is = absurd (none_some (refused_by (turn_replied point told.reply)) (turned_none point told.reply) is)
step_refused c arena (Turns point) Lacked a wanted is = absurd (none_some _ (starved_none _) is)
step_refused c arena (Turns point) (Asked b asked) a wanted is = absurd wanted
step_refused c arena (Asks point None) (Asked b asked) a wanted is = absurd (cc)
step_refused c arena (Asks point None) (Took b deed told) a wanted is = absurd wanted
step_refused c arena (Asks point None) Lacked a wanted is = absurd wanted
step_refused c arena (Asks point (Some asked)) (Took b deed told) a wanted is = ap (λ (d : Deed). d.asked) wanted.1.1 ∙ ap Some (told_same point asked told.reply a is)
step_refused c arena (Asks point (Some asked)) Lacked a wanted is = absurd (cc)
step_refused c arena (Asks point (Some asked)) (Asked b x) a wanted is = absurd wanted
step_refused c arena (Tells span b) (Asked i asked) a wanted is = absurd (cc)
step_refused c arena (Tells span b) (Took i deed told) a wanted is = absurd wanted
step_refused c arena (Tells span b) Lacked a wanted is = absurd wanted

at_refused : (c arena : ℕ) (next : Next) (did : Did) (a : AskFacts) → IsWantedAt c arena next did → refused_by (step_next next (item_of did)) ≡ Some a → carried did ≡ Some a
at_refused c arena (Go point) did a wanted is = step_refused c arena point did a wanted is
at_refused c arena next did a wanted is = absurd wanted

follows_refused : (c : ℕ) (at : Moment) (last : Option (ℕ × ℕ)) (did : Did) (a : AskFacts) → Follows c at last did → refused_by (after at (item_of did)).stage.next ≡ Some a → carried did ≡ Some a
follows_refused c at last did a follows is =
    at_refused c at.stage.arena at.stage.next did a follows.wanted
    (settled_refused at.request (desk_fed at.desk at.stage.arena at.stage.next (item_of did)) at.stage.arena (step_next at.stage.next (item_of did)) a is)

refused_last : (c : ℕ) (at : Moment) (last : Option (ℕ × ℕ)) (did : Did) (dids : List Did) (new : Moment) (a : AskFacts) → Led c at last (did ∷ dids) new → refused_by new.stage.next ≡ Some a → carried_last (did ∷ dids) ≡ Some a
refused_last c at last did [] new a led is = follows_refused c at last did a led.0 (ap (λ (m : Moment). refused_by m.stage.next) (sym led.1) ∙ is)
refused_last c at last did (more ∷ dids) new a led is = refused_last c (after at (item_of did)) (told_by last did) more dids new a led.1 is

-- none is refused where a request begins
stage_refused : (request : Request) (desk : DeskFacts) → refused_by (begin_stage request desk).next ≡ None
stage_refused request desk = grind (arith, nat_tests)

begin_refused : (request : Request) (desk : DeskFacts) → refused_by (begin request desk).stage.next ≡ None
begin_refused request desk = stage_refused (meant request desk) (ready request desk)

pub refusals-are_last : RefusalsAreLast
refusals-are_last c had request [] a has call =
    absurd (none_some (refused_by (begin request had).stage.next) (begin_refused request had) (ap (λ (m : Moment). refused_by m.stage.next) (sym call.led) ∙ ap refused_by call.ends))
refusals-are_last c had request (did ∷ dids) a has call = refused_last c (begin request had) None did dids call.last a call.led (ap refused_by call.ends)
