-- A call has one end.
use Rattle.std.proofs.Common.{◌≡◌, ℕ, List, [], ◌∷◌, ◌++◌, Option, None, refl, sym, ◌∙◌, ap, subst}
use Rattle.call_plan.specs.Clients.{DeskFacts}
use Rattle.call_plan.specs.declared.needs.Answered.{Answered}
use Rattle.call_plan.specs.declared.needs.Request.{Request}
use Rattle.call_plan.specs.Runs.{Moment, after, begin}
use Rattle.call_plan.specs.Stages.{Next, Ends}
use Rattle.deeds.specs.Dids.{CallsEndOnce, Did, IsCall, IsWantedAt, Led, item_of, told_by, told_last}

-- what is done behind the first part leads on from where that led
led_from : (c : ℕ) (at : Moment) (last : Option (ℕ × ℕ)) (dids more : List Did) (mid new : Moment) → Led c at last dids mid → Led c at last (dids ++ more) new → Led c mid (told_last last dids) more new
led_from c at last [] more mid new first all = subst (λ (m : Moment). Led c m last more new) (sym first) all
led_from c at last (did ∷ dids) more mid new first all = led_from c (after at (item_of did)) (told_by last did) dids more mid new first.1 all.1

-- nothing is wanted behind an end
ends_there : (c : ℕ) (at : Moment) (last : Option (ℕ × ℕ)) (answer : Answered) (more : List Did) (new : Moment) → at.stage.next ≡ Ends answer → Led c at last more new → (more ≡ []) × (new ≡ at)
ends_there c at last answer [] new ends led = (refl, led)
ends_there c at last answer (did ∷ more) new ends led = absurd (subst (λ n. IsWantedAt c at.stage.arena n did) ends led.0.wanted)

-- the answer of an end
abbrev answer_or : Answered → Next → Answered
answer_or other (Ends answer) = answer
answer_or other next = other

pub calls-end_once : CallsEndOnce
calls-end_once c had has last request dids more answer other one all =
    let end = ends_there c one.last (told_last None dids) answer more all.last one.ends (led_from c (begin request had) None dids more one.last all.last one.led all.led) in (
      end.0,
      ap (answer_or answer) (sym all.ends ∙ ap (λ (m : Moment). m.stage.next) end.1 ∙ one.ends),
      sym all.leaves ∙ ap (λ (m : Moment). m.desk) end.1 ∙ one.leaves,
    )
