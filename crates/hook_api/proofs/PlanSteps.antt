-- Plans over the asks of their kind.
use Rattle.hook_api.proofs.Words.{◌≡◌, ◌↔◌, ℕ, zero, suc, IsTrue, ap, arith, refl, inl, inr, eqb-true, eq-eqb, eqb-suc-zero, Pass, After, PlanRefusesNth, next_plan, plan_after, plan_of, refuses_next}
use Rattle.hook_api.specs.declared.plans.Plan.TheVariants.{All}

-- where nothing is refused, nothing ever is
pub pass_stays : (asks : ℕ) → plan_after Pass asks ≡ Pass
pass_stays zero = refl
pass_stays (suc asks) = pass_stays asks

-- where everything is refused, everything always is
pub all_stays : (asks : ℕ) → plan_after All asks ≡ All
all_stays zero = refl
all_stays (suc asks) = all_stays asks

-- one ask passes
pub next_after : (passing : ℕ) → next_plan (After (suc passing)) ≡ After passing
next_after passing = rw (eqb-suc-zero passing) (ap After (omega arith))

-- the nth is refused after those before it
pub plan_of_suc : (nth : ℕ) → plan_of (suc nth) ≡ After nth
plan_of_suc nth = rw (eqb-suc-zero nth) (ap After (omega arith))

-- after as many asks as pass, the next one is refused, and no other
pub after_refuses : (passing asks : ℕ) → IsTrue (refuses_next (plan_after (After passing) asks)) ↔ (passing ≡ asks)
after_refuses zero zero = (λ _. refl, λ _. refl)
after_refuses zero (suc asks) = rw (pass_stays asks) ((λ t. cc), λ e. cc)
after_refuses (suc passing) zero = (λ t. eqb-true (suc passing) 0 t, λ e. eq-eqb (suc passing) 0 e)
after_refuses (suc passing) (suc asks) =
    let before = after_refuses passing asks in
    rw (next_after passing) ((λ t. ap suc (before.0 t)), λ e. before.1 (omega arith))

-- the law of plans
pub plan_refuses : PlanRefusesNth
plan_refuses zero asks = rw (all_stays asks) ((λ _. inl refl), λ _. refl)
plan_refuses (suc nth) asks =
    let refuses = after_refuses nth asks in
    rw (plan_of_suc nth) (λ t. inr (let e : nth ≡ asks = refuses.0 t in omega arith), λ e. refuses.1 (omega arith))
