-- Plans that are set outside the lock of their box, and what asks leave of them.
use Rattle.hook_api.proofs.Words.{◌≡◌, ◌≢◌, ℕ, ◌<◌, zero, suc, Bool, List, length, get_or, set, sym, refl, ap, ◌∙◌, subst, arith, dite, ℕ_discrete, get_or-set_other, get_or-set_same, Option, None, Some, Pass, Kind, Order, Orders, Plan, no_order, AreInForce, IsLeftOf, kind_index, next_plan, plan_after, plans_after}

-- one place of a list is set to what fits there, and the others fit as before
pub set_fits : {X : Type 0} (P : ℕ → X → Type 0) (xs : List X) (i k : ℕ) (x d : X) → i < length xs → P i x → (k ≢ i → P k (get_or xs k d)) → P k (get_or (set xs i x) k d)
set_fits {X = X} P xs i k x d inside fits others =
    dite (ℕ_discrete k i)
    (λ is. subst (λ (n : ℕ). P n (get_or (set xs i x) n d)) (sym is) (subst (P i) (sym (get_or-set_same xs i x d inside)) fits))
    (λ ne. subst (P k) (sym (get_or-set_other xs i k x d ne)) (others ne))

-- one ask more
after_one_more : (plan : Plan) (asks : ℕ) → plan_after plan (suc asks) ≡ next_plan (plan_after plan asks)
after_one_more plan zero = refl
after_one_more plan (suc asks) = after_one_more (next_plan plan) asks

-- what one ask leaves of what is left is left
next_left : (plan left : Plan) → IsLeftOf plan left → IsLeftOf plan (next_plan left)
next_left plan left is = (suc is.0, ap next_plan is.1 ∙ sym (after_one_more plan is.0))

-- an ask leaves the plans in force
pub asked_in_force : (orders : Orders) (plans : List Plan) (kind : Option Kind) → length plans ≡ 8 → AreInForce orders plans → AreInForce orders (plans_after plans kind)
asked_in_force orders plans None size all = all
asked_in_force orders plans (Some kind) size all = λ i below.
    let j : ℕ = kind_index kind in
    dite (ℕ_discrete i j)
    (λ is. let inside : j < length plans = (let a : i ≡ j = is in omega (arith, below, size, a)) in
    subst (λ (n : ℕ). IsLeftOf (get_or orders.kinds n no_order).plan (get_or (set plans j (next_plan (get_or plans j Pass))) n Pass)) (sym is)
    (subst (IsLeftOf (get_or orders.kinds j no_order).plan) (sym (get_or-set_same plans j (next_plan (get_or plans j Pass)) Pass inside))
    (next_left _ _ (all j (subst (λ (n : ℕ). n < 8) is below)))))
    (λ ne. subst (IsLeftOf (get_or orders.kinds i no_order).plan) (sym (get_or-set_other plans j i (next_plan (get_or plans j Pass)) Pass ne)) (all i below))

-- a plan that was taken over is in force, beside the others
pub taken_in_force : (orders : List Order) (plans : List Plan) (j : ℕ) (order : Order) (left : Plan) → j < length orders → j < length plans → IsLeftOf order.plan left
    → ((i : ℕ) → i < 8 → IsLeftOf (get_or orders i no_order).plan (get_or plans i Pass))
    → (i : ℕ) → i < 8 → IsLeftOf (get_or (set orders j order) i no_order).plan (get_or (set plans j left) i Pass)
taken_in_force orders plans j order left inside there is all i below =
    set_fits (λ (n : ℕ) (o : Order). IsLeftOf o.plan (get_or (set plans j left) n Pass)) orders j i order no_order inside
    (subst (IsLeftOf order.plan) (sym (get_or-set_same plans j left Pass there)) is)
    (λ ne. subst (IsLeftOf (get_or orders i no_order).plan) (sym (get_or-set_other plans j i left Pass ne)) (all i below))
