-- One ask of a box that a seat has taken.
use Rattle.hook_api.proofs.Words.{◌≡◌, ℕ, ◌+◌, ◌<◌, ◌≤◌, ◌&&◌, Bool, true, false, not, cond, List, [], ◌∷◌, length, sym, refl, ap, ◌∙◌, subst, ⊎_elim, arith, Me, rest, Answer, Refused, Done, Placed, Tally, Sight, AskFacts, by_box, is_refusal, capped, greatest, Account, BoxState, BoxStep, IsAskOfSome, HasBox, Took, having}

-- a box counts each refusal of its own
counts_refusal : (from after : BoxState) (asked : AskFacts) (planned : Bool) (answer : Answer) → BoxStep from asked after → asked.planned ≡ planned → asked.answer ≡ answer
    → capped (from.account.refusals + cond (is_refusal answer && not planned) 1 0) ≤ after.account.refusals
counts_refusal from after asked true Refused step is answered = let same : after.account.refusals ≡ from.account.refusals = ap (λ (a : Account). a.refusals) (step.held_back is) in omega arith
counts_refusal from after asked true Done step is answered = let same : after.account.refusals ≡ from.account.refusals = ap (λ (a : Account). a.refusals) (step.held_back is) in omega arith
counts_refusal from after asked true (Placed committed zeroed first) step is answered = let same : after.account.refusals ≡ from.account.refusals = ap (λ (a : Account). a.refusals) (step.held_back is) in omega arith
counts_refusal from after asked false Refused step is answered = let old : ℕ = from.account.refusals in let new : ℕ = after.account.refusals in ⊎_elim (λ (up : old < new). omega arith) (λ (most : new ≡ greatest). omega arith) ((step.passed is).cause answered)
counts_refusal from after asked false Done step is answered = let up = (step.passed is).never_falls in omega arith
counts_refusal from after asked false (Placed committed zeroed first) step is answered = let up = (step.passed is).never_falls in omega arith

-- one tally
one_of : (l : List Tally) → length l ≡ 1 → (t : Tally) × (l ≡ t ∷ [])
one_of [] one = absurd (omega arith)
one_of (t ∷ []) one = (t, refl)
one_of (t ∷ u ∷ us) one = absurd (omega arith)

-- the value of the first slot, or else this
abbrev first_value : BoxState → List (ℕ × BoxState) → BoxState
first_value x [] = x
first_value x (s ∷ ss) = s.1

-- after the ask the seat still has the box, which counted the refusal if it refused
pub asked_box : (i : ℕ) (old mid : Me BoxState Sight) (slot after : BoxState) (asked : AskFacts) → length old.0.tallies ≡ 1 → Took i old mid → mid.1 ≡ (i, slot) ∷ rest mid.1
    → (from : BoxState) × (from.account ≡ slot.account) × BoxStep from asked after → HasBox i (by_box asked) (mid.0, (i, after) ∷ rest mid.1)
asked_box i old mid slot after asked one took at step =
    let x : BoxState = took.0 in let t = one_of old.0.tallies one in let from : BoxState = step.0 in
    let same : slot ≡ x = ap (first_value x) (sym at ∙ ap (λ (m : Me BoxState Sight). m.1) took.1) in
    let others : rest mid.1 ≡ [] = ap (λ (m : Me BoxState Sight). rest m.1) took.1 in
    let view : mid.0 ≡ having i x.account.refusals (t.0 ∷ []) = ap (λ (m : Me BoxState Sight). m.0) took.1 ∙ ap (having i x.account.refusals) t.1 in
    let start : from.account.refusals ≡ x.account.refusals = ap (λ (a : Account). a.refusals) step.1 ∙ ap (λ (b : BoxState). b.account.refusals) same in
    let counted = counts_refusal from after asked asked.planned asked.answer step.2 refl refl in
    (x.account.refusals, t.0, after, (λ k. (view k, (i, after) ∷ others k)), subst (λ n. capped (n + cond (by_box asked) 1 0) ≤ after.account.refusals) start counted)

-- an ask in some state is one at any place, in a state that has that place next
pub asked_at : (asked : AskFacts) (p : ℕ) → IsAskOfSome asked → IsAskOfSome (record asked { place = p })
asked_at asked p some_ask =
    let from : BoxState = some_ask.0 in let after : BoxState = some_ask.1 in let step = some_ask.2 in (
      record { account = from.account; book = record from.book { next_place = p } },
      record { account = after.account; book = record after.book { next_place = capped (p + 1) } },
      record {
        place = refl;
        next_place = refl;
        before = step.before;
        after = step.after;
        rose = step.rose;
        planned = step.planned;
        plans = step.plans;
        planned_refusals = step.planned_refusals;
        answers = step.answers;
        refused = step.refused;
        held_back = step.held_back;
        passed = step.passed;
      },
    )
