-- Tallies of calls, counted in several parts.
use Rattle.std.proofs.Common.{◌≡◌, ◌∙◌, ℕ, ◌+◌, ◌≤◌, cond, false, true, length, map, min, suc, List, [], ◌∷◌, refl, sym, ap, arith}
use Rattle.std.specs.List.{All}
use Rattle.std.proofs.lemmas.List.Elements.{All-head, All-tail}
use Rattle.back_purge.specs.Rounds.{WentWell, is_ok}
use Rattle.call_plan.specs.declared.needs.Answered.TheVariants.{Ok}
use Rattle.heap_runs.specs.Walks.{Done}
use Rattle.phase_run.specs.Shifts.{answer_to}
use Rattle.call_plan.specs.declared.needs.Answered.{Answered}
use Rattle.phase_run.specs.Requests.{is_failed}
use Rattle.phase_run.specs.Tally.{IsCapped, added, capped_sum, most, no_answers, tallied, tally_with}
use Rattle.phase_run.specs.declared.tally.Tally.{Tally}

sum_assoc : (a b c m : ℕ) → min (a + min (b + c) m) m ≡ min (min (a + b) m + c) m
sum_assoc a b c m = omega arith

sum_none : (a m : ℕ) → a ≤ m → min (a + 0) m ≡ a
sum_none a m le = omega (arith, le)

sum_low : (a b m : ℕ) → min (a + b) m ≤ m
sum_low a b m = omega arith

same_tally : (t u : Tally) → t.calls ≡ u.calls → t.failed ≡ u.failed → t ≡ u
same_tally t u e f = λ i. record { calls = e i; failed = f i }

pub capped_added : (a b : Tally) → IsCapped (added a b)
capped_added a b = record { calls = sum_low a.calls b.calls most; failed = sum_low a.failed b.failed most }

pub added_none : (t : Tally) → IsCapped t → added t no_answers ≡ t
added_none t is = same_tally (added t no_answers) t (sum_none t.calls most is.calls) (sum_none t.failed most is.failed)

added_assoc : (a b c : Tally) → added a (added b c) ≡ added (added a b) c
added_assoc a b c = same_tally (added a (added b c)) (added (added a b) c) (sum_assoc a.calls b.calls c.calls most) (sum_assoc a.failed b.failed c.failed most)

-- answers that were counted by themselves, and then added
pub added_with : (t u : Tally) (answers : List Answered) → added t (tally_with u answers) ≡ tally_with (added t u) answers
added_with t u [] = refl
added_with t u (a ∷ answers) = added_with t (tallied u a) answers ∙ ap (λ x. tally_with x answers) (added_assoc t u (record { calls = 1; failed = cond (is_failed a) 1 0 }))

pub capped_with : (t : Tally) (answers : List Answered) → IsCapped t → IsCapped (tally_with t answers)
capped_with t [] is = is
capped_with t (a ∷ answers) is = capped_with (tallied t a) answers (capped_added t (record { calls = 1; failed = cond (is_failed a) 1 0 }))

-- ---- calls that were all answered Ok

sum_more : (t n m : ℕ) → min (min (t + 1) m + n) m ≡ min (t + suc n) m
sum_more t n m = omega arith

sum_same : (t m : ℕ) → min (min (t + 0) m + 0) m ≡ min (t + 0) m
sum_same t m = omega arith

ok_not_failed : (a : Answered) → is_ok a ≡ true → is_failed a ≡ false
ok_not_failed (Ok given) ok = refl
ok_not_failed a ok = absurd cc

pub tally_well : (t : Tally) (dones : List Done) → IsCapped t → All WentWell dones → tally_with t (map answer_to dones) ≡ added t (record { calls = length dones; failed = 0 })
tally_well t [] is well = sym (added_none t is)
tally_well t (d ∷ dones) is well =
    let n = length dones in
    let fine : is_failed d.answer ≡ false = ok_not_failed d.answer (All-head WentWell d dones well) in
    let one : Tally = added t (record { calls = 1; failed = 0 }) in
    let first : tallied t d.answer ≡ one = ap (λ b. added t (record { calls = 1; failed = cond b 1 0 })) fine in
    ap (λ x. tally_with x (map answer_to dones)) first
    ∙ tally_well one dones (capped_added t (record { calls = 1; failed = 0 })) (All-tail WentWell d dones well)
    ∙ same_tally (added one (record { calls = n; failed = 0 })) (added t (record { calls = suc n; failed = 0 })) (sum_more t.calls n most) (sum_same t.failed most)
