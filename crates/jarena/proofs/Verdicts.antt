-- Verdicts on journals.
use Rattle.std.proofs.Common.{◌≡◌, ◌≢◌, ℕ, List, Option, None, Some, IfSome, arith}
use Rattle.journal_check.specs.declared.verdicts.Bad.TheVariants as bad
use Rattle.journal_check.specs.declared.verdicts.Verdict.{Verdict}
use Rattle.journal_check.specs.declared.verdicts.Verdict.TheVariants.{Accepted, NotEntry, NotStanding, Met, Limit, ReadFault, NoMemory}
use Rattle.journal_check.specs.Verdicts.{BadLine, IfAccepted, IfLimit, IfMet, IfNotEntry, IfNotStanding, IsAccepted, IsMet, Tells, judgement, over_limit}
use Rattle.jarena.specs.Checks.{verdict_status}

-- a verdict is right, where each kind of verdict is
pub right : (v : Verdict) (left : Option (List ℕ)) → IfAccepted v (λ entries ends. IfSome left (λ input. IsAccepted (judgement input) entries ends)) →
    IfNotEntry v (λ line. IfSome left (λ input. judgement input ≡ BadLine line bad.NotEntry)) → IfNotStanding v (λ line. IfSome left (λ input. judgement input ≡ BadLine line bad.NotStanding)) →
    IfMet v (λ chunk low high. IfSome left (λ input. IsMet (judgement input) chunk low high)) → IfLimit v (λ line bytes. IfSome left (λ input. judgement input ≡ over_limit line bytes)) →
    IfSome left (λ input. Tells v (judgement input))
right v None a e s m l = tt
right (Accepted entries ends) (Some input) a e s m l = a
right (NotEntry line) (Some input) a e s m l = e
right (NotStanding line) (Some input) a e s m l = s
right (Met chunk low high) (Some input) a e s m l = m
right (Limit line bytes) (Some input) a e s m l = l
right ReadFault (Some input) a e s m l = tt
right NoMemory (Some input) a e s m l = tt

-- no verdict has the status of words in no list
pub not_usage : (v : Verdict) → verdict_status v ≢ 2
not_usage (Accepted entries ends) is = absurd (omega (arith, is))
not_usage (NotEntry line) is = absurd (omega (arith, is))
not_usage (NotStanding line) is = absurd (omega (arith, is))
not_usage (Met chunk low high) is = absurd (omega (arith, is))
not_usage (Limit line bytes) is = absurd (omega (arith, is))
not_usage ReadFault is = absurd (omega (arith, is))
not_usage NoMemory is = absurd (omega (arith, is))
