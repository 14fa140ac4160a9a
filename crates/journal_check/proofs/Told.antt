-- The verdict on a known input, kind by kind.
use Rattle.std.proofs.Common.{◌≡◌, ℕ, true, false, subst, List, Option, IfSome}
use Rattle.journal_check.specs.Verdicts.{BadLine, IfAccepted, IfLimit, IfMet, IfNotEntry, IfNotStanding, IsAccepted, IsMet, Judged, Tells, is_stop, over_limit}
use Rattle.journal_check.specs.declared.verdicts.Bad.TheVariants.{NotEntry, NotStanding}
use Rattle.journal_check.specs.declared.verdicts.Verdict.{Verdict}
use Rattle.journal_check.specs.declared.verdicts.Verdict.TheVariants as verdict

-- What is told of the verdict, by its kind.
pub record Told (v : Verdict) (left : Option (List ℕ)) (how : List ℕ → Judged) : Type 0 where
  pub accepted : IfAccepted v (λ entries ends. IfSome left (λ input. IsAccepted (how input) entries ends))
  pub not_entry : IfNotEntry v (λ line. IfSome left (λ input. how input ≡ BadLine line NotEntry))
  pub not_standing : IfNotStanding v (λ line. IfSome left (λ input. how input ≡ BadLine line NotStanding))
  pub met : IfMet v (λ chunk low high. IfSome left (λ input. IsMet (how input) chunk low high))
  pub limit : IfLimit v (λ line bytes. IfSome left (λ input. how input ≡ over_limit line bytes))

pub told_of : (v : Verdict) (left : Option (List ℕ)) (how : List ℕ → Judged) → IfSome left (λ input. Tells v (how input)) → Told v left how
told_of (verdict.Accepted entries ends) left how h = record { accepted = h; not_entry = tt; not_standing = tt; met = tt; limit = tt }
told_of (verdict.NotEntry line) left how h = record { accepted = tt; not_entry = h; not_standing = tt; met = tt; limit = tt }
told_of (verdict.NotStanding line) left how h = record { accepted = tt; not_entry = tt; not_standing = h; met = tt; limit = tt }
told_of (verdict.Met chunk low high) left how h = record { accepted = tt; not_entry = tt; not_standing = tt; met = h; limit = tt }
told_of (verdict.Limit line bytes) left how h = record { accepted = tt; not_entry = tt; not_standing = tt; met = tt; limit = h }
told_of verdict.ReadFault left how h = record { accepted = tt; not_entry = tt; not_standing = tt; met = tt; limit = tt }
told_of verdict.NoMemory left how h = record { accepted = tt; not_entry = tt; not_standing = tt; met = tt; limit = tt }

-- a verdict on the input is no read fault
pub no_fault : (v : Verdict) → is_stop v ≡ false → v ≡ verdict.ReadFault → ⊥
no_fault v says is = let same : true ≡ false = subst (λ (w : Verdict). is_stop w ≡ false) is says in absurd cc
