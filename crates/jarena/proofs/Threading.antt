-- The status of a run of threads.
use Rattle.std.proofs.Common.{◌≡◌, inl, inr, ℕ, ◌≤◌, Bool, List, Option, arith, sym, ◌∙◌}
use Rattle.hook_api.specs.Shelf.{Shelf}
use Rattle.phase_run.specs.Threads.{Held, Left, Runs, TellsText, TellsWhole, status_of}
use Rattle.report_text.specs.declared.causes.Cause.{Cause}
use Rattle.report_text.specs.declared.causes.Cause.TheVariants.{LimitBytes, LimitLines, LimitThreads}

-- that of a bad line is 3 or above
pub bad_status : (cause : Cause) → 3 ≤ status_of cause
bad_status LimitLines = omega arith
bad_status LimitBytes = omega arith
bad_status LimitThreads = omega arith
bad_status cause = omega arith

whole_not_usage : (text : List ℕ) (done status : ℕ) (old new : Held) → (done ≡ 2 → ⊥) → TellsWhole text done status old new → status ≡ 2 → ⊥
whole_not_usage text done status old new other (inl told) two = other (sym told.0 ∙ two)
whole_not_usage text done status old new other (inr failed) two = absurd (omega (arith, two, failed.0))

text_not_usage : (text : List ℕ) (done status : ℕ) (old new : Held) → (done ≡ 2 → ⊥) → TellsText text done status old new → status ≡ 2 → ⊥
text_not_usage text done status old new other (inl told) two = whole_not_usage text done status old new other told two
text_not_usage text done status old new other (inr lacked) two = absurd (omega (arith, two, lacked.0))

-- it isn't that of words in no list
pub threads_not_usage : (with_journals : Bool) (input : Option (List ℕ)) (ended : Bool) (faults faults' : ℕ) (shelf shelf' : Shelf) (left : Left) (sink sink' : Held)
    → Runs with_journals input ended faults faults' shelf shelf' left sink sink' → left.status ≡ 2 → ⊥
threads_not_usage with_journals input ended faults faults' shelf shelf' left sink sink' (inl ran) two = whole_not_usage _ 0 left.status sink sink' (λ two. absurd (omega (arith, two))) ran.carried.tells two
threads_not_usage with_journals input ended faults faults' shelf shelf' left sink sink' (inr (inl bad)) two = text_not_usage _ (status_of bad.cause) left.status sink sink' (λ two. let high = bad_status bad.cause in absurd (omega (arith, two, high))) bad.tells two
threads_not_usage with_journals input ended faults faults' shelf shelf' left sink sink' (inr (inr (inl failed))) two = absurd (omega (arith, two, failed.status))
threads_not_usage with_journals input ended faults faults' shelf shelf' left sink sink' (inr (inr (inr lacked))) two = absurd (omega (arith, two, lacked.status))
