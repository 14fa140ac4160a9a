-- Asks and answers are read as they were written.
use Rattle.std.proofs.Common.{◌≡◌, ◌∷◌, ◌++◌, Some, refl}
use Rattle.space_model.specs.declared.Answer.{Answer}
use Rattle.space_model.specs.declared.Answer.TheVariants as answers
use Rattle.space_model.specs.declared.Ask.{Ask}
use Rattle.space_model.specs.declared.Ask.TheVariants as asks
use Rattle.space_model.specs.declared.Rest.{Rest}
use Rattle.space_model.specs.declared.Rest.TheVariants as rests
use Rattle.journal.specs.Codec.{Words}
unfoldable use Rattle.journal.specs.Asks.{FitsAnswer, FitsAsk, FitsHeard, answer, answer_fields, answer_of, answer_words, ask, ask_fields, ask_of, ask_words, heard, heard_of, rest, rest_fields, rest_of, rest_words}
use Rattle.journal.specs.Labels.{label_word}
use Rattle.journal.specs.declared.labels.Label.{Label}
use Rattle.journal.specs.declared.labels.Label.TheVariants as labels
use Rattle.journal.proofs.Exact.{Exact, exact_both, exact_nothing, exact_via}
use Rattle.journal.proofs.FieldLaws.{exact_long, exact_flag, exact_maybe, exact_span}
use Rattle.journal.proofs.Rows.{Shown, exact_rows, row_shows, row_takes}

-- ---- lists of extents

rest_taken : (label : Label) (words : Words) (r : Rest) (behind : Words) → rest_fields label words ≡ Some (r, behind) → (label_word label ∷ words ≡ rest_words r ++ behind) × Unit {0}
rest_taken labels.Dirty = row_takes labels.Dirty (λ x. rests.Dirty) rest_words (λ r. Unit {0}) exact_nothing (λ x. refl) (λ x f. tt)
rest_taken labels.Muzzy = row_takes labels.Muzzy (λ x. rests.Muzzy) rest_words (λ r. Unit {0}) exact_nothing (λ x. refl) (λ x f. tt)
rest_taken labels.Retained = row_takes labels.Retained (λ x. rests.Retained) rest_words (λ r. Unit {0}) exact_nothing (λ x. refl) (λ x f. tt)
rest_taken label = λ words r behind e. absurd cc

rest_shown : (r : Rest) → Unit {0} → Shown rest_fields rest_words r
rest_shown rests.Dirty = row_shows rest_fields rest_words labels.Dirty (λ x. rests.Dirty) tt exact_nothing refl (λ ws. refl)
rest_shown rests.Muzzy = row_shows rest_fields rest_words labels.Muzzy (λ x. rests.Muzzy) tt exact_nothing refl (λ ws. refl)
rest_shown rests.Retained = row_shows rest_fields rest_words labels.Retained (λ x. rests.Retained) tt exact_nothing refl (λ ws. refl)

pub exact_rest : Exact (λ r. Unit {0}) rest
unfolding rest_of
exact_rest = exact_rows rest_fields rest_words (λ r. Unit {0}) rest_taken rest_shown

-- ---- answers

answer_taken : (label : Label) (words : Words) (a : Answer) (behind : Words) → answer_fields label words ≡ Some (a, behind) → (label_word label ∷ words ≡ answer_words a ++ behind) × FitsAnswer a
answer_taken labels.Refused = row_takes labels.Refused (λ x. answers.Refused) answer_words FitsAnswer exact_nothing (λ x. refl) (λ x f. f)
answer_taken labels.Done = row_takes labels.Done (λ x. answers.Done) answer_words FitsAnswer exact_nothing (λ x. refl) (λ x f. f)
answer_taken labels.Placed = row_takes labels.Placed (λ x. answers.Placed x.1.0 x.1.1 x.0) answer_words FitsAnswer (exact_both exact_long (exact_both exact_flag exact_flag)) (λ x. refl) (λ x f. f)
answer_taken label = λ words a behind e. absurd cc

answer_shown : (a : Answer) → FitsAnswer a → Shown answer_fields answer_words a
answer_shown answers.Refused = row_shows answer_fields answer_words labels.Refused (λ x. answers.Refused) tt exact_nothing refl (λ ws. refl)
answer_shown answers.Done = row_shows answer_fields answer_words labels.Done (λ x. answers.Done) tt exact_nothing refl (λ ws. refl)
answer_shown (answers.Placed committed zeroed first) = row_shows answer_fields answer_words labels.Placed (λ x. answers.Placed x.1.0 x.1.1 x.0) (first, (committed, zeroed)) (exact_both exact_long (exact_both exact_flag exact_flag)) refl (λ ws. refl)

pub exact_answer : Exact FitsAnswer answer
unfolding answer_of
exact_answer = exact_rows answer_fields answer_words FitsAnswer answer_taken answer_shown

-- ---- asks

ask_taken : (label : Label) (words : Words) (a : Ask) (behind : Words) → ask_fields label words ≡ Some (a, behind) → (label_word label ∷ words ≡ ask_words a ++ behind) × FitsAsk a
ask_taken labels.Alloc = row_takes labels.Alloc (λ x. asks.Alloc x.1.1.1 x.0 x.1.0 x.1.1.0) ask_words FitsAsk (exact_both exact_maybe (exact_both exact_long (exact_both exact_long exact_flag))) (λ x. refl) (λ x f. f)
ask_taken labels.Dalloc = row_takes labels.Dalloc (λ x. asks.Dalloc x.0 x.1) ask_words FitsAsk (exact_both exact_span exact_flag) (λ x. refl) (λ x f. f)
ask_taken labels.Destroy = row_takes labels.Destroy (λ x. asks.Destroy x.0 x.1) ask_words FitsAsk (exact_both exact_span exact_flag) (λ x. refl) (λ x f. f)
ask_taken labels.Commit = row_takes labels.Commit (λ x. asks.Commit x) ask_words FitsAsk exact_span (λ x. refl) (λ x f. f)
ask_taken labels.Decommit = row_takes labels.Decommit (λ x. asks.Decommit x) ask_words FitsAsk exact_span (λ x. refl) (λ x f. f)
ask_taken labels.PurgeLazy = row_takes labels.PurgeLazy (λ x. asks.PurgeLazy x) ask_words FitsAsk exact_span (λ x. refl) (λ x f. f)
ask_taken labels.PurgeForced = row_takes labels.PurgeForced (λ x. asks.PurgeForced x) ask_words FitsAsk exact_span (λ x. refl) (λ x f. f)
ask_taken labels.Split = row_takes labels.Split (λ x. asks.Split x.0 x.1) ask_words FitsAsk (exact_both exact_span exact_long) (λ x. refl) (λ x f. f)
ask_taken labels.Merge = row_takes labels.Merge (λ x. asks.Merge x.0 x.1) ask_words FitsAsk (exact_both exact_span exact_span) (λ x. refl) (λ x f. f)
ask_taken label = λ words a behind e. absurd cc

ask_shown : (a : Ask) → FitsAsk a → Shown ask_fields ask_words a
ask_shown (asks.Alloc commit at pages align) = row_shows ask_fields ask_words labels.Alloc (λ x. asks.Alloc x.1.1.1 x.0 x.1.0 x.1.1.0) (at, (pages, (align, commit))) (exact_both exact_maybe (exact_both exact_long (exact_both exact_long exact_flag))) refl (λ ws. refl)
ask_shown (asks.Dalloc s committed) = row_shows ask_fields ask_words labels.Dalloc (λ x. asks.Dalloc x.0 x.1) (s, committed) (exact_both exact_span exact_flag) refl (λ ws. refl)
ask_shown (asks.Destroy s committed) = row_shows ask_fields ask_words labels.Destroy (λ x. asks.Destroy x.0 x.1) (s, committed) (exact_both exact_span exact_flag) refl (λ ws. refl)
ask_shown (asks.Commit s) = row_shows ask_fields ask_words labels.Commit (λ x. asks.Commit x) s exact_span refl (λ ws. refl)
ask_shown (asks.Decommit s) = row_shows ask_fields ask_words labels.Decommit (λ x. asks.Decommit x) s exact_span refl (λ ws. refl)
ask_shown (asks.PurgeLazy s) = row_shows ask_fields ask_words labels.PurgeLazy (λ x. asks.PurgeLazy x) s exact_span refl (λ ws. refl)
ask_shown (asks.PurgeForced s) = row_shows ask_fields ask_words labels.PurgeForced (λ x. asks.PurgeForced x) s exact_span refl (λ ws. refl)
ask_shown (asks.Split s left) = row_shows ask_fields ask_words labels.Split (λ x. asks.Split x.0 x.1) (s, left) (exact_both exact_span exact_long) refl (λ ws. refl)
ask_shown (asks.Merge low high) = row_shows ask_fields ask_words labels.Merge (λ x. asks.Merge x.0 x.1) (low, high) (exact_both exact_span exact_span) refl (λ ws. refl)

pub exact_ask : Exact FitsAsk ask
unfolding ask_of
exact_ask = exact_rows ask_fields ask_words FitsAsk ask_taken ask_shown

-- ---- asks with their answers

pub exact_heard : Exact FitsHeard heard
unfolding heard_of
exact_heard = exact_via (λ x. record { ask = x.0; answer = x.1 }) (λ h. (h.ask, h.answer)) (exact_both exact_ask exact_answer) (λ x. refl) (λ h. refl) (λ x f. f) (λ h f. f)
