-- An ask and its answer in few numbers.
use Rattle.std.specs.Prelude.{ℕ, Bool, true, false, None, Some}
use Rattle.space_model.specs.declared.Span.{Span}
use Rattle.space_model.specs.declared.Ask.{Ask}
use Rattle.space_model.specs.declared.Ask.TheVariants.{Alloc, Dalloc, Destroy, Commit, Decommit, PurgeLazy, PurgeForced, Split, Merge}
use Rattle.space_model.specs.declared.Answer.{Answer}
use Rattle.space_model.specs.declared.Answer.TheVariants.{Refused, Done, Placed}
use Rattle.hook_api.specs.declared.briefs.AskShape.{AskShape}
use Rattle.hook_api.specs.declared.briefs.AskShape.TheVariants.{Anywhere, At, Dallocs, Destroys, Commits, Decommits, Eases, Forces, Splits, Merges}
use Rattle.hook_api.specs.declared.briefs.AnswerShape.{AnswerShape}
use Rattle.hook_api.specs.declared.briefs.AnswerShape.TheVariants.{No, Yes, Range, Committed, Zeroed, Ready}
use Rattle.hook_api.specs.declared.briefs.BriefAsk.{BriefAsk}
use Rattle.hook_api.specs.declared.briefs.BriefAnswer.{BriefAnswer}

-- the range of two numbers
abbrev pub range_of : ℕ → ℕ → Span
range_of first pages = record { first = first; pages = pages }

-- an ask of a shape, with a flag and as many numbers as it has
abbrev pub ask_by : AskShape → Bool → ℕ → ℕ → ℕ → ℕ → Ask
ask_by Anywhere flag a b c d = Alloc flag None a b
ask_by At flag a b c d = Alloc flag (Some c) a b
ask_by Dallocs flag a b c d = Dalloc (range_of a b) flag
ask_by Destroys flag a b c d = Destroy (range_of a b) flag
ask_by Commits flag a b c d = Commit (range_of a b)
ask_by Decommits flag a b c d = Decommit (range_of a b)
ask_by Eases flag a b c d = PurgeLazy (range_of a b)
ask_by Forces flag a b c d = PurgeForced (range_of a b)
ask_by Splits flag a b c d = Split (range_of a b) c
ask_by Merges flag a b c d = Merge (range_of a b) (range_of c d)

-- the ask that few numbers tell
abbrev pub read_ask : BriefAsk → Ask
read_ask brief = ask_by brief.shape brief.flag brief.a brief.b brief.c brief.d

-- an ask of a range in few numbers
abbrev pub brief : AskShape → Bool → Span → ℕ → ℕ → BriefAsk
brief shape flag span c d = record { shape = shape; flag = flag; a = span.first; b = span.pages; c = c; d = d }

-- an answer of a shape, with the first page of its range, if it has one
abbrev pub answer_by : AnswerShape → ℕ → Answer
answer_by No first = Refused
answer_by Yes first = Done
answer_by Range first = Placed false false first
answer_by Committed first = Placed true false first
answer_by Zeroed first = Placed false true first
answer_by Ready first = Placed true true first

-- the answer that few numbers tell
abbrev pub read_answer : BriefAnswer → Answer
read_answer brief = answer_by brief.shape brief.first
