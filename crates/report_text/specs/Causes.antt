-- The texts of what makes a line of the input bad.
use Rattle.std.specs.Prelude.{ℕ, List, codes}
use Rattle.report_text.specs.declared.causes.Cause.{Cause}
use Rattle.report_text.specs.declared.causes.Cause.TheVariants.{LimitLines, LimitBytes, Cut, Bytes, Words, Number, LimitThreads, Range, Clock, Phase}

-- what makes a line bad
abbrev pub cause_text : Cause → List ℕ
cause_text LimitLines = codes "limit lines"
cause_text LimitBytes = codes "limit bytes"
cause_text Cut = codes "cut"
cause_text Bytes = codes "bytes"
cause_text Words = codes "words"
cause_text Number = codes "number"
cause_text LimitThreads = codes "limit threads"
cause_text Range = codes "range"
cause_text Clock = codes "clock"
cause_text Phase = codes "phase"
