use Rattle.std.proofs.Common.{◌≡◌}
use Rattle.journal.proofs.FieldLaws.{with_front}
use Rattle.journal.specs.Fields.{numbers_of}
use Rattle.journal.proofs.fields.many.Given as goal

-- the numbers so far, and those of what is left
abbrev pub invariant-loop-left : goal.invariant-loop-left
invariant-loop-left l = with_front l.list.items (numbers_of l.left l.words) ≡ numbers_of l.count l.initial.words

abbrev pub decreases-loop-left : goal.decreases-loop-left
decreases-loop-left l = l.left
