use Rattle.std.proofs.Common.{◌≡◌, ◌++◌, drop, take}
use Rattle.std.specs.List.{AllByRecursion}
use Rattle.journal.specs.Texts.{AreReadAgain, journals_text}
use Rattle.journal.proofs.printing.put_journals.Given as goal

-- the text so far, and that of the journals that are left; each so far is read again
abbrev pub invariant-loop-journal : goal.invariant-loop-journal
invariant-loop-journal l = record {
  text : l.out.items ++ journals_text (drop l.journal-index l.journals) ≡ l.fn.out.items ++ journals_text l.journals;
  again : AllByRecursion AreReadAgain (take l.journal-index l.journals);
}
