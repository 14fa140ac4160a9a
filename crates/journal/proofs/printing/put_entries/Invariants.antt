use Rattle.std.proofs.Common.{◌≡◌, ◌++◌, drop, take}
use Rattle.std.specs.List.{AllByRecursion}
use Rattle.journal.specs.Texts.{IsReadAgain, entries_text}
use Rattle.journal.proofs.printing.put_entries.Given as goal

-- the lines so far, and those of the entries that are left; each so far is read again
abbrev pub invariant-loop-kept : goal.invariant-loop-kept
invariant-loop-kept l = record {
  text : l.out.items ++ entries_text l.index (drop l.kept-index l.entries) ≡ l.fn.out.items ++ entries_text l.index l.entries;
  again : AllByRecursion (IsReadAgain l.index) (take l.kept-index l.entries);
}
