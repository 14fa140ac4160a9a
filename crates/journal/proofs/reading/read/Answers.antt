use Rattle.std.proofs.Common.{subst}
use Rattle.journal.specs.Codec.{Says, Words}
use Rattle.journal.specs.Entries.{entry_at}
use Rattle.journal.proofs.EntryLaws.{read_found}
use Rattle.journal.proofs.reading.read.Goals as goal

pub returns-clause-found : goal.returns-clause-found
returns-clause-found c = read_found c.args.line.now c.entry.result (subst (λ (words : Words). Says c.entry.result (entry_at words)) c.new.ensures c.entry.ensures)
