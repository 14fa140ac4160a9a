use Rattle.part_book.proofs.Words.{ap, refl}
use Rattle.part_book.proofs.Indexes.{empty_table}
use Rattle.part_book.proofs.table.Table.new.Goals as goal

pub returns-clause-kept : goal.returns-clause-kept
returns-clause-kept c =
    empty_table _ (ap (λ l. l.numbers) c.new.ensures) c.no_list.ensures c.no_list-2.ensures c.no_list-3.ensures c.new-2.ensures.items refl (ap (λ s. s.keys) c.new-3.ensures) (ap (λ s. s.keys) c.new-4.ensures) (ap (λ p. p.numbers) c.in_ok-new.ensures) c.new-6.ensures.len c.new-7.ensures.items c.new-7.ensures.len
