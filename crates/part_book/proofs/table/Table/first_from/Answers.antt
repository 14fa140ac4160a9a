use Rattle.part_book.proofs.Words.{nat_tests, sym, arith, rows_of}
use Rattle.part_book.proofs.Indexes.{no_row_from, row_from, slot_of}
use Rattle.part_book.proofs.table.Table.first_from.Goals as goal

pub returns-in_err-key-clause-none : goal.returns-in_err-key-clause-none
returns-in_err-key-clause-none c = λ _. no_row_from (rows_of c.args.self.now) c.args.self.now.firsts.keys c.args.page c.requires.table.indexes.firsts (sym c.in_err-key.ensures.found)

pub overflow_cast-key : goal.overflow_cast-key
overflow_cast-key c =
    let r = row_from (rows_of c.args.self.now) _ c.args.page _ c.requires.table.indexes.firsts c.in_ok-key.ensures.ascending (sym c.in_ok-key.ensures.found) in
    let within = (slot_of c.args.self.now _ r.0 c.requires.table r.1 r.2).0 in
    omega arith

pub part_at-requires : goal.part_at-requires
part_at-requires c =
    let r = row_from (rows_of c.args.self.now) _ c.args.page _ c.requires.table.indexes.firsts c.in_ok-key.ensures.ascending (sym c.in_ok-key.ensures.found) in
    (slot_of c.args.self.now _ r.0 c.requires.table r.1 r.2).0

pub returns-clause-first : goal.returns-clause-first
returns-clause-first c = grind (arith, nat_tests, row_from, slot_of)
