use Rattle.part_book.proofs.Words.{nat_tests, sym, arith, rows_of}
use Rattle.part_book.proofs.Indexes.{last_row, no_row, slot_of}
use Rattle.part_book.proofs.table.Table.last_below.Goals as goal

pub returns-in_err-key-clause-none : goal.returns-in_err-key-clause-none
returns-in_err-key-clause-none c = λ _. no_row (rows_of c.args.self.now) c.args.self.now.firsts.keys c.args.page c.requires.table.indexes.firsts (sym c.in_err-key.ensures.found)

pub overflow_cast-key : goal.overflow_cast-key
overflow_cast-key c =
    let r = last_row (rows_of c.args.self.now) _ c.args.page _ c.requires.table.indexes.firsts c.in_ok-key.ensures.ascending (sym c.in_ok-key.ensures.found) in
    let within = (slot_of c.args.self.now _ r.0 c.requires.table r.1 r.2).0 in
    omega arith

pub part_at-requires : goal.part_at-requires
part_at-requires c =
    let r = last_row (rows_of c.args.self.now) _ c.args.page _ c.requires.table.indexes.firsts c.in_ok-key.ensures.ascending (sym c.in_ok-key.ensures.found) in
    (slot_of c.args.self.now _ r.0 c.requires.table r.1 r.2).0

pub returns-clause-last : goal.returns-clause-last
returns-clause-last c = grind (arith, nat_tests, last_row, slot_of)
