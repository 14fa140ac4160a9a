use Rattle.bin_book.proofs.Words.{◌∙◌, refl, arith}
use Rattle.bin_book.proofs.Growing.{table_roomy}
use Rattle.bin_book.proofs.table.Table.reserve.Goals as goal

pub returns-in_err-reserve-clause-table : goal.returns-in_err-reserve-clause-table
returns-in_err-reserve-clause-table c = (table_roomy c.args.self.now _ c.requires refl (omega arith) refl (omega arith) refl refl refl (omega arith) c.reserve.ensures.grows).0

pub returns-in_err-reserve-clause-slabs : goal.returns-in_err-reserve-clause-slabs
returns-in_err-reserve-clause-slabs c = (table_roomy c.args.self.now _ c.requires refl (omega arith) refl (omega arith) refl refl refl (omega arith) c.reserve.ensures.grows).1

pub returns-then-more-spare-clause-table : goal.returns-then-more-spare-clause-table
returns-then-more-spare-clause-table c = (table_roomy c.args.self.now _ c.requires refl (omega arith) refl (omega arith) refl refl refl (omega arith) c.reserve.ensures.grows).0

pub returns-then-more-spare-clause-slabs : goal.returns-then-more-spare-clause-slabs
returns-then-more-spare-clause-slabs c = (table_roomy c.args.self.now _ c.requires refl (omega arith) refl (omega arith) refl refl refl (omega arith) c.reserve.ensures.grows).1

pub widen-requires-clause-table : goal.widen-requires-clause-table
widen-requires-clause-table c = (table_roomy c.args.self.now _ c.requires refl (omega arith) refl (omega arith) refl refl refl (omega arith) c.reserve.ensures.grows).0

pub returns-clause-slabs : goal.returns-clause-slabs
returns-clause-slabs c = c.widen.ensures.slabs ∙ (table_roomy c.args.self.now _ c.requires refl (omega arith) refl (omega arith) refl refl refl (omega arith) c.reserve.ensures.grows).1
