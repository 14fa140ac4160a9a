use Rattle.bin_book.proofs.Taking.{found_open}
use Rattle.bin_book.proofs.table.Table.open_slab.Goals as goal

pub returns-clause-some : goal.returns-clause-some
returns-clause-some c = found_open c.args.self.now c.requires.table c.args.class c.in_ok-bin.bin c.first_key.result c.in_ok-bin.ensures c.first_key.ensures.first c.first_key.ensures.number
