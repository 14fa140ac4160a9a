use Rattle.bin_book.proofs.Words.{◌≡◌, ◌+◌, length, vec_len, IsSlabTable}
use Rattle.bin_book.proofs.table.Table.clear.Given as goal

abbrev pub invariant-loop-slab : goal.invariant-loop-slab
invariant-loop-slab l = record {
  table : IsSlabTable l.self;
  free : vec_len l.self.free + length l.self.firsts.keys ≡ vec_len l.fn.self.free + length l.fn.self.firsts.keys;
}

abbrev pub decreases-loop-slab : goal.decreases-loop-slab
decreases-loop-slab l = length l.self.firsts.keys
