use Rattle.bin_book.proofs.Words.{◌≡◌, ◌+◌, arith, vec_len}
use Rattle.bin_book.proofs.Blocks.{block_owned, few_owned}
use Rattle.bin_book.proofs.holders.own_block.Goals as goal
use Rattle.bin_book.proofs.holders.own_block.Goals.{then-index-eq0, else-index-eq0}

pub overflow_add-filled : goal.overflow_add-filled
overflow_add-filled c = record { fits = omega (arith, few_owned c.args.blocks.now.items (vec_len c.args.codes.now) c.requires.blocks c.args.index (omega arith) (cc)) }

pub lengthen-requires : goal.lengthen-requires
lengthen-requires c = omega (arith, few_owned c.args.blocks.now.items (vec_len c.args.codes.now) c.requires.blocks c.args.index (omega arith) (cc))

pub returns-clause-blocks : goal.returns-clause-blocks
returns-clause-blocks c = elim c.if-index-eq0.branch [
  | then-index-eq0 w ↦
      let len = vec_len c.args.codes.now in
      let more : vec_len w.lengthen.new.list ≡ len + 64 = omega arith in
      rw (w.blocks-is, w.codes-is, more, w.len-filled.ensures) (block_owned c.args.blocks.now.items len c.requires.blocks c.args.index (omega arith) (cc))
  | else-index-eq0 w ↦ rw (w.blocks-is, w.codes-is) c.requires.blocks
]
