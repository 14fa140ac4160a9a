use Rattle.bin_book.proofs.Words.{ap, ◌∙◌, sym, arith, holder_at, reads_more}
use Rattle.list_facts.specs.Codes.{of_code}
use Rattle.bin_book.proofs.Blocks.{blocks_more, codes_read}
use Rattle.bin_book.proofs.holders.Holders.reserve.Goals as goal

pub invariant_of-self-2 : goal.invariant_of-self-2
invariant_of-self-2 c = record {
  blocks = rw (c.lengthen.ensures.items, c.reserve-2.ensures.items, c.reserve.ensures.len) (blocks_more c.self.inside.blocks.items _ _ c.self.invariant.blocks);
  room = omega (arith, c.lengthen.ensures.len, c.in_ok-reserve.ensures.ok);
  small = omega (arith, c.lengthen.ensures.len);
}

pub returns-clause-kept : goal.returns-clause-kept
returns-clause-kept c q lt = ap of_code (codes_read _ _ q ∙ rw (c.lengthen.ensures.items, c.reserve-2.ensures.items, c.reserve.ensures.items, reads_more) (sym (codes_read _ _ q))) ∙ ap (λ xs. holder_at xs q) c.self.view_is
