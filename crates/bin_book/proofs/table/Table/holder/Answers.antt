use Rattle.bin_book.proofs.Words.{is_some, ap, ◌∙◌, arith}
use Rattle.bin_book.proofs.Holding.{none_out, pages_far}
use Rattle.bin_book.proofs.table.Table.holder.Goals as goal

pub returns-in_err-slab-clause-none : goal.returns-in_err-slab-clause-none
returns-in_err-slab-clause-none c = ap is_some c.from_residual.ensures ∙ none_out c.args.self.now c.requires.table c.args.class c.args.addr (pages_far c.args.self.now c.requires.table c.args.class c.args.addr (λ k m. let far = c.in_err-slab.ensures.none k m in omega arith))
