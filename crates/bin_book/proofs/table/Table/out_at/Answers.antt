use Rattle.bin_book.proofs.Words.{◌≡◌, ◌-◌, ◌*◌, ◌/◌, false, true, sym, ◌∙◌, arith, slab_filled, HasOut, IsOutAt, bits_at}
use Rattle.bin_book.proofs.Holding.{out_at, out_not, out_somewhere}
use Rattle.bin_book.proofs.table.Table.out_at.Goals.{else-has_out-via-then-has_out+else-offset-size-eq0, else-has_out-via-else-has_out}
use Rattle.bin_book.proofs.table.Table.out_at.Goals as goal

pub overflow_mul-offset : goal.overflow_mul-offset
overflow_mul-offset c = record { fits = omega (arith, c.requires.last.below, c.ranges.addr.fits) }

pub overflow_sub-offset : goal.overflow_sub-offset
overflow_sub-offset c = omega (arith, c.requires.last.below)

-- what is out there
out : (c : goal.Then-offset-size-eq0) → HasOut (bits_at c.args.self.now.slots.items c.args.slab.minor) c.args.class ((c.args.addr - 4096 * c.args.slab.major) / c.size_of-size.result)
out c = c.has_out.ensures.0 c.if-has_out.true

there : (c : goal.Then-offset-size-eq0) → IsOutAt c.args.self.now c.args.class c.args.addr c.args.slab ((c.args.addr - 4096 * c.args.slab.major) / c.size_of-size.result)
there c = out_at c.args.self.now c.requires.table c.args.class c.args.addr c.requires.class c.args.slab c.requires.last c.size_of-size.result c.size_of-size.ensures.size c.if-offset-size-eq0.true (out c)

pub overflow_cast-result : goal.overflow_cast-result
overflow_cast-result c = let low = (out c).inside in let most = (slab_filled c.args.class c.requires.class).2 in record { fits = omega arith }

pub returns-then-offset-size-eq0-clause-none : goal.returns-then-offset-size-eq0-clause-none
returns-then-offset-size-eq0-clause-none c = out_somewhere c.args.self.now c.requires.table c.args.class c.args.addr c.args.slab _ (there c)

pub returns-else-has_out-clause-none : goal.returns-else-has_out-clause-none
returns-else-has_out-clause-none c = out_not c.args.self.now c.requires.table c.args.class c.args.addr c.requires.class c.args.slab c.requires.last c.size_of-size.result c.size_of-size.ensures.size (λ whole out. elim c.else-has_out.branch [
  | else-has_out-via-then-has_out+else-offset-size-eq0 w ↦ w.if-offset-size-eq0.false whole
  | else-has_out-via-else-has_out w ↦ let yes = c.has_out.ensures.1 out in let no : false ≡ true = sym w.if-has_out.false ∙ yes in cc
])
