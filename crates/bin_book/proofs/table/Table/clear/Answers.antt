use Rattle.bin_book.proofs.Words.{length, sym, ap, ◌∙◌, arith, Bits}
use Rattle.bin_book.proofs.Taking.{read_bits}
use Rattle.bin_book.proofs.Regions.{no_regions}
use Rattle.bin_book.proofs.Adding.{first_there, length_slabs, none_there}
use Rattle.bin_book.proofs.Growing.{empty_slabs}
use Rattle.bin_book.proofs.table.Table.clear.Goals as goal

pub index-requires : goal.index-requires
index-requires c = c.loop-slab.invariant.table.in_slots c.in-Some.slab (first_there c.loop-slab.self.firsts.keys c.in-Some.slab (sym c.in-Some.ensures.first))

pub take_off-requires : goal.take_off-requires
take_off-requires c =
    let there = first_there c.loop-slab.self.firsts.keys c.in-Some.slab (sym c.in-Some.ensures.first) in
    let bits = read_bits c.loop-slab.self c.loop-slab.invariant.table c.in-Some.slab there _ c.index.ensures in
    record {
      table = c.loop-slab.invariant.table;
      there = there;
      class = sym (c.class-class.ensures.class ∙ ap (λ (b : Bits). b.class) bits);
    }

pub returns-clause-slabs : goal.returns-clause-slabs
returns-clause-slabs c = empty_slabs _ (none_there c.loop-slab.self.firsts.keys (sym c.first.ensures.first ∙ c.in_default.is))

pub returns-clause-free : goal.returns-clause-free
returns-clause-free c =
    let none = ap length (none_there c.loop-slab.self.firsts.keys (sym c.first.ensures.first ∙ c.in_default.is)) in
    omega (arith, length_slabs c.args.self.now)

pub returns-clause-regions : goal.returns-clause-regions
returns-clause-regions c = no_regions _ _ _ (none_there c.loop-slab.self.firsts.keys (sym c.first.ensures.first ∙ c.in_default.is))
