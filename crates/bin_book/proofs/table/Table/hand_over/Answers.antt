use Rattle.bin_book.proofs.Words.{refl, arith}
use Rattle.bin_book.proofs.Growing.{same_chart, slabs_grown, table_roomy}
use Rattle.bin_book.proofs.Handing.{code_inside, region_held}
use Rattle.bin_book.proofs.table.Table.hand_over.Goals as goal

pub set-requires-clause-inside : goal.set-requires-clause-inside
set-requires-clause-inside c = code_inside c.args.self.now c.requires.table c.args.slab c.requires.out.there c.args.region c.requires.out.out.inside

pub returns-clause-table : goal.returns-clause-table
returns-clause-table c = (table_roomy c.args.self.now _ c.requires.table refl (omega arith) refl (omega arith) refl refl refl (omega arith) (same_chart c.args.self.now.chart)).0

pub returns-clause-slabs : goal.returns-clause-slabs
returns-clause-slabs c = slabs_grown c.args.self.now _ c.requires.table refl refl refl (λ n l. refl) (same_chart c.args.self.now.chart)

pub returns-clause-regions : goal.returns-clause-regions
returns-clause-regions c =
    let out = c.requires.out in
    region_held c.args.self.now c.requires.table c.args.slab out.there c.args.region out.out.inside out.out.out c.set.new.self c.args.holder c.set.ensures.here c.set.ensures.others
