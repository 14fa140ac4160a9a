use Rattle.bin_book.proofs.Words.{ap, refl, get_or-replicate, KeySet}
use Rattle.bin_book.proofs.Growing.{empty_slabs, empty_table}
use Rattle.bin_book.proofs.Regions.{no_regions}
use Rattle.bin_book.proofs.table.Table.new.Goals as goal

pub returns-clause-table : goal.returns-clause-table
returns-clause-table c =
    empty_table _ (ap (λ (s : KeySet). s.keys) c.new.ensures) (ap (λ (s : KeySet). s.keys) c.new-2.ensures) c.new-4.ensures.len c.new-6.ensures.items c.new-6.ensures.len refl (λ class small. get_or-replicate 36 class 0 0 small) c.new-3.ensures.pages

pub returns-clause-slabs : goal.returns-clause-slabs
returns-clause-slabs c = empty_slabs _ (ap (λ (s : KeySet). s.keys) c.new.ensures)

pub returns-clause-regions : goal.returns-clause-regions
returns-clause-regions c = no_regions _ _ _ (ap (λ (s : KeySet). s.keys) c.new.ensures)
