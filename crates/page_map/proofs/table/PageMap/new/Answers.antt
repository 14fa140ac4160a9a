use Rattle.page_map.specs.Table.{numbers_in, chunks_with_leaf}
use Rattle.page_map.proofs.table.PageMap.new.Goals as goal

pub returns : goal.returns
unfolding numbers_in chunks_with_leaf
returns c = rw c.new.ensures.items
