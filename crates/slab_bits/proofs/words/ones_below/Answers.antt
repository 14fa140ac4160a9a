use Rattle.slab_bits.proofs.WordBits.{all_ones, some_ones}
use Rattle.slab_bits.proofs.words.ones_below.Goals as goal

pub returns-then-count-ge64 : goal.returns-then-count-ge64
returns-then-count-ge64 c = all_ones c.args.count c.if-count-ge64.true

pub returns-else-count-ge64 : goal.returns-else-count-ge64
returns-else-count-ge64 c = some_ones c.args.count c.if-count-ge64.false
