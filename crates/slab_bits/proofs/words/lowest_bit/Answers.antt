use Rattle.std.proofs.Common.{sym, arith, rules}
use Rattle.lane_scan.proofs.BitLemmas.{lowest_at, lowest_none}
use Rattle.slab_bits.proofs.words.lowest_bit.Goals as goal

pub returns-then-words-i-ne0 : goal.returns-then-words-i-ne0
returns-then-words-i-ne0 c =
    let i = c.loop-i.i in let long = c.told-words in
    sym (lowest_at c.args.words.now i (omega arith) c.loop-i.invariant (omega arith) (search rules))

pub returns : goal.returns
returns c = let long = c.told-words in sym (lowest_none c.args.words.now (λ k lt. c.loop-i.invariant k (omega arith)))
