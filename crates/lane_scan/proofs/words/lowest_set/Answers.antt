use Rattle.std.proofs.Common.{sym, arith}
use Rattle.lane_scan.proofs.BitLemmas.{lowest_at, lowest_none}
use Rattle.lane_scan.proofs.words.lowest_set.Goals as goal

pub returns-then-words-i-ne0 : goal.returns-then-words-i-ne0
returns-then-words-i-ne0 c =
    let i = c.loop-i.i in
    sym (lowest_at c.args.words.now i (omega arith) c.loop-i.invariant (omega arith) (c.type_inv.words i).fits)

pub returns : goal.returns
returns c = sym (lowest_none c.args.words.now (λ k lt. c.loop-i.invariant k (omega arith)))
