use Rattle.std.proofs.Common.{◌∙◌, ℕ, ◌+◌, ◌==◌, ap, get_or, set, arith}
use Rattle.std.proofs.Common.{length-set}
use Rattle.plain_machine.proofs.Words.{count_by, fill_by_more, fill_by_all}
use Rattle.plain_machine.proofs.sums.regions_by_class.Goals as goal

pub loop-i-preserved : goal.loop-i-preserved
loop-i-preserved g c =
    let f : ℕ → ℕ = λ k. count_by (λ r. r.class == c.args.first + k) c.args.regions.now in
    record {
      len = length-set c.loop-i.numbers c.loop-i.i c.count_of.result ∙ c.loop-i.invariant.len;
      counted = λ k h. ap (λ n. get_or (set c.loop-i.numbers c.loop-i.i n) k 0) c.count_of.ensures
          ∙ fill_by_more f c.loop-i.numbers c.loop-i.i 0 (omega arith) c.loop-i.invariant.counted k h;
    }

pub returns : goal.returns
returns g c =
    let f : ℕ → ℕ = λ k. count_by (λ r. r.class == c.args.first + k) c.args.regions.now in
    fill_by_all f c.loop-i.numbers g.row.N 0 c.loop-i.invariant.len (λ k h. c.loop-i.invariant.counted k (omega arith))
