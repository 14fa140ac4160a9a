use Rattle.std.proofs.Common.{◌∙◌, ℕ, ap, get_or, set, length-set, arith}
use Rattle.plain_machine.proofs.Words.{count_by, fill_by_more, fill_by_all, is_slab}
use Rattle.plain_machine.proofs.sums.slabs_by_class.Goals as goal

pub loop-class-preserved : goal.loop-class-preserved
loop-class-preserved c =
    let f : ℕ → ℕ = λ k. count_by (is_slab k c.args.space.now.regions) c.args.space.now.parts in
    record {
      len = length-set c.loop-class.numbers c.loop-class.class c.slab_count.result ∙ c.loop-class.invariant.len;
      counted = λ k h. ap (λ n. get_or (set c.loop-class.numbers c.loop-class.class n) k 0) c.slab_count.ensures
          ∙ fill_by_more f c.loop-class.numbers c.loop-class.class 0 (omega arith) c.loop-class.invariant.counted k h;
    }

pub returns : goal.returns
returns c =
    let f : ℕ → ℕ = λ k. count_by (is_slab k c.args.space.now.regions) c.args.space.now.parts in
    fill_by_all f c.loop-class.numbers 36 0 c.loop-class.invariant.len (λ k h. c.loop-class.invariant.counted k (omega arith))
