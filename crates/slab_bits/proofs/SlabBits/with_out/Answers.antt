use Rattle.std.proofs.Common.{◌-◌, ◌&&◌, leb, ltb, ap, sym, subst, ◌∙◌, arith}
use Rattle.lane_scan.proofs.BitLemmas.{length-bits_of}
use Rattle.slab_bits.specs.Slabs.{IsSlab}
use Rattle.slab_bits.proofs.Counting.{made}
use Rattle.slab_bits.proofs.SlabBits.with_out.Goals as goal

pub invariant_of-result : goal.invariant_of-result
invariant_of-result c =
    let regions = c.slab_regions-regions.ensures in let same = regions.regions in let most = regions.at_most in
    subst (λ n. IsSlab c.args.class (n - c.args.out) c.fill_between.result) (sym same) (made c.args.class c.args.out _ c.requires.class c.requires.out (omega arith) c.fill_between.ensures.long (λ i. c.fill_between.ensures.bits i ∙ ap (λ n. leb c.args.out i && ltb i n) same))

pub returns-clause-places : goal.returns-clause-places
returns-clause-places c = let long = c.fill_between.ensures.long in omega (arith, length-bits_of c.fill_between.result)
