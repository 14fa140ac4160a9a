use Rattle.std.proofs.Common.{◌≡◌, ◌<◌, false, get_or, sym, subst, arith}
use Rattle.std.proofs.lemmas.List.Sums.{count_by-le-length}
use Rattle.size_classes.specs.Classes.{regions_at}
use Rattle.size_classes.proofs.Table.{slab_filled}
use Rattle.lane_scan.specs.Bits.{bits_of}
use Rattle.lane_scan.proofs.BitLemmas.{length-bits_of}
use Rattle.slab_bits.proofs.Counting.{put}
use Rattle.slab_bits.proofs.SlabBits.put.Goals as goal

pub set_bit-requires : goal.set_bit-requires
set_bit-requires c =
    let low = subst (λ v. c.args.i < regions_at v.class) (sym c.self.view_is) c.requires.inside in let most = (slab_filled c.self.inside.class c.self.invariant.small).2 in omega arith

pub overflow_add-self : goal.overflow_add-self
overflow_add-self c =
    let counted = c.self.invariant.counted in let few = count_by-le-length (λ free. free) (bits_of c.self.inside.free) in
    let long = c.self.invariant.long in let bits = length-bits_of c.self.inside.free in record { fits = omega arith }

pub invariant_of-self : goal.invariant_of-self
invariant_of-self c =
    let low = subst (λ v. c.args.i < regions_at v.class) (sym c.self.view_is) c.requires.inside in let out = subst (λ v. get_or v.free c.args.i false ≡ false) (sym c.self.view_is) c.requires.out in
    let most = (slab_filled c.self.inside.class c.self.invariant.small).2 in let long = c.self.invariant.long in let bits = length-bits_of c.self.inside.free in
    put _ _ _ _ _ c.self.invariant (omega arith) low out (omega arith) c.set_bit.ensures
