use Rattle.std.proofs.Common.{◌<◌, sym, subst, arith}
use Rattle.size_classes.specs.Classes.{regions_at}
use Rattle.size_classes.proofs.Table.{slab_filled}
use Rattle.slab_bits.proofs.SlabBits.is_free.Goals as goal

pub has_bit-requires : goal.has_bit-requires
has_bit-requires c =
    let low = subst (λ v. c.args.i < regions_at v.class) (sym c.self.view_is) c.requires.inside in
    let most = (slab_filled c.self.inside.class c.self.invariant.small).2 in
    omega arith
