use Rattle.bin_book.proofs.Words.{◌≡◌, ◌∙◌, false, not, eqb-true, get_or, ap, arith, sym, nat_tests, Bits, bits_at}
use Rattle.bin_book.proofs.Taking.{read_bits}
use Rattle.bin_book.proofs.table.Table.has_out.Goals.{then-class, else-class}
use Rattle.bin_book.proofs.table.Table.has_out.Goals as goal

pub returns-then-region-slab_regions : goal.returns-then-region-slab_regions
returns-then-region-slab_regions c =
    let bits = read_bits c.args.self.now c.requires.table c.args.slab c.requires.there _ c.index-bits.ensures in
    let class = c.class.ensures.class ∙ ap (λ (b : Bits). b.class) bits in
    let free : c.is_free.result ≡ get_or (bits_at c.args.self.now.slots.items c.args.slab.minor).free c.args.region false = c.is_free.ensures ∙ ap (λ (b : Bits). get_or b.free c.args.region false) bits in
    elim c.if-class.branch [
      | then-class w ↦ (
        λ f. record { of_class = sym class ∙ w.if-class.true; inside = grind (arith, nat_tests, w.value-is, c.if-region-slab_regions.true, w.slab_regions.ensures.regions); out = grind (arith, f, free) },
        λ o. ap not (free ∙ o.out),
      )
      | else-class w ↦ absurd (w.if-class.false (eqb-true _ _ (sym w.value-is ∙ c.if-region-slab_regions.true)))
    ]
