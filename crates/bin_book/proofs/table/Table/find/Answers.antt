use Rattle.bin_book.proofs.Words.{ap, is_some, ◌∙◌, subst, arith, false, ◌≡◌, list_any, Bits, is_out, IsOutAt, bits_at, slabs_in}
use Rattle.bin_book.proofs.Holding.{none_last, none_starts, some_starts, pages_far}
use Rattle.bin_book.proofs.Taking.{read_bits}
use Rattle.bin_book.proofs.table.Table.find.Goals as goal

pub returns-in_err-slab-clause-none : goal.returns-in_err-slab-clause-none
returns-in_err-slab-clause-none c =
    let t = c.args.self.now in
    ap is_some c.from_residual.ensures ∙ none_starts t c.args.addr (λ k n. pages_far t c.requires.table (bits_at t.slots.items k.minor).class c.args.addr (λ k m. let far = c.in_err-slab.ensures.none k m in omega arith) k n)

pub returns-in_err-region-clause-none : goal.returns-in_err-region-clause-none
returns-in_err-region-clause-none c =
    let t = c.args.self.now in
    let last = c.in_ok-slab.ensures.some in
    let class = c.class-class.ensures.class ∙ ap (λ (b : Bits). b.class) (read_bits t c.requires.table c.in_ok-slab.slab last.there _ c.index.ensures) in
    ap is_some c.from_residual-in_err-region.ensures ∙ none_last t c.requires.table c.args.addr c.in_ok-slab.slab last (subst (λ n. false ≡ list_any (is_out n c.args.addr) (slabs_in t)) class c.in_err-region.ensures.none)

pub returns-clause-none : goal.returns-clause-none
returns-clause-none c =
    let t = c.args.self.now in
    let last = c.in_ok-slab.ensures.some in
    let class = c.class-class.ensures.class ∙ ap (λ (b : Bits). b.class) (read_bits t c.requires.table c.in_ok-slab.slab last.there _ c.index.ensures) in
    some_starts t c.requires.table c.args.addr c.in_ok-slab.slab c.in_ok-region.region (subst (λ n. IsOutAt t n c.args.addr c.in_ok-slab.slab c.in_ok-region.region) class c.in_ok-region.ensures.some)
