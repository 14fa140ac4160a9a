use Rattle.bin_book.proofs.Words.{Some, sym, ap, ◌∙◌, Bits, list_any, is_out, regions_in, slabs_in}
use Rattle.bin_book.proofs.Holding.{found_there, out_somewhere}
use Rattle.bin_book.proofs.Handing.{code_inside}
use Rattle.bin_book.proofs.Taking.{read_bits}
use Rattle.bin_book.proofs.Regions.{none_passes}
use Rattle.bin_book.proofs.table.Table.region_at.Goals as goal

pub returns-in_err-slab-clause-at : goal.returns-in_err-slab-clause-at
returns-in_err-slab-clause-at c = c.from_residual.ensures ∙ none_passes (regions_in c.args.self.now) c.args.addr c.in_err-slab.ensures.none

pub at-requires : goal.at-requires
at-requires c =
    let o = c.in_ok-slab.ensures.some in
    record { inside = code_inside c.args.self.now c.requires.table c.in_ok-slab.slab o.there c.in_ok-slab.region o.out.inside }

pub returns-clause-out : goal.returns-clause-out
returns-clause-out c =
    let o = c.in_ok-slab.ensures.some in
    let class = c.class.ensures.class ∙ ap (λ (b : Bits). b.class) (read_bits c.args.self.now c.requires.table c.in_ok-slab.slab o.there _ c.index.ensures) in
    ap (λ n. list_any (is_out n c.args.addr) (slabs_in c.args.self.now)) class ∙ sym (out_somewhere c.args.self.now c.requires.table _ c.args.addr c.in_ok-slab.slab c.in_ok-slab.region o)

pub returns-clause-at : goal.returns-clause-at
returns-clause-at c =
    let o = c.in_ok-slab.ensures.some in
    let class = c.class.ensures.class ∙ ap (λ (b : Bits). b.class) (read_bits c.args.self.now c.requires.table c.in_ok-slab.slab o.there _ c.index.ensures) in
    (λ x. Some (record { addr = sym o.at x; class = class x; holder = c.at.ensures x })) ∙ sym (found_there c.args.self.now c.requires.table c.args.addr c.in_ok-slab.slab c.in_ok-slab.region o)
