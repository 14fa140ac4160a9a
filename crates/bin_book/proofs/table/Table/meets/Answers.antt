use Rattle.bin_book.proofs.Words.{◌+◌, ltb, sym, ap, ◌∙◌, arith, pages_at, Bits}
use Rattle.bin_book.proofs.Holding.{last_below, meets_last, meets_none, none_below}
use Rattle.bin_book.proofs.Taking.{read_bits}
use Rattle.bin_book.proofs.table.Table.meets.Goals as goal

pub returns-in-None : goal.returns-in-None
returns-in-None c = let a = c.in-None.ensures.found in meets_none c.args.self.now c.requires.table c.args.first c.args.end (none_below c.args.self.now.firsts.keys c.args.end (sym a))

pub index-requires : goal.index-requires
index-requires c = let last = last_below c.args.self.now.firsts.keys c.args.end c.in-Some.slab c.in-Some.ensures.ascending (sym c.in-Some.ensures.found) in c.requires.table.in_slots c.in-Some.slab last.there

pub overflow_add-result : goal.overflow_add-result
overflow_add-result c =
    let last = last_below c.args.self.now.firsts.keys c.args.end c.in-Some.slab c.in-Some.ensures.ascending (sym c.in-Some.ensures.found) in
    record { fits = omega (arith, (c.requires.table.kept.slab c.in-Some.slab last.there).inside) }

pub returns-in-Some : goal.returns-in-Some
returns-in-Some c =
    let last = last_below c.args.self.now.firsts.keys c.args.end c.in-Some.slab c.in-Some.ensures.ascending (sym c.in-Some.ensures.found) in
    let bits = read_bits c.args.self.now c.requires.table c.in-Some.slab last.there _ c.index.ensures in
    let pages = c.class_pages.ensures.pages ∙ ap pages_at (c.class-class.ensures.class ∙ ap (λ (b : Bits). b.class) bits) in
    ap (λ n. ltb c.args.first (c.in-Some.slab.major + n)) pages ∙ meets_last c.args.self.now c.requires.table c.args.first c.args.end c.requires.some c.in-Some.slab last
