use Rattle.part_book.proofs.Words.{◌≤◌, ltb, sym, ap, subst, ◌∙◌, refl, All, end_of, IsLastBelow, parts_of}
use Rattle.part_book.proofs.Parts.{clamped, clamped_none, met_by_last, met_by_none}
use Rattle.part_book.proofs.table.Table.meets.Goals as goal

pub returns-in-Some : goal.returns-in-Some
returns-in-Some c =
    let parts = parts_of c.args.self.now in
    let last = clamped parts c.in-Some.part.now (end_of c.args.span) c.requires.table.indexes.apart (subst (λ n. IsLastBelow n parts c.in-Some.part.now) c.saturating_add.ensures c.in-Some.ensures.last) in
    ap (ltb c.args.span.first) c.end_of.ensures ∙ sym (met_by_last parts c.args.span c.in-Some.part.now c.requires.table.indexes.apart last)

pub returns-in-None : goal.returns-in-None
returns-in-None c =
    let parts = parts_of c.args.self.now in
    let none = subst (λ n. All (λ p. n ≤ p.span.first) parts) c.saturating_add.ensures (c.in-None.ensures.none refl) in
    sym (met_by_none parts c.args.span (clamped_none parts (end_of c.args.span) c.requires.table.indexes.apart none))
