use Rattle.std.proofs.Common.{◌/◌, arith, ap, ◌∙◌}
use Rattle.page_map.specs.Pages.{Pages}
use Rattle.std.specs.FinSet as set
use Rattle.std.specs.Cmp.{unsigned_tied}
use Rattle.std.proofs.lemmas.Bool.Decides.{nat_tests}
use Rattle.page_map.proofs.TableLemmas.{kept, of_view}
use Rattle.page_map.proofs.table.PageMap.set.Goals as goal
use Rattle.page_map.proofs.table.PageMap.set.Goals.{then-is_none, else-is_none}

pub give_leaf-requires-clause-bare : goal.give_leaf-requires-clause-bare
give_leaf-requires-clause-bare c = let of = of_view _ c.self.invariant.table c.self.view_is in grind (arith, of.chunks (c.args.page / 512))

pub give_leaf-requires-clause-spare : goal.give_leaf-requires-clause-spare
give_leaf-requires-clause-spare c = let of = of_view _ c.self.invariant.table c.self.view_is in c.requires.room (grind (arith, of.chunks (c.args.page / 512)))

pub write-requires : goal.write-requires
write-requires c =
    let of = of_view _ c.self.invariant.table c.self.view_is in
    elim c.if-is_none.branch [
      | then-is_none w ↦ grind (arith, set.members, nat_tests, unsigned_tied)
      | else-is_none w ↦ grind (arith, of.chunks (c.args.page / 512))
    ]

pub returns-clause-leaf : goal.returns-clause-leaf
returns-clause-leaf c =
    let of = of_view _ c.self.invariant.table c.self.view_is in
    ap (λ (p : Pages). p.chunks) c.write.ensures ∙ elim c.if-is_none.branch [
      | then-is_none w ↦ ap (λ (p : Pages). p.chunks) (w.self-is ∙ w.give_leaf.ensures)
      | else-is_none w ↦ ap (λ (p : Pages). p.chunks) w.self-is ∙ kept of (c.args.page / 512) (grind arith)
    ]

pub returns-clause-spare : goal.returns-clause-spare
returns-clause-spare c =
    let of = of_view _ c.self.invariant.table c.self.view_is in
    elim c.if-is_none.branch [
      | then-is_none w ↦ grind (arith, of.chunks (c.args.page / 512))
      | else-is_none w ↦ grind (arith, of.chunks (c.args.page / 512))
    ]
