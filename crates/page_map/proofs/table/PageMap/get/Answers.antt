use Rattle.std.proofs.Common.{arith}
use Rattle.std.proofs.lemmas.Grind.{common_steps}
use Rattle.page_map.proofs.TableLemmas.{of_view}
use Rattle.page_map.proofs.table.PageMap.get.Goals as goal

pub returns-in_err-place-clause-number : goal.returns-in_err-place-clause-number
returns-in_err-place-clause-number c = let of = of_view _ c.self.invariant.table c.self.view_is in grind (arith, common_steps)

pub returns-then-has_bit-clause-number : goal.returns-then-has_bit-clause-number
returns-then-has_bit-clause-number c = let of = of_view _ c.self.invariant.table c.self.view_is in grind (arith, common_steps)

pub returns-then-has_bit-clause-leaf : goal.returns-then-has_bit-clause-leaf
returns-then-has_bit-clause-leaf c found = let of = of_view _ c.self.invariant.table c.self.view_is in grind (arith, common_steps)

pub returns-else-has_bit-clause-number : goal.returns-else-has_bit-clause-number
returns-else-has_bit-clause-number c = let of = of_view _ c.self.invariant.table c.self.view_is in grind (arith, common_steps)
