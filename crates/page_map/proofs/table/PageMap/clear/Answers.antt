use Rattle.std.proofs.Common.{sym, ◌∙◌, arith}
use Rattle.page_map.proofs.TableLemmas.{of_view, view_of, removed}
use Rattle.page_map.proofs.table.PageMap.clear.Goals as goal

pub write-requires : goal.write-requires
write-requires c = let of = of_view _ c.self.invariant.table c.self.view_is in grind arith

pub returns-else-is_some : goal.returns-else-is_some
returns-else-is_some c = sym c.self.view_is ∙ view_of (removed (of_view _ c.self.invariant.table c.self.view_is) c.args.page (grind arith))
