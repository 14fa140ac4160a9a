use Rattle.page_map.proofs.TableLemmas.{of_view, view_of, emptied, unmarked}
use Rattle.page_map.proofs.table.PageMap.clear_all.Goals as goal

pub returns : goal.returns
returns c =
    let zeros = c.fill.ensures.items (λ y is. is) in
    rw zeros (view_of (emptied (of_view _ c.self.invariant.table c.self.view_is) _ (unmarked c.self.inside.numbers.items c.self.inside.present.len)))
