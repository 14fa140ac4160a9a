use Rattle.hook_api.proofs.Words.{arith, map, rules, set, subst, common_steps, AskStep, Shelf}
use Rattle.hook_api.proofs.Boxes.{ask_step_at}
use Rattle.hook_api.proofs.shelf.HookShelf.ask.Goals as goal

pub returns-clause-step : goal.returns-clause-step
returns-clause-step g c =
    let account = g.H.ExtentHooks.account in let boxes = c.self.inside.boxes.items in let books = c.self.inside.books in let i = c.args.box_no in
    let after : Shelf = record { accounts = map account (set boxes i c.ask_box.new.hooks); books = set books i c.ask_box.new.book } in
    subst (λ (before : Shelf). AskStep before c.ask_box.result after) c.self.view_is
    (ask_step_at account boxes books i c.index_mut.result.now c.ask_box.new.hooks _ c.ask_box.new.book _ c.ask_box.ensures.of_box (search rules) (search rules) c.index_mut.ensures.value (grind (arith, common_steps)) c.ask_box.ensures.step)
