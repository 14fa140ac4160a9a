use Rattle.hook_api.proofs.Words.{◌∷◌, sym, subst, rest, HasBox}
use Rattle.hook_api.proofs.ShareAsks.{asked_box}
use Rattle.hook_api.proofs.locks.Locks.ask.Goals as goal

pub give-requires-clause-taken : goal.give-requires-clause-taken
give-requires-clause-taken g c =
    let has = asked_box c.args.box_no c.args.place.now.me c.take.new.place.me c.slot_mut.result.now c.ask-asked.new.self c.ask-asked.result c.requires.idle.1 c.take.ensures.taken c.slot_mut.ensures.value c.ask-asked.ensures.step in
    subst (λ b. HasBox c.args.box_no b (c.take.new.place.me.0, (c.args.box_no, c.ask-asked.new.self) ∷ rest c.take.new.place.me.1)) (sym c.by_box.ensures) has
