use Rattle.turn_lock.proofs.Words.{◌≡◌, ◌<◌, ◌∷◌, ◌++◌, [], ap, sym, ◌∙◌, subst, opening, Rule, opening_view}
use Rattle.turn_lock.proofs.Keeps.{opens}
use Rattle.turn_lock.proofs.lock.TurnLock.new.Goals as goal

pub new-requires : goal.new-requires
new-requires g c =
    let first = c.of.result.value in
    let slots : c.push_reserved.new.self.items ≡ first ∷ [] = c.push_reserved.ensures.items ∙ (λ i. (c.reserve.ensures.items ∙ c.new-slots.ensures.items) i ++ sym c.of.ensures i ∷ []) in
    let small : c.args.seats < 4294967296 = c.ranges.seats.fits in
    subst (λ l. Rule g.M.Machine.logs g.M.Machine.after g.M.Machine.kept first c.args.seats (opening (0 ∷ 0 ∷ []) l (opening_view first c.args.seats))) (sym slots)
    (opens g.M.Machine.logs g.M.Machine.after g.M.Machine.kept first c.args.seats (ap g.M.Machine.kept c.of.ensures ∙ c.requires.empty) small)
