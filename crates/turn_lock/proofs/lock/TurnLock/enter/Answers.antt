use Rattle.turn_lock.proofs.Words.{rules, ap, sym, ◌∙◌, subst, Enters, Waiting}
use Rattle.turn_lock.proofs.Turned.{waited}
use Rattle.turn_lock.proofs.Keeps.{draws, looks}
use Rattle.turn_lock.proofs.lock.TurnLock.enter.Goals as goal

pub fetch_add-ticket-requires : goal.fetch_add-ticket-requires
fetch_add-ticket-requires g c = (search rules, search rules, draws _ _ _ _ _ _ _ _ c.requires.idle c.requires.named)

pub load-requires : goal.load-requires
load-requires g c =
    let drawn = c.fetch_add-ticket.ensures.2 in let now = c.loop.invariant.2 ∙ drawn.2 in
    (search rules, search rules, looks _ _ _ _ _ _ _ _ drawn.0 (ap (λ m. m.0.stage) now) (ap (λ m. m.1) now ∙ c.requires.home))

pub returns-then-load-ticket-clause-entered : goal.returns-then-load-ticket-clause-entered
returns-then-load-ticket-clause-entered g c =
    let drawn = c.fetch_add-ticket.ensures.2 in let now = c.loop.invariant.2 ∙ drawn.2 in
    let told = c.load.ensures.2 drawn.0 (ap (λ m. m.0.stage) now) (ap (λ m. m.1) now ∙ c.requires.home) in
    let after_waiting = subst (λ v. Enters g.M.Machine.logs g.M.Machine.after g.M.Machine.kept drawn.0 v c.load.new.seat.me) (ap (λ m. m.0) now) (told.1 (c.if-load-ticket.true ∙ sym drawn.1)) in
    (drawn.0, waited g.M.Machine.logs g.M.Machine.after g.M.Machine.kept drawn.0 c.args.seat.now.me.0 (Waiting drawn.0) c.load.new.seat.me after_waiting)
