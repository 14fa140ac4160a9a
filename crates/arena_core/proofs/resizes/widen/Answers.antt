use Rattle.arena_core.proofs.Words.{◌/◌, refl, ◌∙◌, ap, arith, sym, nat_lt, ltb-true, widen_at, space_of, rules, Stepped}
use Rattle.arena_core.proofs.Resized.{home_begins, homed}
use Rattle.arena_core.proofs.resizes.widen.Goals as goal

pub at-part-requires : goal.at-part-requires
at-part-requires c = home_begins c.args.client c.args.addr (c.args.addr / 4096) (space_of c.args.indexes.now) (λ p. nat_lt p.span.pages c.args.pages) c.requires.sound c.requires.stands refl

pub overflow_add-end : goal.overflow_add-end
overflow_add-end c =
    let h = homed c.args.client c.args.addr (c.args.addr / 4096) (space_of c.args.indexes.now) (λ p. nat_lt p.span.pages c.args.pages) c.requires.sound c.requires.stands refl c.at-part.ensures.at in
    omega (arith, h.1.placed.2)

pub overflow_sub-pages : goal.overflow_sub-pages
overflow_sub-pages c =
    let h = homed c.args.client c.args.addr (c.args.addr / 4096) (space_of c.args.indexes.now) (λ p. nat_lt p.span.pages c.args.pages) c.requires.sound c.requires.stands refl c.at-part.ensures.at in
    omega (arith, ltb-true _ _ h.1.passes)

pub returns : goal.returns
returns c =
    let s = space_of c.args.indexes.now in
    let h = homed c.args.client c.args.addr (c.args.addr / 4096) s (λ p. nat_lt p.span.pages c.args.pages) c.requires.sound c.requires.stands refl c.at-part.ensures.at in
    let done = ap (λ o. widen_at s c.args.client c.args.pages o) (sym h.1.found) in
    record { after = c.widen_by.ensures.after ∙ ap (λ (step : Stepped). step.after) done; reply = c.widen_by.ensures.reply ∙ ap (λ (step : Stepped). step.reply) done; slabs = search rules; places = search rules }
