use Rattle.arena_core.proofs.Words.{◌∙◌, sym, free_of, space_of, rules, ap, Stepped}
use Rattle.arena_core.proofs.Landed.{no_free, nothing_free}
use Rattle.arena_core.proofs.fills.fill.Goals as goal

pub returns-then-not-has_free : goal.returns-then-not-has_free
returns-then-not-has_free c =
    let slabs = c.args.indexes.now.regions.slabs in
    let none = no_free (free_of c.args.class slabs) c.has_free.ensures c.if-not-has_free.true in
    let n = nothing_free c.args.client (space_of c.args.indexes.now) c.args.class c.args.count slabs c.requires.sound c.requires.class c.requires.booked (sym c.is_live.ensures ∙ c.if-not-is_live.false) none in
    record { after = ap (λ (step : Stepped). step.after) n.0; reply = ap (λ (step : Stepped). step.reply) n.0; err = tt; slabs = n.1; same = tt; places = search rules }
