use Rattle.arena_core.proofs.Words.{◌≡◌, ◌∙◌, Some, true, ap, cond, find, sym, NoArena, Owned, is_published_at, take_over_at, stays, space_of, is_live, rules, Option, Region, Stepped}
use Rattle.arena_core.proofs.Emptying.{begins_alone}
use Rattle.arena_core.proofs.Handing.{anew_alone, published_at, published_there}
use Rattle.arena_core.proofs.holders.take_over.Goals as goal

pub hand_over-requires-clause-there : goal.hand_over-requires-clause-there
hand_over-requires-clause-there c = (published_there c.args.addr c.args.indexes.now.regions.regions c.published_at.ensures c.in-Some.is).4

pub returns : goal.returns
returns c =
    let s = space_of c.args.indexes.now in
    let there = published_there c.args.addr s.regions c.published_at.ensures c.in-Some.is in
    let live : is_live s.life ≡ true = sym c.is_live.ensures ∙ c.if-not-is_live.false in
    let regions = c.hand_over.ensures.regions
    ∙ anew_alone (is_published_at c.args.addr) c.args.addr (Some c.args.client) s.regions (λ r. published_at c.args.addr r) (begins_alone s c.args.addr c.requires.sound) there.3 in
    let step = λ (o : Option Region). take_over_at s c.args.client c.args.addr o in
    let done = ap (λ b. cond b (step (find (is_published_at c.args.addr) s.regions)) (stays s NoArena)) (sym live) in
    record {
      after = (λ i. record s { regions = regions i }) ∙ ap (λ o. (step o).after) (sym there.1) ∙ ap (λ (x : Stepped). x.after) done;
      reply = ap Owned (sym there.2) ∙ ap (λ o. (step o).reply) (sym there.1) ∙ ap (λ (x : Stepped). x.reply) done;
      slabs = search rules;
      places = search rules;
    }
