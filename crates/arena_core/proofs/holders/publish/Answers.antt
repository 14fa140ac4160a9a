use Rattle.arena_core.proofs.Words.{rules, refl, ◌∙◌, None, space_of, is_held_at}
use Rattle.arena_core.proofs.Emptying.{begins_alone}
use Rattle.arena_core.proofs.Handing.{anew_alone, held_at, held_there}
use Rattle.arena_core.proofs.holders.publish.Goals as goal

pub hand_over-requires-clause-there : goal.hand_over-requires-clause-there
hand_over-requires-clause-there c = (held_there c.args.client c.args.addr c.args.indexes.now.regions.regions c.requires.held).1

pub returns : goal.returns
returns c =
    let s = space_of c.args.indexes.now in
    let regions = c.hand_over.ensures.regions
    ∙ anew_alone (is_held_at c.args.client c.args.addr) c.args.addr None s.regions (λ r. held_at c.args.client c.args.addr r) (begins_alone s c.args.addr c.requires.sound) (held_there c.args.client c.args.addr s.regions c.requires.held).0 in
    record { after = λ i. record s { regions = regions i }; reply = refl; slabs = search rules; places = search rules }
