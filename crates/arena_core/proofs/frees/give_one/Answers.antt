use Rattle.arena_core.proofs.Words.{◌≡◌, ◌∙◌, ◌∷◌, [], Some, ap, cond, refl, subst, sym, true, false, Flight, begins_at, exchanged, space_of, rules}
use Rattle.arena_core.proofs.Books.{booked_as, returns_one, back_is}
use Rattle.arena_core.proofs.Emptying.{Gives}
use Rattle.arena_core.proofs.frees.give_one.Goals as goal

pub unwrap-part-requires : goal.unwrap-part-requires
unwrap-part-requires c =
    let one = returns_one c.args.client c.args.addr (space_of c.args.indexes.now) c.give_back-class.result.0 c.args.indexes.now.regions.slabs c.requires.sound c.requires.held c.requires.booked c.give_back-class.ensures.class in
    rw (c.holding.ensures.holds ∙ one.found) refl

pub returns-then-emptied : goal.returns-then-emptied
returns-then-emptied c =
    let s = space_of c.args.indexes.now in
    let one = returns_one c.args.client c.args.addr s c.give_back-class.result.0 c.args.indexes.now.regions.slabs c.requires.sound c.requires.held c.requires.booked c.give_back-class.ensures.class in
    let both : Some one.extent ≡ Some c.unwrap-part.result = sym one.found ∙ sym c.holding.ensures.holds ∙ c.unwrap-part.ensures in
    let same : one.extent ≡ c.unwrap-part.result = cc in
    let gives : Gives c.args.client c.args.addr s c.unwrap-part.result true = subst (λ p. Gives c.args.client c.args.addr s p true) same (subst (Gives c.args.client c.args.addr s one.extent) (sym c.give_back-class.ensures.last ∙ c.if-emptied.true) one.gives) in
    let out = ap (λ rest. exchanged (begins_at c.unwrap-part.result.span.first) s.parts (record c.unwrap-part.result { state = Flight c.args.client rest } ∷ [])) c.rest.ensures in
    let after = back_is c.args.client c.args.addr s (c.change.ensures.parts ∙ out ∙ gives.parts) c.give_back-class.ensures.regions in
    record { after = after; emptied = ap (λ b. cond b 1 0) c.give_back-class.ensures.last ∙ one.gives.count; places = search rules; booked = booked_as one.booked after c.give_back-class.ensures.slabs }

pub returns-else-emptied : goal.returns-else-emptied
returns-else-emptied c =
    let s = space_of c.args.indexes.now in
    let one = returns_one c.args.client c.args.addr s c.give_back-class.result.0 c.args.indexes.now.regions.slabs c.requires.sound c.requires.held c.requires.booked c.give_back-class.ensures.class in
    let gives : Gives c.args.client c.args.addr s one.extent false = subst (Gives c.args.client c.args.addr s one.extent) (sym c.give_back-class.ensures.last ∙ c.if-emptied.false) one.gives in
    let after = back_is c.args.client c.args.addr s gives.parts c.give_back-class.ensures.regions in
    record { after = after; emptied = ap (λ b. cond b 1 0) c.give_back-class.ensures.last ∙ one.gives.count; places = search rules; booked = booked_as one.booked after c.give_back-class.ensures.slabs }
