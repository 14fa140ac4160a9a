use Rattle.std.proofs.Common.{◌≡◌, ◌<◌, false, length, ap, sym, ◌∙◌, rules}
use Rattle.space_model.proofs.Words.{is_in}
use Rattle.space_model.proofs.Roster.{IsRoster-push, roster_room}
use Rattle.space_model.proofs.clients.Clients.add.Goals as goal

pub push-requires : goal.push-requires
push-requires c =
    let new : is_in c.args.client c.self.inside.numbers.items ≡ false =
    ap (is_in c.args.client) c.self.view_is ∙ sym c.contains.ensures ∙ c.if-not-contains.true in
    let room : length c.self.inside.numbers.items < 32 = roster_room c.args.client c.self.inside.numbers.items c.self.invariant c.requires new in
    search rules

pub invariant_of-self : goal.invariant_of-self
invariant_of-self c =
    let new : is_in c.args.client c.self.inside.numbers.items ≡ false =
    ap (is_in c.args.client) c.self.view_is ∙ sym c.contains.ensures ∙ c.if-not-contains.true in
    rw c.push.ensures.items (IsRoster-push c.args.client c.self.inside.numbers.items c.self.invariant c.requires new)
