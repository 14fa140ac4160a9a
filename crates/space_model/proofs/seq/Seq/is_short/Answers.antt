use Rattle.std.proofs.Common.{◌<◌, ◌^◌, length, subst, List, arith}
use Rattle.space_model.proofs.seq.Seq.is_short.Goals as goal

pub returns : goal.returns
returns g c =
    let short : length c.self.inside.items.items < 2 ^ 63 = omega (arith, c.self.inside.items.ok.0, c.self.inside.items.ok.1, c.self.inside.items.small) in
    subst (λ (xs : List g.row.T.Denot). length xs < 2 ^ 63) c.self.view_is short
