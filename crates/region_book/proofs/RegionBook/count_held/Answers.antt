use Rattle.region_book.proofs.Words.{ap, arith, get_or, count_by, ◌+◌, ◌∙◌, is_held_by, all_regions}
use Rattle.region_book.proofs.ByClass.{at_tally}
use Rattle.region_book.proofs.Changes.{held_coded}
use Rattle.region_book.proofs.Tallies.{held_of}
use Rattle.region_book.proofs.RegionBook.count_held.Goals as goal

pub returns : goal.returns
returns c =
    let rs = all_regions c.self.inside in
    let client = c.args.client in
    ap (λ l. get_or l (client + 1) 0) c.self.invariant.totals.holders ∙ at_tally (held_of rs) 33 (client + 1) (omega (arith, c.requires)) ∙ held_coded client rs
    ∙ ap (λ s. count_by (is_held_by client) s.regions) c.self.view_is
