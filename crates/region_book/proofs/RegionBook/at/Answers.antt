use Rattle.region_book.proofs.Words.{sym, ap, ◌∙◌, find, option_or, starts_at, is_published_at, holds_at, all_regions, found_held, if_published}
use Rattle.region_book.proofs.Answered.{both}
use Rattle.region_book.proofs.Changes.{held_there, published}
use Rattle.region_book.proofs.RegionBook.at.Goals as goal

pub returns-in-Some : goal.returns-in-Some
returns-in-Some c =
    let all = both c.self.inside c.self.invariant in
    let large = sym c.in-Some.is ∙ c.at.ensures in
    let found = (λ i. option_or (large i) (find (starts_at c.args.addr) c.self.inside.bins.regions)) ∙ sym (all.finds c.args.addr) in
    record {
      at = found ∙ ap (λ s. find (starts_at c.args.addr) s.regions) c.self.view_is;
      published = ap (λ s. find (is_published_at c.args.addr) s.regions) (sym c.self.view_is) ∙ published c.args.addr (all_regions c.self.inside) all.rising ∙ ap if_published (sym found);
      held = λ client. ap (λ s. holds_at client s.regions c.args.addr) (sym c.self.view_is) ∙ held_there client c.args.addr (all_regions c.self.inside) all.rising ∙ ap (found_held client) (sym found);
    }

pub returns-in-None : goal.returns-in-None
returns-in-None c =
    let all = both c.self.inside c.self.invariant in
    let large = sym c.in-None.is ∙ c.at.ensures in
    let found = (λ i. option_or (large i) (c.at-in-None.ensures.at i)) ∙ sym (all.finds c.args.addr) in
    record {
      at = found ∙ ap (λ s. find (starts_at c.args.addr) s.regions) c.self.view_is;
      published = ap (λ s. find (is_published_at c.args.addr) s.regions) (sym c.self.view_is) ∙ published c.args.addr (all_regions c.self.inside) all.rising ∙ ap if_published (sym found);
      held = λ client. ap (λ s. holds_at client s.regions c.args.addr) (sym c.self.view_is) ∙ held_there client c.args.addr (all_regions c.self.inside) all.rising ∙ ap (found_held client) (sym found);
    }
