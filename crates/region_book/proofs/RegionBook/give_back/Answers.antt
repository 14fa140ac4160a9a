use Rattle.std.proofs.lemmas.Grind.{common_steps}
use Rattle.region_book.proofs.Words.{ap, arith, sym, filter, map, not, refl, ◌∷◌, [], ◌∙◌, every_filter, starts_at, holds_at, is_given_back, staying, IsOf, is_last, slabs_returned}
use Rattle.region_book.proofs.Answered.{backs_large, backs_small, found_of, last_large, last_small, small_there}
use Rattle.region_book.proofs.RegionBook.give_back.Goals as goal

pub remove-requires : goal.remove-requires
remove-requires c = (backs_large c.self.inside c.self.invariant c.args.client c.args.addr c.in-Some.region c.take.new.self.regions (ap (λ s. holds_at c.args.client s.regions c.args.addr) c.self.view_is ∙ c.requires.held) (sym c.at.ensures ∙ c.in-Some.is) c.take.ensures.regions).can

pub invariant_of-self : goal.invariant_of-self
invariant_of-self c =
    let l = backs_large c.self.inside c.self.invariant c.args.client c.args.addr c.in-Some.region c.take.new.self.regions (ap (λ s. holds_at c.args.client s.regions c.args.addr) c.self.view_is ∙ c.requires.held) (sym c.at.ensures ∙ c.in-Some.is) c.take.ensures.regions in record {
      apart = l.apart;
      larges = rw c.take.ensures.regions (every_filter (IsOf 36 121) (λ q. not (starts_at c.args.addr q)) c.self.inside.larges.regions c.self.invariant.larges);
      smalls = c.self.invariant.smalls;
      totals = l.totals c.remove.new.self c.remove.ensures;
    }

pub unwrap-region-requires : goal.unwrap-region-requires
unwrap-region-requires c = rw (c.at-in-None.ensures.at ∙ (small_there c.self.inside c.self.invariant c.args.client c.args.addr (ap (λ s. holds_at c.args.client s.regions c.args.addr) c.self.view_is ∙ c.requires.held) (sym c.at.ensures ∙ c.in-None.is)).1) refl

pub put_back-last-requires-clause-class : goal.put_back-last-requires-clause-class
put_back-last-requires-clause-class c = (found_of 0 36 c.args.addr c.self.inside.bins.regions c.unwrap-region.result c.self.invariant.smalls (sym c.at-in-None.ensures.at ∙ c.unwrap-region.ensures)).class

pub remove-requires-in-None : goal.remove-requires-in-None
remove-requires-in-None c = (backs_small c.self.inside c.self.invariant c.args.client c.args.addr c.unwrap-region.result c.put_back-last.new.self.regions (ap (λ s. holds_at c.args.client s.regions c.args.addr) c.self.view_is ∙ c.requires.held) (sym c.at.ensures ∙ c.in-None.is) (sym c.at-in-None.ensures.at ∙ c.unwrap-region.ensures) c.put_back-last.ensures.regions).can

pub invariant_of-self-in-None : goal.invariant_of-self-in-None
invariant_of-self-in-None c =
    let l = backs_small c.self.inside c.self.invariant c.args.client c.args.addr c.unwrap-region.result c.put_back-last.new.self.regions (ap (λ s. holds_at c.args.client s.regions c.args.addr) c.self.view_is ∙ c.requires.held) (sym c.at.ensures ∙ c.in-None.is) (sym c.at-in-None.ensures.at ∙ c.unwrap-region.ensures) c.put_back-last.ensures.regions in record {
      apart = l.apart;
      larges = c.self.invariant.larges;
      smalls = rw c.put_back-last.ensures.regions (every_filter (IsOf 0 36) (λ q. not (starts_at c.args.addr q)) c.self.inside.bins.regions c.self.invariant.smalls);
      totals = l.totals c.remove-in-None.new.self c.remove-in-None.ensures;
    }

pub returns-in-Some : goal.returns-in-Some
returns-in-Some c =
    let l = backs_large c.self.inside c.self.invariant c.args.client c.args.addr c.in-Some.region c.take.new.self.regions (ap (λ s. holds_at c.args.client s.regions c.args.addr) c.self.view_is ∙ c.requires.held) (sym c.at.ensures ∙ c.in-Some.is) c.take.ensures.regions in
    let same = last_large c.in-Some.region.class c.args.addr c.args.self.now.slabs (found_of 36 121 c.args.addr c.self.inside.larges.regions c.in-Some.region c.self.invariant.larges (sym c.at.ensures ∙ c.in-Some.is)).least in record {
      regions = l.regions ∙ ap (λ s. staying c.args.client (c.args.addr ∷ []) s.regions) c.self.view_is;
      class = ap (λ s. map (λ r. r.class) (filter (is_given_back c.args.client (c.args.addr ∷ [])) s.regions)) (sym c.self.view_is) ∙ l.gone;
      last = sym same.0;
      slabs = ap (λ s. s.slabs) c.self.view_is ∙ sym same.1;
      places = grind (arith, common_steps);
    }

pub returns-in-None : goal.returns-in-None
returns-in-None c =
    let l = backs_small c.self.inside c.self.invariant c.args.client c.args.addr c.unwrap-region.result c.put_back-last.new.self.regions (ap (λ s. holds_at c.args.client s.regions c.args.addr) c.self.view_is ∙ c.requires.held) (sym c.at.ensures ∙ c.in-None.is) (sym c.at-in-None.ensures.at ∙ c.unwrap-region.ensures) c.put_back-last.ensures.regions in
    let told = last_small c.unwrap-region.result.class c.args.addr c.self.inside.bins.slabs (found_of 0 36 c.args.addr c.self.inside.bins.regions c.unwrap-region.result c.self.invariant.smalls (sym c.at-in-None.ensures.at ∙ c.unwrap-region.ensures)).class in record {
      regions = l.regions ∙ ap (λ s. staying c.args.client (c.args.addr ∷ []) s.regions) c.self.view_is;
      class = ap (λ s. map (λ r. r.class) (filter (is_given_back c.args.client (c.args.addr ∷ [])) s.regions)) (sym c.self.view_is) ∙ l.gone;
      last = c.put_back-last.ensures.emptied ∙ sym told.0 ∙ ap (λ s. is_last c.unwrap-region.result.class c.args.addr s.slabs) c.self.view_is;
      slabs = c.put_back-last.ensures.slabs ∙ sym told.1 ∙ ap (λ s. slabs_returned c.unwrap-region.result.class c.args.addr s.slabs) c.self.view_is;
      places = grind (arith, common_steps);
    }
