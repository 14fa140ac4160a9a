use Rattle.region_book.proofs.Words.{ap, arith, subst, sym, length, map, take, ◌∙◌, ◌-◌, landing, region_of, every_landing, Bins, free_of, addr_of, CanCome, IsOf, Regions}
use Rattle.region_book.proofs.Answered.{fill_lands, made_of, taken_many}
use Rattle.region_book.proofs.RegionBook.fill.Goals as goal

pub add-requires : goal.add-requires
add-requires c =
    (fill_lands c.self.inside c.self.invariant c.args.client c.args.class (length c.as_slice.result.now - length c.as_slice-before.result.now) _ (take c.args.count (free_of c.args.class c.args.self.now.slabs)) c.take.new.self.regions c.serve.ensures c.requires.class c.requires.client
    (taken_many (take c.args.count (free_of c.args.class c.serve.new.self.slabs)) c.as_slice-before.ensures (c.as_slice.ensures ∙ c.take.ensures.addrs)) (ap (λ (b : Bins). take c.args.count (free_of c.args.class b.slabs)) c.serve.ensures ∙ ap (λ s. take c.args.count (free_of c.args.class s.slabs)) c.self.view_is)
    (subst (λ (s : Regions). CanCome (map (region_of c.args.client c.args.class) (take c.args.count (free_of c.args.class c.args.self.now.slabs))) s.regions) (sym c.self.view_is) c.requires.can_come) c.take.ensures.regions).room

pub invariant_of-self : goal.invariant_of-self
invariant_of-self c =
    let l = fill_lands c.self.inside c.self.invariant c.args.client c.args.class (length c.as_slice.result.now - length c.as_slice-before.result.now) _ (take c.args.count (free_of c.args.class c.args.self.now.slabs)) c.take.new.self.regions c.serve.ensures c.requires.class c.requires.client
    (taken_many (take c.args.count (free_of c.args.class c.serve.new.self.slabs)) c.as_slice-before.ensures (c.as_slice.ensures ∙ c.take.ensures.addrs)) (ap (λ (b : Bins). take c.args.count (free_of c.args.class b.slabs)) c.serve.ensures ∙ ap (λ s. take c.args.count (free_of c.args.class s.slabs)) c.self.view_is)
    (subst (λ (s : Regions). CanCome (map (region_of c.args.client c.args.class) (take c.args.count (free_of c.args.class c.args.self.now.slabs))) s.regions) (sym c.self.view_is) c.requires.can_come) c.take.ensures.regions in
    let addrs = take c.args.count (free_of c.args.class c.self.inside.bins.slabs) in
    let of = made_of 0 36 c.args.client c.args.class (λ a. a) addrs (omega arith) c.requires.class c.requires.client in record {
      apart = l.apart;
      larges = c.self.invariant.larges;
      smalls = rw c.take.ensures.regions (rw c.serve.ensures (every_landing addr_of (IsOf 0 36) (map (region_of c.args.client c.args.class) addrs) c.self.inside.bins.regions of c.self.invariant.smalls));
      totals = l.totals c.add.new.self c.add.ensures;
    }

pub returns-clause-regions : goal.returns-clause-regions
returns-clause-regions c =
    (fill_lands c.self.inside c.self.invariant c.args.client c.args.class (length c.as_slice.result.now - length c.as_slice-before.result.now) _ (take c.args.count (free_of c.args.class c.args.self.now.slabs)) c.take.new.self.regions c.serve.ensures c.requires.class c.requires.client
    (taken_many (take c.args.count (free_of c.args.class c.serve.new.self.slabs)) c.as_slice-before.ensures (c.as_slice.ensures ∙ c.take.ensures.addrs)) (ap (λ (b : Bins). take c.args.count (free_of c.args.class b.slabs)) c.serve.ensures ∙ ap (λ s. take c.args.count (free_of c.args.class s.slabs)) c.self.view_is)
    (subst (λ (s : Regions). CanCome (map (region_of c.args.client c.args.class) (take c.args.count (free_of c.args.class c.args.self.now.slabs))) s.regions) (sym c.self.view_is) c.requires.can_come) c.take.ensures.regions).regions
    ∙ ap (λ s. landing (map (region_of c.args.client c.args.class) (take c.args.count (free_of c.args.class c.args.self.now.slabs))) s.regions) c.self.view_is
