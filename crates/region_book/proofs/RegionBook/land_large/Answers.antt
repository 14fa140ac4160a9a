use Rattle.region_book.proofs.Words.{ap, subst, sym, ◌∙◌, ◌*◌, landing, region_of, regions_from, every_inserted, addr_of, CanCome, IsOf, Regions}
use Rattle.region_book.proofs.Answered.{page_free, page_lands}
use Rattle.region_book.proofs.RegionBook.land_large.Goals as goal

pub add-requires-clause-free : goal.add-requires-clause-free
add-requires-clause-free c =
    page_free c.self.inside c.self.invariant c.args.client c.args.class (4096 * c.args.first) (subst (λ (s : Regions). CanCome (regions_from c.args.client c.args.class (4096 * c.args.first) 1) s.regions) (sym c.self.view_is) c.requires.can_come)

pub add-requires-2 : goal.add-requires-2
add-requires-2 c =
    (page_lands c.self.inside c.self.invariant c.args.client c.args.class (4096 * c.args.first) c.add.new.self.regions c.requires.class c.requires.client
    (subst (λ (s : Regions). CanCome (regions_from c.args.client c.args.class (4096 * c.args.first) 1) s.regions) (sym c.self.view_is) c.requires.can_come) c.add.ensures.regions).room

pub invariant_of-self : goal.invariant_of-self
invariant_of-self c =
    let l = page_lands c.self.inside c.self.invariant c.args.client c.args.class (4096 * c.args.first) c.add.new.self.regions c.requires.class c.requires.client
    (subst (λ (s : Regions). CanCome (regions_from c.args.client c.args.class (4096 * c.args.first) 1) s.regions) (sym c.self.view_is) c.requires.can_come) c.add.ensures.regions in record {
      apart = l.apart;
      larges = rw c.add.ensures.regions (every_inserted addr_of (IsOf 36 121) (region_of c.args.client c.args.class (4096 * c.args.first)) c.self.inside.larges.regions (record { least = c.requires.large; class = c.requires.class; holder = c.requires.client }) c.self.invariant.larges);
      smalls = c.self.invariant.smalls;
      totals = l.totals c.add-2.new.self c.add-2.ensures;
    }

pub returns-clause-regions : goal.returns-clause-regions
returns-clause-regions c =
    (page_lands c.self.inside c.self.invariant c.args.client c.args.class (4096 * c.args.first) c.add.new.self.regions c.requires.class c.requires.client
    (subst (λ (s : Regions). CanCome (regions_from c.args.client c.args.class (4096 * c.args.first) 1) s.regions) (sym c.self.view_is) c.requires.can_come) c.add.ensures.regions).regions
    ∙ ap (λ s. landing (regions_from c.args.client c.args.class (4096 * c.args.first) 1) s.regions) c.self.view_is
