use Rattle.region_book.proofs.Words.{ap, arith, subst, sym, ◌+◌, ◌∙◌, ◌*◌, range_with_len, size_at, landing, regions_from, every_landing, addr_of, CanCome, IsOf, Regions}
use Rattle.region_book.proofs.Answered.{made_of, slab_lands}
use Rattle.region_book.proofs.RegionBook.land_small.Goals as goal

pub add-requires : goal.add-requires
add-requires c =
    (slab_lands c.self.inside c.self.invariant c.args.client c.args.class (4096 * c.args.first) c.args.count c.from.result c.add_slab.new.self.regions c.serve.ensures c.requires.class c.requires.client c.from.ensures
    (subst (λ (s : Regions). CanCome (regions_from c.args.client c.args.class (4096 * c.args.first) c.args.count) s.regions) (sym c.self.view_is) c.requires.can_come) c.add_slab.ensures.regions).room

pub invariant_of-self : goal.invariant_of-self
invariant_of-self c =
    let come = regions_from c.args.client c.args.class (4096 * c.args.first) c.args.count in
    let l = slab_lands c.self.inside c.self.invariant c.args.client c.args.class (4096 * c.args.first) c.args.count c.from.result c.add_slab.new.self.regions c.serve.ensures c.requires.class c.requires.client c.from.ensures
    (subst (λ (s : Regions). CanCome come s.regions) (sym c.self.view_is) c.requires.can_come) c.add_slab.ensures.regions in
    let of = made_of 0 36 c.args.client c.args.class (λ i. 4096 * c.args.first + i * size_at c.args.class) (range_with_len 0 c.args.count) (omega arith) c.requires.class c.requires.client in record {
      apart = l.apart;
      larges = c.self.invariant.larges;
      smalls = rw c.add_slab.ensures.regions (rw c.serve.ensures (every_landing addr_of (IsOf 0 36) come c.self.inside.bins.regions of c.self.invariant.smalls));
      totals = l.totals c.add.new.self c.add.ensures;
    }

pub returns-clause-regions : goal.returns-clause-regions
returns-clause-regions c =
    (slab_lands c.self.inside c.self.invariant c.args.client c.args.class (4096 * c.args.first) c.args.count c.from.result c.add_slab.new.self.regions c.serve.ensures c.requires.class c.requires.client c.from.ensures
    (subst (λ (s : Regions). CanCome (regions_from c.args.client c.args.class (4096 * c.args.first) c.args.count) s.regions) (sym c.self.view_is) c.requires.can_come) c.add_slab.ensures.regions).regions
    ∙ ap (λ s. landing (regions_from c.args.client c.args.class (4096 * c.args.first) c.args.count) s.regions) c.self.view_is
