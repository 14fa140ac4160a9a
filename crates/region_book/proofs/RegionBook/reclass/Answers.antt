use Rattle.region_book.proofs.Words.{ap, arith, filter, not, refl, subst, sym, ◌*◌, ◌∙◌, list_any, size_bounds, region_bytes, inserted, region_of, starts_at, every_changed, addr_of, IsOf, AreTotals}
use Rattle.region_book.proofs.Answered.{becomes, found_large, in_both, in_one, is_large, large_there, swapped_large, swaps}
use Rattle.region_book.proofs.RegionBook.reclass.Goals as goal

pub unwrap-region-requires : goal.unwrap-region-requires
unwrap-region-requires c = rw (c.at.ensures ∙ (large_there c.self.inside c.self.invariant (4096 * c.args.page) (ap (λ s. list_any (is_large (4096 * c.args.page)) s.regions) c.self.view_is ∙ c.requires.there)).1) refl

pub remove-requires : goal.remove-requires
remove-requires c =
    (swaps c.self.inside c.self.invariant (4096 * c.args.page) c.unwrap-region.result (found_large c.self.inside c.self.invariant (4096 * c.args.page) c.unwrap-region.result (sym c.at.ensures ∙ c.unwrap-region.ensures)) (becomes c.args.client c.args.class) (λ q. refl) c.requires.client c.requires.class
    (λ q of. record { least = omega arith; class = c.requires.class; holder = c.requires.client }) (omega (arith, c.self.invariant.totals.bytes, ap (λ s. region_bytes s.regions) c.self.view_is, c.requires.bytes, size_bounds c.args.class c.requires.class))).can

pub add-requires : goal.add-requires
add-requires c =
    (swaps c.self.inside c.self.invariant (4096 * c.args.page) c.unwrap-region.result (found_large c.self.inside c.self.invariant (4096 * c.args.page) c.unwrap-region.result (sym c.at.ensures ∙ c.unwrap-region.ensures)) (becomes c.args.client c.args.class) (λ q. refl) c.requires.client c.requires.class
    (λ q of. record { least = omega arith; class = c.requires.class; holder = c.requires.client }) (omega (arith, c.self.invariant.totals.bytes, ap (λ s. region_bytes s.regions) c.self.view_is, c.requires.bytes, size_bounds c.args.class c.requires.class))).room c.remove.new.self c.remove.ensures

pub invariant_of-self : goal.invariant_of-self
invariant_of-self c =
    let one = c.replace.ensures.regions ∙ sym (in_one c.self.inside c.self.invariant (4096 * c.args.page) c.args.client c.args.class c.unwrap-region.result (sym c.at.ensures ∙ c.unwrap-region.ensures)) in
    let h = swapped_large c.self.inside c.self.invariant (4096 * c.args.page) (becomes c.args.client c.args.class) (λ q. refl) c.unwrap-region.result c.replace.new.self.regions (sym c.at.ensures ∙ c.unwrap-region.ensures) one in
    let s = swaps c.self.inside c.self.invariant (4096 * c.args.page) c.unwrap-region.result (found_large c.self.inside c.self.invariant (4096 * c.args.page) c.unwrap-region.result (sym c.at.ensures ∙ c.unwrap-region.ensures)) (becomes c.args.client c.args.class) (λ q. refl) c.requires.client c.requires.class
    (λ q of. record { least = omega arith; class = c.requires.class; holder = c.requires.client }) (omega (arith, c.self.invariant.totals.bytes, ap (λ s. region_bytes s.regions) c.self.view_is, c.requires.bytes, size_bounds c.args.class c.requires.class)) in record {
      apart = h.apart;
      larges = rw one (every_changed addr_of (IsOf 36 121) (starts_at (4096 * c.args.page)) (becomes c.args.client c.args.class) c.self.inside.larges.regions (λ q of. record { least = c.requires.large; class = c.requires.class; holder = c.requires.client }) c.self.invariant.larges);
      smalls = c.self.invariant.smalls;
      totals = subst (AreTotals c.add.new.self) (sym h.regions) (s.totals c.remove.new.self c.add.new.self c.remove.ensures c.add.ensures);
    }

pub returns-clause-regions : goal.returns-clause-regions
returns-clause-regions c =
    let found = sym c.at.ensures ∙ c.unwrap-region.ensures in
    let one = c.replace.ensures.regions ∙ sym (in_one c.self.inside c.self.invariant (4096 * c.args.page) c.args.client c.args.class c.unwrap-region.result found) in
    (swapped_large c.self.inside c.self.invariant (4096 * c.args.page) (becomes c.args.client c.args.class) (λ q. refl) c.unwrap-region.result c.replace.new.self.regions found one).regions
    ∙ in_both c.self.inside c.self.invariant (4096 * c.args.page) c.args.client c.args.class c.unwrap-region.result (found_large c.self.inside c.self.invariant (4096 * c.args.page) c.unwrap-region.result found)
    ∙ ap (λ s. inserted (region_of c.args.client c.args.class (4096 * c.args.page)) (filter (λ q. not (starts_at (4096 * c.args.page) q)) s.regions)) c.self.view_is
