use Rattle.region_book.proofs.Words.{ap, arith, find, is_some, refl, subst, sym, ◌∙◌, held_anew, starts_at, every_changed, is_some_find, addr_of, held_by, IsOf, AreTotals}
use Rattle.region_book.proofs.Answered.{found_in, found_small, swapped_large, swapped_small, swaps}
use Rattle.region_book.proofs.RegionBook.hand_over.Goals as goal

pub unwrap-region-requires : goal.unwrap-region-requires
unwrap-region-requires c = ap is_some c.at.ensures.at ∙ is_some_find (starts_at c.args.addr) c.args.self.now.regions ∙ c.requires.there

pub remove-requires : goal.remove-requires
remove-requires c =
    (swaps c.self.inside c.self.invariant c.args.addr c.unwrap-region.result (ap (λ s. find (starts_at c.args.addr) s.regions) c.self.view_is ∙ sym c.at.ensures.at ∙ c.unwrap-region.ensures) (held_by c.args.holder) (λ q. refl) c.requires.holder
    (found_in c.self.inside c.self.invariant c.args.addr c.unwrap-region.result (ap (λ s. find (starts_at c.args.addr) s.regions) c.self.view_is ∙ sym c.at.ensures.at ∙ c.unwrap-region.ensures)).class (λ q of. record { least = of.least; class = of.class; holder = c.requires.holder }) (omega (arith, c.self.ranges.0, c.self.ranges.1))).can

pub add-requires : goal.add-requires
add-requires c =
    (swaps c.self.inside c.self.invariant c.args.addr c.unwrap-region.result (ap (λ s. find (starts_at c.args.addr) s.regions) c.self.view_is ∙ sym c.at.ensures.at ∙ c.unwrap-region.ensures) (held_by c.args.holder) (λ q. refl) c.requires.holder
    (found_in c.self.inside c.self.invariant c.args.addr c.unwrap-region.result (ap (λ s. find (starts_at c.args.addr) s.regions) c.self.view_is ∙ sym c.at.ensures.at ∙ c.unwrap-region.ensures)).class (λ q of. record { least = of.least; class = of.class; holder = c.requires.holder }) (omega (arith, c.self.ranges.0, c.self.ranges.1))).room c.remove.new.self c.remove.ensures

pub invariant_of-self : goal.invariant_of-self
invariant_of-self c =
    let h = swapped_large c.self.inside c.self.invariant c.args.addr (held_by c.args.holder) (λ q. refl) c.in-Some.field-0 c.hand_over.new.self.regions (sym c.at-2.ensures ∙ c.in-Some.is) c.hand_over.ensures.regions in
    let s = swaps c.self.inside c.self.invariant c.args.addr c.unwrap-region.result (ap (λ s. find (starts_at c.args.addr) s.regions) c.self.view_is ∙ sym c.at.ensures.at ∙ c.unwrap-region.ensures) (held_by c.args.holder) (λ q. refl) c.requires.holder
    (found_in c.self.inside c.self.invariant c.args.addr c.unwrap-region.result (ap (λ s. find (starts_at c.args.addr) s.regions) c.self.view_is ∙ sym c.at.ensures.at ∙ c.unwrap-region.ensures)).class (λ q of. record { least = of.least; class = of.class; holder = c.requires.holder }) (omega (arith, c.self.ranges.0, c.self.ranges.1)) in record {
      apart = h.apart;
      larges = rw c.hand_over.ensures.regions (every_changed addr_of (IsOf 36 121) (starts_at c.args.addr) (held_by c.args.holder) c.self.inside.larges.regions (λ q of. record { least = of.least; class = of.class; holder = c.requires.holder }) c.self.invariant.larges);
      smalls = c.self.invariant.smalls;
      totals = subst (AreTotals c.add.new.self) (sym h.regions) (s.totals c.remove.new.self c.add.new.self c.remove.ensures c.add.ensures);
    }

pub hand_over-requires-in-None-clause-there : goal.hand_over-requires-in-None-clause-there
hand_over-requires-in-None-clause-there c =
    sym (is_some_find (starts_at c.args.addr) c.self.inside.bins.regions)
    ∙ ap is_some (sym (found_small c.self.inside c.self.invariant c.args.addr _ (sym c.at-2.ensures ∙ c.in-None.is) refl) ∙ ap (λ s. find (starts_at c.args.addr) s.regions) c.self.view_is ∙ sym c.at.ensures.at ∙ c.unwrap-region.ensures)

pub invariant_of-self-in-None : goal.invariant_of-self-in-None
invariant_of-self-in-None c =
    let h = swapped_small c.self.inside c.self.invariant c.args.addr (held_by c.args.holder) (λ q. refl) c.hand_over-in-None.new.self.regions (sym c.at-2.ensures ∙ c.in-None.is) c.hand_over-in-None.ensures.regions in
    let s = swaps c.self.inside c.self.invariant c.args.addr c.unwrap-region.result (ap (λ s. find (starts_at c.args.addr) s.regions) c.self.view_is ∙ sym c.at.ensures.at ∙ c.unwrap-region.ensures) (held_by c.args.holder) (λ q. refl) c.requires.holder
    (found_in c.self.inside c.self.invariant c.args.addr c.unwrap-region.result (ap (λ s. find (starts_at c.args.addr) s.regions) c.self.view_is ∙ sym c.at.ensures.at ∙ c.unwrap-region.ensures)).class (λ q of. record { least = of.least; class = of.class; holder = c.requires.holder }) (omega (arith, c.self.ranges.0, c.self.ranges.1)) in record {
      apart = h.apart;
      larges = c.self.invariant.larges;
      smalls = rw c.hand_over-in-None.ensures.regions (every_changed addr_of (IsOf 0 36) (starts_at c.args.addr) (held_by c.args.holder) c.self.inside.bins.regions (λ q of. record { least = of.least; class = of.class; holder = c.requires.holder }) c.self.invariant.smalls);
      totals = subst (AreTotals c.add.new.self) (sym h.regions) (s.totals c.remove.new.self c.add.new.self c.remove.ensures c.add.ensures);
    }

pub returns-in-Some-clause-regions : goal.returns-in-Some-clause-regions
returns-in-Some-clause-regions c =
    (swapped_large c.self.inside c.self.invariant c.args.addr (held_by c.args.holder) (λ q. refl) c.in-Some.field-0 c.hand_over.new.self.regions (sym c.at-2.ensures ∙ c.in-Some.is) c.hand_over.ensures.regions).regions
    ∙ ap (λ s. held_anew (starts_at c.args.addr) c.args.holder s.regions) c.self.view_is

pub returns-in-None-clause-regions : goal.returns-in-None-clause-regions
returns-in-None-clause-regions c =
    (swapped_small c.self.inside c.self.invariant c.args.addr (held_by c.args.holder) (λ q. refl) c.hand_over-in-None.new.self.regions (sym c.at-2.ensures ∙ c.in-None.is) c.hand_over-in-None.ensures.regions).regions
    ∙ ap (λ s. held_anew (starts_at c.args.addr) c.args.holder s.regions) c.self.view_is
