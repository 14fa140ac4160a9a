use Rattle.std.proofs.Common.{◌<◌, false, arith, inl, inr, sym, subst, ◌∙◌}
use Rattle.std.proofs.lemmas.Bool.{cases_lt}
use Rattle.size_classes.specs.Classes.{regions_at}
use Rattle.std.proofs.lemmas.List.Quantifiers.{position-Some}
use Rattle.lane_scan.specs.Bits.{bits_of}
use Rattle.lane_scan.proofs.BitLemmas.{length-bits_of}
use Rattle.slab_bits.proofs.Counting.{taken}
use Rattle.slab_bits.proofs.SlabBits.take_lowest.Goals as goal

pub clear_bit-requires : goal.clear_bit-requires
clear_bit-requires c =
    let found = position-Some (λ free. free) (bits_of c.self.inside.free) c.in_ok-i.i false (sym c.lowest_bit.ensures ∙ c.in_ok-i.was) in
    let inside = found.0 in let long = c.self.invariant.long in let bits = length-bits_of c.self.inside.free in omega arith

pub overflow_sub-self : goal.overflow_sub-self
overflow_sub-self c =
    let found = position-Some (λ free. free) (bits_of c.self.inside.free) c.in_ok-i.i false (sym c.lowest_bit.ensures ∙ c.in_ok-i.was) in
    (taken _ _ _ _ _ c.self.invariant found.0 found.1 (c.clear_bit.auto.words ∙ c.self.invariant.long) c.clear_bit.ensures).0

pub invariant_of-self : goal.invariant_of-self
invariant_of-self c =
    let found = position-Some (λ free. free) (bits_of c.self.inside.free) c.in_ok-i.i false (sym c.lowest_bit.ensures ∙ c.in_ok-i.was) in
    (taken _ _ _ _ _ c.self.invariant found.0 found.1 (c.clear_bit.auto.words ∙ c.self.invariant.long) c.clear_bit.ensures).1

pub returns-clause-inside : goal.returns-clause-inside
returns-clause-inside c =
    let found = position-Some (λ free. free) (bits_of c.self.inside.free) c.in_ok-i.i false (sym c.lowest_bit.ensures ∙ c.in_ok-i.was) in
    subst (λ v. c.in_ok-i.i < regions_at v.class) c.self.view_is
    (elim (cases_lt c.in_ok-i.i (regions_at c.self.inside.class)) [
      | inl lt ↦ lt
      | inr ge ↦ (let wrong = sym (c.self.invariant.behind c.in_ok-i.i ge) ∙ found.1 in cc)
    ])
