use Rattle.std.proofs.lemmas.Bool.Decides.{nat_tests}
use Rattle.std.proofs.Common.{◌-◌, slice_get, Some, sym, ap, ◌∙◌, arith, vec_len}
use Rattle.age_ring.specs.Links.{walk}
use Rattle.age_ring.proofs.Rings.{first_place}
use Rattle.age_ring.proofs.AgeRing.first.Goals as goal

pub returns-then-self-eq0 : goal.returns-then-self-eq0
unfolding walk
returns-then-self-eq0 c = grind (arith, nat_tests)

pub link_at-requires : goal.link_at-requires
link_at-requires c = (first_place c.self.inside.links.items c.self.inside.len (vec_len c.self.inside.links) c.self.invariant.ring (omega arith)).0

pub overflow_sub-result : goal.overflow_sub-result
overflow_sub-result c =
    let p = first_place c.self.inside.links.items c.self.inside.len (vec_len c.self.inside.links) c.self.invariant.ring (omega arith) in
    let e = ap (λ l. l.next) c.link_at.ensures in
    omega (arith, p.1)

pub returns : goal.returns
returns c =
    let p = first_place c.self.inside.links.items c.self.inside.len (vec_len c.self.inside.links) c.self.invariant.ring (omega arith) in
    ap (λ l. Some (l.next - 1)) c.link_at.ensures ∙ sym p.2 ∙ ap (λ v. slice_get v.numbers 0) c.self.view_is
