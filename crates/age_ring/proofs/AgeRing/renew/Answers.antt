use Rattle.std.proofs.lemmas.Bool.Decides.{nat_tests}
use Rattle.std.proofs.Common.{◌≡◌, ◌+◌, ◌-◌, [], ◌∷◌, ◌++◌, not, eqb, filter, map, sym, ap, ◌∙◌, subst, arith, vec_len, Contains}
use Rattle.std.proofs.lemmas.Bool.{eq-eqb, not-true}
use Rattle.std.proofs.lemmas.List.{map-append}
use Rattle.std.proofs.lemmas.List.Elements.{filter_passes}
use Rattle.age_ring.specs.Ages.{Ages}
use Rattle.age_ring.specs.Links.{next_of, prev_of}
use Rattle.age_ring.specs.Rings.{ring_of}
use Rattle.age_ring.proofs.Rings.{last_stays, numbers_less, there, there_inside}
use Rattle.age_ring.proofs.AgeRing.renew.Goals as goal

pub link_at-requires : goal.link_at-requires
link_at-requires c =
    let l = there_inside c.self.inside.links.items c.self.inside.len (vec_len c.self.inside.links) c.args.number c.self.invariant.ring (subst (λ v. Contains v.numbers c.args.number) (sym c.self.view_is) c.requires) in
    omega arith

pub overflow_add-number : goal.overflow_add-number
overflow_add-number c =
    let l = there_inside c.self.inside.links.items c.self.inside.len (vec_len c.self.inside.links) c.args.number c.self.invariant.ring (subst (λ v. Contains v.numbers c.args.number) (sym c.self.view_is) c.requires) in
    omega arith

pub push-requires-clause-place : goal.push-requires-clause-place
push-requires-clause-place c =
    let l = there_inside c.self.inside.links.items c.self.inside.len (vec_len c.self.inside.links) c.args.number c.self.invariant.ring (subst (λ v. Contains v.numbers c.args.number) (sym c.self.view_is) c.requires) in
    let places = ap (λ v. v.places) c.self.view_is in
    omega arith

pub push-requires-clause-new_number : goal.push-requires-clause-new_number
push-requires-clause-new_number c = grind (arith, nat_tests, eq-eqb, filter_passes, not-true)

pub returns-else-link_at-number-clause-numbers : goal.returns-else-link_at-number-clause-numbers
returns-else-link_at-number-clause-numbers c =
    let links = c.self.inside.links.items in
    let ring = ring_of links c.self.inside.len in
    let number = c.args.number in
    let m = there links c.self.inside.len (vec_len c.self.inside.links) number c.self.invariant.ring (subst (λ v. Contains v.numbers number) (sym c.self.view_is) c.requires) in
    let last : prev_of links 0 ≡ number + 1 = ap (λ l. l.prev) (sym c.link_at.ensures) ∙ c.if-link_at-number.false in
    let stays = last_stays (next_of links) (prev_of links) (vec_len c.self.inside.links) ring (number + 1) c.self.invariant.ring m last in
    let back : number + 1 - 1 ≡ number = omega arith in
    subst (λ (v : Ages). v.numbers ≡ filter (λ n. not (eqb n number)) v.numbers ++ number ∷ []) c.self.view_is
    (ap (map (λ k. k - 1)) (sym stays) ∙ map-append (λ k. k - 1) (filter (λ k. not (eqb k (number + 1))) ring) ((number + 1) ∷ []) ∙ (λ i. numbers_less ring number c.self.invariant.ring.above i ++ back i ∷ []))
