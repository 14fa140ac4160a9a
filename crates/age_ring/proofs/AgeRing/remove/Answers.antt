use Rattle.std.proofs.Common.{◌+◌, not, eqb, filter, sym, ap, ◌∙◌, subst, arith, vec_len, Contains}
use Rattle.age_ring.specs.Links.{next_of, prev_of}
use Rattle.age_ring.specs.Rings.{ring_of}
use Rattle.age_ring.proofs.Rings.{IsLess, is_less, next_inside, prev_inside, there, there_inside}
use Rattle.age_ring.proofs.AgeRing.remove.Goals as goal

pub overflow_add-number : goal.overflow_add-number
overflow_add-number c =
    let l = there_inside c.self.inside.links.items c.self.inside.len (vec_len c.self.inside.links) c.args.number c.self.invariant.ring (subst (λ v. Contains v.numbers c.args.number) (sym c.self.view_is) c.requires) in
    omega arith

pub link_at-link-requires : goal.link_at-link-requires
link_at-link-requires c = there_inside c.self.inside.links.items c.self.inside.len (vec_len c.self.inside.links) c.args.number c.self.invariant.ring (subst (λ v. Contains v.numbers c.args.number) (sym c.self.view_is) c.requires)

pub join-requires-clause-before : goal.join-requires-clause-before
join-requires-clause-before c =
    let links = c.self.inside.links.items in
    let m = there links c.self.inside.len (vec_len c.self.inside.links) c.args.number c.self.invariant.ring (subst (λ v. Contains v.numbers c.args.number) (sym c.self.view_is) c.requires) in
    let l = there_inside links c.self.inside.len (vec_len c.self.inside.links) c.args.number c.self.invariant.ring (subst (λ v. Contains v.numbers c.args.number) (sym c.self.view_is) c.requires) in
    rw c.link_at-link.ensures (prev_inside (next_of links) (prev_of links) (vec_len c.self.inside.links) (ring_of links c.self.inside.len) (c.args.number + 1) (omega arith) m c.self.invariant.ring)

pub join-requires-clause-after : goal.join-requires-clause-after
join-requires-clause-after c =
    let links = c.self.inside.links.items in
    let m = there links c.self.inside.len (vec_len c.self.inside.links) c.args.number c.self.invariant.ring (subst (λ v. Contains v.numbers c.args.number) (sym c.self.view_is) c.requires) in
    let l = there_inside links c.self.inside.len (vec_len c.self.inside.links) c.args.number c.self.invariant.ring (subst (λ v. Contains v.numbers c.args.number) (sym c.self.view_is) c.requires) in
    rw c.link_at-link.ensures (next_inside (next_of links) (prev_of links) (vec_len c.self.inside.links) (ring_of links c.self.inside.len) (c.args.number + 1) (omega arith) m c.self.invariant.ring)

pub overflow_sub-self : goal.overflow_sub-self
overflow_sub-self c =
    let links = c.self.inside.links.items in
    let m = there links c.self.inside.len (vec_len c.self.inside.links) c.args.number c.self.invariant.ring (subst (λ v. Contains v.numbers c.args.number) (sym c.self.view_is) c.requires) in
    let e : IsLess links c.join.new.links.items c.args.number = record { next = rw c.link_at-link.ensures at c.join.ensures.next; prev = rw c.link_at-link.ensures at c.join.ensures.prev } in
    (is_less links c.join.new.links.items c.self.inside.len (vec_len c.self.inside.links) c.args.number e c.self.invariant.ring m).0

pub invariant_of-self : goal.invariant_of-self
invariant_of-self c =
    let links = c.self.inside.links.items in
    let m = there links c.self.inside.len (vec_len c.self.inside.links) c.args.number c.self.invariant.ring (subst (λ v. Contains v.numbers c.args.number) (sym c.self.view_is) c.requires) in
    let e : IsLess links c.join.new.links.items c.args.number = record { next = rw c.link_at-link.ensures at c.join.ensures.next; prev = rw c.link_at-link.ensures at c.join.ensures.prev } in
    let p = is_less links c.join.new.links.items c.self.inside.len (vec_len c.self.inside.links) c.args.number e c.self.invariant.ring m in
    record { ring = rw c.join.ensures.len p.2; small = omega arith }

pub returns-clause-numbers : goal.returns-clause-numbers
returns-clause-numbers c =
    let links = c.self.inside.links.items in
    let m = there links c.self.inside.len (vec_len c.self.inside.links) c.args.number c.self.invariant.ring (subst (λ v. Contains v.numbers c.args.number) (sym c.self.view_is) c.requires) in
    let e : IsLess links c.join.new.links.items c.args.number = record { next = rw c.link_at-link.ensures at c.join.ensures.next; prev = rw c.link_at-link.ensures at c.join.ensures.prev } in
    (is_less links c.join.new.links.items c.self.inside.len (vec_len c.self.inside.links) c.args.number e c.self.invariant.ring m).1
    ∙ ap (λ v. filter (λ n. not (eqb n c.args.number)) v.numbers) c.self.view_is
