use Rattle.std.proofs.Common.{rules}
use Rattle.std.proofs.Common.{◌≡◌, ◌≢◌, ◌+◌, ◌-◌, [], ◌∷◌, ◌++◌, map, sym, ap, ◌∙◌, subst, arith, vec_len, All}
use Rattle.std.proofs.lemmas.List.{map-append}
use Rattle.age_ring.specs.Links.{next_of, prev_of}
use Rattle.age_ring.specs.Rings.{ring_of}
use Rattle.age_ring.proofs.Rings.{IsMore, is_more, last_inside, length-walk, ring_fits}
use Rattle.age_ring.proofs.AgeRing.push.Goals as goal

pub join-requires-clause-before : goal.join-requires-clause-before
join-requires-clause-before c =
    let links = c.self.inside.links.items in
    let places = ap (λ v. v.places) c.self.view_is in
    let last = last_inside (next_of links) (prev_of links) (vec_len c.self.inside.links) (ring_of links c.self.inside.len) (omega arith) c.self.invariant.ring in
    rw c.link_at-last.ensures last

pub overflow_add-self : goal.overflow_add-self
overflow_add-self c = search (rules, arith, length-walk, ring_fits)

pub invariant_of-self : goal.invariant_of-self
invariant_of-self c =
    let links = c.self.inside.links.items in
    let last = ap (λ l. l.prev) c.link_at-last.ensures in
    let e : IsMore links c.join.new.links.items c.join-2.new.links.items c.args.number = record { next = rw last at c.join.ensures.next; prev = rw last at c.join.ensures.prev; next_last = c.join-2.ensures.next; prev_last = c.join-2.ensures.prev } in
    let places = ap (λ v. v.places) c.self.view_is in
    let absent = subst (λ v. All (λ n. n ≢ c.args.number) v.numbers) (sym c.self.view_is) c.requires.new_number in
    let p = is_more links c.join.new.links.items c.join-2.new.links.items c.self.inside.len (vec_len c.self.inside.links) c.args.number e c.self.invariant.ring (omega arith) absent in
    let same : vec_len c.self.inside.links ≡ vec_len c.join-2.new.links = omega arith in
    record { ring = rw same at p.1; small = omega arith }

pub returns-clause-numbers : goal.returns-clause-numbers
returns-clause-numbers c =
    let links = c.self.inside.links.items in
    let last = ap (λ l. l.prev) c.link_at-last.ensures in
    let e : IsMore links c.join.new.links.items c.join-2.new.links.items c.args.number = record { next = rw last at c.join.ensures.next; prev = rw last at c.join.ensures.prev; next_last = c.join-2.ensures.next; prev_last = c.join-2.ensures.prev } in
    let places = ap (λ v. v.places) c.self.view_is in
    let absent = subst (λ v. All (λ n. n ≢ c.args.number) v.numbers) (sym c.self.view_is) c.requires.new_number in
    let p = is_more links c.join.new.links.items c.join-2.new.links.items c.self.inside.len (vec_len c.self.inside.links) c.args.number e c.self.invariant.ring (omega arith) absent in
    let back : c.args.number + 1 - 1 ≡ c.args.number = omega arith in
    ap (map (λ k. k - 1)) p.0 ∙ map-append (λ k. k - 1) (ring_of links c.self.inside.len) ((c.args.number + 1) ∷ []) ∙ ap (λ n. map (λ k. k - 1) (ring_of links c.self.inside.len) ++ n ∷ []) back ∙ ap (λ v. v.numbers ++ c.args.number ∷ []) c.self.view_is
