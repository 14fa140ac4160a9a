use Rattle.std.proofs.Common.{ap, arith, vec_len}
use Rattle.age_ring.specs.Links.{next_of, prev_of}
use Rattle.age_ring.specs.Rings.{ring_of}
use Rattle.age_ring.proofs.Rings.{length-walk, ring_same, shows}
use Rattle.age_ring.proofs.AgeRing.reserve.Goals as goal

pub invariant_of-self : goal.invariant_of-self
invariant_of-self c =
    let old = c.self.inside.links.items in
    let new = c.lengthen.new.links.items in
    let len = c.self.inside.len in
    let ring = ring_same (next_of old) (prev_of old) (next_of new) (prev_of new) (vec_len c.self.inside.links) (vec_len c.lengthen.new.links) (ring_of old len) (λ k. ap (λ l. l.next) (c.lengthen.ensures.kept k)) (λ k. ap (λ l. l.prev) (c.lengthen.ensures.kept k)) c.lengthen.ensures.more c.self.invariant.ring in
    record { ring = (shows new len (vec_len c.lengthen.new.links) (ring_of old len) ring (length-walk (next_of old) len (next_of old 0))).1; small = omega arith }
