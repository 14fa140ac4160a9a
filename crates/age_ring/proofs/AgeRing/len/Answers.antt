use Rattle.std.proofs.Common.{sym, ap, ◌∙◌, length}
use Rattle.std.proofs.lemmas.List.{length-map}
use Rattle.age_ring.specs.Links.{next_of}
use Rattle.age_ring.specs.Rings.{ring_of}
use Rattle.age_ring.proofs.Rings.{length-walk}
use Rattle.age_ring.proofs.AgeRing.len.Goals as goal

pub returns : goal.returns
returns c =
    let links = c.self.inside.links.items in
    sym (ap (λ v. length v.numbers) (sym c.self.view_is) ∙ length-map (ring_of links c.self.inside.len) _ ∙ length-walk (next_of links) c.self.inside.len (next_of links 0))
