use Rattle.heap_core.proofs.Words.{CallFacts, HasRoomToHold, IfSome, Option, subst}
use Rattle.heap_core.proofs.Wanting.{named_rooms}
use Rattle.heap_core.proofs.seats.Client.put_need.Goals as goal

pub invariant_of-self-2 : goal.invariant_of-self-2
invariant_of-self-2 c =
    let desk = c.self.inside.desk in
    let has = subst (λ (k : Option CallFacts). IfSome k (λ call. HasRoomToHold desk.facts desk.room call.stage.next)) c.in-Some.is c.self.invariant in
    named_rooms desk.room desk.facts desk.facts c.in-Some.call c.put_need.new.self c.put_need.ensures.named has
