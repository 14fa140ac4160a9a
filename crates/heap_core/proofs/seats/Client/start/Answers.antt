use Rattle.heap_core.proofs.Words.{ap, ◌∙◌}
use Rattle.heap_core.specs.Words.{Seat}
use Rattle.heap_core.proofs.Wanting.{start_room, start_seat}
use Rattle.heap_core.proofs.seats.Client.start.Goals as goal

pub invariant_of-self : goal.invariant_of-self
invariant_of-self c =
    let told = c.start.ensures in
    start_room c.start.result c.args.client c.start.new.desk.room c.args.request c.self.inside.desk.facts c.start.new.desk.facts c.self.inside.call c.start.new.place
    (ap (λ (s : Seat). s.call) c.self.view_is ∙ c.requires) told.place told.room told.free

pub returns-clause-seat : goal.returns-clause-seat
returns-clause-seat c =
    let told = c.start.ensures in
    start_seat c.start.result c.args.client c.args.request c.self.inside.desk.facts c.args.self.now.desk c.start.new.desk.facts c.self.inside.call c.start.new.place
    (ap (λ (s : Seat). s.desk) c.self.view_is) (ap (λ (s : Seat). s.call) c.self.view_is ∙ c.requires) told.place told.desk
