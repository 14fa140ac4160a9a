use Rattle.heap_runs.proofs.Words.{◌∙◌, refl, sym, subst, arc_value, shelf_id, Asked, Comes, HasBox, Moment, known, seen_at}
use Rattle.heap_runs.proofs.Asking.{asked_box, asked_leaves, next_count, next_place, one_plan}
use Rattle.heap_runs.proofs.Leaving.{Leaves}
use Rattle.heap_runs.proofs.heaps.SharedHeap.ask.Goals as goal
use Rattle.heap_runs.proofs.heaps.SharedHeap.ask.Goals.{After-ask-asked}
use Rattle.heap_runs.proofs.heaps.SharedHeap.ask.Given.{Over}

left : (g : Over) (c : After-ask-asked g) → Leaves c.args.self.now c.args.ctx.now c.args.call.now (Asked c.args.call.now.stage.arena c.ask-asked.result) c.args.ctx.now.passes.items
left g c =
    let told = c.ask-asked.ensures in
    asked_leaves (shelf_id c.args.shelf.now) c.args.self.now c.args.ctx.now c.requires.ctx c.args.call.now c.requires.stands c.args.call.now.stage.arena c.args.ask c.requires.needs c.ask-asked.result told.of_ask told.step.2.answers

pub next-requires-clause-goes : goal.next-requires-clause-goes
next-requires-clause-goes g c = (left g (goal.at.next-requires-clause-goes g c).After-ask-asked).comes.0

pub returns-clause-ctx : goal.returns-clause-ctx
returns-clause-ctx g c =
    record { ways = c.requires.ctx.ways; seat = c.ask-asked.ensures.seat; arenas = c.requires.ctx.arenas }

pub returns-clause-stands : goal.returns-clause-stands
returns-clause-stands g c =
    let at = (goal.at.returns-clause-stands g c).After-ask-asked in
    let rs = known (arc_value c.args.self.now.table) (seen_at c.args.ctx.now.passes.items) in
    record { client = c.next.ensures.client ∙ c.requires.stands.client; comes = subst (Comes _ rs c.args.ctx.now.client) (sym c.next.ensures.moment) (left g at).comes; room = c.next.ensures.room }

pub returns-clause-steps : goal.returns-clause-steps
returns-clause-steps g c =
    let at = (goal.at.returns-clause-steps g c).After-ask-asked in
    let told = c.ask-asked.ensures in
    let asked = c.ask-asked.result in
    let box_no = c.args.box_no in
    λ last has. record {
      did = Asked c.args.call.now.stage.arena asked;
      follows = record {
        wanted = (left g at).wanted;
        box = asked_box (shelf_id c.args.shelf.now) c.args.self.now c.args.ctx.now c.requires.ctx c.args.call.now c.requires.stands c.args.call.now.stage.arena c.args.ask c.requires.needs asked told.of_ask told.step.2.answers last box_no told.of_box has;
      };
      meets = (left g at).met;
      goes = c.next.ensures.moment;
      box = subst (λ (m : Moment). HasBox m.stage last box_no) (sym c.next.ensures.moment) ((left g at).box last box_no tt);
      gains = record {
        client = refl;
        turns = λ i few. (left g at).turns i;
        asks = next_place c.args.ctx.now.seat.places c.ask-asked.new.seat.places asked box_no told.of_box told.place told.places;
        refused = next_count c.args.ctx.now.seat.refused c.ask-asked.new.seat.refused asked box_no told.of_box told.refused;
        planned = one_plan c.args.shelf.now asked box_no c.args.ask told.of_box told.of_ask told.by_plan;
      };
    }
