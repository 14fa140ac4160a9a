use Rattle.heap_runs.proofs.Words.{◌∙◌, refl, sym, subst, arc_value, shelf_id, All-nil, Comes, HasBox, IsAsPlanned, Lacked, Moment, known, seen_at}
use Rattle.heap_runs.proofs.Asking.{lacked_leaves}
use Rattle.heap_runs.proofs.heaps.SharedHeap.starve.Goals as goal

pub next-requires-clause-goes : goal.next-requires-clause-goes
next-requires-clause-goes g c =
    (lacked_leaves (shelf_id c.args.shelf.now) c.args.self.now c.args.ctx.now c.requires.ctx c.args.call.now c.requires.stands c.requires.starves).comes.0

pub returns-clause-ctx : goal.returns-clause-ctx
returns-clause-ctx g c =
    record { ways = c.requires.ctx.ways; seat = c.requires.ctx.seat; arenas = c.requires.ctx.arenas }

pub returns-clause-stands : goal.returns-clause-stands
returns-clause-stands g c =
    let left = lacked_leaves (shelf_id c.args.shelf.now) c.args.self.now c.args.ctx.now c.requires.ctx c.args.call.now c.requires.stands c.requires.starves in
    let rs = known (arc_value c.args.self.now.table) (seen_at c.args.ctx.now.passes.items) in
    record { client = c.next.ensures.client ∙ c.requires.stands.client; comes = subst (Comes _ rs c.args.ctx.now.client) (sym c.next.ensures.moment) left.comes; room = c.next.ensures.room }

pub returns-clause-steps : goal.returns-clause-steps
returns-clause-steps g c =
    let left = lacked_leaves (shelf_id c.args.shelf.now) c.args.self.now c.args.ctx.now c.requires.ctx c.args.call.now c.requires.stands c.requires.starves in
    λ last. record {
      did = Lacked;
      follows = record { wanted = left.wanted; box = tt };
      meets = left.met;
      goes = c.next.ensures.moment;
      box = subst (λ (m : Moment). HasBox m.stage last c.args.box_no) (sym c.next.ensures.moment) (left.box last c.args.box_no tt);
      gains = record { client = refl; turns = λ i few. left.turns i; asks = refl; refused = refl; planned = All-nil (IsAsPlanned c.args.shelf.now) };
    }
