use Rattle.heap_runs.proofs.Words.{◌∙◌, arith, slice_set, refl, shelf_id, sym, subst, arc_value, All-nil, Comes, HasBox, IsAsPlanned, Lacked, Moment, Some, Took, known, seen_at}
use Rattle.heap_runs.proofs.Leaving.{Leaves}
use Rattle.heap_runs.proofs.Making.{err_leaves, lock_within, may, of_lock, ok_box, ok_leaves, pass_within}
use Rattle.heap_runs.proofs.heaps.SharedHeap.turn.Goals as goal
use Rattle.heap_runs.proofs.heaps.SharedHeap.turn.Goals.{In-Err, In-Ok}
use Rattle.heap_runs.proofs.heaps.SharedHeap.turn.Given.{Over}

-- what the turn leaves
took : (g : Over) (c : In-Ok g) → Leaves c.args.self.now c.args.ctx.now c.args.call.now (Took c.args.turn.arena c.in-Ok.ensures.turned.entry.value c.in-Ok.told) (slice_set c.args.ctx.now.passes.items c.args.turn.arena c.turn.new.pass)
took g c =
    let told = c.turn.ensures in
    ok_leaves (shelf_id c.args.shelf.now) c.args.self.now c.args.ctx.now c.requires.ctx c.args.call.now c.requires.stands c.args.turn c.requires.needs c.heard.result.now c.heard.ensures c.index.result.now c.index.ensures c.index_mut.result.now c.index_mut.ensures.value
    c.turn.new.pass told.lock told.numbers.0 told.numbers.1 c.in-Ok.told c.in-Ok.ensures.turned

-- and where it found no memory
lacked : (g : Over) (c : In-Err g) → Leaves c.args.self.now c.args.ctx.now c.args.call.now Lacked (slice_set c.args.ctx.now.passes.items c.args.turn.arena c.turn.new.pass)
lacked g c =
    let told = c.turn.ensures in
    err_leaves (shelf_id c.args.shelf.now) c.args.self.now c.args.ctx.now c.requires.ctx c.args.call.now c.requires.stands c.args.turn c.requires.needs c.heard.result.now c.heard.ensures c.index.result.now c.index.ensures c.index_mut.result.now c.index_mut.ensures.value
    c.turn.new.pass told.lock told.numbers.0 told.numbers.1 c.turn.result c.in-Err.field-0 c.in-Err.is told.sure c.in-Err.ensures.no_memory

pub index-requires : goal.index-requires
index-requires g c =
    let at = lock_within (shelf_id c.args.shelf.now) c.args.self.now c.args.ctx.now c.requires.ctx c.args.call.now c.requires.stands c.args.turn c.requires.needs c.heard.result.now c.heard.ensures in let same = c.args.self.now.locks.ok.0 in omega (arith, at, same)

pub index_mut-requires : goal.index_mut-requires
index_mut-requires g c =
    let at = pass_within (shelf_id c.args.shelf.now) c.args.self.now c.args.ctx.now c.requires.ctx c.args.call.now c.requires.stands c.args.turn c.requires.needs c.heard.result.now c.heard.ensures in let same = c.args.ctx.now.passes.ok.0 in omega (arith, at, same)

pub turn-requires-clause-lock : goal.turn-requires-clause-lock
turn-requires-clause-lock g c =
    of_lock (shelf_id c.args.shelf.now) c.args.self.now c.args.ctx.now c.requires.ctx c.args.call.now c.requires.stands c.args.turn c.requires.needs c.heard.result.now c.heard.ensures c.index.result.now c.index.ensures c.index_mut.result.now c.index_mut.ensures.value

pub turn-requires-clause-may : goal.turn-requires-clause-may
turn-requires-clause-may g c =
    may (shelf_id c.args.shelf.now) c.args.self.now c.args.ctx.now c.requires.ctx c.args.call.now c.requires.stands c.args.turn c.requires.needs c.heard.result.now c.heard.ensures c.index.result.now c.index.ensures c.index_mut.result.now c.index_mut.ensures.value

pub next-requires-clause-goes : goal.next-requires-clause-goes
next-requires-clause-goes g c = (took g (goal.at.next-requires-clause-goes g c).In-Ok).comes.0

pub returns-in-Ok-clause-box_no : goal.returns-in-Ok-clause-box_no
returns-in-Ok-clause-box_no g c =
    ok_box (shelf_id c.args.shelf.now) c.args.self.now c.args.ctx.now c.requires.ctx c.args.call.now c.requires.stands c.args.turn c.requires.needs c.heard.result.now c.heard.ensures c.index.result.now c.index.ensures c.index_mut.result.now c.index_mut.ensures.value
    c.turn.new.pass c.turn.ensures.lock c.turn.ensures.numbers.0 c.turn.ensures.numbers.1 c.in-Ok.told c.in-Ok.ensures.turned

pub returns-in-Ok-clause-ctx : goal.returns-in-Ok-clause-ctx
returns-in-Ok-clause-ctx g c =
    let left = took g (goal.at.returns-in-Ok-clause-ctx g c).In-Ok in
    record { ways = left.ways; seat = c.requires.ctx.seat; arenas = left.arenas }

pub returns-in-Ok-clause-stands : goal.returns-in-Ok-clause-stands
returns-in-Ok-clause-stands g c =
    let left = took g (goal.at.returns-in-Ok-clause-stands g c).In-Ok in
    let rs = known (arc_value c.args.self.now.table) (seen_at (slice_set c.args.ctx.now.passes.items c.args.turn.arena c.turn.new.pass)) in
    record { client = c.next.ensures.client ∙ c.requires.stands.client; comes = subst (Comes _ rs c.args.ctx.now.client) (sym c.next.ensures.moment) left.comes; room = c.next.ensures.room }

pub returns-in-Ok-clause-steps : goal.returns-in-Ok-clause-steps
returns-in-Ok-clause-steps g c =
    let left = took g (goal.at.returns-in-Ok-clause-steps g c).In-Ok in
    let told = c.in-Ok.told in
    λ last. record {
      did = Took c.args.turn.arena c.in-Ok.ensures.turned.entry.value told;
      follows = record { wanted = left.wanted; box = tt };
      meets = left.met;
      goes = c.next.ensures.moment;
      box = subst (λ (m : Moment). HasBox m.stage (Some (c.args.turn.arena, told.box_no)) told.box_no) (sym c.next.ensures.moment) (left.box last told.box_no refl);
      gains = record { client = refl; turns = λ i few. left.turns i; asks = refl; refused = refl; planned = All-nil (IsAsPlanned c.args.shelf.now) };
    }

pub next-requires-in-Err-clause-goes : goal.next-requires-in-Err-clause-goes
next-requires-in-Err-clause-goes g c = (lacked g (goal.at.next-requires-in-Err-clause-goes g c).In-Err).comes.0

pub returns-in-Err-clause-ctx : goal.returns-in-Err-clause-ctx
returns-in-Err-clause-ctx g c =
    let left = lacked g (goal.at.returns-in-Err-clause-ctx g c).In-Err in
    record { ways = left.ways; seat = c.requires.ctx.seat; arenas = left.arenas }

pub returns-in-Err-clause-stands : goal.returns-in-Err-clause-stands
returns-in-Err-clause-stands g c =
    let left = lacked g (goal.at.returns-in-Err-clause-stands g c).In-Err in
    let rs = known (arc_value c.args.self.now.table) (seen_at (slice_set c.args.ctx.now.passes.items c.args.turn.arena c.turn.new.pass)) in
    record { client = c.next-in-Err.ensures.client ∙ c.requires.stands.client; comes = subst (Comes _ rs c.args.ctx.now.client) (sym c.next-in-Err.ensures.moment) left.comes; room = c.next-in-Err.ensures.room }

pub returns-in-Err-clause-steps : goal.returns-in-Err-clause-steps
returns-in-Err-clause-steps g c =
    let left = lacked g (goal.at.returns-in-Err-clause-steps g c).In-Err in
    λ last. record {
      did = Lacked;
      follows = record { wanted = left.wanted; box = tt };
      meets = left.met;
      goes = c.next-in-Err.ensures.moment;
      box = subst (λ (m : Moment). HasBox m.stage last c.args.box_no) (sym c.next-in-Err.ensures.moment) (left.box last c.args.box_no tt);
      gains = record { client = refl; turns = λ i few. left.turns i; asks = refl; refused = refl; planned = All-nil (IsAsPlanned c.args.shelf.now) };
    }
