use Rattle.heap_runs.proofs.Words.{◌<◌, ◌∷◌, [], arith, inr, refl, shelf_id, slice_set, All-nil, IsAsPlanned, Took, deed_of}
use Rattle.heap_runs.specs.Settings.{reading}
use Rattle.heap_runs.proofs.Reading.{Rested, may_read, of_lock, read_rested, tells_counts, unread_rested}
use Rattle.std.specs.Prelude.{None}
use Rattle.heap_runs.proofs.heaps.SharedHeap.counts.Goals as goal
use Rattle.heap_runs.proofs.heaps.SharedHeap.counts.Goals.{In-Err, In-Ok}
use Rattle.heap_runs.proofs.heaps.SharedHeap.counts.Given.{Over}

-- what the turn leaves
read : (g : Over) (c : In-Ok g) → Rested c.args.self.now c.args.ctx.now (Took c.args.arena (deed_of c.args.ctx.now.client reading None) c.in-Ok.told ∷ []) (slice_set c.args.ctx.now.passes.items c.args.arena c.turn.new.pass)
read g c =
    let below : c.args.arena < 32 = (let at = c.if-arena-ge32.false in omega (arith, at)) in
    let told = c.turn.ensures in
    read_rested (shelf_id c.args.shelf.now) c.args.self.now c.args.ctx.now c.requires.may c.args.arena below c.index.result.now c.index.ensures c.index_mut.result.now c.index_mut.ensures.value c.turn.new.pass told.lock told.numbers.0 told.numbers.1 c.in-Ok.told c.in-Ok.ensures.turned

-- and where it found no memory
unread : (g : Over) (c : In-Err g) → Rested c.args.self.now c.args.ctx.now [] (slice_set c.args.ctx.now.passes.items c.args.arena c.turn.new.pass)
unread g c =
    let below : c.args.arena < 32 = (let at = c.if-arena-ge32.false in omega (arith, at)) in
    let told = c.turn.ensures in
    unread_rested (shelf_id c.args.shelf.now) c.args.self.now c.args.ctx.now c.requires.may c.args.arena below c.index.result.now c.index.ensures c.index_mut.result.now c.index_mut.ensures.value c.turn.new.pass told.lock told.numbers.0 told.numbers.1 c.in-Err.ensures.no_memory

pub turn-requires-clause-lock : goal.turn-requires-clause-lock
turn-requires-clause-lock g c =
    of_lock (shelf_id c.args.shelf.now) c.args.self.now c.args.ctx.now c.requires.may c.args.arena (let at = c.if-arena-ge32.false in omega (arith, at)) c.index.result.now c.index.ensures c.index_mut.result.now c.index_mut.ensures.value

pub turn-requires-clause-may : goal.turn-requires-clause-may
turn-requires-clause-may g c =
    may_read (shelf_id c.args.shelf.now) c.args.self.now c.args.ctx.now c.requires.may c.args.arena (let at = c.if-arena-ge32.false in omega (arith, at)) c.index.result.now c.index.ensures c.index_mut.result.now c.index_mut.ensures.value

pub returns-in-Counted-clause-may : goal.returns-in-Counted-clause-may
returns-in-Counted-clause-may g c =
    let left = read g (goal.at.returns-in-Counted-clause-may g c).In-Ok in
    record { is = record { ways = left.ways; seat = c.requires.may.is.seat; arenas = left.arenas }; rests = left.rests }

pub returns-in-Counted-clause-counted : goal.returns-in-Counted-clause-counted
returns-in-Counted-clause-counted g c =
    let left = read g (goal.at.returns-in-Counted-clause-counted g c).In-Ok in
    (c.in-Ok.told, record { client = refl; turns = λ i few. left.turns i; asks = refl; refused = refl; planned = All-nil (IsAsPlanned c.args.shelf.now) }, (let is = c.in-Counted.is in let counts = c.in-Counted.counts-is in let got = c.get.ensures in cc))

pub returns-in-Ok : goal.returns-in-Ok
returns-in-Ok g c =
    let left = read g (goal.at.returns-in-Ok g c).In-Ok in
    let below : c.args.arena < 32 = (let at = c.if-arena-ge32.false in omega (arith, at)) in
    let told = c.turn.ensures in
    let none = tells_counts (shelf_id c.args.shelf.now) c.args.self.now c.args.ctx.now c.requires.may c.args.arena below c.index.result.now c.index.ensures c.index_mut.result.now c.index_mut.ensures.value c.turn.new.pass told.lock told.numbers.0 told.numbers.1
    c.in-Ok.told c.in-Ok.ensures.turned (λ counts is. c.in_default.not-Counted counts is) in record {
      may = record { is = record { ways = left.ways; seat = c.requires.may.is.seat; arenas = left.arenas }; rests = left.rests };
      same = (refl, refl);
      counted = (refl, inr (c.in-Ok.told, record { client = refl; turns = λ i few. left.turns i; asks = refl; refused = refl; planned = All-nil (IsAsPlanned c.args.shelf.now) }, none));
    }

pub returns-clause-may : goal.returns-clause-may
returns-clause-may g c =
    let left = unread g (goal.at.returns-clause-may g c).In-Err in
    record { is = record { ways = left.ways; seat = c.requires.may.is.seat; arenas = left.arenas }; rests = left.rests }

pub returns-clause-counted : goal.returns-clause-counted
returns-clause-counted g c =
    let left = unread g (goal.at.returns-clause-counted g c).In-Err in
    record { client = refl; turns = λ i few. left.turns i; asks = refl; refused = refl; planned = All-nil (IsAsPlanned c.args.shelf.now) }
