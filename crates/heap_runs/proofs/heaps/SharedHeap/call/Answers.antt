use Rattle.heap_runs.proofs.Words.{◌∙◌, inl, [], None, false, refl, sym, subst, append-nil, arc_value, All-nil, IsAsPlanned, IsAtRest, Led, Moment, begin, known, seen_at}
use Rattle.heap_runs.specs.Meets.{AllMeet}
use Rattle.heap_runs.proofs.Calling.{began, stands_there, stays_at}
use Rattle.heap_runs.proofs.Needing.{ended_is}
use Rattle.heap_runs.proofs.heaps.SharedHeap.call.Goals as goal

pub returns-in-Err-clause-may : goal.returns-in-Err-clause-may
returns-in-Err-clause-may g c = record {
  is = record { ways = c.requires.may.is.ways; seat = c.requires.may.is.seat; arenas = c.requires.may.is.arenas };
  rests = subst (IsAtRest false (known (arc_value c.args.self.now.table) (seen_at c.args.ctx.now.passes.items)) c.args.ctx.now.client) (sym c.in-Err.ensures.err) c.requires.may.rests;
}

pub returns-in-Ok-Some-clause-may : goal.returns-in-Ok-Some-clause-may
returns-in-Ok-Some-clause-may g c =
    let ctx = c.args.ctx.now in
    let rs = known (arc_value c.args.self.now.table) (seen_at ctx.passes.items) in
    let may = c.requires.may in record {
      is = record { ways = may.is.ways; seat = may.is.seat; arenas = may.is.arenas };
      rests = subst (IsAtRest false rs ctx.client) (sym c.in-Ok-Some.ensures.desk)
          (stays_at rs ctx.client ctx.desk.facts c.args.request.now may.is.arenas may.is.ways.few may.rests c.requires.range c.in-Ok-Some.answer (sym c.in-Ok-Some.ensures.answer ∙ c.in-Ok-Some.field-0-is));
    }

pub returns-in-Ok-Some-clause-called : goal.returns-in-Ok-Some-clause-called
returns-in-Ok-Some-clause-called g c =
    let first = begin c.args.request.now c.args.ctx.now.desk.facts in
    inl (record {
      dids = [];
      call = record { last = first; led = refl; ends = ended_is first.stage.next c.in-Ok-Some.answer (sym c.in-Ok-Some.ensures.answer ∙ c.in-Ok-Some.field-0-is); leaves = sym c.in-Ok-Some.ensures.desk };
      met = tt;
      gains = record { client = refl; turns = λ i few. sym (append-nil _); asks = refl; refused = refl; planned = All-nil (IsAsPlanned c.args.shelf.now) };
    })

pub unreachable-requires : goal.unreachable-requires
unreachable-requires g c =
    let ctx = c.args.ctx.now in
    let may = c.requires.may in
    let told = c.in-Ok-None.ensures in
    stands_there (known (arc_value c.args.self.now.table) (seen_at ctx.passes.items)) ctx.client ctx.desk.facts c.args.request.now may.is.arenas may.is.ways.few may.rests c.requires.range
    c.start.new.place told.place (sym told.answer ∙ c.in-Ok-None.field-0-is) c.in_default.is

pub run-requires-clause-stands : goal.run-requires-clause-stands
run-requires-clause-stands g c =
    let ctx = c.args.ctx.now in
    let may = c.requires.may in
    let told = c.in-Ok-None.ensures in
    let is = began (known (arc_value c.args.self.now.table) (seen_at ctx.passes.items)) ctx.client ctx.desk.facts c.args.request.now may.is.arenas may.is.ways.few may.rests c.requires.range
    c.start.new.place told.place (sym told.answer ∙ c.in-Ok-None.field-0-is) c.in-Some.call c.in-Some.is c.start.new.desk.facts c.start.new.desk.room told.desk told.room in
    record { client = is.client; comes = is.comes; room = is.enough }

pub run-requires-clause-turns : goal.run-requires-clause-turns
run-requires-clause-turns g c =
    let ctx = c.args.ctx.now in
    let may = c.requires.may in
    let told = c.in-Ok-None.ensures in
    (began (known (arc_value c.args.self.now.table) (seen_at ctx.passes.items)) ctx.client ctx.desk.facts c.args.request.now may.is.arenas may.is.ways.few may.rests c.requires.range
    c.start.new.place told.place (sym told.answer ∙ c.in-Ok-None.field-0-is) c.in-Some.call c.in-Some.is c.start.new.desk.facts c.start.new.desk.room told.desk told.room).turns

pub returns-clause-called : goal.returns-clause-called
returns-clause-called g c =
    let ctx = c.args.ctx.now in
    let may = c.requires.may in
    let told = c.in-Ok-None.ensures in
    let is = began (known (arc_value c.args.self.now.table) (seen_at ctx.passes.items)) ctx.client ctx.desk.facts c.args.request.now may.is.arenas may.is.ways.few may.rests c.requires.range
    c.start.new.place told.place (sym told.answer ∙ c.in-Ok-None.field-0-is) c.in-Some.call c.in-Some.is c.start.new.desk.facts c.start.new.desk.room told.desk told.room in
    let ran = c.run.ensures.ran in
    inl (record {
      dids = ran.dids;
      call = record {
        last = ran.last;
        led = subst (λ (m : Moment). Led c.run.new.ctx.client m None ran.dids ran.last) is.moment ran.led;
        ends = ran.ends;
        leaves = ran.leaves;
      };
      met = subst (λ (m : Moment). AllMeet c.run.new.ctx.client m ran.dids) is.moment ran.met;
      gains = record { client = ran.gains.client; turns = ran.gains.turns; asks = ran.gains.asks; refused = ran.gains.refused; planned = ran.gains.planned };
    })
