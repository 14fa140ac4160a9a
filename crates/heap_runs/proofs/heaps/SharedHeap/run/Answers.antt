use Rattle.heap_runs.proofs.Words.{[], ◌∙◌, refl, arith, arc_value, known, moment_at, named_call, seen_at}
use Rattle.heap_runs.proofs.Leading.{gains_none, runs_more}
use Rattle.heap_runs.proofs.Needing.{ended_is, named_ends, rests_of}
use Rattle.heap_runs.proofs.heaps.SharedHeap.run.Goals as goal

pub loop-init : goal.loop-init
loop-init g c = record {
  next = tt;
  finite = tt;
  box_no = omega arith;
  ctx = c.requires.ctx;
  stands = c.requires.stands;
  runs = record {
    dids = [];
    led = refl;
    met = tt;
    box = λ asks. absurd (let none = c.requires.turns in cc);
    gains = gains_none c.args.shelf.now c.args.self.now c.args.ctx.now;
  };
}

pub loop-preserved : goal.loop-preserved
loop-preserved g c = record {
  next = tt;
  finite = tt;
  box_no = c.step-box_no.ensures.box_no;
  ctx = c.step-box_no.ensures.ctx;
  stands = c.step-box_no.ensures.stands;
  runs = runs_more c.args.shelf.now c.args.self.now c.args.ctx.now c.loop.ctx c.step-box_no.new.ctx (moment_at c.args.call c.args.ctx.now.desk.facts) (moment_at c.loop.call c.loop.ctx.desk.facts) (moment_at c.step-box_no.new.call c.step-box_no.new.ctx.desk.facts)
      c.loop.box_no c.step-box_no.result c.loop.invariant.runs c.step-box_no.ensures.steps;
}

pub returns-in-Some-answer-clause-rests : goal.returns-in-Some-answer-clause-rests
returns-in-Some-answer-clause-rests g c =
    let desk = c.loop.ctx.desk.facts in
    let ends = ended_is (named_call desk c.loop.call).stage.next c.in-Some-answer.answer.now (named_ends desk c.loop.call ∙ c.in-Some-answer.ensures.some) in
    rests_of (known (arc_value c.args.self.now.table) (seen_at c.loop.ctx.passes.items)) c.loop.ctx.client (moment_at c.loop.call desk) c.in-Some-answer.answer.now ends c.loop.invariant.stands.comes.1

pub returns-in-Some-answer-clause-ran : goal.returns-in-Some-answer-clause-ran
returns-in-Some-answer-clause-ran g c =
    let desk = c.loop.ctx.desk.facts in
    let runs = c.loop.invariant.runs in record {
      dids = runs.dids;
      last = moment_at c.loop.call desk;
      led = runs.led;
      met = runs.met;
      ends = ended_is (named_call desk c.loop.call).stage.next c.in-Some-answer.answer.now (named_ends desk c.loop.call ∙ c.in-Some-answer.ensures.some);
      leaves = refl;
      gains = runs.gains;
    }
