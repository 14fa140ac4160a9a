use Rattle.std.proofs.Common.{arith}
use Rattle.heap_stats.proofs.Small.{one_small}
use Rattle.text_trials.proofs.tests.stats.counts.Goals as goal

pub returns : goal.returns
returns c = record {
  allocated = omega arith;
  active = omega arith;
  dirty = omega arith;
  muzzy = omega arith;
  retained = omega arith;
  flight = omega arith;
  mapped = omega arith;
  small = omega arith;
  large = omega arith;
  regs = one_small 36 0 c.args.regions c.requires.few;
  slabs = one_small 36 0 1 (omega arith);
  lextents = one_small 85 5 1 (omega arith);
}
