use Rattle.std.proofs.Common.{arith}
use Rattle.std.proofs.Math.Seq.{take-add}
use Rattle.edge_io.proofs.Pieces.{Appends-trans, rest_of}
use Rattle.edge_io.proofs.whole.write_all.Goals as goal

pub loop-at-preserved : goal.loop-at-preserved
loop-at-preserved g c = record {
  gained =
      rw (take-add c.loop-at.at c.in_ok-n.n c.args.text.now)
      (Appends-trans _ _ _ _ _ c.loop-at.invariant.gained
      (rw (rest_of c.args.text.now c.loop-at.at) at c.in_ok-n.ensures.appended));
  within = omega (arith, c.in_ok-n.ensures.bound);
  counts = grind (arith, c.in_ok-n);
}
