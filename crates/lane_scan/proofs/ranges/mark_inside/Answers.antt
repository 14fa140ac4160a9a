use Rattle.std.proofs.Common.{◌≡◌, ◌*◌, min, length, ◌∙◌, arith}
use Rattle.std.proofs.lemmas.Grind.{get_or-set_at}
use Rattle.std.proofs.lemmas.List.{get_or-set_other, take_min, drop_min, drop-drop}
use Rattle.lane_scan.specs.Ranges.{is_inside}
use Rattle.lane_scan.proofs.RangeLemmas.{bits_of_marked}
use Rattle.lane_scan.proofs.ranges.mark_inside.Goals as goal

pub loop-word-preserved : goal.loop-word-preserved
loop-word-preserved c =
    let rest = c.loop-word.rest.now in
    let count : c.min.result ≡ min 64 (length rest) = omega arith in
    record {
      left = c.split_at.ensures.back ∙ grind (arith, drop_min 64 rest, drop-drop 64 (64 * c.loop-word.word-index) c.args.values.now);
      marked = λ j before. grind (arith, get_or-set_at, get_or-set_other, take_min 64 rest, c.split_at.ensures.front, c.marks_of.ensures, c.loop-word.invariant.marked j);
    }

pub returns : goal.returns
returns c =
    let marked = bits_of_marked (is_inside c.args.lo c.args.hi) c.args.values.now c.loop-word.out (omega arith)
    (λ j before. c.loop-word.invariant.marked j (omega arith)) in
    cc
