use Rattle.std.proofs.Common.{arith, refl}
use Rattle.lane_scan.specs.Bits.{bits_of}
use Rattle.lane_scan.proofs.BitLemmas.{ones_more, ones_word}
use Rattle.lane_scan.proofs.words.count_set.Goals as goal

pub loop-at-init : goal.loop-at-init
unfolding bits_of
loop-at-init c = record { within = omega arith; counted = refl }

pub overflow_add-count : goal.overflow_add-count
overflow_add-count c = record { fits = omega (arith, ones_more c.args.words.now c.loop-at.at 8) }

pub loop-at-preserved-then-words-at-ge-LANES : goal.loop-at-preserved-then-words-at-ge-LANES
loop-at-preserved-then-words-at-ge-LANES c = record { within = omega arith; counted = omega (arith, ones_more c.args.words.now c.loop-at.at 8) }

pub overflow_add-count-else-words-at-ge-LANES : goal.overflow_add-count-else-words-at-ge-LANES
overflow_add-count-else-words-at-ge-LANES c = record {
  fits = omega (arith, ones_more c.args.words.now c.loop-at.at 1, ones_word c.args.words.now c.loop-at.at, c.type_inv.words c.loop-at.at);
}

pub loop-at-preserved : goal.loop-at-preserved
loop-at-preserved c = record {
  within = omega arith;
  counted = omega (arith, ones_more c.args.words.now c.loop-at.at 1, ones_word c.args.words.now c.loop-at.at, c.type_inv.words c.loop-at.at);
}
