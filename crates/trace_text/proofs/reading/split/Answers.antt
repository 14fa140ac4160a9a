use Rattle.trace_text.proofs.Words.{◌≡◌, ◌∙◌, ◌+◌, ◌<◌, [], length, drop, sym, arith, append-nil, eq-eqb, nat_tests}
use Rattle.trace_text.proofs.Splits.{no_space_here, no_space_more, words_cut, words_end, words_many, words_more}
use Rattle.trace_text.proofs.reading.split.Goals.{then-line-at-eq32+else-is_full, else-line-at-eq32}
use Rattle.trace_text.proofs.reading.split.Goals as goal

pub loop-at-preserved : goal.loop-at-preserved
loop-at-preserved c =
    elim c.if-line-at-eq32.branch [
      | then-line-at-eq32+else-is_full w ↦
          let room : length w.push.new.self.items < 6 = grind (arith, nat_tests, w.if-is_full.ensures.value) in
          record {
            room = rw w.words-is room;
            front = omega arith;
            plain = rw w.start-is (no_space_here c.args.line.now (c.loop-at.at + 1));
            so_far = rw (w.words-is, w.start-is) (words_more _ c.args.line.now c.loop-at.words.items _ w.push.new.self.items _ c.loop-at.start w.push.ensures.items c.loop-at.invariant.so_far
                (words_cut c.args.line.now c.loop-at.start c.loop-at.at c.loop-at.invariant.front (omega arith) c.loop-at.invariant.plain (eq-eqb _ _ w.if-line-at-eq32.true)));
          }
      | else-line-at-eq32 w ↦ record {
        room = rw w.words-is c.loop-at.invariant.room;
        front = omega arith;
        plain = rw w.start-is (no_space_more c.args.line.now c.loop-at.start c.loop-at.at c.loop-at.invariant.plain w.if-line-at-eq32.false);
        so_far = rw (w.words-is, w.start-is) c.loop-at.invariant.so_far;
      }
    ]

pub returns-then-is_full-clause-many : goal.returns-then-is_full-clause-many
returns-then-is_full-clause-many c told =
    let six : length c.push.new.self.items ≡ 6 = grind (arith, nat_tests, c.if-is_full.ensures.value) in
    words_many _ c.args.line.now (drop (c.loop-at.at + 1) c.args.line.now) c.push.new.self.items six
    (words_more _ c.args.line.now c.loop-at.words.items _ c.push.new.self.items _ c.loop-at.start c.push.ensures.items c.loop-at.invariant.so_far
    (words_cut c.args.line.now c.loop-at.start c.loop-at.at c.loop-at.invariant.front (omega arith) c.loop-at.invariant.plain (eq-eqb _ _ c.if-line-at-eq32.true)))

pub returns-clause-few : goal.returns-clause-few
returns-clause-few c told =
    sym (words_more _ c.args.line.now c.loop-at.words.items _ c.push-2.new.self.items [] c.loop-at.start c.push-2.ensures.items c.loop-at.invariant.so_far
    (words_end c.args.line.now c.loop-at.start c.loop-at.at (omega arith) c.loop-at.invariant.plain) ∙ append-nil _)
