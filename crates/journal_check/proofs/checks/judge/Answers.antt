use Rattle.std.proofs.Common.{ap, arith, refl, ◌∙◌}
use Rattle.journal_check.specs.Logs.{all_entries, opening_log}
use Rattle.journal_check.proofs.Judging.{IsSame, carry_cut, carry_next, carry_read, carry_start, met_end}
use Rattle.journal_check.proofs.Totals.{opening_entries}
use Rattle.journal_check.proofs.checks.judge.Goals as goal

pub loop-number-init : goal.loop-number-init
loop-number-init g c = record {
  same = rw (c.in_ok-log.ensures, c.new-pending.ensures) (carry_start c.args.limits opening_log (g.S.Source.left c.args.source.now));
  few = omega (arith, ap all_entries c.in_ok-log.ensures ∙ opening_entries);
  patient = λ still. refl;
  counts = omega arith;
}

pub loop-number-preserved : goal.loop-number-preserved
loop-number-preserved g c =
    let here = c.loop-number in
    let found = c.in_ok-found in
    let left = g.S.Source.left in
    let so = carry_read (IsSame c.args.limits opening_log here.number here.log) (left c.args.source.now) here.pending c.find_line.new.pending (left here.source) (left c.find_line.new.source) here.invariant.same found.ensures.same in
    let told = rw c.in_default.is at c.in_ok-verdict.ensures.told in record {
      same = carry_next c.args.limits opening_log here.number found.found c.find_line.new.pending c.take_found.new.pending here.log c.take_found.new.log (left c.args.source.now) (left c.find_line.new.source)
          so (told c.args.limits (omega arith) found.ensures.first) (λ part. (met_end found.found (left c.find_line.new.source) (g.S.Source.ended c.find_line.new.source) found.ensures.end part).0)
          (omega arith) (c.in_ok-verdict.ensures.next c.in_default.is c.args.limits found.ensures.first);
      few = c.in_ok-verdict.ensures.few;
      patient = λ still. found.ensures.patient still ∙ here.invariant.patient still;
      counts = omega (arith, here.invariant.counts, found.ensures.counts);
    }

pub returns-in-Some-clause-cut : goal.returns-in-Some-clause-cut
returns-in-Some-clause-cut g c =
    let here = c.loop-number in
    let found = c.in_ok-found in
    let left = g.S.Source.left in
    let so = carry_read (IsSame c.args.limits opening_log here.number here.log) (left c.args.source.now) here.pending c.find_line.new.pending (left here.source) (left c.find_line.new.source) here.invariant.same found.ensures.same in
    let uncut = rw c.in-Some.is at c.in_ok-verdict.ensures.cut in
    carry_cut c.args.limits opening_log here.number found.found c.find_line.new.pending here.log c.in-Some.verdict (left c.args.source.now) (left c.find_line.new.source) (g.S.Source.ended c.find_line.new.source)
    so found.ensures.first found.ensures.end (uncut c.args.limits)
