use Rattle.std.proofs.Common.{◌≡◌, ◌+◌, ◌++◌, ◌∷◌, [], List, refl, sym, ◌∙◌, subst, arith}
use Rattle.std.proofs.lemmas.List.Elements.{All-nil, All-push}
use Rattle.std.specs.List.{All}
use Rattle.line_reader.specs.Lines.{Carries}
use Rattle.trace_text.specs.Grammar.{IsWithinLimits}
use Rattle.trace_phase.specs.declared.parts.NumberedLine.{NumberedLine}
use Rattle.phase_run.proofs.Unreads.{IsSame, carry_next, carry_start}
use Rattle.phase_run.proofs.reading.read_lines.Goals as goal

pub loop-number-init : goal.loop-number-init
loop-number-init g c =
    let P : NumberedLine → Type 0 = λ line. IsWithinLimits line.line in record {
      same = rw (c.requires, c.new-pending.ensures) (carry_start (g.S.Source.left c.args.source.now));
      limits = subst (All P) (sym c.requires) (All-nil P);
      patient = λ still. refl;
      counts = omega arith;
    }

pub loop-number-preserved : goal.loop-number-preserved
loop-number-preserved g c =
    let P : NumberedLine → Type 0 = λ line. IsWithinLimits line.line in
    let here = c.loop-number in
    let left = g.S.Source.left in
    let goes = rw c.in-Some.is at c.in_ok-line.ensures.next in
    let limits = rw c.in-Some.is at c.in_ok-line.ensures.limits in
    let more : List NumberedLine = here.lines ++ record { number = here.number; line = c.in-Some.line } ∷ [] in
    let pushed : c.push.new.self ≡ more = c.in_ok-push.ensures.ok in record {
      same = subst (λ (lines : List NumberedLine). Carries (left c.args.source.now) c.next_line.new.pending (left c.next_line.new.source) (IsSame (here.number + 1) lines)) (sym pushed)
          (carry_next here.number here.lines c.in-Some.line (left c.args.source.now) here.pending c.next_line.new.pending (left here.source) (left c.next_line.new.source) here.invariant.same goes);
      limits = subst (All P) (sym pushed) (All-push P here.lines (record { number = here.number; line = c.in-Some.line }) here.invariant.limits limits);
      patient = λ still. c.in_ok-line.ensures.patient still ∙ here.invariant.patient still;
      counts = omega (arith, here.invariant.counts, c.in_ok-line.ensures.counts);
    }
