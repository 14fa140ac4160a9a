use Rattle.std.proofs.Common.{refl, arith, ap, length}
use Rattle.line_reader.proofs.Breaks.{cut_found}
use Rattle.line_reader.proofs.lines.find_line.Goals as goal

pub returns-else-seen-eq0-clause-first : goal.returns-else-seen-eq0-clause-first
returns-else-seen-eq0-clause-first g c =
    let before = c.loop-found.pending in
    let seen = rw c.as_slice.ensures at (c.in_default.ensures.none refl) in
    let more = c.in_ok-read_more.ensures.more in
    cut_found c.args.most before c.read_more.new.pending more.0 (omega (arith, c.if-seen-eq0.false, ap length c.as_slice-seen.ensures)) seen.0 seen.1 more.1 (omega (arith, more.2))
