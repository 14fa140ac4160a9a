use Rattle.std.proofs.Common.{◌∙◌, arith}
use Rattle.std.proofs.lemmas.Result.{err_from_is_err_and}
use Rattle.journal.proofs.FieldLaws.{many_end, many_fails, many_more}
use Rattle.journal.proofs.fields.many.Goals as goal

pub returns-in_err-addr : goal.returns-in_err-addr
returns-in_err-addr c =
    let p = err_from_is_err_and c.from_residual-in_err-addr.result c.from_residual-in_err-addr.ensures.1 in
    rw (p.1, p.2) (many_fails c.in_err-addr.field-0.0 c.args.words.now c.long.new.words c.loop-left.words c.long-in-loop-left.new.words c.in_ok-count.count c.loop-left.left c.loop-left.list.items c.in_ok-count.ensures c.loop-left.invariant (omega arith) c.in_err-addr.ensures)

pub loop-left-preserved : goal.loop-left-preserved
loop-left-preserved c = rw (c.push.ensures.items, c.reserve.ensures.items) (many_more c.loop-left.list.items _ c.loop-left.left c.loop-left.words c.long-in-loop-left.new.words (omega arith) c.in_ok-addr.ensures ∙ c.loop-left.invariant)

pub returns : goal.returns
returns c = rw c.new.ensures (many_end c.loop-left.list.items c.args.words.now c.long.new.words c.loop-left.words c.in_ok-count.count c.loop-left.left c.in_ok-count.ensures (omega arith) c.loop-left.invariant)
