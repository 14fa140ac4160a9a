use Rattle.std.proofs.Common.{◌+◌, ◌<◌, ◌∷◌, sym, subst, arith, length}
use Rattle.std.specs.Prelude.{slice_get, slice_set}
use Rattle.std.proofs.lemmas.Option.{slice_get_within}
use Rattle.heap_runs.specs.Columns.{ColumnTo}
use Rattle.heap_runs.proofs.Columns.{column_more}
use Rattle.heap_runs.proofs.Passing.{get_is}
use Rattle.heap_runs.proofs.closes.column.Goals as goal

pub loop-j-preserved : goal.loop-j-preserved
loop-j-preserved c =
    let to = c.loop-j.invariant.0 in
    let all = to.all in
    let end = c.len-count.ensures in
    let test = c.loop-j-test.true in
    let within : c.loop-j.j < length c.loop-j.ctxs.items = omega (arith, all, end, test) in
    let at = get_is c.loop-j.ctxs.items c.loop-j.j c.index_mut-in-loop-j.result.now within c.index_mut-in-loop-j.ensures.value in
    let room = c.push.ensures.room in
    let had = c.loop-j.invariant.1 in (
      subst (λ l. ColumnTo (λ ctx i. slice_get ctx.passes.items i) c.args.ctxs.now.items c.args.arena (c.loop-j.j + 1) (slice_set c.loop-j.ctxs.items c.loop-j.j c.take_pass.new.self) (c.take_pass-first.result ∷ l)) (sym c.push.ensures.passes)
          (column_more (λ ctx i. slice_get ctx.passes.items i) c.args.ctxs.now.items c.args.arena c.loop-j.j c.loop-j.ctxs.items _ c.index_mut-in-loop-j.result.now c.take_pass.new.self c.take_pass.result to at within c.take_pass.ensures.pass c.take_pass.ensures.left),
      omega (arith, room, had),
    )

pub returns-clause-left : goal.returns-clause-left
returns-clause-left c =
    let to = c.loop-j.invariant.0 in
    let end = c.len-count.ensures in
    let test = c.loop-j-test.false in record {
      count = to.all;
      each = λ k o m ok mk. to.taken k o m (let a = slice_get_within c.args.ctxs.now.items k o ok in omega (arith, a, end, test)) ok mk;
    }
