use Rattle.std.proofs.Common.{◌∙◌, ◌++◌, ◌∷◌, [], ap, arith, sym, length}
use Rattle.std.specs.Prelude.{false, if◌then◌else◌, slice_index_or}
use Rattle.phase_run.proofs.Taking.{few_live, live_more}
use Rattle.phase_run.proofs.crews.live_in.Goals as goal

pub loop-i-preserved : goal.loop-i-preserved
loop-i-preserved c =
    c.in_ok-put_live.ensures ∙ ap (λ l. l ++ (if slice_index_or c.args.live.now c.loop-i.i false then c.loop-i.i ∷ [] else [])) c.loop-i.invariant ∙ sym (live_more c.args.live.now c.loop-i.i)

pub returns-clause-few : goal.returns-clause-few
returns-clause-few c =
    let few = few_live c.args.live.now c.loop-i.i in
    let same = ap length c.loop-i.invariant in
    let end = c.loop-i.auto.i-end in
    omega (arith, few, same, end)
