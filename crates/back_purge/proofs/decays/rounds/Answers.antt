use Rattle.std.proofs.Common.{◌≡◌, ◌+◌, ◌-◌, ◌++◌, arith, subst, sym}
use Rattle.std.proofs.lemmas.Result.{err_from_is_err_and}
use Rattle.back_purge.specs.Rounds.{Made, Stops, decays, one_round}
use Rattle.back_purge.proofs.Making.{decays_length, decays_more, decays_split, made_none, made_on, stops_before, stops_on}
use Rattle.back_purge.proofs.decays.rounds.Goals as goal

pub loop-round-init : goal.loop-round-init
loop-round-init g c = record { made = made_none c.args.shelf.now c.args.heap.now c.args.ctx.now c.requires.may; may = c.requires.may }

pub returns-in_err-round-clause-stops : goal.returns-in_err-round-clause-stops
returns-in_err-round-clause-stops g c =
    let shelf = c.args.shelf.now in
    let heap = c.args.heap.now in
    let old = c.args.ctx.now in
    let new = c.round.new.ctx in
    let now = c.args.now in
    let arenas = c.args.arenas.now in
    let some = c.loop-round._round in
    let answer = c.in_err-round.field-0.0 in
    let test = c.loop-round-test.true in
    let p = err_from_is_err_and c.from_residual.result c.from_residual.ensures.1 in
    rw (p.1, p.2) (subst (λ rs. Stops shelf heap old rs answer new) (sym (decays_split now arenas some c.args.rounds (omega (arith, test))))
    (stops_before shelf heap old new (decays now arenas some ++ one_round now arenas) (decays now arenas (c.args.rounds - (some + 1))) answer
    (stops_on shelf heap old c.loop-round.ctx new (decays now arenas some) (one_round now arenas) answer c.loop-round.invariant.made c.in_err-round.ensures.stops)))

pub loop-round-preserved : goal.loop-round-preserved
loop-round-preserved g c =
    let shelf = c.args.shelf.now in
    let heap = c.args.heap.now in
    let old = c.args.ctx.now in
    let now = c.args.now in
    let arenas = c.args.arenas.now in
    let some = c.loop-round._round in record {
      made = subst (λ rs. Made shelf heap old rs c.round.new.ctx) (sym (decays_more now arenas some))
          (made_on shelf heap old c.loop-round.ctx c.round.new.ctx (decays now arenas some) (one_round now arenas) c.loop-round.invariant.made c.in_ok-round.ensures.made);
      may = c.in_ok-round.ensures.may;
    }

pub returns-clause-made : goal.returns-clause-made
returns-clause-made g c =
    let test = c.loop-round-test.false in
    let end = c.loop-round.auto in
    let all : c.loop-round._round ≡ c.args.rounds = omega (arith, test) in
    subst (λ n. Made c.args.shelf.now c.args.heap.now c.args.ctx.now (decays c.args.now c.args.arenas.now n) c.loop-round.ctx) all c.loop-round.invariant.made

pub returns-clause-count : goal.returns-clause-count
returns-clause-count g c = rw c.from.ensures (sym (decays_length c.args.now c.args.arenas.now c.args.rounds))
