use Rattle.std.proofs.Common.{◌+◌, ◌++◌, ◌∷◌, [], arith, drop, get_or, subst, sym, take}
use Rattle.std.proofs.lemmas.List.{take_all}
use Rattle.std.proofs.lemmas.Result.{err_from_is_err_and}
use Rattle.back_purge.specs.Rounds.{Made, Stops, one_round}
use Rattle.back_purge.proofs.Making.{made_none, made_on, round_more, round_split, stops_before, stops_on}
use Rattle.back_purge.proofs.decays.round.Goals as goal

pub loop-i-init : goal.loop-i-init
loop-i-init g c = record { made = made_none c.args.shelf.now c.args.heap.now c.args.ctx.now c.requires.may; may = c.requires.may }

pub returns-in_err-decay-clause-stops : goal.returns-in_err-decay-clause-stops
returns-in_err-decay-clause-stops g c =
    let shelf = c.args.shelf.now in
    let heap = c.args.heap.now in
    let old = c.args.ctx.now in
    let new = c.decay.new.ctx in
    let now = c.args.now in
    let arenas = c.args.arenas.now in
    let i = c.loop-i.i in
    let answer = c.in_err-decay.field-0.0 in
    let test = c.loop-i-test.true in
    let p = err_from_is_err_and c.from_residual.result c.from_residual.ensures.1 in
    rw (p.1, p.2) (subst (λ rs. Stops shelf heap old rs answer new) (sym (round_split now arenas i (omega (arith, test))))
    (stops_before shelf heap old new (one_round now (take i arenas) ++ one_round now (get_or arenas i 0 ∷ [])) (one_round now (drop (i + 1) arenas)) answer
    (stops_on shelf heap old c.loop-i.ctx new (one_round now (take i arenas)) (one_round now (get_or arenas i 0 ∷ [])) answer c.loop-i.invariant.made c.in_err-decay.ensures.stops)))

pub loop-i-preserved : goal.loop-i-preserved
loop-i-preserved g c =
    let shelf = c.args.shelf.now in
    let heap = c.args.heap.now in
    let old = c.args.ctx.now in
    let now = c.args.now in
    let arenas = c.args.arenas.now in
    let i = c.loop-i.i in
    let test = c.loop-i-test.true in record {
      made = subst (λ rs. Made shelf heap old rs c.decay.new.ctx) (sym (round_more now arenas i (omega (arith, test))))
          (made_on shelf heap old c.loop-i.ctx c.decay.new.ctx (one_round now (take i arenas)) (one_round now (get_or arenas i 0 ∷ [])) c.loop-i.invariant.made c.in_ok-decay.ensures.made);
      may = c.in_ok-decay.ensures.may;
    }

pub returns-clause-made : goal.returns-clause-made
returns-clause-made g c =
    let test = c.loop-i-test.false in
    subst (λ l. Made c.args.shelf.now c.args.heap.now c.args.ctx.now (one_round c.args.now l) c.loop-i.ctx) (take_all c.loop-i.i c.args.arenas.now (omega (arith, test))) c.loop-i.invariant.made
