use Rattle.std.proofs.Common.{refl}
use Rattle.call_plan.specs.declared.needs.Request.TheVariants.{Decay}
use Rattle.back_purge.proofs.Making.{bad_is, made_one, stops_one}
use Rattle.back_purge.proofs.decays.decay.Goals as goal

pub returns-in-Ok-clause-made : goal.returns-in-Ok-clause-made
returns-in-Ok-clause-made g c =
    made_one c.args.shelf.now c.args.heap.now c.args.ctx.now c.decay.new.ctx (Decay c.args.arena c.args.now) c.decay.result c.decay.ensures.may c.decay.ensures.called (rw c.in-Ok.is refl)

pub returns-in_default : goal.returns-in_default
returns-in_default g c = record {
  may = c.decay.ensures.may;
  made = tt;
  stops = stops_one c.args.shelf.now c.args.heap.now c.args.ctx.now c.decay.new.ctx (Decay c.args.arena c.args.now) c.decay.result c.decay.ensures.may c.decay.ensures.called (bad_is c.decay.result c.in_default.not-Ok);
}
