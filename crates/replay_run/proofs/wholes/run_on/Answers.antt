use Rattle.replay_run.proofs.Words.{◌∙◌, [], ◌∷◌, ◌++◌, refl, ap, is_none, holders-publish, asks-sit, turns-sit, steps_of}
use Rattle.heap_core.specs.Carrying.{Made, Stands}
use Rattle.replay_run.proofs.Carries.{carried_more, none_of, sound_of, steps_fewer}
use Rattle.replay_run.proofs.Longer.{step_longer, steps_few}
use Rattle.replay_run.proofs.Opens.{step_open}
use Rattle.replay_run.proofs.wholes.run_on.Goals as goal

pub steps-smaller : goal.steps-smaller
steps-smaller g c =
    let none = none_of c.steps.told.ended c.steps-test.ensures in
    let stands : Stands c.steps.heap = record { arenas = c.stands.ensures.arenas; clients = c.stands.ensures.clients; seats = c.stands.ensures.seats } in
    let few = steps_few c.steps.heap c.stands.ensures.arenas.number c.stands.ensures.entries c.stands.ensures.asks in
    steps_fewer c.steps.told.ended c.step_into.new.told.ended (steps_of c.steps.heap) (steps_of c.step_into.new.self) none few (λ on.
    step_longer holders-publish c.steps.heap c.steps.shelf c.args.client c.step_into.new.told c.step_into.new.self c.step_into.new.shelf (sound_of c.steps.heap stands) c.stands.ensures.clients c.requires.client (c.steps.invariant.goes none) (λ e. absurd (cc (on, e))) c.step_into.ensures.step)

pub steps-preserved : goal.steps-preserved
steps-preserved g c =
    let none = none_of c.steps.told.ended c.steps-test.ensures in
    let stands : Stands c.steps.heap = record { arenas = c.stands.ensures.arenas; clients = c.stands.ensures.clients; seats = c.stands.ensures.seats } in
    let made : Made = record { told = c.step_into.new.told; heap = c.step_into.new.self; shelf = c.step_into.new.shelf } in
    let ran = c.steps.invariant.ran in record {
      ran = (ran.0 ++ made ∷ [], carried_more _ _ c.args.client _ ran.0 (made ∷ []) c.steps.heap c.step_into.new.self c.steps.shelf c.step_into.new.shelf c.steps.told.ended c.step_into.new.told.ended ran.1 (stands, none, c.step_into.ensures.step, (refl, refl, refl)));
      goes = λ on.
          step_open turns-sit asks-sit holders-publish c.steps.heap c.steps.shelf c.args.client c.step_into.new.told c.step_into.new.self c.step_into.new.shelf (sound_of c.steps.heap stands) c.stands.ensures.clients c.requires.client (c.steps.invariant.goes none) (λ e. absurd (cc (on, e))) c.step_into.ensures.step
          ∙ ap is_none on;
    }
