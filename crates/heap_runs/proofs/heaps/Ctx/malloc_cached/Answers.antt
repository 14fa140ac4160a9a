use Rattle.heap_runs.proofs.Words.{◌∙◌, ap, refl, sym, arith, nat_tests}
use Rattle.std.specs.Prelude.{◌≡◌, ◌^◌, false, nat_lt}
use Rattle.size_classes.specs.Classes.{class_for}
use Rattle.call_plan.specs.Clients.{hit, hitting, holding}
use Rattle.call_plan.specs.declared.needs.Answered.TheVariants.{Ok}
use Rattle.call_plan.specs.declared.needs.Given.TheVariants.{Region}
use Rattle.call_plan.specs.declared.needs.Request.TheVariants.{Malloc}
use Rattle.heap_runs.proofs.AtOnce.{malloc_once, once_calls, same_calls}
use Rattle.heap_runs.proofs.heaps.Ctx.malloc_cached.Goals as goal

pub returns-in_err-reserve-clause-may : goal.returns-in_err-reserve-clause-may
returns-in_err-reserve-clause-may c = λ shelf heap may. same_calls shelf heap c.args.self.now _ (record { client = refl; passes = refl; seat = refl }) c.reserve.ensures.facts may

pub returns-in_default-take_hit-clause-may : goal.returns-in_default-take_hit-clause-may
returns-in_default-take_hit-clause-may c = λ shelf heap may. same_calls shelf heap c.args.self.now _ (record { client = refl; passes = refl; seat = refl }) (c.in_default-take_hit.ensures.none ∙ c.in_ok-reserve.ensures.facts) may

pub returns-clause-gives : goal.returns-clause-gives
returns-clause-gives c =
    let desk = c.args.self.now.desk.facts in
    let size = c.args.size in
    let class = c.in-Ok.ensures.class in
    let rests = c.requires.free.1.1.rests in
    let facts = c.in_ok-reserve.ensures.facts in
    let fits = c.in-Ok.ensures.fits in
    let small : nat_lt (2 ^ 35) size ≡ false = grind (arith, nat_tests) in
    malloc_once c.args.self.now.client size desk c.hold.new.self.facts c.in-Some.region (rests.has.classed (class_for size)) rests.gained rests.own small
    (ap (λ k. hit k desk) (sym class) ∙ ap (hit c.in-Ok.class) (sym facts) ∙ sym c.take_hit.ensures.hit ∙ c.in-Some.is)
    (c.hold.ensures.facts ∙ ap (holding c.in-Some.region) (c.in-Some.ensures.some ∙ ap (hitting c.in-Ok.class) facts ∙ ap (λ k. hitting k desk) class))

pub returns-clause-may : goal.returns-clause-may
returns-clause-may c = λ shelf heap may.
    once_calls shelf heap c.args.self.now _ (record { client = refl; passes = refl; seat = refl }) (Malloc c.args.size) (Ok (Region c.in-Some.region.addr (class_for c.args.size))) tt may (returns-clause-gives c)
