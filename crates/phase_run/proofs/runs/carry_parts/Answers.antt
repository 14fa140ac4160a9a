use Rattle.std.proofs.Common.{◌≡◌, ◌∷◌, [], List, arith, subst, sym}
use Rattle.std.proofs.lemmas.List.{nil_from_length}
use Rattle.std.specs.List.{AllByRecursion}
use Rattle.std.specs.Vec.Iter.{into_iter_items}
use Rattle.trace_phase.specs.Limits.{IsPartWithinLimits}
use Rattle.trace_phase.specs.declared.parts.Part.{Part}
use Rattle.phase_run.specs.declared.crews.Crew.{Crew}
use Rattle.phase_run.proofs.Opening.{begins}
use Rattle.phase_run.proofs.Parting.{PartsSoFar, all_parts, part_more}
use Rattle.phase_run.proofs.runs.carry_parts.Goals as goal

pub loop-part-init : goal.loop-part-init
loop-part-init g c =
    let shelf = c.args.shelf.now in
    let heap = c.args.heap.now in
    let ctxs = c.args.ctxs.items in
    let crew : Crew = c.new-crew.result in
    let new = c.requires.new in
    let given = c.into_iter-part-iterator.ensures.into_iter_gives.0 in
    let is = c.new-crew.ensures in record {
      next = (tt, tt);
      limits = subst (AllByRecursion IsPartWithinLimits) (sym given) c.requires.limits;
      so_far = subst (λ (l : List Part). PartsSoFar heap shelf ctxs c.args.parts.items l shelf crew) (sym given)
          (begins shelf heap new.0 ctxs new.1 new.2 c.args.parts.items crew c.requires.may (λ i. (is.ctxs i).items) is.names is.live is.tally);
    }

pub loop-part-preserved : goal.loop-part-preserved
loop-part-preserved g c =
    let here = c.loop-part in
    let was = here.invariant in
    let first = c.args.shelf.now in
    let heap = c.args.heap.now in
    let part : Part = c.in-Some.part in
    let rest : List Part = into_iter_items c.next.new.self in
    let steps : into_iter_items here.part-iterator ≡ part ∷ rest = c.in-Some.ensures.steps.0 in
    let limits : AllByRecursion IsPartWithinLimits (part ∷ rest) = subst (AllByRecursion IsPartWithinLimits) steps was.limits in record {
      next = (tt, tt);
      limits = limits.1;
      so_far = part_more heap first c.args.ctxs.items c.args.parts.items rest part here.shelf here.crew c.carry.new.shelf c.in_ok-crew.crew
          (subst (λ (l : List Part). PartsSoFar heap first c.args.ctxs.items c.args.parts.items l here.shelf here.crew) steps was.so_far) c.in_ok-crew.ensures;
    }

pub returns : goal.returns
returns g c =
    let here = c.loop-part in
    let first = c.args.shelf.now in
    let heap = c.args.heap.now in
    let it = here.part-iterator in
    let none : into_iter_items it ≡ [] = nil_from_length (into_iter_items it) (let e = c.in-None.ensures.steps.0 in let ok = it.rest.ok in omega (arith, e, ok.0)) in
    all_parts heap first c.args.ctxs.items c.args.parts.items here.shelf here.crew
    (subst (λ (l : List Part). PartsSoFar heap first c.args.ctxs.items c.args.parts.items l here.shelf here.crew) none here.invariant.so_far)
