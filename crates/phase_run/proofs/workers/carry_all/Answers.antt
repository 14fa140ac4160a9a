use Rattle.std.proofs.Common.{◌≡◌, ◌∙◌, ◌∷◌, [], List, arith, sym, subst}
use Rattle.std.proofs.lemmas.List.{nil_from_length}
use Rattle.std.specs.Vec.Iter.{into_iter_items}
use Rattle.trace_phase.specs.declared.parts.PhaseCall.{PhaseCall}
use Rattle.phase_run.proofs.Shifting.{SoFar, all_done, none_yet, one_more}
use Rattle.phase_run.proofs.workers.carry_all.Goals as goal

pub loop-call-init : goal.loop-call-init
loop-call-init g c =
    let calls = c.args.calls in
    let it = c.into_iter-call-iterator in
    let all : calls ≡ into_iter_items it.result = sym (it.ensures.into_iter_gives.0 ∙ c.into_vec-call-items.ensures) in record {
      next = (tt, tt);
      so_far = subst (λ (l : List PhaseCall). SoFar c.args.shelf.now c.args.heap.now c.args.moment calls l c.args.shift c.args.shift) all (none_yet c.args.shelf.now c.args.heap.now c.args.moment calls c.args.shift c.requires.may);
    }

pub loop-call-preserved : goal.loop-call-preserved
loop-call-preserved g c =
    let shelf = c.args.shelf.now in
    let heap = c.args.heap.now in
    let here = c.loop-call in record {
      next = (tt, tt);
      so_far = one_more shelf heap c.args.moment c.args.calls (into_iter_items c.next.new.self) c.in-Some.call c.args.shift here.shift c.carry.new.shift
          (subst (λ (l : List PhaseCall). SoFar shelf heap c.args.moment c.args.calls l c.args.shift here.shift) c.in-Some.ensures.steps.0 here.invariant.so_far) c.in_ok-carry.ensures;
    }

pub returns : goal.returns
returns g c =
    let here = c.loop-call in
    let none : into_iter_items here.call-iterator ≡ [] = nil_from_length (into_iter_items here.call-iterator) (let e = c.in-None.ensures.steps.0 in let ok = here.call-iterator.rest.ok in omega (arith, e, ok.0)) in
    all_done c.args.shelf.now c.args.heap.now c.args.moment c.args.calls c.args.shift here.shift
    (subst (λ (l : List PhaseCall). SoFar c.args.shelf.now c.args.heap.now c.args.moment c.args.calls l c.args.shift here.shift) none here.invariant.so_far)
