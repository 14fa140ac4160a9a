use Rattle.std.proofs.Common.{◌≡◌, [], Global, Vec, arith}
use Rattle.std.proofs.lemmas.List.{nil_from_length}
use Rattle.std.specs.Vec.Iter.{into_iter_items}
use Rattle.phase_run.proofs.Pairs.{joined_end, joined_step}
use Rattle.phase_run.specs.declared.workers.Shift.{Shift}
use Rattle.phase_run.proofs.crowds.joined.Goals as goal

pub loop-group-preserved : goal.loop-group-preserved
loop-group-preserved c =
    let here = c.loop-group in record {
      next = (tt, tt);
      behind = joined_step (λ (v : Vec Shift Global). v.items) c.args.groups.items (into_iter_items here.group-iterator) (into_iter_items c.next.new.self) c.in-Some.group c.in_ok-group.field-0 here.all.items c.append.new.self.items
          c.in-Some.ensures.steps.0 c.in_ok-group.was c.in_ok-append.ensures.items here.invariant.behind;
    }

pub returns : goal.returns
returns c =
    let here = c.loop-group in
    let none : into_iter_items here.group-iterator ≡ [] = nil_from_length (into_iter_items here.group-iterator) (let e = c.in-None.ensures.steps.0 in let ok = here.group-iterator.rest.ok in omega (arith, e, ok.0)) in
    joined_end (λ (v : Vec Shift Global). v.items) c.args.groups.items (into_iter_items here.group-iterator) here.all.items none here.invariant.behind
