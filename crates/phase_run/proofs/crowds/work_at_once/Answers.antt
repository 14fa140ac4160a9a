use Rattle.std.proofs.Common.{◌≡◌, ◌∙◌, Global, IfOk, List, Vec, slice_index_or, subst, sym}
use Rattle.std.specs.List.{All}
use Rattle.std.proofs.lemmas.Result.{IfOk-weaker}
use Rattle.std.proofs.lemmas.Option.{get_or_from_slice_get, slice_get_within}
use Rattle.heap_runs.specs.Heaps.{shelf_id}
use Rattle.phase_run.proofs.Pairs.{AreGiven, all_in, given_by, pairs_from, pairs_joined}
use Rattle.phase_run.specs.Crowds.{AreJoined, HaveWorked, Pairwise}
use Rattle.phase_run.specs.Shifts.{HasWorked, MayWork}
use Rattle.phase_run.specs.declared.workers.Shift.{Shift}
use Rattle.phase_run.specs.declared.workers.Worker.{Worker}
use Rattle.phase_run.proofs.crowds.work_at_once.Goals as goal

abbrev workers_in : Vec Worker Global → List Worker
workers_in v = v.items

abbrev shifts_in : Vec Shift Global → List Shift
shifts_in v = v.items

pub map_vec-requires-after_bounds : goal.map_vec-requires-after_bounds
map_vec-requires-after_bounds g c κs within =
    λ i x low is. subst (λ (v : Vec Worker Global). All (MayWork (shelf_id c.args.shelf.now) c.args.heap.now) v.items) (sym is)
    (all_in workers_in (MayWork (shelf_id c.args.shelf.now) c.args.heap.now) c.in_ok-groups.groups.items (subst (All (MayWork (shelf_id c.args.shelf.now) c.args.heap.now)) (sym c.in_ok-groups.ensures) c.requires) i x low)

pub returns : goal.returns
returns g c =
    let shelf = c.args.shelf.now in
    let heap = c.args.heap.now in
    let groups = c.in_ok-groups.groups.items in
    let results = c.in_ok-map_vec.field-0.items in
    let gives = c.in_ok-map_vec.ensures.each in
    let pairs : Pairwise (AreGiven (HasWorked shelf heap) workers_in shifts_in) groups results =
    pairs_from (AreGiven (HasWorked shelf heap) workers_in shifts_in) groups results (sym c.in_ok-map_vec.field-0.ok.0 ∙ c.in_ok-map_vec.ensures.len ∙ c.in_ok-groups.groups.ok.0) (λ i group r at here.
    let x = gives i r (slice_get_within groups i group at) in
    let met = x.1.call.met in
    let said : IfOk (slice_index_or results i r) (λ (s : Vec Shift Global). HaveWorked shelf heap x.1.job.items s.items) = search in
    let same : x.1.job ≡ group = sym (x.1.job_is group) ∙ get_or_from_slice_get groups i group group at in
    given_by (HasWorked shelf heap) workers_in shifts_in group r (subst (λ q. IfOk q (λ (s : Vec Shift Global). HaveWorked shelf heap group.items s.items)) (get_or_from_slice_get results i r r here)
    (subst (λ (v : Vec Worker Global). IfOk (slice_index_or results i r) (λ (s : Vec Shift Global). HaveWorked shelf heap v.items s.items)) same said))) in
    IfOk-weaker c.joined.result (λ all. AreJoined shifts_in results all.items) (λ all. HaveWorked shelf heap c.args.workers.items all.items)
    (λ all joined. subst (λ (ws : List Worker). HaveWorked shelf heap ws all.items) c.in_ok-groups.ensures (pairs_joined (HasWorked shelf heap) workers_in shifts_in groups results all.items pairs joined)) c.joined.ensures
