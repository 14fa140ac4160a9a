-- The beginning of a trace: the contexts of a new heap are a crew that has done nothing.
use Rattle.std.proofs.Common.{◌≡◌, ◌∙◌, ℕ, suc, ◌+◌, ◌<◌, Bool, true, false, List, [], ◌∷◌, Some, refl, sym, ap, subst, arith, length, map, replicate, zero-add}
use Rattle.std.specs.Prelude.{slice_get}
use Rattle.std.specs.List.{All}
use Rattle.std.proofs.lemmas.Option.{slice_get_within}
use Rattle.call_plan.specs.Clients.{DeskFacts}
use Rattle.heap_runs.proofs.Columns.{get_some}
use Rattle.heap_runs.specs.Deals.{IsNew, IsNewCtx, no_desk}
use Rattle.heap_runs.specs.Heaps.{MayCall, shelf_id}
use Rattle.heap_runs.specs.declared.heaps.Ctx.{Ctx}
use Rattle.heap_runs.specs.declared.heaps.SharedHeap.{SharedHeap}
use Rattle.hook_api.specs.Shared.{orders_of}
use Rattle.hook_api.specs.declared.seat.AskSeat.{AskSeat}
use Rattle.hook_api.specs.declared.shared.SharedShelf.{SharedShelf}
use Rattle.trace_phase.specs.declared.parts.Part.{Part}
use Rattle.phase_run.specs.Crews.{AreFrom, desk_of, stand_of}
use Rattle.phase_run.specs.Stands.{opening_stand}
use Rattle.phase_run.specs.Tally.{no_answers}
use Rattle.phase_run.specs.declared.crews.Crew.{Crew}
use Rattle.phase_run.proofs.Parting.{PartsSoFar, no_parts}

from_each : (b : ℕ) (ctxs : List Ctx) → ((k : ℕ) (ctx : Ctx) → slice_get ctxs k ≡ Some ctx → ctx.client ≡ b + k) → AreFrom b ctxs
from_each b [] each = tt
from_each b (x ∷ ctxs) each = (
  each 0 x refl ∙ (let first : b + 0 ≡ b = omega arith in first),
  from_each (b + 1) ctxs (λ k ctx at. each (suc k) ctx at ∙ (let next : b + suc k ≡ b + 1 + k = omega arith in next)),
)

desks_each : (ctxs : List Ctx) → ((k : ℕ) (ctx : Ctx) → slice_get ctxs k ≡ Some ctx → desk_of ctx ≡ no_desk) → map desk_of ctxs ≡ replicate (length ctxs) no_desk
desks_each [] each = refl
desks_each (x ∷ ctxs) each = λ i. each 0 x refl i ∷ desks_each ctxs (λ k ctx at. each (suc k) ctx at) i

module _ {H : Type 0} (shelf : SharedShelf H) (heap : SharedHeap) (seats : List AskSeat) (ctxs : List Ctx) (new : IsNew heap seats ctxs) (full : length seats ≡ 32) where
  is_new : (k : ℕ) (ctx : Ctx) → slice_get ctxs k ≡ Some ctx → (seat : AskSeat) × IsNewCtx heap k seat ctx
  is_new k ctx at =
      let within = slice_get_within ctxs k ctx at in
      let count = new.count in
      let seat = get_some seats k (omega (arith, within, count)) in
      (seat.0, new.each k seat.0 ctx seat.1 at)

  pub begins : (parts : List Part) (crew : Crew) → All (MayCall (shelf_id shelf) heap) ctxs → crew.ctxs.items ≡ ctxs → crew.names ≡ [] → crew.live ≡ true ∷ replicate 31 false → crew.tally ≡ no_answers → PartsSoFar heap shelf ctxs parts parts shelf crew
  begins parts crew may same names live tally =
      let count : length ctxs ≡ 32 = new.count ∙ full in
      let desks : map desk_of ctxs ≡ replicate 32 no_desk = desks_each ctxs (λ k ctx at. (is_new k ctx at).1.desk) ∙ ap (λ n. replicate n no_desk) count in
      no_parts heap shelf ctxs parts crew same (λ i. record { desks = (ap (map desk_of) same ∙ desks) i; names = names i; live = live i; orders = orders_of shelf; tally = tally i }) (record {
        clients = subst (AreFrom 0) (sym same) (from_each 0 ctxs (λ k ctx at. (is_new k ctx at).1.client ∙ sym (zero-add k)));
        count = ap length same ∙ count;
        may = subst (All (MayCall (shelf_id shelf) heap)) (sym same) may;
      })
