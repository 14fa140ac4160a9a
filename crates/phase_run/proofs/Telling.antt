-- What is told of phases that were carried out over the boxes of a shelf.
use Rattle.std.proofs.Common.{◌≡◌, ◌∙◌, ◌⊎◌, inl, inr, ℕ, ◌<◌, Bool, List, Some, ap, subst, sym}
use Rattle.std.specs.Prelude.{slice_index}
use Rattle.std.specs.List.{AllByRecursion, sum_by}
use Rattle.journal.specs.Texts.{AreReadAgain}
use Rattle.heap_runs.specs.declared.closes.Closed.{Closed}
use Rattle.hook_api.specs.Plans.{plan_at}
use Rattle.hook_api.specs.Seats.{refused_at}
use Rattle.hook_api.specs.Shared.{HasCounted, orders_of, own_at_share, plan_of_kind, same_locks}
use Rattle.hook_api.specs.Shelf.{Shelf, box_at}
use Rattle.hook_api.specs.declared.locks.Locks.{Locks}
use Rattle.hook_api.specs.declared.plans.Kind.{Kind}
use Rattle.hook_api.specs.declared.seat.AskSeat.{AskSeat}
use Rattle.hook_api.specs.declared.shared.SharedShelf.{SharedShelf}
use Rattle.trace_phase.specs.declared.parts.Phases.{Phases}
use Rattle.phase_run.specs.Summaries.{summary_text}
use Rattle.phase_run.specs.Threads.{AreCarried, CarriedOut, HasCarried, Held, LacksMemory, Left, RunsPhases, TellsCarried, TellsWhole, numbers_of, refused_in}
use Rattle.phase_run.specs.declared.summaries.Numbers.{Numbers}

module _ {H : Type 0} (with_journals : Bool) (phases : Phases) (given left_over : Shelf) (left : Left) (sink sink' : Held) (shelf shelf' : SharedShelf H) (closed : Closed) (numbers : Numbers)
    (own : (n : ℕ) → n < 32 → slice_index (own_at_share shelf) n ≡ (box_at given n).account.refusals)
    (plans : (n : ℕ) → n < 32 → (kind : Kind) → plan_of_kind shelf n (Some kind) ≡ plan_at (box_at given n).book.plans kind)
    (carried : CarriedOut shelf phases closed numbers) (locks : same_locks shelf shelf')
    (counted : (n : ℕ) → n < 32 → HasCounted (slice_index (own_at_share shelf') n) (box_at left_over n).account.refusals (sum_by (λ (seat : AskSeat). refused_at seat n) closed.seats.items)) where
  -- each box counted the refusals of the asks, from the shelf handed in to the one that is left
  has_counted : (n : ℕ) → n < 32 → HasCounted (box_at given n).account.refusals (box_at left_over n).account.refusals (refused_in carried.carried.dones n)
  has_counted n low =
      let began : slice_index (own_at_share shelf') n ≡ (box_at given n).account.refusals = ap (λ (l : Locks H). slice_index l.table.shared.key.own n) locks ∙ own n low in
      subst (λ k. HasCounted k (box_at left_over n).account.refusals (refused_in carried.carried.dones n)) began
      (subst (HasCounted (slice_index (own_at_share shelf') n) (box_at left_over n).account.refusals) (carried.refused n low) (counted n low))

  left_with : left.journals ≡ closed.journals
      → (is : AreCarried (orders_of shelf) phases.parts carried.last left.journals closed.chunks) × ((n : ℕ) → n < 32 → HasCounted (box_at given n).account.refusals (box_at left_over n).account.refusals (refused_in is.dones n))
  left_with same = subst (λ js. (is : AreCarried (orders_of shelf) phases.parts carried.last js closed.chunks) × ((n : ℕ) → n < 32 → HasCounted (box_at given n).account.refusals (box_at left_over n).account.refusals (refused_in is.dones n)))
      (sym same) (carried.carried, has_counted)

  pub has_told : TellsCarried with_journals closed numbers left sink sink' → RunsPhases with_journals phases given left_over left sink sink'
  has_told (inl told) = let both = left_with told.0 in inl (record {
    orders = orders_of shelf;
    plans = plans;
    last = carried.last;
    book = closed.chunks;
    chunks = told.1;
    carried = both.0;
    counted = both.1;
    tells = subst (λ js. TellsWhole (summary_text js (numbers_of phases carried.last) with_journals) 0 left.status sink sink') (sym told.0)
        (subst (λ (ns : Numbers). TellsWhole (summary_text closed.journals ns with_journals) 0 left.status sink sink') carried.numbers told.2);
    again = λ wanted. subst (AllByRecursion AreReadAgain) (sym told.0) (told.3 wanted);
  })
  has_told (inr lacked) = inr lacked
