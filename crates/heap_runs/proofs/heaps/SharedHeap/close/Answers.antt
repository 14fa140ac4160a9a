use Rattle.heap_runs.proofs.Words.{◌≡◌, ◌∙◌, ℕ, List, Facts, Some, inr, All, ap, length, map, get_or_from_slice_get, slice_get, slice_get_within, subst, sym, AreWays, Ctx}
use Rattle.chunk_table.specs.Tables.{IsSeatOf, arena_count}
use Rattle.hook_api.specs.declared.kept.Journal.{Journal}
use Rattle.heap_runs.specs.Closes.{AreApart, AreCounted, HasJournal, counts_left}
use Rattle.heap_runs.proofs.Parting.{counted, indexes, journals_apart, left_of, seated, seats_left}
use Rattle.heap_runs.proofs.heaps.SharedHeap.close.Goals as goal

pub close_locks-requires-clause-ctxs : goal.close_locks-requires-clause-ctxs
close_locks-requires-clause-ctxs c = λ j ctx at.
    let all = c.requires.ctxs.1 j ctx (slice_get_within c.args.ctxs.items j ctx at) in
    subst (λ (x : Ctx). AreWays c.args.self.locks.items x.client x.passes.items) (get_or_from_slice_get c.args.ctxs.items j ctx ctx at) all.is.ways

pub from_vec-requires : goal.from_vec-requires
from_vec-requires c = inr (indexes c.args.self c.args.ctxs.items c.in_ok-states.states.items c.in_ok-journals.journals.items c.in_ok-journals.chunk_seats.items c.in_ok-states.ensures.count c.in_ok-journals.ensures c.in_ok-states.ensures.closed)

pub gather-requires-clause-table : goal.gather-requires-clause-table
gather-requires-clause-table c = subst (λ t. All (IsSeatOf t) c.in_ok-journals.chunk_seats.items) (sym (c.deref.ensures ∙ c.in_ok-table.ensures.cases)) (seated c.args.self c.args.ctxs.items c.in_ok-states.states.items c.in_ok-journals.journals.items c.in_ok-journals.chunk_seats.items c.in_ok-states.ensures.count c.in_ok-journals.ensures c.in_ok-states.ensures.closed)

pub gather-requires-clause-all : goal.gather-requires-clause-all
gather-requires-clause-all c = c.in_ok-journals.ensures.counts.1 ∙ c.in_ok-states.ensures.count ∙ sym c.args.self.made.arenas ∙ ap arena_count (sym (c.deref.ensures ∙ c.in_ok-table.ensures.cases))

pub returns : goal.returns
returns c =
    let each = left_of c.args.self c.args.ctxs.items c.in_ok-states.states.items c.in_ok-journals.journals.items c.in_ok-journals.chunk_seats.items c.in_ok-states.ensures.count c.in_ok-journals.ensures c.in_ok-states.ensures.closed c.gather.result c.gather.ensures.accounts in record {
      count = ap length c.from_vec.ensures ∙ c.in_ok-journals.ensures.counts.0 ∙ c.in_ok-states.ensures.count;
      each = subst (λ l. (i : ℕ) (journal : Journal) → slice_get l i ≡ Some journal → HasJournal c.args.self c.args.ctxs.items c.gather.result i journal) (sym c.from_vec.ensures) each;
      once = c.gather.ensures.apart;
      apart = subst AreApart (sym c.from_vec.ensures) (journals_apart c.args.self c.args.ctxs.items c.gather.result c.in_ok-journals.journals.items each c.gather.ensures.apart);
      counts = counted c.args.self c.args.ctxs.items c.in_ok-states.states.items c.in_ok-journals.journals.items c.in_ok-journals.chunk_seats.items c.in_ok-states.ensures.count c.in_ok-journals.ensures c.in_ok-states.ensures.closed c.in_ok-counts.counts.items (subst (λ (l : List Facts). AreCounted l c.in_ok-counts.counts.items) c.as_slice.ensures.value c.in_ok-counts.ensures) ∙ ap (map counts_left) (sym c.from_vec.ensures);
      seats = c.in_ok-seats.ensures ∙ seats_left c.args.ctxs.items c.close_locks.new.ctxs.items 0 c.in_ok-states.ensures.left;
    }
