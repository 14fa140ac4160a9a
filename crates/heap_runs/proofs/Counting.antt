-- The counts of the arenas of a closed heap.
use Rattle.heap_runs.proofs.Words.{◌≡◌, ◌∙◌, ◌+◌, ◌-◌, ◌<◌, ◌++◌, ◌∷◌, [], inl, inr, ℕ, List, Option, Some, suc, zero, arith, length, length-append, map, refl, sym, ap, subst, slice_get, slice_get_within, Facts}
use Rattle.hook_api.specs.declared.kept.Journal.{Journal}
use Rattle.space_model.specs.declared.counts.Counts.{Counts}
use Rattle.heap_shared.specs.Shared.{live_counts}
use Rattle.heap_runs.specs.Closes.{AreCounted, counts_left}
use Rattle.heap_runs.proofs.Columns.{get_more}
use Rattle.heap_runs.proofs.Passing.{same_element}

-- so many counts are those of the last arenas
abbrev pub CountedTo : List Facts → List (Option Counts) → Type 0
CountedTo states counts = (k : ℕ) (state : Facts) (c : Option Counts) → slice_get states (length states - (k + 1)) ≡ Some state → slice_get counts k ≡ Some c → c ≡ live_counts state.arena.space

pub counted_none : (states : List Facts) (counts : List (Option Counts)) → counts ≡ [] → CountedTo states counts
counted_none states counts none k state c at here = absurd (let low = slice_get_within counts k c here in let long = ap length none in omega (arith, low, long))

pub counted_more : (states : List Facts) (counts : List (Option Counts)) (state : Facts) → slice_get states (length states - (length counts + 1)) ≡ Some state → CountedTo states counts → CountedTo states (counts ++ live_counts state.arena.space ∷ [])
counted_more states counts state is to k s c at here =
    elim (get_more counts (live_counts state.arena.space) k c here) [
      | inl last ↦ sym last.1 ∙ ap (λ (x : Facts). live_counts x.arena.space) (same_element state s (sym is ∙ ap (λ n. slice_get states (length states - (n + 1))) (sym last.0) ∙ at))
      | inr inside ↦ to k s c at inside
    ]

-- lists of which each element is the other's are one
pub counts_are : (journals : List Journal) (counts : List (Option Counts)) → length counts ≡ length journals → ((i : ℕ) (j : Journal) (c : Option Counts) → slice_get journals i ≡ Some j → slice_get counts i ≡ Some c → c ≡ counts_left j) → counts ≡ map counts_left journals
counts_are [] [] count each = refl
counts_are [] (c ∷ cs) count each = absurd (omega (arith, count))
counts_are (j ∷ js) [] count each = absurd (omega (arith, count))
counts_are (j ∷ js) (c ∷ cs) count each = λ i. each 0 j c refl refl i ∷ counts_are js cs (omega (arith, count)) (λ k j c at here. each (suc k) j c at here) i
