-- How many leaves of a page map are enough.
use Rattle.std.specs.Prelude.{◌≡◌, ℕ, ◌+◌, ◌-◌, ◌/◌, ◌≤◌, true, min, not, cond, count_by}
use Rattle.std.specs.List.{range_with_len}
use Rattle.std.specs.Ordering.{nat_cmp}
use Rattle.std.specs.FinSet as set
use Rattle.space_model.specs.declared.parts.Span.{Span}
use Rattle.space_model.specs.Span.{end_of}
use Rattle.page_map.specs.Pages.{Pages}
use Rattle.page_map.specs.declared.table.TheConstants.{LEAVES}

-- how many chunks have no leaf
unfoldable pub missing : set.FinSet nat_cmp → ℕ
missing chunks = count_by (λ chunk. not (set.contains chunks chunk)) (range_with_len 0 LEAVES)

-- the spare leaves are so many, or as many as chunks have none
abbrev pub HasLeaves : Pages → ℕ → Type 0
HasLeaves pages count = min count (missing pages.chunks) ≤ pages.spare

-- how many leaves it takes at most to give the first and the last page of a span a number
abbrev pub leaves_for : Pages → Span → ℕ
leaves_for pages s =
    cond (set.contains pages.chunks (s.first / 512)) 0 1 + cond (set.contains pages.chunks ((end_of s - 1) / 512)) 0 1

-- chunks keep their leaves, and those of the first and the last page of a span have one
pub record HasMore (old new : set.FinSet nat_cmp) (s : Span) : Type 0 where
  pub kept : (chunk : ℕ) → set.contains old chunk ≡ true → set.contains new chunk ≡ true
  pub first : set.contains new (s.first / 512) ≡ true
  pub last : set.contains new ((end_of s - 1) / 512) ≡ true
