-- What callers see of a book of extents.
use Rattle.std.specs.Prelude.{◌≡◌, ℕ, ◌<◌, ◌≤◌, Option, None, Some, find, Bool, true, false, ◌==◌, List, filter, sum_by, All, Contains, if◌then◌else◌}
use Rattle.space_model.specs.declared.parts.Part.{Part}
use Rattle.space_model.specs.declared.parts.Rest.{Rest}
use Rattle.space_model.specs.declared.parts.Span.{Span}
use Rattle.space_model.specs.Span.{end_of}
use Rattle.space_model.specs.Part.{begins_at, is_active, is_listed}

-- the extents, in the order in which each took its present span, state and commit state, and the places left
pub record Book : Type 0 where
  pub parts : List Part
  pub spare : ℕ

-- whether the extent ends before the page
abbrev pub ends_at : ℕ → Part → Bool
ends_at page p = end_of p.span == page

-- whether the extent begins where the span ends (on the right), or ends where it begins (on the left)
abbrev pub is_beside : Span → Bool → Part → Bool
is_beside s true p = begins_at (end_of s) p
is_beside s false p = ends_at s.first p

-- the pages of the extents that are listed among those of a rest
abbrev pub pages_of : Rest → List Part → ℕ
pages_of rest parts = sum_by (λ p. p.span.pages) (filter (λ p. is_listed rest p.state) parts)

-- the pages of the extents
abbrev pub all_pages : List Part → ℕ
all_pages parts = sum_by (λ p. p.span.pages) parts

-- the pages of those that serve regions
abbrev pub active_pages : List Part → ℕ
active_pages parts = sum_by (λ p. if is_active p.state then p.span.pages else 0) parts

-- the extent is the first one that begins at the page or behind it
pub record IsFirstFrom (page : ℕ) (parts : List Part) (p : Part) : Type 0 where
  pub listed : Contains parts p
  pub from : page ≤ p.span.first
  pub first : All (λ q. page ≤ q.span.first → p.span.first ≤ q.span.first) parts

-- the second extent begins where the first one ends
abbrev pub AreBeside : Part → Part → Type 0
AreBeside p q = end_of p.span ≡ q.span.first

-- the extent is the first one that begins where it does
abbrev pub IsThere : List Part → Part → Type 0
IsThere parts p = find (begins_at p.span.first) parts ≡ Some p

-- a book has the extent and a place for another, and there are pages in front of and behind the first so many of it
pub record CanCut (b : Book) (p : Part) (left : ℕ) : Type 0 where
  pub there : IsThere b.parts p
  pub room : 0 < b.spare
  pub some : 0 < left
  pub fewer : left < p.span.pages

-- what was found, if it passes a test
abbrev pub found_if : (Part → Bool) → Option Part → Option Part
found_if test None = None
found_if test (Some p) = if test p then Some p else None
