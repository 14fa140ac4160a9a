-- The extents of a table with their numbers.
use Rattle.std.specs.Prelude.{◌≡◌, ℕ, ◌+◌, ◌-◌, ◌*◌, ◌/◌, ◌%◌, ◌^◌, ◌<◌, ◌≤◌, Bool, false, ◌||◌, true, List, map, filter, slice_index_or, Option, Some, None, option_map, sum_by, All, Contains}
use Rattle.std.specs.Ordering.{nat_cmp}
use Rattle.std.specs.FinMap as map_of
use Rattle.std.specs.FinSet as set
use Rattle.space_model.specs.declared.parts.Part.{Part}
use Rattle.space_model.specs.declared.parts.Rest.{Rest}
use Rattle.space_model.specs.declared.parts.Span.{Span}
use Rattle.space_model.specs.declared.parts.State.{State}
use Rattle.space_model.specs.declared.parts.State.TheVariants.{Active, Dirty, Muzzy, Retained, Flight}
use Rattle.space_model.specs.Span.{IsPlaced, end_of}
use Rattle.space_model.specs.Part.{begins_at, holders, is_listed}
use Rattle.space_model.specs.Sound.{is_in_flight}
use Rattle.ordered_set.specs.declared.key.Key.{Key}
use Rattle.ordered_set.specs.Keys.{with_key, without_key}
use Rattle.page_map.specs.Pages.{Pages}
use Rattle.part_book.specs.Books.{ends_at}
use Rattle.space_model.specs.declared.Rest.TheVariants as rests

-- an extent with its number
pub record Row : Type 0 where
  pub number : ℕ
  pub part : Part

-- what stands in a slot that has no extent
abbrev pub no_part : Part
no_part = record { span = record { first = 0; pages = 0 }; state = Active; committed = false }

-- the extent in a slot
abbrev pub part_at : List Part → ℕ → Part
part_at slots number = slice_index_or slots number no_part

-- a number with the extent in its slot
abbrev pub row_at : List Part → ℕ → Row
row_at slots number = record { number = number; part = part_at slots number }

-- whether the page is the first or the last one of the extent
abbrev pub is_edge : ℕ → Part → Bool
is_edge page p = begins_at page p || ends_at (page + 1) p

-- the extents that are listed among those of a rest
abbrev pub listed_in : Rest → List Row → List Row
listed_in rest rows = filter (λ row. is_listed rest row.part.state) rows

-- their pages together
abbrev pub pages_of_rows : Rest → List Row → ℕ
pages_of_rows rest rows = sum_by (λ row. row.part.span.pages) (listed_in rest rows)

-- the numbers of some extents
abbrev pub numbers_of : List Row → List ℕ
numbers_of rows = map (λ row. row.number) rows

-- the numbers of the extents in flight
abbrev pub flights_in : List Row → List ℕ
flights_in rows = numbers_of (filter (λ row. is_in_flight row.part.state) rows)

-- each extent lies in the space, and no page is in two
pub record IsApart (parts : List Part) : Type 0 where
  pub placed : All (λ p. IsPlaced p.span) parts
  pub owners : (page : ℕ) → holders page parts ≤ 1

-- the extent is the last one that begins below the page
pub record IsLastBelow (page : ℕ) (parts : List Part) (p : Part) : Type 0 where
  pub listed : Contains parts p
  pub below : p.span.first < page
  pub last : All (λ q. q.span.first < page → q.span.first ≤ p.span.first) parts

-- two extents that lie in the space have just the pages of one, of which the low one has the first
pub record ArePieces (p a b : Part) : Type 0 where
  pub low : IsPlaced a.span
  pub high : IsPlaced b.span
  pub first : a.span.first ≡ p.span.first
  pub beside : end_of a.span ≡ b.span.first
  pub last : end_of b.span ≡ end_of p.span

-- ---- the keys

-- the key of an extent among the first pages
abbrev pub first_key : Row → Option Key
first_key row = Some (record { major = row.part.span.first; minor = row.number })

-- where the extents of a rest stand among the unused ones
abbrev pub rank : Rest → ℕ
rank rests.Dirty = 0
rank rests.Muzzy = 1
rank rests.Retained = 2

-- where an extent in a state stands, if it is unused
abbrev pub rank_of : State → Option ℕ
rank_of Active = None
rank_of Dirty = Some 0
rank_of Muzzy = Some 1
rank_of Retained = Some 2
rank_of (Flight client rest) = None

-- the key of an unused extent: by its rest, its pages and its first page, with its number
abbrev pub ranked_key : Row → ℕ → Key
ranked_key row r = record { major = r * 2 ^ 32 + row.part.span.pages; minor = row.part.span.first * 2 ^ 32 + row.number }

abbrev pub size_key : Row → Option Key
size_key row = option_map (ranked_key row) (rank_of row.part.state)

-- the pages of the extent with such a key
abbrev pub key_span : Key → Span
key_span key = record { first = key.minor / 2 ^ 32; pages = key.major % 2 ^ 32 }

-- the keys are those of the extents that have one
pub record IsKeyed (key_of : Row → Option Key) (rows : List Row) (keys : List Key) : Type 0 where
  pub has : (row : Row) (key : Key) → Contains rows row → key_of row ≡ Some key → Contains keys key
  pub from : (key : Key) → Contains keys key → (row : Row) × Contains rows row × (key_of row ≡ Some key)

-- the keys with one more, or with one less, if there is one
abbrev pub keys_with : List Key → Option Key → List Key
keys_with keys None = keys
keys_with keys (Some key) = with_key keys key

abbrev pub keys_without : List Key → Option Key → List Key
keys_without keys None = keys
keys_without keys (Some key) = without_key keys key

-- ---- the first and the last pages

-- a map with a number for the first and the last page of a span, and one without
abbrev pub with_edges : map_of.FinMap nat_cmp ℕ → Span → ℕ → map_of.FinMap nat_cmp ℕ
with_edges m s number = map_of.insert (map_of.insert m s.first number) (end_of s - 1) number

abbrev pub without_edges : map_of.FinMap nat_cmp ℕ → Span → map_of.FinMap nat_cmp ℕ
without_edges m s = map_of.remove (map_of.remove m s.first) (end_of s - 1)

-- the first and the last page of a span have the number, and their chunks have leaves
pub record Own (pages : Pages) (s : Span) (number : ℕ) : Type 0 where
  pub first : map_of.get pages.numbers s.first ≡ Some number
  pub last : map_of.get pages.numbers (end_of s - 1) ≡ Some number
  pub first_leaf : set.contains pages.chunks (s.first / 512) ≡ true
  pub last_leaf : set.contains pages.chunks ((end_of s - 1) / 512) ≡ true
