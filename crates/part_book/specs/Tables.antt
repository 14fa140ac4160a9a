-- The indexes of a table, and what they keep of its extents.
use Rattle.std.specs.Prelude.{◌≡◌, ◌≢◌, ◌==◌, ℕ, ◌+◌, ◌-◌, ◌/◌, ◌^◌, ◌<◌, ◌≤◌, true, not, List, [], ◌∷◌, ◌++◌, map, filter, find, IsSome, IfSome, cond, nat_lt, length, count_by, option_map, Some, sum_by, vec_len, vec_capacity, All, Contains}
use Rattle.std.specs.FinMap as map_of
use Rattle.std.specs.FinSet as set
use Rattle.space_model.specs.declared.parts.Part.{Part}
use Rattle.space_model.specs.declared.parts.Rest.{Rest}
use Rattle.space_model.specs.Span.{IsPlaced, end_of}
use Rattle.space_model.specs.Part.{begins_at, is_active}
use Rattle.space_model.specs.Sound.{is_in_flight}
use Rattle.ordered_set.specs.declared.key.Key.{Key}
use Rattle.page_map.specs.Pages.{Pages}
use Rattle.part_book.specs.declared.table.AgeList.{AgeList}
use Rattle.part_book.specs.declared.table.PageSums.{PageSums}
use Rattle.part_book.specs.declared.table.Table.{Table}
use Rattle.part_book.specs.Lists.{CanList, GainsPages, GainsRow, LosesRow}
use Rattle.part_book.specs.Rows.{Row, IsApart, IsKeyed, first_key, flights_in, is_edge, keys_with, keys_without, listed_in, numbers_of, pages_of_rows, part_at, row_at, size_key}
use Rattle.space_model.specs.declared.Rest.TheVariants as rests

-- the extents with their numbers, in their order
unfoldable pub rows_of : Table → List Row
rows_of t = map (row_at t.slots.items) t.order.numbers

-- the extents, in their order
abbrev pub parts_of : Table → List Part
parts_of t = map (λ row. row.part) (rows_of t)

-- the list has the extents of the rest, and places for all numbers
pub record IsListOf (rest : Rest) (list : AgeList) (slots : ℕ) (rows : List Row) : Type 0 where
  pub numbers : list.ages.numbers ≡ numbers_of (listed_in rest rows)
  pub pages : list.pages ≡ pages_of_rows rest rows
  pub places : slots ≤ list.ages.places

-- the sums are those of the extents
pub record ArePagesOf (sums : PageSums) (rows : List Row) : Type 0 where
  pub all : sums.all ≡ sum_by (λ row. row.part.span.pages) rows
  pub active : sums.active ≡ sum_by (λ row. cond (is_active row.part.state) row.part.span.pages 0) rows

-- the lists of a table, the sums of its pages, and the keys of its unused extents
pub record Lists : Type 0 where
  pub dirty : AgeList
  pub muzzy : AgeList
  pub retained : AgeList
  pub flights : List ℕ
  pub sums : PageSums
  pub sizes : List Key

abbrev pub lists_of : Table → Lists
lists_of t = record { dirty = t.dirty; muzzy = t.muzzy; retained = t.retained; flights = t.flights.items; sums = t.sums; sizes = t.sizes.keys }

-- the lists have what they shall have of the extents, and places for so many numbers
pub record HaveRows (l : Lists) (slots : ℕ) (rows : List Row) : Type 0 where
  pub dirty : IsListOf rests.Dirty l.dirty slots rows
  pub muzzy : IsListOf rests.Muzzy l.muzzy slots rows
  pub retained : IsListOf rests.Retained l.retained slots rows
  pub flights : l.flights ≡ flights_in rows
  pub sums : ArePagesOf l.sums rows
  pub sizes : IsKeyed size_key rows l.sizes

-- the first and the last page of each extent have its number, and lie in chunks that have leaves
pub record HasEdges (edges : Pages) (rows : List Row) : Type 0 where
  pub numbers : (page : ℕ) → map_of.get edges.numbers page ≡ option_map (λ row. row.number) (find (λ row. is_edge page row.part) rows)
  pub leaves : All (λ row. (set.contains edges.chunks (row.part.span.first / 512) ≡ true) × (set.contains edges.chunks ((end_of row.part.span - 1) / 512) ≡ true)) rows

-- each index has what it shall have of the extents
pub record IsIndexed (t : Table) (rows : List Row) : Type 0 where
  pub apart : IsApart (map (λ row. row.part) rows)
  pub order : t.order.numbers ≡ numbers_of rows
  pub places : vec_len t.slots ≤ t.order.places
  pub lists : HaveRows (lists_of t) (vec_len t.slots) rows
  pub firsts : IsKeyed first_key rows t.firsts.keys
  pub edges : HasEdges t.edges rows
  pub slots : All (λ row. part_at t.slots.items row.number ≡ row.part) rows

-- each slot is free or has one extent
pub record IsSlotted (t : Table) (rows : List Row) : Type 0 where
  pub free : (number : ℕ) → count_by (λ n. n == number) t.free.items + count_by (λ row. row.number == number) rows ≡ cond (nat_lt number (vec_len t.slots)) 1 0
  pub places : vec_len t.free + length rows ≡ vec_len t.slots
  pub small : vec_len t.slots < 2 ^ 32
  pub room : vec_len t.slots ≤ vec_capacity t.free

-- the indexes and the slots keep the extents
pub record IsRowTable (t : Table) (rows : List Row) : Type 0 where
  pub indexes : IsIndexed t rows
  pub slots : IsSlotted t rows

-- so many more extents have a place in the lists, whatever their states
pub record HasListRoom (t : Table) (more : ℕ) : Type 0 where
  pub sizes : length t.order.numbers + more ≤ length t.dirty.ages.numbers + length t.muzzy.ages.numbers + length t.retained.ages.numbers + t.sizes.spare
  pub flights : length t.order.numbers + more ≤ vec_capacity t.flights

-- so many more extents have a place in each index, whatever their states
pub record HasRoomFor (t : Table) (more : ℕ) : Type 0 where
  pub firsts : more ≤ t.firsts.spare
  pub free : more ≤ vec_len t.free
  pub lists : HasListRoom t more

-- the table is in order, and its extents are these
pub record KeepsExtents (t : Table) (extents : List Part) : Type 0 where
  pub table : IsRowTable t (rows_of t)
  pub parts : parts_of t ≡ extents

-- ---- the lists

-- the lists lose the extent
pub record LosesLists (l k : Lists) (row : Row) : Type 0 where
  pub dirty : LosesRow rests.Dirty l.dirty k.dirty row
  pub muzzy : LosesRow rests.Muzzy l.muzzy k.muzzy row
  pub retained : LosesRow rests.Retained l.retained k.retained row
  pub flights : k.flights ≡ cond (is_in_flight row.part.state) (filter (λ n. not (n == row.number)) l.flights) l.flights
  pub sums : GainsPages k.sums l.sums row.part
  pub sizes : k.sizes ≡ keys_without l.sizes (size_key row)

-- the lists gain the extent
pub record GainsLists (l k : Lists) (row : Row) : Type 0 where
  pub dirty : GainsRow rests.Dirty l.dirty k.dirty row
  pub muzzy : GainsRow rests.Muzzy l.muzzy k.muzzy row
  pub retained : GainsRow rests.Retained l.retained k.retained row
  pub flights : k.flights ≡ l.flights ++ cond (is_in_flight row.part.state) (row.number ∷ []) []
  pub sums : GainsPages l.sums k.sums row.part
  pub sizes : k.sizes ≡ keys_with l.sizes (size_key row)

-- the indexes but the lists and the order are as they were
pub record KeepsOthers (t u : Table) : Type 0 where
  pub firsts : u.firsts ≡ t.firsts
  pub edges : u.edges ≡ t.edges
  pub slots : u.slots ≡ t.slots
  pub free : u.free ≡ t.free

-- the lists of its state have a place for an extent that they lack
pub record CanEnter (t : Table) (row : Row) : Type 0 where
  pub placed : IsPlaced row.part.span
  pub dirty : CanList t.dirty row
  pub muzzy : CanList t.muzzy row
  pub retained : CanList t.retained row
  pub sizes : IsSome (size_key row) → 0 < t.sizes.spare
  pub absent : IfSome (size_key row) (λ k. ¬ Contains t.sizes.keys k)
  pub flights : vec_len t.flights < vec_capacity t.flights
  pub within : t.sums.active ≤ t.sums.all
  pub fits : t.sums.all + row.part.span.pages < 2 ^ 64

-- and so has the order
pub record CanLower (t : Table) (row : Row) : Type 0 where
  pub place : row.number < t.order.places
  pub new_number : All (λ n. n ≢ row.number) t.order.numbers
  pub lists : CanEnter t row
