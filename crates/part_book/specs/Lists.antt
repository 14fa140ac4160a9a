-- The list of a rest, when an extent is listed or taken off.
use Rattle.std.specs.Prelude.{◌≡◌, ◌≢◌, ◌==◌, ◌+◌, ◌^◌, ◌<◌, ◌≤◌, [], ◌∷◌, ◌++◌, not, cond, filter, length, count_by, All, Contains, IsTrue}
use Rattle.space_model.specs.declared.parts.Rest.{Rest}
use Rattle.space_model.specs.declared.parts.Part.{Part}
use Rattle.space_model.specs.Part.{is_active, is_listed}
use Rattle.age_ring.specs.Ages.{Ages}
use Rattle.part_book.specs.declared.table.AgeList.{AgeList}
use Rattle.part_book.specs.declared.table.PageSums.{PageSums}
use Rattle.part_book.specs.Rows.{Row}

-- the list has a place for the extent's number, which it has not, and its pages can be counted
pub record CanList (list : AgeList) (row : Row) : Type 0 where
  pub place : row.number < list.ages.places
  pub new_number : All (λ n. n ≢ row.number) list.ages.numbers
  pub fits : list.pages + row.part.span.pages < 2 ^ 64

-- the extent is in the list if its state is that of the list, and its number is there once
pub record CanUnlist (rest : Rest) (list : AgeList) (row : Row) : Type 0 where
  pub listed : IsTrue (is_listed rest row.part.state) → Contains list.ages.numbers row.number
  pub pages : IsTrue (is_listed rest row.part.state) → row.part.span.pages ≤ list.pages
  pub once : count_by (λ n. n == row.number) list.ages.numbers ≤ 1

-- the list gains the extent if its state is that of the list
pub record GainsRow (rest : Rest) (old new : AgeList) (row : Row) : Type 0 where
  pub numbers : new.ages.numbers ≡ old.ages.numbers ++ cond (is_listed rest row.part.state) (row.number ∷ []) []
  pub pages : new.pages ≡ old.pages + cond (is_listed rest row.part.state) row.part.span.pages 0
  pub places : new.ages.places ≡ old.ages.places

-- the list loses the extent if its state is that of the list
pub record LosesRow (rest : Rest) (old new : AgeList) (row : Row) : Type 0 where
  pub numbers : new.ages.numbers ≡ cond (is_listed rest row.part.state) (filter (λ n. not (n == row.number)) old.ages.numbers) old.ages.numbers
  pub pages : new.pages + cond (is_listed rest row.part.state) row.part.span.pages 0 ≡ old.pages
  pub places : new.ages.places ≡ old.ages.places
  pub len : length old.ages.numbers ≤ length new.ages.numbers + cond (is_listed rest row.part.state) 1 0

-- the sums gain the pages of the extent, the second one if it serves regions
pub record GainsPages (old new : PageSums) (p : Part) : Type 0 where
  pub all : new.all ≡ old.all + p.span.pages
  pub active : new.active ≡ old.active + cond (is_active p.state) p.span.pages 0

-- the ring has the same numbers and no fewer places
pub record AgesGrow (old new : Ages) : Type 0 where
  pub numbers : new.numbers ≡ old.numbers
  pub places : old.places ≤ new.places
