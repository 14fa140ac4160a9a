-- Which slab has a page.
use Rattle.std.specs.Prelude.{◌≡◌, ℕ, ◌+◌, ◌<◌, ◌≤◌, List, slice_index_or, vec_len}
use Rattle.bin_book.specs.declared.chart.Chart.{Chart}

-- the first page that stands at a number
abbrev pub first_at : List ℕ → ℕ → ℕ
first_at firsts number = slice_index_or firsts number 0

-- the page is one of so many from the first one on
abbrev pub HasPage : ℕ → ℕ → ℕ → Type 0
HasPage first pages page = (first ≤ page) × (page < first + pages)

-- the chart has the same numbers and first pages, and no fewer places for these
pub record Grows (old new : Chart) : Type 0 where
  pub numbers : new.pages.numbers ≡ old.pages.numbers
  pub firsts : (number : ℕ) → number < vec_len old.firsts → first_at new.firsts.items number ≡ first_at old.firsts.items number
  pub places : vec_len old.firsts ≤ vec_len new.firsts
