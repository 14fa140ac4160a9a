-- A table of two levels: a root with a place for each chunk, and leaves, one behind another, with a place for each page of a chunk.
use Rattle.std.specs.Prelude.{◌≡◌, ℕ, ◌+◌, ◌*◌, ◌/◌, ◌%◌, ◌≤◌, Bool, false, if◌then◌else◌, Option, Some, None, List, length, slice_index_or, count_by, is_some, option_map, option_and_then}
use Rattle.std.specs.List.{filter, filter_map, range_with_len}
use Rattle.std.specs.Ordering.{nat_cmp}
use Rattle.std.specs.FinMap as map
use Rattle.std.specs.FinSet as set
use Rattle.page_map.specs.Pages.{Pages}
use Rattle.page_map.specs.declared.table.TheConstants.{CHUNK_PAGES}

-- which leaf a chunk has
abbrev pub leaf_of : List (Option ℕ) → ℕ → Option ℕ
leaf_of root chunk = slice_index_or root chunk None

-- what stands at a place of the leaves: its number, where that is present
abbrev pub number_at : List Bool → List ℕ → ℕ → Option ℕ
number_at present numbers place = if slice_index_or present place false then Some (slice_index_or numbers place 0) else None

-- the number of a page, by what stands at each place of the leaves
abbrev pub number_of : List (Option ℕ) → (ℕ → Option ℕ) → ℕ → Option ℕ
number_of root at page = option_and_then (λ leaf. at (leaf * CHUNK_PAGES + page % CHUNK_PAGES)) (leaf_of root (page / CHUNK_PAGES))

-- the numbers of all pages
unfoldable pub numbers_in : List (Option ℕ) → (ℕ → Option ℕ) → map.FinMap nat_cmp ℕ
numbers_in root at =
    map.from_entries (filter_map (λ page. option_map (λ number. (page, number)) (number_of root at page)) (range_with_len 0 (CHUNK_PAGES * length root)))

-- the chunks that have a leaf
unfoldable pub chunks_with_leaf : List (Option ℕ) → set.FinSet nat_cmp
chunks_with_leaf root = set.from_list (filter (λ chunk. is_some (leaf_of root chunk)) (range_with_len 0 (length root)))

-- what a table holds, with so many spare leaves
abbrev pub pages_in : List (Option ℕ) → (ℕ → Option ℕ) → ℕ → Pages
pages_in root at spare = record {
  numbers = numbers_in root at;
  chunks = chunks_with_leaf root;
  spare = spare;
}

-- each chunk that has a leaf has one of its own, among so many places
pub record IsTable (root : List (Option ℕ)) (places : ℕ) : Type 0 where
  pub filled : places ≡ CHUNK_PAGES * count_by is_some root
  pub taken : (chunk leaf : ℕ) → leaf_of root chunk ≡ Some leaf → leaf * CHUNK_PAGES + CHUNK_PAGES ≤ places
  pub apart : (chunk other leaf : ℕ) → leaf_of root chunk ≡ Some leaf → leaf_of root other ≡ Some leaf → chunk ≡ other
