-- Spans of pages, and the space of pages that there is.
use Rattle.std.specs.Prelude.{ℕ, ◌+◌, ◌*◌, ◌/◌, ◌-◌, ◌<◌, ◌≤◌, Bool, ◌==◌, ◌&&◌, nat_le, nat_lt, List}
use Rattle.std.specs.List.{range_with_len}
use Rattle.space_model.specs.Types.{Span}

-- The first page past all pages: the bound of the space is named here alone, and 512 is its first page.
abbrev pub pages_end : ℕ
pages_end = 536870912

-- the most chunks of a growth that no request needs
abbrev pub max_series : ℕ
max_series = 16384

-- the page after the span's last one
abbrev pub end_of : Span → ℕ
end_of s = s.first + s.pages

-- whether the span has the page
abbrev pub has_page : ℕ → Span → Bool
has_page page s = nat_le s.first page && nat_lt page (end_of s)

-- the span isn't empty, and each of its pages is in the space
abbrev pub IsPlaced : Span → Type 0
IsPlaced s = (0 < s.pages) × (512 ≤ s.first) × (end_of s ≤ pages_end)

-- whether two spans are the same
abbrev pub same_span : Span → Span → Bool
same_span s t = s.first == t.first && s.pages == t.pages

-- whether two spans share a page
abbrev pub meets : Span → Span → Bool
meets s t = nat_lt s.first (end_of t) && nat_lt t.first (end_of s)

-- the chunk with this number: 512 pages from a multiple of 512 on
abbrev pub chunk_span : ℕ → Span
chunk_span chunk = record { first = 512 * chunk; pages = 512 }

-- the numbers of the chunks that a span meets, in rising order
abbrev pub chunks_of : Span → List ℕ
chunks_of s = let low = s.first / 512 in range_with_len low ((end_of s + 511) / 512 - low)

-- how many chunks the pages of a span fill, the last one perhaps not wholly
abbrev pub chunks_in : Span → ℕ
chunks_in s = (s.pages + 511) / 512

-- the first page at or above the span's start that is a multiple of the alignment
abbrev pub run_start : ℕ → Span → ℕ
run_start align s = (s.first + (align - 1)) / align * align

-- whether the span holds so many pages from a multiple of the alignment on
abbrev pub holds_run : ℕ → ℕ → Span → Bool
holds_run pages align s = nat_le (run_start align s + pages) (end_of s)
