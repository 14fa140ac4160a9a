-- The rule of the chunk words: a word is an arena's number and one where that arena owns the chunk, and else 0.
use Rattle.std.specs.Prelude.{ℕ, ◌≡◌, ◌==◌, ◌+◌, ◌≤◌, ◌&&◌, Bool, List, [], length, map, slice_index, if◌then◌else◌, nat_lt, nat_le}
use Rattle.std.specs.List.{All, list_any, count_by, sum_by, range_with_len}
use mathlib.Core.Option.{some}
use lib.ListN.{get_elem?}
use Rattle.atomic_table.specs.Table.{State}
use Rattle.chunk_table.specs.declared.view.Share.{Share}
use Rattle.chunk_table.specs.declared.view.View.{View}

-- the word of the chunks that an arena owns
abbrev pub mark : Share → ℕ
mark s = s.number + 1

-- whether the arena owns a chunk
abbrev pub owns : ℕ → Share → Bool
owns chunk s = list_any (λ c. c == chunk) s.owned

-- how many shares of a view have a mark
abbrev pub marked : ℕ → View → ℕ
marked w v = count_by (λ s. mark s == w) v.shares

-- the share of an arena that has claimed nothing
abbrev pub blank : ℕ → ℕ → Share
blank arenas n = record { number = n; arenas = arenas; owned = []; taken = []; looks = [] }

-- the shares of all arenas, none of which has claimed anything
abbrev pub blanks : ℕ → List Share
blanks arenas = map (blank arenas) (range_with_len 0 arenas)

-- the view of the first seat
abbrev pub opening_view : ℕ → View
opening_view arenas = record { shares = blanks arenas }

-- an arena owns just the chunks whose word is its mark
pub record Agrees (arenas : ℕ) (words : List ℕ) (s : Share) : Type 0 where
  pub of : s.arenas ≡ arenas
  pub owner : (chunk : ℕ) → owns chunk s ≡ (slice_index words chunk == mark s)

-- what the words say is what the seats own, and each arena has one seat
pub record Rule {S : Type 0} (arenas : ℕ) (s : State S View) : Type 0 where
  pub size : length s.words ≡ 1048576
  pub agrees : (j : ℕ) (v : View) → get_elem? s.views j ≡ some v → All (Agrees arenas s.words) v.shares
  pub once : (w : ℕ) → sum_by (marked w) s.views ≡ (if nat_lt 0 w && nat_le w arenas then 1 else 0)
  pub named : (chunk : ℕ) → slice_index s.words chunk ≤ arenas
