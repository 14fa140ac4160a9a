-- What each step on a chunk's word tells.
use Rattle.std.specs.Prelude.{ℕ, ◌≡◌, ◌==◌, ◌≤◌, List, [], ◌∷◌, ◌++◌, take, drop, filter, not, if◌then◌else◌}
use Rattle.std.specs.List.{All, count_by}
use Rattle.atomic_table.specs.Table.{Me, Step}
use Rattle.chunk_table.specs.declared.view.Share.{Share}
use Rattle.chunk_table.specs.declared.view.View.{View}
use Rattle.chunk_table.specs.Rule.{mark, owns, blank}

-- the arena owns one more chunk
abbrev pub with_owned : ℕ → Share → Share
with_owned chunk s = record { number = s.number; arenas = s.arenas; owned = s.owned ++ chunk ∷ []; taken = s.taken; looks = s.looks }

-- the arena no longer owns a chunk
abbrev pub with_freed : ℕ → Share → Share
with_freed chunk s = record { number = s.number; arenas = s.arenas; owned = filter (λ c. not (c == chunk)) s.owned; taken = s.taken; looks = s.looks }

-- the arena failed to claim a chunk, which another has
abbrev pub with_taken : ℕ → ℕ → Share → Share
with_taken chunk owner s = record { number = s.number; arenas = s.arenas; owned = s.owned; taken = s.taken ++ record { chunk = chunk; owner = owner } ∷ []; looks = s.looks }

-- the arena looked at a chunk
abbrev pub with_looked : ℕ → ℕ → Share → Share
with_looked chunk word s = record { number = s.number; arenas = s.arenas; owned = s.owned; taken = s.taken; looks = s.looks ++ record { chunk = chunk; word = word } ∷ [] }

-- the share after a claim that found a word
abbrev pub after_claim : ℕ → ℕ → Share → Share
after_claim chunk found s = if found == 0 then with_owned chunk s else with_taken chunk found s

-- the view of a seat that stands for one arena
abbrev pub alone : Share → View
alone s = record { shares = s ∷ [] }

-- the first of some shares
abbrev pub first_of : List Share → Share
first_of [] = blank 0 0
first_of (s ∷ ss) = s

-- what a word tells of the arenas: it names none but those there are, and who owns the chunk
abbrev pub Shows : ℕ → ℕ → Share → Type 0
Shows chunk found s = (found ≤ s.arenas) × (owns chunk s ≡ (found == mark s))

module _ {S : Type 0} where
  -- the chunk was free and is the arena's, or the word was noted
  abbrev pub claimed : Step S → Me S View → ℕ → Me S View → Type 0
  claimed st m found n = (n ≡ (alone (after_claim st.word found (first_of m.0.shares)), m.1)) × Shows st.word found (first_of m.0.shares)

  -- the chunk is free
  abbrev pub freed : Step S → Me S View → ℕ → Me S View → Type 0
  freed st m found n = n ≡ (alone (with_freed st.word (first_of m.0.shares)), m.1)

  -- the word that was read is noted
  abbrev pub noticed : Step S → Me S View → ℕ → Me S View → Type 0
  noticed st m found n = (n ≡ (alone (with_looked st.word found (first_of m.0.shares)), m.1)) × Shows st.word found (first_of m.0.shares)

  -- nothing changed, each share agrees with the word, and no chunk is owned by two of them
  abbrev pub looked : Step S → Me S View → ℕ → Me S View → Type 0
  looked st m found n = (n ≡ m) × All (Shows st.word found) m.0.shares × ((chunk : ℕ) → count_by (owns chunk) m.0.shares ≤ 1)

-- the first share alone
abbrev pub first_part : View → View
first_part v = record { shares = take 1 v.shares }

-- the shares after the first
abbrev pub later_part : View → View
later_part v = record { shares = drop 1 v.shares }

-- the shares of both, those of the second first
abbrev pub both_views : View → View → View
both_views v w = record { shares = w.shares ++ v.shares }

-- a view that was joined to another has no share
abbrev pub spent : View
spent = record { shares = [] }
