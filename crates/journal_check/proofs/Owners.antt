-- Who owns a chunk.
use Rattle.std.proofs.Common.{◌≡◌, ◌∙◌, ℕ, ◌+◌, ◌<◌, ◌≤◌, ◌⊎◌, inl, inr, Bool, true, false, List, length, get_or, max, min, Option, None, Some, refl, sym, ap, subst, arith}
use Rattle.std.proofs.lemmas.Bool.{cases_lt}
use Rattle.std.proofs.lemmas.List.{get_or_default, get_or_past}
use Rattle.arena_core.specs.Chunks.{HasNoChunkFrom, IsNextChunk}
use Rattle.journal_check.specs.Apart.{AreApart, AreFirstTwo, AreLowest, HasOneOwner, IsLowSoFar, IsNextOwned, last_chunk, owns, owns_at}
use Rattle.journal_check.specs.Logs.{Logged, unlogged}

-- nothing past the last arena owns a chunk
owns_past : (log : List Logged) (chunk i : ℕ) → length log ≤ i → owns_at chunk log i ≡ false
unfolding unlogged
owns_past log chunk i past = rw (get_or_past log i (unlogged 32) past) refl

-- so an owner is one of the arenas
pub owner_within : (log : List Logged) (chunk i : ℕ) → owns_at chunk log i ≡ true → i < length log
owner_within log chunk i is = elim (cases_lt i (length log)) [ inl lt ↦ lt | inr past ↦ absurd (not_both (owns_at chunk log i) is (owns_past log chunk i past)) ]
  where
    not_both : (b : Bool) → b ≡ true → b ≡ false → ⊥
    not_both b is not = cc

-- what an arena owns that was read is what the one with its index owns
pub owns_read : (log : List Logged) (chunk i : ℕ) (read : Logged) (b : Bool) → i < length log → read ≡ get_or log i read → b ≡ owns chunk read → owns_at chunk log i ≡ b
owns_read log chunk i read b within is owned = ap (owns chunk) (get_or_default log i (unlogged 32) read within ∙ sym is) ∙ sym owned

-- an index below the next one is below this one, or is it
earlier : (i n : ℕ) → i < n + 1 → (i < n) ⊎ (i ≡ n)
earlier i n lt = elim (cases_lt i n) [ inl less ↦ inl less | inr more ↦ inr (omega (arith, more, lt)) ]

-- ---- the lowest owner

pub low_none : (log : List Logged) (chunk : ℕ) → IsLowSoFar log chunk 0 None
low_none log chunk i lt is = absurd (omega (arith, lt))

-- an arena that doesn't own the chunk changes nothing
pub low_skips : (log : List Logged) (chunk n : ℕ) (low : Option ℕ) → IsLowSoFar log chunk n low → owns_at chunk log n ≡ false → IsLowSoFar log chunk (n + 1) low
low_skips log chunk n None none free = λ i lt is.
    elim (earlier i n lt) [ inl less ↦ none i less is | inr same ↦ absurd (let not = subst (λ (j : ℕ). owns_at chunk log j ≡ true) same is in cc) ]
low_skips log chunk n (Some low) h free = (
  omega (arith, h.0),
  h.1,
  λ i lt is. elim (earlier i n lt) [ inl less ↦ h.2 i less is | inr same ↦ absurd (let not = subst (λ (j : ℕ). owns_at chunk log j ≡ true) same is in cc) ],
)

-- the first that does is the lowest
pub low_first : (log : List Logged) (chunk n : ℕ) → IsLowSoFar log chunk n None → owns_at chunk log n ≡ true → IsLowSoFar log chunk (n + 1) (Some n)
low_first log chunk n none own = (
  omega arith,
  own,
  λ i lt is. elim (earlier i n lt) [ inl less ↦ absurd (none i less is) | inr same ↦ same ],
)

-- and the next one makes two
pub low_second : (log : List Logged) (chunk n low : ℕ) → IsLowSoFar log chunk n (Some low) → owns_at chunk log n ≡ true → AreLowest log chunk low n
low_second log chunk n low h own = record {
  rise = h.0;
  owns_low = h.1;
  owns_high = own;
  lowest = λ i is. elim (cases_lt i n) [ inl less ↦ inl (h.2 i less is) | inr more ↦ inr more ];
}

-- where no second one was found, there is none
pub low_only : (log : List Logged) (chunk n : ℕ) (low : Option ℕ) → length log ≤ n → IsLowSoFar log chunk n low → HasOneOwner log chunk
low_only log chunk n None all none i j own own' = absurd (none i (omega (arith, owner_within log chunk i own)) own)
low_only log chunk n (Some low) all h i j own own' =
    h.2 i (omega (arith, owner_within log chunk i own)) own ∙ sym (h.2 j (omega (arith, owner_within log chunk j own')) own')

-- ---- the first two arenas that own chunks

-- what an arena owns from a chunk on begins with the next chunk that it owns, or past all chunks
pub next_is : (arena : Logged) (chunk next : ℕ) → IsNextChunk arena.space.parts chunk next → IsNextOwned arena chunk next
next_is arena chunk next is = record {
  above = is.above;
  first = λ other above last own. elim (cases_lt other next) [ inl less ↦ absurd (let free = is.first other above less in cc) | inr from ↦ from ];
}

pub next_none : (arena : Logged) (chunk next : ℕ) → HasNoChunkFrom arena.space.parts chunk → chunk ≤ next → IsNextOwned arena chunk next
next_none arena chunk next none below = record {
  above = below;
  first = λ other above last own. absurd (let free = none other above in cc);
}

pub two_begin : (log : List Logged) (chunk : ℕ) → chunk ≤ last_chunk → AreFirstTwo log chunk 0 (last_chunk + 1) (last_chunk + 1)
two_begin log chunk inside = record {
  above_least = omega (arith, inside);
  above_second = omega (arith, inside);
  none = λ other i above last lt own. absurd (omega (arith, lt));
  one = λ other i j above last below lt lt' own own'. absurd (omega (arith, lt));
}

-- one more arena
pub two_go : (log : List Logged) (chunk n least second next : ℕ) (read : Logged) → n < length log → read ≡ get_or log n read → IsNextOwned read chunk next
    → AreFirstTwo log chunk n least second → AreFirstTwo log chunk (n + 1) (min least next) (min second (max least next))
two_go log chunk n least second next read within is own two = record {
  above_least = omega (arith, two.above_least, own.above);
  above_second = omega (arith, two.above_least, two.above_second, own.above);
  none = λ other i above last lt owned. elim (earlier i n lt) [
    | inl less ↦ let le = two.none other i above last less owned in omega (arith, le)
    | inr same ↦ let le = from other above last (subst (λ (j : ℕ). owns_at other log j ≡ true) same owned) in omega (arith, le)
  ];
  one = λ other i j above last below lt lt' owned owned'. elim (earlier i n lt) [
    | inl less ↦ elim (earlier j n lt') [
      | inl less' ↦ two.one other i j above last (omega (arith, below)) less less' owned owned'
      | inr same' ↦ absurd (let low = two.none other i above last less owned in let high = from other above last (subst (λ (k : ℕ). owns_at other log k ≡ true) same' owned') in omega (arith, below, low, high))
    ]
    | inr same ↦ elim (earlier j n lt') [
      | inl less' ↦ absurd (let low = two.none other j above last less' owned' in let high = from other above last (subst (λ (k : ℕ). owns_at other log k ≡ true) same owned) in omega (arith, below, low, high))
      | inr same' ↦ same ∙ sym same'
    ]
  ];
}
  where
    from : (other : ℕ) → chunk ≤ other → other ≤ last_chunk → owns_at other log n ≡ true → next ≤ other
    from other above last owned = own.first other above last (sym (owns_read log other n read (owns other read) within is refl) ∙ owned)

-- with all arenas, no chunk before the second has two owners
pub two_apart : (log : List Logged) (chunk n least second : ℕ) → length log ≤ n → AreFirstTwo log chunk n least second → AreApart log chunk second
two_apart log chunk n least second all two other above below last i j own own' =
    two.one other i j above last below (omega (arith, owner_within log other i own)) (omega (arith, owner_within log other j own')) own own'

-- ---- the least chunk with two owners

-- a chunk with one owner goes on from those before it
pub apart_goes : (log : List Logged) (chunk second : ℕ) → AreApart log 1 chunk → AreApart log chunk second → HasOneOwner log second → AreApart log 1 (second + 1)
apart_goes log chunk second before between one other above below last =
    elim (cases_lt other chunk) [
      | inl less ↦ before other above less last
      | inr from ↦ elim (cases_lt other second) [
        | inl less ↦ between other from less last
        | inr past ↦ subst (λ (c : ℕ). HasOneOwner log c) (omega (arith, past, below)) one
      ]
    ]

-- no two arenas meet before the first chunk that two own
pub apart_before : (log : List Logged) (chunk second : ℕ) → AreApart log 1 chunk → AreApart log chunk second → AreApart log 1 second
apart_before log chunk second before between other above below last =
    elim (cases_lt other chunk) [ inl less ↦ before other above less last | inr from ↦ between other from below last ]
