-- The shares of all arenas, parted one after the other.
use Rattle.std.proofs.Common.{◌≡◌, ℕ, ◌+◌, ◌-◌, ◌<◌, suc, List, [], ◌∷◌, ◌++◌, map, drop, sym, ap, ◌∙◌, arith}
use Rattle.std.specs.List.{All, range_with_len}
use Rattle.std.proofs.lemmas.List.{map-append}
use Rattle.std.proofs.lemmas.List.Elements.{All-cons, All-nil, All-push, All-same}
use Rattle.std.proofs.lemmas.List.FromFn.{map-range_with_len_more}
use Rattle.chunk_table.specs.declared.table.ChunkSeat.{ChunkSeat}
use Rattle.chunk_table.specs.declared.table.ChunkTable.{ChunkTable}
use Rattle.chunk_table.specs.declared.view.View.{View}
use Rattle.chunk_table.specs.Rule.{blank}
use Rattle.chunk_table.specs.Steps.{alone, first_of, first_part, later_part}
use Rattle.chunk_table.specs.Tables.{failed, owned, share_of, IsSeatOf}

-- the shares of the arenas from a number on
abbrev pub from : ℕ → ℕ → View
from arenas i = record { shares = map (blank arenas) (range_with_len i (arenas - i)) }

-- the first of them and the later ones
split_from : (arenas i : ℕ) → i < arenas → (from arenas i).shares ≡ blank arenas i ∷ (from arenas (i + 1)).shares
split_from arenas i lt = let more : arenas - i ≡ suc (arenas - (i + 1)) = omega arith in ap (λ k. map (blank arenas) (range_with_len i k)) more

-- what is parted off is the share of one arena
pub first_from : (arenas i : ℕ) → i < arenas → first_part (from arenas i) ≡ alone (blank arenas i)
first_from arenas i lt = ap (λ l. first_part record { shares = l }) (split_from arenas i lt)

-- and the later ones are left
pub later_from : (arenas i : ℕ) → i < arenas → later_part (from arenas i) ≡ from arenas (i + 1)
later_from arenas i lt = ap (λ l. later_part record { shares = l }) (split_from arenas i lt)

-- the last of them is alone
pub last_from : (arenas i : ℕ) → i + 1 ≡ arenas → from arenas i ≡ alone (blank arenas i)
last_from arenas i last = let one : arenas - i ≡ 1 = omega arith in ap (λ k. record { shares = map (blank arenas) (range_with_len i k) }) one

-- the shares of seats, once one more seat is dealt
pub dealt_more : (before after : List ChunkSeat) (seat : ChunkSeat) (arenas i : ℕ) → after ≡ before ++ seat ∷ [] → map share_of before ≡ map (blank arenas) (range_with_len 0 i) → share_of seat ≡ blank arenas i
    → map share_of after ≡ map (blank arenas) (range_with_len 0 (i + 1))
dealt_more before after seat arenas i is shares own =
    ap (map share_of) is ∙ (map-append share_of before (seat ∷ []) ∙ ((λ k. shares k ++ own k ∷ []) ∙ sym (map-range_with_len_more (blank arenas) 0 i i (omega arith))))

-- seats of one table, once one more is dealt
pub ours_more : (table : ChunkTable) (before after : List ChunkSeat) (seat : ChunkSeat) → after ≡ before ++ seat ∷ [] → All (IsSeatOf table) before → IsSeatOf table seat → All (IsSeatOf table) after
ours_more table before after seat is all one = All-same (IsSeatOf table) after (before ++ seat ∷ []) is (All-push (IsSeatOf table) before seat all one)

-- seats whose shares are blank own nothing
pub none_owned : (seats : List ChunkSeat) (arenas : ℕ) (numbers : List ℕ) → map share_of seats ≡ map (blank arenas) numbers → All (λ seat. owned seat ≡ []) seats
none_owned [] arenas numbers e = All-nil (λ seat. owned seat ≡ [])
none_owned (s ∷ ss) arenas [] e = absurd (cc)
none_owned (s ∷ ss) arenas (n ∷ ns) e = All-cons (λ seat. owned seat ≡ []) s ss (ap (λ l. (first_of l).owned) e) (none_owned ss arenas ns (ap (drop 1) e))

-- and no claim of theirs failed
pub none_failed : (seats : List ChunkSeat) (arenas : ℕ) (numbers : List ℕ) → map share_of seats ≡ map (blank arenas) numbers → All (λ seat. failed seat ≡ []) seats
none_failed [] arenas numbers e = All-nil (λ seat. failed seat ≡ [])
none_failed (s ∷ ss) arenas [] e = absurd (cc)
none_failed (s ∷ ss) arenas (n ∷ ns) e = All-cons (λ seat. failed seat ≡ []) s ss (ap (λ l. (first_of l).taken) e) (none_failed ss arenas ns (ap (drop 1) e))
