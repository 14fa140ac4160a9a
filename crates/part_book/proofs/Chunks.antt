-- The leaves that are left after chunks got some.
use Rattle.part_book.proofs.Words.{◌≡◌, ℕ, ◌+◌, ◌-◌, ◌/◌, ◌<◌, ◌≤◌, min, Bool, true, false, not, cond, eqb, ◌||◌, List, length, filter, count_by, refl, sym, ap, ◌∙◌, subst, arith, Contains, nat_cmp, range_with_len, unsigned_tied, nat_cmp_total, eq-eqb, filter_agree, sum_by-filter_both, count_by-le-length, length-filter, get_or-range_with_len, length-range_with_len, filter_has, Pages, LEAVES, Span, IsPlaced, end_of, HasLeaves, HasMore, leaves_for, missing, bit, count_some, filter_neither, nat_tests}
use Rattle.std.specs.FinSet as set

-- a chunk is in a set to which another one was added where it is that one or was in it
pub contains_more : (s : set.FinSet nat_cmp) (k q : ℕ) → set.contains (set.insert s k) q ≡ (eqb q k || set.contains s q)
contains_more s k q = set.contains-insert nat_cmp_total s k q ∙ ap (λ b. b || set.contains s q) (unsigned_tied q k)

pub contains_kept : (s : set.FinSet nat_cmp) (k q : ℕ) → set.contains s q ≡ true → set.contains (set.insert s k) q ≡ true
contains_kept s k q t = grind (arith, contains_more s k q, t)

pub contains_new : (s : set.FinSet nat_cmp) (k : ℕ) → set.contains (set.insert s k) k ≡ true
contains_new s k = contains_more s k k ∙ ap (λ b. b || set.contains s k) (eq-eqb k k refl)

-- ---- how many chunks have no leaf

-- how many of some chunks have none
abbrev lacking : set.FinSet nat_cmp → List ℕ → ℕ
lacking s chunks = count_by (λ k. not (set.contains s k)) chunks

-- where one of them gets a leaf, the others are as they were
lacking_after : (s : set.FinSet nat_cmp) (c : ℕ) (chunks : List ℕ) → lacking (set.insert s c) chunks + lacking s (filter (λ k. eqb k c) chunks) ≡ lacking s chunks
lacking_after s c chunks =
    let lacks = λ (k : ℕ). not (set.contains s k) in
    let lacks_then = λ (k : ℕ). not (set.contains (set.insert s c) k) in
    let others = filter (λ k. not (eqb k c)) chunks in
    let left = filter_agree lacks_then (λ k. not (eqb k c || set.contains s k)) (λ k. ap not (contains_more s c k)) chunks ∙ sym (filter_neither (λ k. eqb k c) (set.contains s) chunks) in
    let same = ap length left in
    let split = sum_by-filter_both (λ k. eqb k c) (λ k. not (eqb k c)) (λ k. refl) (λ k. bit (lacks k)) chunks in
    omega (arith, length-filter lacks_then chunks, length-filter lacks others)

-- no more of them lack one then
lacking_no_more : (s : set.FinSet nat_cmp) (c : ℕ) (chunks : List ℕ) → lacking (set.insert s c) chunks ≤ lacking s chunks
lacking_no_more s c chunks = omega (arith, lacking_after s c chunks)

-- where that one is in a range and had none, one less lacks a leaf
lacking_less : (s : set.FinSet nat_cmp) (c n : ℕ) → c < n → set.contains s c ≡ false → lacking (set.insert s c) (range_with_len 0 n) + 1 ≤ lacking s (range_with_len 0 n)
lacking_less s c n l f =
    let range = range_with_len 0 n in
    let there : Contains range c = (c, rw (length-range_with_len 0 n) l, get_or-range_with_len 0 n c c l ∙ omega arith) in
    let here = filter_has (λ k. eqb k c) range c there (eq-eqb c c refl) in
    omega (arith, lacking_after s c range, count_some (λ k. not (set.contains s k)) (filter (λ k. eqb k c) range) c here (ap not f))

-- a chunk that gets a leaf is missing one no more
missing_less : (s : set.FinSet nat_cmp) (c : ℕ) → c < LEAVES → set.contains s c ≡ false → missing (set.insert s c) + 1 ≤ missing s
unfolding missing
missing_less s c l f = lacking_less s c LEAVES l f

-- and no other one is missing then
missing_no_more : (s : set.FinSet nat_cmp) (c : ℕ) → missing (set.insert s c) ≤ missing s
unfolding missing
missing_no_more s c = lacking_no_more s c (range_with_len 0 LEAVES)

-- one for a chunk without a leaf
abbrev want : Bool → ℕ
want b = cond b 0 1

-- a chunk wants one leaf at most
want_le : (b : Bool) → want b ≤ 1
want_le true = omega arith
want_le false = omega arith

-- how many leaves a chunk still wants
abbrev pub wanted : Pages → ℕ → ℕ
wanted p c = want (set.contains p.chunks c)

-- there is a leaf for a chunk that wants one
pub has_leaf : (p : Pages) (c n : ℕ) → c < LEAVES → HasLeaves p (n + wanted p c) → set.contains p.chunks c ≡ false → 0 < p.spare
has_leaf p c n l has f =
    let some = missing_less p.chunks c l f in
    let one : wanted p c ≡ 1 = ap want f in
    omega arith

-- the leaves that are left after a chunk got its leaf
pub leaves_after : (p q : Pages) (c n : ℕ) → c < LEAVES → q.chunks ≡ set.insert p.chunks c → q.spare ≡ cond (set.contains p.chunks c) p.spare (p.spare - 1) → HasLeaves p (n + wanted p c) → HasLeaves q n
leaves_after p q c n l chunks spare has = grind (arith, nat_tests, missing_less, missing_no_more)

-- a chunk wants no more after another one got its leaf
pub wanted_less : (p q : Pages) (k c : ℕ) → q.chunks ≡ set.insert p.chunks k → wanted q c ≤ wanted p c
wanted_less p q k c chunks = grind (arith, chunks, contains_kept p.chunks k c, want_le (set.contains q.chunks c))

-- the chunks of the first and the last page of a span
pub chunk_inside : (s : Span) → IsPlaced s → (s.first / 512 < LEAVES) × ((end_of s - 1) / 512 < LEAVES)
chunk_inside s placed = (omega arith, omega arith)

missing_most : (s : set.FinSet nat_cmp) → missing s ≤ LEAVES
unfolding missing
missing_most s = subst (λ n. count_by (λ chunk. not (set.contains s chunk)) (range_with_len 0 LEAVES) ≤ n) (length-range_with_len 0 LEAVES) (count_by-le-length (λ chunk. not (set.contains s chunk)) (range_with_len 0 LEAVES))

-- leaves for all chunks are enough for any number of extents
pub leaves_enough : (p : Pages) (n : ℕ) → min LEAVES n ≤ p.spare → HasLeaves p n
leaves_enough p n le = omega (arith, missing_most p.chunks)

pub more_leaves : (p q : Pages) (n : ℕ) → q.chunks ≡ p.chunks → p.spare ≤ q.spare → HasLeaves p n → HasLeaves q n
more_leaves p q n chunks le has = let same = ap missing chunks in omega arith

-- ---- the leaves for a span

-- two chunks that want none have leaves
none_wanted : (a b : Bool) → want a + want b ≡ 0 → (a ≡ true) × (b ≡ true)
none_wanted a b e = (grind (arith, e), grind (arith, e))

pub leaves_most : (p : Pages) (s : Span) → leaves_for p s ≤ 2
leaves_most p s = omega (arith, want_le (set.contains p.chunks (s.first / 512)), want_le (set.contains p.chunks ((end_of s - 1) / 512)))

-- a span that wants none has leaves for its first and its last page
pub leaves_none : (p : Pages) (s : Span) → leaves_for p s ≡ 0 → (set.contains p.chunks (s.first / 512) ≡ true) × (set.contains p.chunks ((end_of s - 1) / 512) ≡ true)
leaves_none p s e = none_wanted (set.contains p.chunks (s.first / 512)) (set.contains p.chunks ((end_of s - 1) / 512)) e

pub leaves_both : (p : Pages) (s : Span) → set.contains p.chunks (s.first / 512) ≡ true → set.contains p.chunks ((end_of s - 1) / 512) ≡ true → leaves_for p s ≡ 0
leaves_both p s a b = rw (a, b) refl

pub leaves_first : (p : Pages) (s : Span) → set.contains p.chunks (s.first / 512) ≡ true → leaves_for p s ≤ 1
leaves_first p s a = rw a (let le = want_le (set.contains p.chunks ((end_of s - 1) / 512)) in omega arith)

pub leaves_last : (p : Pages) (s : Span) → set.contains p.chunks ((end_of s - 1) / 512) ≡ true → leaves_for p s ≤ 1
leaves_last p s b = rw b (let le = want_le (set.contains p.chunks (s.first / 512)) in omega arith)

-- chunks keep their leaves, and those of the first and the last page of a span get one
pub leaves_kept : (s : set.FinSet nat_cmp) {u : set.FinSet nat_cmp} (span : Span) → u ≡ set.insert (set.insert s (span.first / 512)) ((end_of span - 1) / 512) → HasMore s u span
leaves_kept s span e = grind (arith, nat_tests, contains_kept, contains_new)
