-- The pages of a slab get its number.
use Rattle.bin_book.proofs.Words.{Bool, leb, ◌≡◌, ℕ, ◌+◌, ◌-◌, ◌/◌, ◌<◌, ◌≤◌, true, if◌then◌else◌, cond, eqb, ◌⊎◌, Some, None, refl, ap, ◌∙◌, arith, nat_cmp, nat_cmp_total, unsigned_tied, nat_tests, leb-true, class_sizes, least_pages, pages_at, at, passes_below, Pages, HasPage}
use Rattle.std.specs.FinMap as map_of
use Rattle.std.specs.FinSet as set_of

get_set : (m : map_of.FinMap nat_cmp ℕ) (p v q : ℕ) → map_of.get (map_of.insert m p v) q ≡ cond (eqb q p) (Some v) (map_of.get m q)
get_set m p v q = map_of.get-insert nat_cmp_total m p v q ∙ ap (λ b. cond b (Some v) (map_of.get m q)) (unsigned_tied q p)

-- each number is that of the slab at one of its pages, or was there
abbrev pub AreOwn : (old new : map_of.FinMap nat_cmp ℕ) (first pages slab : ℕ) → Type 0
AreOwn old new first pages slab = (page n : ℕ) → map_of.get new page ≡ Some n → (HasPage first pages page × (slab ≡ n)) ⊎ (map_of.get old page ≡ Some n)

pub own_set : (old m : map_of.FinMap nat_cmp ℕ) (first pages slab p : ℕ) → AreOwn old m first pages slab → HasPage first pages p → AreOwn old (map_of.insert m p slab) first pages slab
own_set old m first pages slab p own has page n e = grind (arith, nat_tests, get_set m p slab page, own page n, has, e)

-- a page that is cleared has no number, and the others have theirs
pub only_cleared : (m : map_of.FinMap nat_cmp ℕ) (p page n : ℕ) → map_of.get (map_of.remove m p) page ≡ Some n → map_of.get m page ≡ Some n
only_cleared m p page n e = grind (arith, nat_tests, map_of.gets, unsigned_tied, e)

pub none_cleared : (m : map_of.FinMap nat_cmp ℕ) (p page : ℕ) → (page < p → map_of.get m page ≡ None) → page < p + 1 → map_of.get (map_of.remove m p) page ≡ None
none_cleared m p page none l = grind (arith, nat_tests, map_of.gets, unsigned_tied, none)

-- the pages from the first one up to another one have a number, and took no more leaves than they have chunks
pub record HasRun (old new : Pages) (first slab page : ℕ) : Type 0 where
  pub numbers : (p : ℕ) → first ≤ p → p < page → map_of.get new.numbers p ≡ Some slab
  pub none_yet : page ≤ first → new.spare ≡ old.spare
  pub leaf : first < page → set_of.contains new.chunks ((page - 1) / 512) ≡ true
  pub leaves : first < page → old.spare + first / 512 ≤ new.spare + (page - 1) / 512 + 1

-- three leaves are enough for a run of 512 pages
pub some_leaf : (old new : Pages) (first slab page : ℕ) → HasRun old new first slab page → 2 < old.spare → page < first + 512 → 0 < new.spare
some_leaf old new first slab page run some inside = grind (arith, run.leaves, run.none_yet)

pub longer_run : (old new next : Pages) (first slab page : ℕ) → HasRun old new first slab page → first ≤ page → 0 < new.spare → next.numbers ≡ map_of.insert new.numbers page slab → next.chunks ≡ set_of.insert new.chunks (page / 512)
    → next.spare ≡ (if set_of.contains new.chunks (page / 512) then new.spare else new.spare - 1) → HasRun old next first slab (page + 1)
longer_run old new next first slab page run from some numbers chunks spare = record {
  numbers = λ p low l. ap (λ m. map_of.get m p) numbers ∙ get_set new.numbers page slab p ∙ grind (arith, nat_tests, run.numbers p, low, l);
  none_yet = λ l. absurd (omega arith);
  leaf = λ l. let at : page + 1 - 1 ≡ page = omega arith in rw (at, chunks) (set_of.contains-insert nat_cmp_total new.chunks (page / 512) (page / 512) ∙ grind (arith, nat_tests, unsigned_tied));
  leaves = λ l. grind (arith, spare, run.leaves, run.none_yet, run.leaf);
}

-- ---- how many pages a slab has

abbrev short : ℕ → Bool
short c = leb (pages_at c) 8

short_below : passes_below short 36 ≡ true
unfolding class_sizes least_pages
short_below = refl

pub small_pages : (c : ℕ) → c < 36 → pages_at c ≤ 8
small_pages c small = leb-true _ _ (at short 36 c short_below small)
