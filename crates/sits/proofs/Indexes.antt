-- Arenas by their indexes.
use Rattle.sits.proofs.Words.{◌≡◌, ℕ, ◌==◌, Bool, true, false, List, length, refl, arith, ◌<◌, slice_set, sym, subst, ◌≢◌, get_or-set_other, get_or-set_same, eqb-true, nat_tests, no_record, record_at, Record}
pub use Rattle.std.proofs.lemmas.List.{get_or_past as past}

-- what is so at one index, and at each other one, is so at any
pub at_or_else : (P : ℕ → Type 0) (i here : ℕ) → (i ≡ here → P here) → (i ≢ here → P i) → P i
at_or_else P i here own other = by (i == here) refl
  where
    by : (v : Bool) → (i == here) ≡ v → P i
    by true e = let same = eqb-true i here e in subst P (sym same) (own same)
    by false e = other (λ same. grind (arith, nat_tests))

-- ---- the arena of a turn, and the others

pub there_is : (records : List Record) (arena : ℕ) (new : Record) → length records ≡ 32 → arena < 32 → record_at (slice_set records arena new) arena ≡ new
there_is records arena new number there = get_or-set_same records arena new no_record (omega (arith, there, number))

pub elsewhere_is : (records : List Record) (arena i : ℕ) (new : Record) → i ≢ arena → record_at (slice_set records arena new) i ≡ record_at records i
elsewhere_is records arena i new other = get_or-set_other records arena i new no_record other

-- what is so of a value in each arena that a turn leaves alone, and of the one that it leaves in its own
pub by_arena : (records : List Record) (arena : ℕ) (new : Record) (P : ℕ → Record → Type 0) → length records ≡ 32 → arena < 32 → P arena new → ((i : ℕ) → i ≢ arena → P i (record_at records i)) →
    (i : ℕ) → P i (record_at (slice_set records arena new) i)
by_arena records arena new P number there own others i =
    at_or_else (λ k. P k (record_at (slice_set records arena new) k)) i arena (λ same. subst (P arena) (sym (there_is records arena new number there)) own)
    (λ other. subst (P i) (sym (elsewhere_is records arena i new other)) (others i other))
