-- No number of an arena that isn't live is large.
use Rattle.std.proofs.Common.{◌≡◌, ◌≤◌, ◌^◌, ℕ, zero, suc, List, [], ◌∷◌, None, Some, get_or, replicate, set, refl, arith}
use Rattle.std.specs.List.{All}
use Rattle.std.proofs.lemmas.List.Elements.{All-replicate, All-set}
use Rattle.space_model.specs.declared.Counts.{Counts}
use Rattle.heap_stats.specs.Stats.{AreSmall, AreSmallWhereLive, no_counts}

zeros : (n i : ℕ) → get_or {A = ℕ} (replicate n 0) i 0 ≡ 0
zeros zero i = refl
zeros (suc n) zero = refl
zeros (suc n) (suc i) = zeros n i

-- the counts of an arena that isn't live are small
pub none_small : AreSmall no_counts
none_small = record {
  allocated = omega arith;
  active = omega arith;
  dirty = omega arith;
  muzzy = omega arith;
  retained = omega arith;
  flight = omega arith;
  mapped = omega arith;
  small = omega arith;
  large = omega arith;
  regs = λ i. omega (arith, zeros 36 i);
  slabs = λ i. omega (arith, zeros 36 i);
  lextents = λ i. omega (arith, zeros 85 i);
}

-- numbers stay small where one of them becomes another small one
put_small : (xs : List ℕ) (place number : ℕ) → ((i : ℕ) → get_or xs i 0 ≤ 2 ^ 58) → number ≤ 2 ^ 58 → (i : ℕ) → get_or (set xs place number) i 0 ≤ 2 ^ 58
put_small [] place number small few i = small i
put_small (x ∷ xs) zero number small few zero = few
put_small (x ∷ xs) zero number small few (suc i) = small (suc i)
put_small (x ∷ xs) (suc place) number small few zero = small zero
put_small (x ∷ xs) (suc place) number small few (suc i) = put_small xs place number (λ j. small (suc j)) few i

-- so are zeros of which one becomes a small number
pub one_small : (n place number : ℕ) → number ≤ 2 ^ 58 → (i : ℕ) → get_or (set (replicate n 0) place number) i 0 ≤ 2 ^ 58
one_small n place number few = put_small (replicate n 0) place number (λ i. omega (arith, zeros n i)) few

-- and the counts of 32 arenas, where those of the two that are live are
pub two_small : (a b : Counts) → AreSmall a → AreSmall b → All AreSmallWhereLive (set (set (replicate 32 None) 1 (Some a)) 31 (Some b))
two_small a b small-a small-b =
    All-set AreSmallWhereLive (set (replicate 32 None) 1 (Some a)) 31 (Some b) small-b (All-set AreSmallWhereLive (replicate 32 None) 1 (Some a) small-a (All-replicate AreSmallWhereLive 32 None none_small))
