-- What the list of all chunks is, of which the first are kept.
use Rattle.std.proofs.Common.{◌≡◌, ℕ, zero, suc, ◌-◌, ◌≤◌, List, [], ◌∷◌, ◌++◌, length, replicate, get_or, refl, ◌∙◌, arith}
use Rattle.std.proofs.lemmas.List.{get_or_past, length-append, length-replicate}
use Rattle.addr_space.specs.Chunks.{all_chunks, used_at}

-- a list reads the same with zeros behind it
reads_more : (xs : List ℕ) (n k : ℕ) → get_or (xs ++ replicate n 0) k 0 ≡ get_or xs k 0
reads_more [] zero k = refl
reads_more [] (suc n) zero = refl
reads_more [] (suc n) (suc k) = reads_more [] n k
reads_more (x ∷ xs) n zero = refl
reads_more (x ∷ xs) n (suc k) = reads_more xs n k

-- as many pages of a chunk are placed as the kept numbers say
pub used_all : (kept : List ℕ) (chunk : ℕ) → used_at (all_chunks kept) chunk ≡ used_at kept chunk
unfolding all_chunks
used_all kept chunk = reads_more kept (1048576 - length kept) chunk

-- no page is placed of a chunk behind those
pub none_behind : (kept : List ℕ) (chunk : ℕ) → length kept ≤ chunk → used_at (all_chunks kept) chunk ≡ 0
none_behind kept chunk behind = used_all kept chunk ∙ get_or_past kept chunk 0 behind

-- each chunk has a number
pub length_all : (kept : List ℕ) → length kept ≤ 1048576 → length (all_chunks kept) ≡ 1048576
unfolding all_chunks
length_all kept few = omega (arith, length-append kept (replicate (1048576 - length kept) 0), length-replicate {A = ℕ} (1048576 - length kept) 0)
