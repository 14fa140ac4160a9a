-- Sums of bytes: how those of the states add up, and that none is more than the space.
use Rattle.std.proofs.Common.{◌-◌, ◌<◌, ◌≡◌, ℕ, ◌+◌, ◌*◌, ◌^◌, ◌≤◌, Bool, false, cond, List, [], ◌∷◌, refl, arith, All}
use Rattle.space_model.proofs.Words.{sum_by, sum_by-cons, sum_by-le-sum_by, All-weaker, All-head, All-tail, All-cons, nat_tests, size_at, Part, Region, Rest, State, Retained, Space, IsPlaced, pages_end, holders, is_active, is_listed, pages_listed, homes, Sound, is_in_flight, bytes_of, bytes_where, region_bytes, region_bytes_where, is_mapped, BytesFitSpace}
use Rattle.space_model.proofs.Lists.{nothing_sum}
use Rattle.space_model.proofs.Exchange.{share}
use Rattle.space_model.proofs.Intervals.{lengths-le}
use Rattle.space_model.proofs.Settled.{serves}
use Rattle.space_model.specs.declared.parts.Rest.TheVariants as rests

-- the bytes of an extent whose state passes, or none
abbrev bytes_if : (State → Bool) → Part → ℕ
bytes_if test p = cond (test p.state) (bytes_of p) 0

-- the bytes of mapped extents are those of the four uses
pub mapped_sum : (parts : List Part) → bytes_where is_mapped parts
    ≡ bytes_where is_active parts + bytes_where (is_listed rests.Dirty) parts + bytes_where (is_listed rests.Muzzy) parts + bytes_where is_in_flight parts
mapped_sum [] = refl
mapped_sum (p ∷ ps) =
    grind (
      arith,
      sum_by-cons (bytes_if is_mapped) p ps,
      sum_by-cons (bytes_if is_active) p ps,
      sum_by-cons (bytes_if (is_listed rests.Dirty)) p ps,
      sum_by-cons (bytes_if (is_listed rests.Muzzy)) p ps,
      sum_by-cons (bytes_if is_in_flight) p ps,
      mapped_sum ps,
    )

-- all bytes are those of mapped extents and of retained ones
pub whole_sum : (parts : List Part) → sum_by bytes_of parts ≡ bytes_where is_mapped parts + bytes_where (is_listed rests.Retained) parts
whole_sum [] = refl
whole_sum (p ∷ ps) =
    grind (arith, sum_by-cons bytes_of p ps, sum_by-cons (bytes_if is_mapped) p ps, sum_by-cons (bytes_if (is_listed rests.Retained)) p ps, whole_sum ps)

-- bytes are 4096 times pages
pub bytes_pages : (parts : List Part) → sum_by bytes_of parts ≡ 4096 * sum_by (λ p. p.span.pages) parts
bytes_pages [] = refl
bytes_pages (p ∷ ps) = omega (arith, sum_by-cons bytes_of p ps, sum_by-cons (λ p. p.span.pages) p ps, bytes_pages ps)

-- ---- the space

-- no extent has a page below the first one
none_below : (page : ℕ) (parts : List Part) → page < 512 → All (λ p. IsPlaced p.span) parts → holders page parts ≡ 0
none_below page parts low placed = nothing_sum (share page) parts (All-weaker (λ p. IsPlaced p.span) (λ p. share page p ≡ 0) (λ p here. grind (arith, nat_tests)) parts placed)

-- what lies below the first page, as if it were an extent
below : Part
below = record { span = record { first = 0; pages = 512 }; state = Retained; committed = false }

-- the extents have at most the pages of the space
pub pages_fit_space : (s : Space) → Sound s → sum_by (λ p. p.span.pages) s.parts ≤ pages_end - 512
unfolding below
pages_fit_space s sound =
    omega (
      arith,
      sum_by-cons (λ (p : Part). p.span.pages) below s.parts,
      lengths-le (λ (p : Part). p.span.first) (λ p. p.span.pages) pages_end (below ∷ s.parts)
          (All-cons (λ p. p.span.first + p.span.pages ≤ pages_end) below s.parts (omega arith)
          (All-weaker (λ p. IsPlaced p.span) (λ p. p.span.first + p.span.pages ≤ pages_end) (λ p h. h.2) s.parts sound.placed))
          (λ page. grind (arith, nat_tests, sound.owners page, sum_by-cons (share page) below s.parts, λ (low : page < 512). none_below page s.parts low sound.placed)),
    )

pub bytes_fit_space : BytesFitSpace
bytes_fit_space s sound = omega (arith, bytes_pages s.parts, pages_fit_space s sound)

pub bytes_le : (s : Space) → Sound s → sum_by bytes_of s.parts ≤ 4096 * pages_end
bytes_le s sound = omega (arith, bytes_fit_space s sound)

-- a region that has a home ends within the space
region_end : (r : Region) (parts : List Part) → All (λ p. IsPlaced p.span) parts → homes r parts ≡ 1 → r.addr + size_at r.class ≤ 4096 * pages_end
region_end r [] placed home = absurd (omega arith)
region_end r (p ∷ ps) placed home =
    grind (arith, nat_tests, sum_by-cons (serves r) p ps, All-head (λ p. IsPlaced p.span) p ps placed, region_end r ps (All-tail (λ p. IsPlaced p.span) p ps placed))

-- the regions have at most all bytes
pub region_bytes_fits : (s : Space) → Sound s → region_bytes s.regions ≤ 2 ^ 41
region_bytes_fits s sound =
    lengths-le (λ (r : Region). r.addr) (λ r. size_at r.class) (4096 * pages_end) s.regions
    (All-weaker (λ r. homes r s.parts ≡ 1) (λ r. r.addr + size_at r.class ≤ 4096 * pages_end) (λ r h. region_end r s.parts sound.placed h) s.regions sound.homes)
    sound.apart

-- the pages of one list are no more than those of the space
pub listed_fit_space : (rest : Rest) (s : Space) → Sound s → pages_listed rest s.parts ≤ pages_end - 512
listed_fit_space rest s sound =
    omega (
      arith,
      pages_fit_space s sound,
      sum_by-le-sum_by (λ (p : Part). cond (is_listed rest p.state) p.span.pages 0) (λ p. p.span.pages) s.parts (λ p. grind arith),
    )
