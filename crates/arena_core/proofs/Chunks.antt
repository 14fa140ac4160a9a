-- The first chunk from one on that an extent meets.
use Rattle.arena_core.proofs.Words.{◌≡◌, ℕ, ◌+◌, ◌*◌, ◌/◌, ◌<◌, ◌≤◌, true, false, List, All, All-contains, Contains, arith, nat_tests, list_any_none, any_false, any_has, Part, Sound, IsPlaced, meets, chunk_span}
use Rattle.list_facts.proofs.Members.{all_from}
use Rattle.part_book.specs.Books.{IsFirstFrom}
use Rattle.space_model.specs.declared.spaces.Space.{Space}
use Rattle.arena_core.specs.Chunks.{HasNoChunkFrom, IsNextChunk, has_chunk}
use Rattle.arena_core.proofs.Totals.{none_past}

-- where no extent meets a chunk, one meets a later chunk only if it begins in between
free_if : (parts : List Part) (from chunk : ℕ) → from ≤ chunk → has_chunk from parts ≡ false
    → ((p : Part) → Contains parts p → 512 * from ≤ p.span.first → 512 * chunk + 512 ≤ p.span.first) → has_chunk chunk parts ≡ false
free_if parts from chunk above none apart =
    list_any_none (λ p. meets p.span (chunk_span chunk)) parts (all_from (λ p. meets p.span (chunk_span chunk) ≡ false) parts (λ p m.
    let free = any_false (λ q. meets q.span (chunk_span from)) parts p none m in let later = apart p m in grind (arith, nat_tests)))

-- no chunk lies past the last one
pub none_from : (s : Space) (from : ℕ) → Sound s → 1048575 < from → HasNoChunkFrom s.parts from
none_from s from sound past chunk above = none_past s chunk sound (omega (arith, past, above))

-- a chunk that is met is the first one from itself on
pub met_itself : (parts : List Part) (from : ℕ) → has_chunk from parts ≡ true → IsNextChunk parts from from
met_itself parts from met = record { above = omega arith; met = met; first = λ chunk above below. absurd (omega (arith, above, below)) }

-- where each extent begins before a chunk that none meets, none meets a later one
pub none_later : (parts : List Part) (from : ℕ) → has_chunk from parts ≡ false → All (λ p. p.span.first < 512 * from) parts → HasNoChunkFrom parts from
none_later parts from none before chunk above =
    free_if parts from chunk above none (λ p m at. absurd (omega (arith, at, All-contains (λ (q : Part). q.span.first < 512 * from) parts p before m)))

-- else the first extent that begins there meets the next one
pub met_next : (s : Space) (from : ℕ) (p : Part) → Sound s → has_chunk from s.parts ≡ false → IsFirstFrom (512 * from) s.parts p → IsNextChunk s.parts from (p.span.first / 512)
met_next s from p sound none at =
    let placed : IsPlaced p.span = All-contains (λ (q : Part). IsPlaced q.span) s.parts p sound.placed at.listed in
    let some = placed.0 in
    let begins = at.from in
    record {
      above = omega (arith, begins);
      met = any_has (λ q. meets q.span (chunk_span (p.span.first / 512))) s.parts p at.listed (grind (arith, nat_tests));
      first = λ chunk above below. free_if s.parts from chunk above none (λ q m past.
          let least = All-contains (λ (r : Part). 512 * from ≤ r.span.first → p.span.first ≤ r.span.first) s.parts q at.first m past in omega (arith, below, least));
    }

-- and it lies in the space
pub begins_inside : (s : Space) (page : ℕ) (p : Part) → Sound s → IsFirstFrom page s.parts p → p.span.first / 512 ≤ 1048575
begins_inside s page p sound at =
    let placed : IsPlaced p.span = All-contains (λ (q : Part). IsPlaced q.span) s.parts p sound.placed at.listed in
    let some = placed.0 in let last = placed.2 in omega (arith, some, last)
