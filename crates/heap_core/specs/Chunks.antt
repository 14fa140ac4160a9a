-- Which arenas own a chunk, and the chunk that speaks against an answer.
use Rattle.std.specs.Prelude.{◌≡◌, ℕ, ◌%◌, ◌==◌, ◌&&◌, Bool, true, List, Option, None, find, slice_index_or, slice_set, if◌then◌else◌}
use Rattle.heap_core.specs.Words.{list_any, GrowDone, OfferDone, absent_space, chunk_span, chunks_of, meets, is_in_space, Ask, Alloc, Dalloc, Answer, Placed, Op, Space, Span}
use Rattle.space_model.specs.declared.Answer.TheVariants as answers

-- the space of the arena with an index; where there is none, it is that of an index without an arena
abbrev pub space_at : List Space → ℕ → Space
space_at spaces i = slice_index_or spaces i absent_space

-- whether an extent of the space meets the chunk
abbrev pub owns_chunk : ℕ → Space → Bool
owns_chunk chunk s = list_any (λ p. meets p.span (chunk_span chunk)) s.parts

-- no chunk is met by extents of two arenas
abbrev pub Apart : List Space → Type 0
Apart spaces = (chunk i j : ℕ) → owns_chunk chunk (space_at spaces i) ≡ true → owns_chunk chunk (space_at spaces j) ≡ true → i ≡ j

-- the spaces of all arenas but one
abbrev pub others_of : ℕ → List Space → List Space
others_of arena spaces = slice_set spaces arena absent_space

-- the least chunk of a span that an extent of some arena meets
abbrev pub met_in : List Space → Span → Option ℕ
met_in spaces span = find (λ chunk. list_any (owns_chunk chunk) spaces) (chunks_of span)

-- the chunk that speaks against the answer to an alloc: none where that was refused, off the space or unaligned
abbrev pub met_by_alloc : List Space → Ask → Answer → Option ℕ
met_by_alloc spaces (Alloc commit at pages align) (Placed committed zeroed first) =
    let s : Span = record { first = first; pages = pages } in
    if is_in_space s && s.first % align == 0 then met_in spaces s else None
met_by_alloc spaces ask answer = None

-- the chunk that speaks against a dalloc that was refused
abbrev pub met_by_dalloc : List Space → Ask → Answer → Option ℕ
met_by_dalloc spaces (Dalloc span committed) answers.Refused = met_in spaces span
met_by_dalloc spaces ask answer = None

-- the operation of an arena as it enters its journal: an alloc is told the least chunk that has an owner, and a dalloc that
-- was refused the least one that has another one
abbrev pub with_chunk_found : List Space → ℕ → Op → Op
with_chunk_found spaces arena (GrowDone heard found) = GrowDone heard (met_by_alloc spaces heard.ask heard.answer)
with_chunk_found spaces arena (OfferDone heard found) = OfferDone heard (met_by_dalloc (others_of arena spaces) heard.ask heard.answer)
with_chunk_found spaces arena op = op
