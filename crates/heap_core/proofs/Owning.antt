-- No chunk comes to have two owners.
use Rattle.heap_core.proofs.Words.{◌≡◌, ◌≢◌, ◌⊎◌, inl, inr, ℕ, ◌+◌, ◌*◌, ◌/◌, ◌%◌, ◌<◌, ◌≤◌, ◌==◌, ◌&&◌, ◌||◌, Bool, true, false, not, cond, List, [], ◌∷◌, Option, None, Some, find, max, length, get_or, refl, sym, ◌∙◌, ap, subst, arith, All, suc, zero, ◌-◌, slice_set, option_map, All-head, All-tail, sum_by-cons, list_any, range_with_len, ltb-true, nat_tests, get_or-set_other, get_or-set_same, GrowDone, OfferDone, absent_space, holders, IsPlaced, chunk_span, chunks_of, has_page, meets, OffSpace, Unaligned, Meets, after_offer, keep_offer, without_offer, after_grow, grow_unless, is_in_space, is_owned, op_stands, step_of, granted_by, is_in_dalloc, ones, op_keeps, Ask, Alloc, Dalloc, Answer, Placed, Op, Reply, Grown, Kept, Space, Part, Span, Sound, end_of, Apart, met_by_alloc, met_by_dalloc, met_in, others_of, owns_chunk, with_chunk_found, space_at}
use Rattle.std.proofs.Common.{ltb as nat_lt}
use Rattle.sits.proofs.Indexes.{at_or_else}
use Rattle.space_model.specs.declared.Answer.TheVariants as answers

-- ---- tests over lists

-- where no member passes, the one at a place doesn't, nor what stands for none
none_at : {X : Type 0} (f : X → Bool) (xs : List X) (i : ℕ) (d : X) → list_any f xs ≡ false → f d ≡ false → f (get_or xs i d) ≡ false
none_at f [] i d none out = out
none_at f (x ∷ xs) zero d none out = grind arith
none_at f (x ∷ xs) (suc i) d none out = grind (arith, none_at f xs i d)

-- where none is found among numbers one after another, none of these passes
none_found : (f : ℕ → Bool) (low n k : ℕ) → find f (range_with_len low n) ≡ None → low ≤ k → k < low + n → f k ≡ false
none_found f low zero k none least most = absurd (omega (arith, least, most))
none_found f low (suc n) k none least most = grind (arith, nat_tests, none_found f (low + 1) n k)

-- ---- chunks and their pages

-- a page of a span is in a chunk that the span meets
page_chunk : (page chunk : ℕ) (s : Span) → has_page page s ≡ true → has_page page (chunk_span chunk) ≡ true → (s.first / 512 ≤ chunk) × (chunk < s.first / 512 + ((end_of s + 511) / 512 - s.first / 512))
page_chunk page chunk s in_span in_chunk = grind (arith, nat_tests)

-- none of the chunks that a span meets is in the list, so no arena owns the one with this page of it
none_met : (f : ℕ → Bool) (s : Span) (page chunk : ℕ) → find f (chunks_of s) ≡ None → has_page page s ≡ true → has_page page (chunk_span chunk) ≡ true → f chunk ≡ false
none_met f s page chunk none in_span in_chunk =
    let at = page_chunk page chunk s in_span in_chunk in none_found f (s.first / 512) ((end_of s + 511) / 512 - s.first / 512) chunk none at.0 at.1

-- two spans that aren't empty and meet share a page
shared_page : (s t : Span) → 0 < s.pages → 0 < t.pages → meets s t ≡ true → (has_page (max s.first t.first) s ≡ true) × (has_page (max s.first t.first) t ≡ true)
shared_page s t some more h = (grind (arith, nat_tests), grind (arith, nat_tests))

-- an arena that owns a chunk has a page of it
pub owned_page : (chunk : ℕ) (parts : List Part) → All (λ p. IsPlaced p.span) parts → list_any (λ p. meets p.span (chunk_span chunk)) parts ≡ true →
    (page : ℕ) × (has_page page (chunk_span chunk) ≡ true) × (0 < holders page parts)
owned_page chunk [] placed h = absurd (cc)
owned_page chunk (p ∷ ps) placed h =
    elim (meets p.span (chunk_span chunk)) as (λ v. meets p.span (chunk_span chunk) ≡ v → (v || list_any (λ q. meets q.span (chunk_span chunk)) ps) ≡ true →
    (page : ℕ) × (has_page page (chunk_span chunk) ≡ true) × (0 < holders page (p ∷ ps))) [
      | true ↦ λ here any.
          let page = shared_page p.span (chunk_span chunk) (All-head (λ q. IsPlaced q.span) p ps placed).0 (omega arith) here in
          let has : has_page (max p.span.first (512 * chunk)) p.span ≡ true = page.0 in
          (max p.span.first (512 * chunk), page.1, omega (arith, sum_by-cons (λ q. ones (has_page (max p.span.first (512 * chunk)) q.span)) p ps, ap ones has))
      | false ↦ λ away any. let rest = owned_page chunk ps (All-tail (λ q. IsPlaced q.span) p ps placed) any in (rest.0, rest.1, omega (arith, sum_by-cons (λ q. ones (has_page rest.0 q.span)) p ps, rest.2))
    ] refl h

-- an arena with a page of a chunk owns it
pub page_owned : (chunk page : ℕ) (parts : List Part) → has_page page (chunk_span chunk) ≡ true → 0 < holders page parts → list_any (λ p. meets p.span (chunk_span chunk)) parts ≡ true
page_owned chunk page [] in_chunk some = absurd (omega (arith, some))
page_owned chunk page (p ∷ ps) in_chunk some =
    let count = sum_by-cons (λ q. ones (has_page page q.span)) p ps in
    let met : has_page page p.span ≡ true → meets p.span (chunk_span chunk) ≡ true = λ here. met_by p.span here in
    grind (arith, page_owned chunk page ps in_chunk)
  where
    met_by : (s : Span) → has_page page s ≡ true → meets s (chunk_span chunk) ≡ true
    met_by s here = grind (arith, nat_tests)

-- ---- what a turn grants

-- The page comes to an arena by an operation with its reply: a hook granted it, or refused to take it back.
abbrev pub Comes : ℕ → Op → Reply → Type 0
Comes page (GrowDone heard found) (Grown span committed) = has_page page span ≡ true
Comes page (OfferDone heard found) Kept = is_in_dalloc page heard.ask ≡ true
Comes page op reply = ⊥

either : (a b : Bool) → (a || b) ≡ true → (a ≡ true) ⊎ (b ≡ true)
either a b h = grind arith

granted_or : (page : ℕ) (before : Bool) (op : Op) (reply : Reply) → granted_by page before op reply ≡ true → (before ≡ true) ⊎ Comes page op reply
granted_or page before op reply h = grind (arith, either)

-- where a page was at most once, it was as often as one test tells
one_or_none : (n : ℕ) → n ≤ 1 → n ≡ ones (nat_lt 0 n)
one_or_none n few = grind (arith, nat_tests)

some_then : (b : Bool) → 0 < ones b → b ≡ true
some_then b h = grind arith

-- each page of the arena after an operation was there before, or comes by it
pub page_comes : (c : ℕ) (s : Space) (op : Op) (page : ℕ) → Sound s → op_stands s c op ≡ true → 0 < holders page (step_of s c op).after.parts →
    (0 < holders page s.parts) ⊎ Comes page op (step_of s c op).reply
page_comes c s op page sound stands some =
    let before : Bool = nat_lt 0 (holders page s.parts) in
    let after = (op_keeps c s op sound stands).pages page before (one_or_none (holders page s.parts) (sound.owners page)) in
    elim (granted_or page before op (step_of s c op).reply (some_then _ (omega (arith, after, some)))) [ inl was ↦ inl (ltb-true _ _ was) | inr comes ↦ inr comes ]

-- ---- what speaks against it

-- a test for one number finds it among numbers one after another
found_at : (f : ℕ → Bool) (k low n : ℕ) → find f (range_with_len low n) ≡ Some k → (low ≤ k) × (k < low + n)
found_at f k low zero e = absurd (cc)
found_at f k low (suc n) e = grind (arith, found_at f k (low + 1) n)

-- what was found is among them, so where nothing speaks against an answer nothing was found
nothing_found : (f : ℕ → Bool) (parts : List Part) (low n : ℕ) (o : Option ℕ) → o ≡ find f (range_with_len low n) → find (is_owned o parts) (range_with_len low n) ≡ None → o ≡ None
nothing_found f parts low n None e none = refl
nothing_found f parts low n (Some k) e none =
    let at = found_at f k low n (sym e) in
    let unowned = none_found (is_owned (Some k) parts) low n k none at.0 at.1 in
    absurd (self unowned)
  where
    self : is_owned (Some k) parts k ≡ false → ⊥
    self unowned = grind (arith, nat_tests)

-- what an alloc grants is met by no arena
alloc_meets : (spaces : List Space) (s : Space) (c : ℕ) (ask : Ask) (answer : Answer) (span : Span) (b : Bool) (page chunk : ℕ) →
    (after_grow s c (met_by_alloc spaces ask answer) ask answer).reply ≡ Grown span b → has_page page span ≡ true → has_page page (chunk_span chunk) ≡ true → list_any (owns_chunk chunk) spaces ≡ false
alloc_meets spaces s c (Alloc commit at pages align) (Placed committed zeroed first) span b page chunk told in_span in_chunk =
    elim (is_in_space range) as (λ v. (grow_unless s c range committed (cond (not v) (Some OffSpace) (cond (not (first % align == 0)) (Some Unaligned)
    (option_map (λ k. Meets (chunk_span k)) (find (is_owned (cond (v && first % align == 0) (met_in spaces range) None) s.parts) (chunks_of range)))))).reply ≡ Grown span b → list_any (owns_chunk chunk) spaces ≡ false) [
      | false ↦ λ h. absurd (cc)
      | true ↦ elim (first % align == 0) as (λ w. (grow_unless s c range committed (cond (not w) (Some Unaligned)
          (option_map (λ k. Meets (chunk_span k)) (find (is_owned (cond w (met_in spaces range) None) s.parts) (chunks_of range))))).reply ≡ Grown span b → list_any (owns_chunk chunk) spaces ≡ false) [
            | false ↦ λ h. absurd (cc)
            | true ↦ elim (find (is_owned (met_in spaces range) s.parts) (chunks_of range)) as (λ o. find (is_owned (met_in spaces range) s.parts) (chunks_of range) ≡ o →
                (grow_unless s c range committed (option_map (λ k. Meets (chunk_span k)) o)).reply ≡ Grown span b → list_any (owns_chunk chunk) spaces ≡ false) [
                  | Some k ↦ λ e h. absurd (cc)
                  | None ↦ λ e h.
                      let same : range ≡ span = cc in
                      let here : has_page page range ≡ true = subst (λ x. has_page page x ≡ true) (sym same) in_span in
                      none_met (λ k. list_any (owns_chunk k) spaces) range page chunk (nothing_found (λ k. list_any (owns_chunk k) spaces) s.parts _ _ (met_in spaces range) refl e) here in_chunk
                ] refl
          ]
    ] told
  where
    range : Span
    range = record { first = first; pages = pages }
alloc_meets spaces s c ask answer span b page chunk told in_span in_chunk = absurd (cc)

-- what a hook refused to take back is met by no other arena
dalloc_meets : (others : List Space) (s : Space) (c : ℕ) (ask : Ask) (answer : Answer) (page chunk : ℕ) →
    (after_offer s c (met_by_dalloc others ask answer) ask answer).reply ≡ Kept → is_in_dalloc page ask ≡ true → has_page page (chunk_span chunk) ≡ true → list_any (owns_chunk chunk) others ≡ false
dalloc_meets others s c (Dalloc span committed) answers.Refused page chunk told in_span in_chunk =
    elim (met_in others span) as (λ o. met_in others span ≡ o → (keep_offer (record s { offers = without_offer c span committed s.offers }) c o span committed).reply ≡ Kept → list_any (owns_chunk chunk) others ≡ false) [
      | Some k ↦ λ e h. absurd (cc)
      | None ↦ λ e h. none_met (λ k. list_any (owns_chunk k) others) span page chunk e in_span in_chunk
    ] refl told
dalloc_meets others s c ask answer page chunk told in_span in_chunk = absurd (cc)

-- where a page comes to an arena, no other arena owns its chunk
comes_alone : (spaces : List Space) (arena c : ℕ) (op : Op) (reply : Reply) (page chunk j : ℕ) → (step_of (space_at spaces arena) c (with_chunk_found spaces arena op)).reply ≡ reply →
    Comes page (with_chunk_found spaces arena op) reply → has_page page (chunk_span chunk) ≡ true → j ≢ arena → owns_chunk chunk (space_at spaces j) ≡ false
comes_alone spaces arena c (GrowDone heard found) (Grown span b) page chunk j told comes in_chunk other =
    none_at (owns_chunk chunk) spaces j absent_space (alloc_meets spaces (space_at spaces arena) c heard.ask heard.answer span b page chunk told comes in_chunk) refl
comes_alone spaces arena c (OfferDone heard found) Kept page chunk j told comes in_chunk other =
    let none = dalloc_meets (others_of arena spaces) (space_at spaces arena) c heard.ask heard.answer page chunk told comes in_chunk in
    ap (owns_chunk chunk) (sym (get_or-set_other spaces arena j absent_space absent_space other)) ∙ none_at (owns_chunk chunk) (others_of arena spaces) j absent_space none refl
comes_alone spaces arena c op reply page chunk j told comes in_chunk other = absurd comes

-- ---- the law

-- after a turn of an arena still no chunk has two owners
pub apart_turn : (spaces : List Space) (arena c : ℕ) (op : Op) → arena < length spaces → Apart spaces → Sound (space_at spaces arena) →
    op_stands (space_at spaces arena) c (with_chunk_found spaces arena op) ≡ true → Apart (slice_set spaces arena (step_of (space_at spaces arena) c (with_chunk_found spaces arena op)).after)
apart_turn spaces arena c op within apart sound stands chunk i j first second =
    at_or_else (λ k. owns_chunk chunk (at k) ≡ true → k ≡ j) i arena (λ _ mine. at_or_else (λ k. owns_chunk chunk (at k) ≡ true → arena ≡ k) j arena (λ _ _. refl) (λ far theirs. alone j far mine theirs) second)
    (λ far theirs. at_or_else (λ k. owns_chunk chunk (at k) ≡ true → i ≡ k) j arena (λ _ mine. sym (alone i far mine theirs)) (λ off others. apart chunk i j (was i far theirs) (was j off others)) second) first
  where
    t : Space
    t = (step_of (space_at spaces arena) c (with_chunk_found spaces arena op)).after

    at : ℕ → Space
    at k = space_at (slice_set spaces arena t) k

    was : (k : ℕ) → k ≢ arena → owns_chunk chunk (at k) ≡ true → owns_chunk chunk (space_at spaces k) ≡ true
    was k far owns = ap (owns_chunk chunk) (sym (get_or-set_other spaces arena k t absent_space far)) ∙ owns

    keeps : Sound t
    keeps = (op_keeps c (space_at spaces arena) (with_chunk_found spaces arena op) sound stands).sound

    alone : (k : ℕ) → k ≢ arena → owns_chunk chunk (at arena) ≡ true → owns_chunk chunk (at k) ≡ true → arena ≡ k
    alone k far mine theirs =
        let page = owned_page chunk t.parts keeps.placed (ap (owns_chunk chunk) (sym (get_or-set_same spaces arena t absent_space within)) ∙ mine) in
        elim (page_comes c (space_at spaces arena) (with_chunk_found spaces arena op) page.0 sound stands page.2) [
          | inl before ↦ apart chunk arena k (page_owned chunk page.0 (space_at spaces arena).parts page.1 before) (was k far theirs)
          | inr comes ↦ absurd (let mine_only = comes_alone spaces arena c op _ page.0 chunk k refl comes page.1 far in let owned = was k far theirs in cc)
        ]
