-- The counts of bytes are those of pages, what is read of all extents, and what others have in an arena.
use Rattle.arena_core.proofs.Words.{◌≡◌, ℕ, ◌+◌, ◌-◌, ◌*◌, ◌^◌, ◌<◌, ◌≤◌, Bool, true, false, cond, List, [], ◌∷◌, get_or, filter, refl, sym, arith, not, IsTrue, length, All, ◌&&◌, eqb, nat_le, list_any, sum_by, count_by, nat_tests, list_any_none, sum_by-cons, Part, Rest, State, Space, IsPlaced, chunk_span, meets, pages_end, is_active, is_listed, pages_listed, is_flight, is_in_flight, bytes_of, bytes_where, is_mapped, Sound, bytes_le, bytes_pages, listed_fit_space, mapped_sum, whole_sum, pages_of, active_pages, all_pages, Indexes, space_of, Offered, is_held_by, flight_count, reset_stands, all_sum_le, not_true, both_true, some_pages, count_same, any_false}
use Rattle.arena_core.proofs.Emptying.{count_all, most_one}
use Rattle.space_model.specs.declared.Rest.TheVariants as rests

-- the pages of an extent whose state passes, or none
abbrev pub pages_if : (State → Bool) → Part → ℕ
pages_if test p = cond (test p.state) p.span.pages 0

-- bytes are 4096 times pages
where_pages : (test : State → Bool) (parts : List Part) → bytes_where test parts ≡ 4096 * sum_by (pages_if test) parts
where_pages test [] = refl
where_pages test (p ∷ ps) = grind (arith, where_pages test ps, sum_by-cons (λ q. cond (test q.state) (bytes_of q) 0) p ps, sum_by-cons (pages_if test) p ps)

-- the pages of the listed extents, as a sum over all
pub listed_pages : (rest : Rest) (parts : List Part) → pages_of rest parts ≡ pages_listed rest parts
listed_pages rest [] = refl
listed_pages rest (p ∷ ps) =
    let kept = filter (λ q. is_listed rest q.state) ps in
    grind (arith, listed_pages rest ps, sum_by-cons (λ q. q.span.pages) p kept, sum_by-cons (pages_if (is_listed rest)) p ps)

-- they are no more than the pages of the space
pub listed_fit : (rest : Rest) (i : Indexes) → Sound (space_of i) → pages_of rest i.extents.parts ≤ pages_end - 512
listed_fit rest i sound = omega (arith, listed_pages rest i.extents.parts, listed_fit_space rest (space_of i) sound)

-- How the counts of a space come of the sums of pages.
pub record Summed (parts : List Part) : Type 0 where
  pub active : 4096 * active_pages parts ≡ bytes_where is_active parts
  pub dirty : 4096 * pages_of rests.Dirty parts ≡ bytes_where (is_listed rests.Dirty) parts
  pub muzzy : 4096 * pages_of rests.Muzzy parts ≡ bytes_where (is_listed rests.Muzzy) parts
  pub retained : 4096 * pages_of rests.Retained parts ≡ bytes_where (is_listed rests.Retained) parts
  pub whole : 4096 * all_pages parts ≡ bytes_where is_mapped parts + bytes_where (is_listed rests.Retained) parts
  pub mapped : bytes_where is_mapped parts
      ≡ bytes_where is_active parts + bytes_where (is_listed rests.Dirty) parts + bytes_where (is_listed rests.Muzzy) parts + bytes_where is_in_flight parts
  pub fits : 4096 * all_pages parts ≤ 2 ^ 41

pub summed : (s : Space) → Sound s → Summed s.parts
summed s sound = record {
  active = sym (where_pages is_active s.parts);
  dirty = omega (arith, where_pages (is_listed rests.Dirty) s.parts, listed_pages rests.Dirty s.parts);
  muzzy = omega (arith, where_pages (is_listed rests.Muzzy) s.parts, listed_pages rests.Muzzy s.parts);
  retained = omega (arith, where_pages (is_listed rests.Retained) s.parts, listed_pages rests.Retained s.parts);
  whole = omega (arith, whole_sum s.parts, bytes_pages s.parts);
  mapped = mapped_sum s.parts;
  fits = omega (arith, bytes_le s sound, bytes_pages s.parts);
}

-- the pages of an arena's extents are few, and those of each kind are among them
pub pages_few : (i : Indexes) → Sound (space_of i) →
    (active_pages i.extents.parts + pages_of rests.Dirty i.extents.parts + pages_of rests.Muzzy i.extents.parts + pages_of rests.Retained i.extents.parts ≤ all_pages i.extents.parts)
    × (4096 * all_pages i.extents.parts ≤ 2 ^ 41)
pages_few i sound = let sums = summed (space_of i) sound in (omega arith, sums.fits)

-- no extent meets what lies past all chunks
pub none_past : (s : Space) (chunk : ℕ) → Sound s → 1048575 < chunk → list_any (λ p. meets p.span (chunk_span chunk)) s.parts ≡ false
none_past s chunk sound past =
    list_any_none (λ p. meets p.span (chunk_span chunk)) s.parts (λ k d h.
    let p : Part = get_or s.parts k d in
    let placed : IsPlaced p.span = sound.placed k d h in
    let last = placed.2 in grind (arith, nat_tests))

-- where none passes the second test, leaving out those that pass it changes no count
without_none : {X : Type 0} (f g : X → Bool) (xs : List X) → list_any g xs ≡ false → count_by (λ x. f x && not (g x)) xs ≡ count_by f xs
without_none f g xs none = count_same (λ x. f x && not (g x)) f xs (λ x m. grind (arith, any_false g xs x none m))

-- all extents in flight and all offers are those of others
pub flights_of_others : (s : Space) (c cached : ℕ) → IsTrue (reset_stands s c cached) → count_by (λ p. is_in_flight p.state) s.parts + length s.offers ≡ flight_count s c
flights_of_others s c cached stands =
    let flies = not (list_any (λ p. is_flight c p.state) s.parts) in
    let offers = not (list_any (λ (o : Offered). eqb o.client c) s.offers) in
    let both = both_true (flies && offers) (nat_le cached (count_by (is_held_by c) s.regions)) stands in
    let each = both_true flies offers both.0 in
    let parts = without_none (λ p. is_in_flight p.state) (λ p. is_flight c p.state) s.parts (not_true _ each.0) in
    let others = without_none (λ _. true) (λ (o : Offered). eqb o.client c) s.offers (not_true _ each.1) in
    omega (arith, parts, others, count_all s.offers)

-- few extents are in flight
pub flights_few : (s : Space) → Sound s → count_by (λ p. is_in_flight p.state) s.parts < 2 ^ 41
flights_few s sound =
    let one : All (λ p. cond (is_in_flight p.state) 1 0 ≤ p.span.pages) s.parts = λ k d h. omega (arith, some_pages s.parts sound.placed k d h, most_one (is_in_flight (get_or s.parts k d).state)) in
    omega (arith, all_sum_le (λ p. cond (is_in_flight p.state) 1 0) (λ p. p.span.pages) s.parts one, (summed s sound).fits)
