-- The counts of an arena are at most the bytes of the space.
use Rattle.std.proofs.Common.{cond, ℕ, zero, suc, ◌+◌, ◌^◌, ◌<◌, ◌≤◌, Bool, List, [], ◌∷◌, length, map, get_or, arith, All, eqb, ltb}
use Rattle.std.specs.Prelude.{not}
use Rattle.std.specs.List.{count_by, range_with_len, sum_by}
use Rattle.std.proofs.lemmas.List.Sums.{count_by-le-length, sum_by-cons, sum_by-le-sum_by}
use Rattle.std.proofs.lemmas.List.Elements.{All-head, All-tail, All-weaker}
use Rattle.size_classes.specs.Classes.{size_at}
use Rattle.size_classes.proofs.Table.{size_bounds}
use Rattle.space_model.specs.declared.Part.{Part}
use Rattle.space_model.specs.declared.Region.{Region}
use Rattle.space_model.specs.declared.Space.{Space}
use Rattle.space_model.specs.declared.State.{State}
use Rattle.space_model.specs.Counts.{bytes_of, bytes_where, counts_of, is_mapped, region_bytes_where, regions_by_class, slabs_by_class}
use Rattle.space_model.specs.Part.{is_active, is_in_flight, is_listed}
use Rattle.space_model.specs.Region.{is_slab}
use Rattle.space_model.specs.Sound.{Sound}
use Rattle.space_model.specs.Span.{IsPlaced}
use Rattle.space_model.proofs.Sums.{bytes_le, pages_fit_space, region_bytes_fits}
use Rattle.heap_stats.specs.Stats.{AreSmall}
use Rattle.space_model.specs.declared.Rest.TheVariants as rests

-- a list has no more members than the sum of what each has, where each has something
few : {A : Type 0} (f : A → ℕ) (xs : List A) → All (λ x. 1 ≤ f x) xs → length xs ≤ sum_by f xs
few f [] h = omega arith
few f (x ∷ xs) h = omega (arith, sum_by-cons f x xs, All-head (λ y. 1 ≤ f y) x xs h, few f xs (All-tail (λ y. 1 ≤ f y) x xs h))

-- what is made of each member is small, where it is small whatever the member is
made_small : (f : ℕ → ℕ) (most : ℕ) (xs : List ℕ) (i : ℕ) → ((x : ℕ) → f x ≤ most) → get_or (map f xs) i 0 ≤ most
made_small f most [] i h = omega arith
made_small f most (x ∷ xs) zero h = h x
made_small f most (x ∷ xs) (suc i) h = made_small f most xs i h

few_regions : (s : Space) → Sound s → length s.regions ≤ 2 ^ 58
few_regions s sound =
    omega (
      arith,
      region_bytes_fits s sound,
      few (λ (r : Region). size_at r.class) s.regions (All-weaker (λ r. r.class < 121) (λ r. 1 ≤ size_at r.class) (λ r lt. omega (arith, size_bounds r.class lt)) s.regions sound.classes),
    )

few_parts : (s : Space) → Sound s → length s.parts ≤ 2 ^ 58
few_parts s sound =
    omega (
      arith,
      pages_fit_space s sound,
      few (λ (p : Part). p.span.pages) s.parts (All-weaker (λ p. IsPlaced p.span) (λ p. 1 ≤ p.span.pages) (λ p h. omega (arith, h.0)) s.parts sound.placed),
    )

-- the bytes of some of the extents fit
bytes_where_fits : (test : State → Bool) (s : Space) → Sound s → bytes_where test s.parts ≤ 2 ^ 41
bytes_where_fits test s sound =
    omega (arith, bytes_le s sound, sum_by-le-sum_by (λ (p : Part). cond (test p.state) (bytes_of p) 0) bytes_of s.parts (λ p. grind arith))

-- the regions of some classes have no more bytes
region_bytes_where_fits : (test : ℕ → Bool) (s : Space) → Sound s → region_bytes_where test s.regions ≤ 2 ^ 41
region_bytes_where_fits test s sound =
    omega (
      arith,
      region_bytes_fits s sound,
      sum_by-le-sum_by (λ (r : Region). cond (test r.class) (size_at r.class) 0) (λ r. size_at r.class) s.regions (λ r. grind arith),
    )

bytes_small : (bytes : ℕ) → bytes ≤ 2 ^ 41 → bytes ≤ 2 ^ 58
bytes_small bytes h = omega (arith, h)

classes_small : (first classes : ℕ) (s : Space) → Sound s → (i : ℕ) → get_or (regions_by_class first classes s.regions) i 0 ≤ 2 ^ 58
classes_small first classes s sound i =
    made_small (λ k. count_by (λ (r : Region). eqb r.class (first + k)) s.regions) (2 ^ 58) (range_with_len 0 classes) i
    (λ k. omega (arith, few_regions s sound, count_by-le-length (λ (r : Region). eqb r.class (first + k)) s.regions))

slabs_small : (s : Space) → Sound s → (i : ℕ) → get_or (slabs_by_class s.regions s.parts) i 0 ≤ 2 ^ 58
slabs_small s sound i =
    made_small (λ class. count_by (is_slab class s.regions) s.parts) (2 ^ 58) (range_with_len 0 36) i
    (λ class. omega (arith, few_parts s sound, count_by-le-length (is_slab class s.regions) s.parts))

pub counts_small : (s : Space) → Sound s → AreSmall (counts_of s)
counts_small s sound = record {
  allocated = bytes_small _ (region_bytes_fits s sound);
  active = bytes_small _ (bytes_where_fits is_active s sound);
  dirty = bytes_small _ (bytes_where_fits (is_listed rests.Dirty) s sound);
  muzzy = bytes_small _ (bytes_where_fits (is_listed rests.Muzzy) s sound);
  retained = bytes_small _ (bytes_where_fits (is_listed rests.Retained) s sound);
  flight = bytes_small _ (bytes_where_fits is_in_flight s sound);
  mapped = bytes_small _ (bytes_where_fits is_mapped s sound);
  small = bytes_small _ (region_bytes_where_fits (λ class. ltb class 36) s sound);
  large = bytes_small _ (region_bytes_where_fits (λ class. not (ltb class 36)) s sound);
  regs = classes_small 0 36 s sound;
  slabs = slabs_small s sound;
  lextents = classes_small 36 85 s sound;
}
