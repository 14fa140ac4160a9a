-- The regions that are out, by address, and some that land among others.
use Rattle.bin_book.proofs.Words.{is_some_find, ◌≡◌, ℕ, ◌+◌, ◌*◌, ◌<◌, ◌≤◌, zero, suc, Bool, true, false, not, List, [], ◌∷◌, ◌++◌, map, filter, find, get_or, Some, None, inl, inr, refl, sym, ap, ◌∙◌, subst, arith, Contains, Less, flat_map, list_any, range_with_len, IsStrictlySortedBy, mul-le-mul_right, cases_Bool, Contains-append_cases, Contains-append_left, Contains-append_right, regions_at, size_at, size_bounds, Region, starts_at, landing, Bits, Key, IsAscending, key_cmp, contains_cases, contains_later, filter_from, filter_has, less_major, every_member, addr_of, place, holder_at, AreSlabKeys, bits_at, out_of, slab_region, out_of_slabs, zeros, IsRising, behind_members, rising_both, member_found, head, map_from, map_has, range_from, range_has, inserted, append_assoc, nat_tests, filter_all_of}
use Rattle.bin_book.proofs.Taking.{less_ne}
use Rattle.list_facts.proofs.ByKey.{absent_filter, none_behind}
use Rattle.ordered_set.proofs.Sorted.{every_right}
use Rattle.std.proofs.lemmas.Grind.{flat_map-append}
use Rattle.std.proofs.lemmas.List.Elements.{filter-append}
use Rattle.bin_book.proofs.Places.{place_inside}

-- ---- the regions that are out

-- a region that is out at a place of the slab with this key
pub record IsOutRegion (slots : List Bits) (codes : List ℕ) (keys : List Key) (r : Region) (key : Key) (n : ℕ) : Type 0 where
  pub there : Contains keys key
  pub low : n < regions_at (bits_at slots key.minor).class
  pub out : get_or (bits_at slots key.minor).free n false ≡ false
  pub is : slab_region slots codes key n ≡ r

module _ (slots : List Bits) (codes : List ℕ) where
  pub out_has : (keys : List Key) (r : Region) (key : Key) (n : ℕ) → IsOutRegion slots codes keys r key n → Contains (out_of_slabs slots codes keys) r
  unfolding out_of_slabs
  out_has [] r key n o = absurd (let m = o.there in omega arith)
  out_has (k ∷ ks) r key n o = elim (contains_cases k ks key o.there) [
    | inl e ↦
        let b = bits_at slots key.minor in
        let m = map_has (slab_region slots codes key) (zeros (regions_at b.class) b.free) n (filter_has (λ i. not (get_or b.free i false)) (range_with_len 0 (regions_at b.class)) n (range_has 0 (regions_at b.class) n (omega arith) (omega (arith, o.low))) (ap not o.out)) in
        Contains-append_left (out_of slots codes k) (flat_map (out_of slots codes) ks) r (rw e (subst (Contains (out_of slots codes key)) o.is m))
    | inr d ↦ Contains-append_right (out_of slots codes k) (flat_map (out_of slots codes) ks) r (out_has ks r key n (record { there = d; low = o.low; out = o.out; is = o.is }))
  ]

  in_slab : (key : Key) (r : Region) → Contains (out_of slots codes key) r → (n : ℕ) × IsOutRegion slots codes (key ∷ []) r key n
  in_slab key r m =
      let b = bits_at slots key.minor in
      let p = map_from (slab_region slots codes key) (zeros (regions_at b.class) b.free) r m in
      let q = filter_from (λ i. not (get_or b.free i false)) (range_with_len 0 (regions_at b.class)) p.0 p.1 in
      (p.0, record { there = head key []; low = omega (arith, (range_from 0 (regions_at b.class) p.0 q.0).1); out = grind (arith, q.1); is = p.2 })

  pub out_from : (keys : List Key) (r : Region) → Contains (out_of_slabs slots codes keys) r → (key : Key) × (n : ℕ) × IsOutRegion slots codes keys r key n
  unfolding out_of_slabs
  out_from [] r m = absurd (omega arith)
  out_from (k ∷ ks) r m = elim (Contains-append_cases (out_of slots codes k) (flat_map (out_of slots codes) ks) r m) [
    | inl d ↦ let p = in_slab k r d in (k, p.0, record { there = head k ks; low = p.1.low; out = p.1.out; is = p.1.is })
    | inr d ↦ let p = out_from ks r d in (p.0, p.1, record { there = contains_later k ks p.0 p.2.there; low = p.2.low; out = p.2.out; is = p.2.is })
  ]

  -- a slab's regions rise, place by place
  slab_rises : (key : Key) (p : ℕ → Bool) (start n : ℕ) → 1 ≤ size_at (bits_at slots key.minor).class → IsRising addr_of (map (slab_region slots codes key) (filter p (range_with_len start n)))
  slab_rises key p start zero some = tt
  slab_rises key p start (suc n) some =
      let rest = slab_rises key p (start + 1) n some in
      elim (cases_Bool (p start)) [
        | inl t ↦ rw t (
          behind_members addr_of _ _ (λ r m.
              let q = map_from (slab_region slots codes key) (filter p (range_with_len (start + 1) n)) r m in
              let low = (range_from (start + 1) n q.0 (filter_from p (range_with_len (start + 1) n) q.0 q.1).0).0 in
              let c = (bits_at slots key.minor).class in
              let more : (start + 1) * size_at c ≤ q.0 * size_at c = mul-le-mul_right (size_at c) low in
              let at : place c key.major q.0 ≡ r.addr = ap (λ (x : Region). x.addr) q.2 in
              omega arith),
          rest,
        )
        | inr f ↦ rw f rest
      ]

  -- and so do those of all slabs
  pub regions_rise : (keys : List Key) → IsAscending keys → AreSlabKeys slots keys → IsRising addr_of (out_of_slabs slots codes keys)
  unfolding out_of_slabs IsStrictlySortedBy
  regions_rise [] s kept = tt
  regions_rise (k ∷ ks) s kept =
      let is = kept.slab k (head k ks) in
      let b = bits_at slots k.minor in
      let small = is.small in
      rising_both addr_of (out_of slots codes k) (flat_map (out_of slots codes) ks) (slab_rises k (λ i. not (get_or b.free i false)) 0 (regions_at b.class) (let size = (size_bounds b.class (omega arith)).0 in omega arith))
      (regions_rise ks s.1 (record {
        slab = λ l m. kept.slab l (contains_later k ks l m);
        apart = λ l l' m m'. kept.apart l l' (contains_later k ks l m) (contains_later k ks l' m');
        numbers = λ l l' m m'. kept.numbers l l' (contains_later k ks l m) (contains_later k ks l' m');
      }))
      (λ x y m n.
      let p = in_slab k x m in
      let q = out_from ks y n in
      let less : key_cmp k q.0 ≡ Less = every_member _ ks s.0 q.0 q.2.there in
      let at : place b.class k.major p.0 ≡ x.addr = ap (λ (r : Region). r.addr) p.1.is in
      let at' : place (bits_at slots q.0.minor).class q.0.major q.1 ≡ y.addr = ap (λ (r : Region). r.addr) q.2.is in
      let inside = place_inside b.class k.major p.0 small p.1.low in
      let size = (size_bounds b.class (omega arith)).0 in
      grind (arith, kept.apart k q.0 (head k ks) (contains_later k ks q.0 q.2.there) (less_major k q.0 less), less_ne k q.0 less, at, at', inside, size))

-- a region that is out is what begins at its address
pub found_out : (slots : List Bits) (codes : List ℕ) (keys : List Key) → IsAscending keys → AreSlabKeys slots keys → (r : Region) (key : Key) (n : ℕ) → IsOutRegion slots codes keys r key n → find (starts_at r.addr) (out_of_slabs slots codes keys) ≡ Some r
found_out slots codes keys ascending kept r key n o = member_found addr_of (out_of_slabs slots codes keys) r (regions_rise slots codes keys ascending kept) (out_has slots codes keys r key n o)

-- no slabs have no regions
pub no_regions : (slots : List Bits) (codes : List ℕ) (keys : List Key) → keys ≡ [] → out_of_slabs slots codes keys ≡ []
unfolding out_of_slabs
no_regions slots codes keys e = ap (flat_map (out_of slots codes)) e

-- two lists made from one are the same as far as a test passes, where each thing that passes is the same in both
kept_same : {X Y : Type 0} (pass : Y → Bool) (f g : X → Y) (p q : X → Bool) (xs : List X) → ((x : X) → Contains xs x → (pass (f x) ≡ pass (g x)) × (pass (g x) ≡ true → (p x ≡ q x) × (f x ≡ g x))) → filter pass (map f (filter p xs)) ≡ filter pass (map g (filter q xs))
kept_same pass f g p q [] same = refl
kept_same pass f g p q (x ∷ xs) same = grind (arith, same x (head x xs), kept_same pass f g p q xs (λ y m. same y (contains_later x xs y m)))

-- slots and codes that say the same of the places whose addresses pass a test have the same regions there
pub regions_agree_at : (pass : ℕ → Bool) (old new : List Bits) (codes news : List ℕ) (keys : List Key) → ((k : Key) → Contains keys k → (bits_at new k.minor).class ≡ (bits_at old k.minor).class)
    → ((k : Key) (n : ℕ) → Contains keys k → n < regions_at (bits_at old k.minor).class → pass (place (bits_at old k.minor).class k.major n) ≡ true → (get_or (bits_at new k.minor).free n false ≡ get_or (bits_at old k.minor).free n false) × (holder_at news (512 * k.minor + n) ≡ holder_at codes (512 * k.minor + n)))
    → filter (λ r. pass r.addr) (out_of_slabs new news keys) ≡ filter (λ r. pass r.addr) (out_of_slabs old codes keys)
unfolding out_of_slabs
regions_agree_at pass old new codes news [] class same = refl
regions_agree_at pass old new codes news (k ∷ ks) class same =
    let p = λ (r : Region). pass r.addr in
    let c = class k (head k ks) in
    let regions = regions_at (bits_at old k.minor).class in
    let one : filter p (out_of new news k) ≡ filter p (out_of old codes k) = ap (λ d. filter p (map (slab_region new news k) (zeros (regions_at d) (bits_at new k.minor).free))) c ∙ kept_same p (slab_region new news k) (slab_region old codes k) _ _ (range_with_len 0 regions) (λ n m. (
      ap (λ d. pass (place d k.major n)) c,
      λ t. let here = same k n (head k ks) (omega (arith, (range_from 0 regions n m).1)) t in (ap not here.0, λ x. record { addr = place (c x) k.major n; class = c x; holder = here.1 x }),
    )) in
    let all = regions_agree_at pass old new codes news ks (λ l m. class l (contains_later k ks l m)) (λ l n m. same l n (contains_later k ks l m)) in
    filter-append p (out_of new news k) _ ∙ (λ x. one x ++ all x) ∙ sym (filter-append p (out_of old codes k) _)

-- those that say the same of all places have the same regions
pub regions_agree : (old new : List Bits) (codes news : List ℕ) (keys : List Key) → ((k : Key) → Contains keys k → bits_at new k.minor ≡ bits_at old k.minor)
    → ((k : Key) (n : ℕ) → Contains keys k → n < regions_at (bits_at old k.minor).class → holder_at news (512 * k.minor + n) ≡ holder_at codes (512 * k.minor + n)) → out_of_slabs new news keys ≡ out_of_slabs old codes keys
regions_agree old new codes news keys bits holders = sym (filter_all_of (λ r. true) (out_of_slabs new news keys) (λ r m. refl))
    ∙ regions_agree_at (λ a. true) old new codes news keys (λ k m. ap (λ (b : Bits). b.class) (bits k m)) (λ k n m low t. (ap (λ (b : Bits). get_or b.free n false) (bits k m), holders k n m low))
    ∙ filter_all_of (λ r. true) (out_of_slabs old codes keys) (λ r m. refl)

-- the regions of the slabs of two lists
pub regions_both : (slots : List Bits) (codes : List ℕ) (ks ls : List Key) → out_of_slabs slots codes (ks ++ ls) ≡ out_of_slabs slots codes ks ++ out_of_slabs slots codes ls
unfolding out_of_slabs
regions_both slots codes ks ls = flat_map-append (out_of slots codes) ks ls

pub regions_first : (slots : List Bits) (codes : List ℕ) (key : Key) (ks : List Key) → out_of_slabs slots codes (key ∷ ks) ≡ out_of slots codes key ++ out_of_slabs slots codes ks
unfolding out_of_slabs
regions_first slots codes key ks = refl

-- nothing is found where no region passes the test
pub none_passes : (rs : List Region) (a : ℕ) → false ≡ list_any (starts_at a) rs → None ≡ find (starts_at a) rs
none_passes rs a e = grind (arith, is_some_find (starts_at a) rs, e)

-- ---- regions between others

-- a region that comes stands behind those below it
inserted_later : (r x : Region) (rs : List Region) → x.addr < r.addr → inserted r (x ∷ rs) ≡ x ∷ inserted r rs
inserted_later r x rs l = grind (arith, nat_tests)

inserted_between : (xs rest zs : List Region) (r : Region) → IsRising addr_of (xs ++ r ∷ (rest ++ zs)) → inserted r (xs ++ zs) ≡ xs ++ r ∷ zs
inserted_between [] rest [] r rising = refl
inserted_between [] rest (z ∷ zs) r rising = grind (arith, nat_tests, every_right (λ (q : Region). r.addr < q.addr) rest (z ∷ zs) rising.0)
inserted_between (x ∷ xs) rest zs r rising = inserted_later r x (xs ++ zs) (every_right (λ (q : Region). x.addr < q.addr) xs (r ∷ (rest ++ zs)) rising.0).0 ∙ ap (λ rs. x ∷ rs) (inserted_between xs rest zs r rising.1)

pub landing_between : (xs ys zs : List Region) → IsRising addr_of (xs ++ (ys ++ zs)) → landing ys (xs ++ zs) ≡ xs ++ (ys ++ zs)
landing_between xs [] zs rising = refl
landing_between xs (y ∷ ys) zs rising =
    let one = append_assoc xs (y ∷ []) in
    ap (landing ys) (inserted_between xs ys zs y rising ∙ sym (one zs)) ∙ landing_between (xs ++ y ∷ []) ys zs (subst (IsRising addr_of) (sym (one (ys ++ zs))) rising) ∙ one (ys ++ zs)

-- and one that goes leaves the others
pub left_between : (xs zs : List Region) (r : Region) → IsRising addr_of (xs ++ r ∷ zs) → filter (λ q. not (starts_at r.addr q)) (xs ++ r ∷ zs) ≡ xs ++ zs
left_between [] zs r rising = grind (arith, nat_tests, absent_filter addr_of r.addr zs (none_behind addr_of r.addr r.addr zs (omega arith) rising.0))
left_between (x ∷ xs) zs r rising = grind (arith, nat_tests, every_right (λ (q : Region). x.addr < q.addr) xs (r ∷ zs) rising.0, left_between xs zs r rising.1)
