-- What the alignments of a memalign divide: the alignment of a small class, and the first bytes of pages.
use Rattle.call_plan.proofs.Words.{◌∣◌, ◌≡◌, ℕ, ◌+◌, ◌-◌, ◌*◌, ◌/◌, ◌%◌, ◌^◌, ◌<◌, ◌≤◌, ◌==◌, ◌&&◌, max, Bool, true, cond, leb, ltb, refl, sym, ◌∙◌, ap, subst, arith, add-mod-mod, div-add-mod, dvd-mul_left, mod-lt, mod_self, mul-add-mod_self_left, mul-dvd-mul_left, dvd_of_mod-eq-zero, dvd_trans, pow_pos, and_parts, eqb-true, ltb-true, nat_tests, next_multiple_of, aligned_divides, passes_below, at, align_at, aligned_for, class_for, is_alignment, page_align}
use Rattle.call_plan.proofs.Aligned.{passing_is, power_of}

-- What an alignment in bytes and one in pages have to do with each other and with a chunk of 512 pages.
pub record Paged (align pages : ℕ) : Type 0 where
  pub some : 1 ≤ pages
  pub chunk : pages ∣ max 512 pages
  pub bytes : align ∣ 4096 * pages

abbrev paged : ℕ → Bool
paged k = ltb 0 (page_align (2 ^ k)) && (max 512 (page_align (2 ^ k)) % page_align (2 ^ k) == 0 && 4096 * page_align (2 ^ k) % 2 ^ k == 0)

paged_below : passes_below paged 31 ≡ true
paged_below = refl

-- the alignment in pages that stands for one in bytes
pub paged_of : (align : ℕ) → is_alignment align ≡ true → Paged align (page_align align)
paged_of align passes =
    let power = power_of align passes in
    let parts = and_parts _ _ (at paged 31 power.0 paged_below power.1) in
    let others = and_parts _ _ parts.1 in
    subst (λ n. Paged n (page_align n)) (sym power.2) (record {
      some = ltb-true _ _ parts.0;
      chunk = dvd_of_mod-eq-zero (page_align (2 ^ power.0)) (eqb-true _ _ others.0);
      bytes = dvd_of_mod-eq-zero (2 ^ power.0) (eqb-true _ _ others.1);
    })

-- a number that was rounded up to a multiple is one
rounded_up : (n align : ℕ) → 1 ≤ align → next_multiple_of n align % align ≡ 0
rounded_up n align some =
    let below : n % align < align = mod-lt n (omega arith) in
    let split : align * (n / align) + n % align ≡ n = div-add-mod n align in
    let sum : n + (align - n % align) ≡ align * (n / align) + align = omega arith in
    add-mod-mod n (align - n % align) align ∙ ap (λ k. k % align) sum ∙ mul-add-mod_self_left align (n / align) align ∙ mod_self align

-- where the class for an alignment is small, the alignment is at most a page's and the class that of the rounded size
chosen_small : (align r c : ℕ) → cond (leb align 4096 && ltb r 36) r (max 36 c) < 36 → (align ≤ 4096) × (r < 36) × (cond (leb align 4096 && ltb r 36) r (max 36 c) ≡ r)
chosen_small align r c small = (grind (arith, nat_tests), grind (arith, nat_tests), grind (arith, nat_tests))

-- a small class for an alignment has an alignment that is a multiple of it
pub small_divides : (size align : ℕ) → is_alignment align ≡ true → aligned_for size align < 36 → align ∣ align_at (aligned_for size align)
small_divides size align passes small =
    let rounded : ℕ = next_multiple_of (max size 1) align in
    let is = passing_is align passes in
    let (within, below, same) = chosen_small align (class_for rounded) (class_for size) small in
    let whole = rounded_up (max size 1) align (omega (arith, is.0.1, pow_pos is.0.0)) in
    dvd_of_mod-eq-zero align (subst (λ n. align_at n % align ≡ 0) (sym same) (aligned_divides rounded align (class_for rounded) is within (omega arith) whole refl below))

-- the first byte of a page that is a multiple of the alignment in pages
pub page_divides : (align pages first : ℕ) → align ∣ 4096 * pages → pages ∣ first → align ∣ 4096 * first
page_divides align pages first bytes start = dvd_trans align bytes (mul-dvd-mul_left pages 4096 start)

-- the first page of a run
pub run_divides : (align first skip : ℕ) → 1 ≤ align → skip ≡ (first + (align - 1)) / align * align - first → align ∣ first + skip
run_divides align first skip some is =
    let above : first ≤ (first + (align - 1)) / align * align = grind arith in
    let at : first + skip ≡ (first + (align - 1)) / align * align = omega (arith, above, is) in
    subst (λ n. align ∣ n) (sym at) (dvd-mul_left align ((first + (align - 1)) / align))
