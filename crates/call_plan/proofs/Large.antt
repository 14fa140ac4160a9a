-- A large region that a client holds, with its extent.
use Rattle.call_plan.proofs.Words.{◌≡◌, ℕ, All, ◌/◌, ◌<◌, ◌≤◌, ◌==◌, ◌&&◌, Bool, true, false, List, [], ◌∷◌, None, Some, refl, sym, ◌∙◌, ap, subst, arith, nat_tests, filter, find, list_any, cond, length, count_by, length-filter, eqb-true, find_passes, find_has, both_true, Region, Space, Part, Sound, mine, pages_at, is_held_by, is_held_of, is_active, Resize, own_span, IsResize}
use Rattle.std.proofs.lemmas.List.Elements.{All-weaker}
use Rattle.space_model.proofs.Lists.{all_sum_le, only_one, ones}
use Rattle.space_model.proofs.Settled.{LargeAt, covered}
use Rattle.space_model.proofs.Landing.{eqb_itself}
use Rattle.space_model.proofs.Words.{size_bounds}
use Rattle.space_model.proofs.Resizes.{housed}
use Rattle.space_model.specs.Region.{address_of, houses, homes, starts_at}
use Rattle.space_model.specs.Resizing.{is_large_at, large_home}
use Rattle.call_plan.proofs.Lists.{any-both, find-kept, none_passes}

-- what is counted is found
counted_found : {X : Type 0} (test : X → Bool) (xs : List X) → 0 < count_by test xs → (x : X) × (find test xs ≡ Some x)
counted_found {X} test xs some =
    elim (find test xs) as (λ o. find test xs ≡ o → (x : X) × (find test xs ≡ Some x)) [
      | None ↦ λ e. absurd (omega (arith, some, length-filter test xs, ap length (none_passes test xs e)))
      | Some x ↦ λ e. (x, e)
    ] refl

-- what some element passes is found
any_found : {X : Type 0} (test : X → Bool) (xs : List X) → list_any test xs ≡ true → (x : X) × (find test xs ≡ Some x)
any_found {X} test [] h = absurd (cc)
any_found {X} test (y ∷ ys) h =
    elim (test y) as (λ v. test y ≡ v → (x : X) × (cond v (Some y) (find test ys) ≡ Some x)) [
      | true ↦ λ e. (y, refl)
      | false ↦ λ e. any_found test ys (let h' = h in grind arith)
    ] refl

-- a region that is found is the only one at its address
pub one_region : (s : Space) (test : Region → Bool) (r : Region) → Sound s → find test s.regions ≡ Some r → filter (starts_at r.addr) s.regions ≡ r ∷ []
one_region s test r sound found =
    let few = all_sum_le (λ q. ones (starts_at r.addr q)) (covered r.addr) s.regions
    (All-weaker (λ q. q.class < 121) (λ q. ones (starts_at r.addr q) ≤ covered r.addr q) (λ q h. let some = (size_bounds q.class h).0 in grind (arith, nat_tests, some)) s.regions sound.classes) in
    only_one (starts_at r.addr) test s.regions r (omega (arith, few, sound.apart r.addr)) found (eqb_itself r.addr)

-- a large region has all pages of its extent
filled : (s : Space) (test : Region → Bool) (r : Region) (p : Part) → Sound s → find test s.regions ≡ Some r → find (λ q. houses q r) s.parts ≡ Some p → houses p r ≡ true → 36 ≤ r.class →
    p.span.pages ≡ pages_at r.class
filled s test r p sound region home here large =
    let at = find_has (λ q. All (LargeAt s.regions q) s.parts) test s.regions r sound.large region in
    let is = find_has (LargeAt s.regions r) (λ q. houses q r) s.parts p at home here large in
    eqb-true _ _ (both_true (r.addr == address_of p.span.first) _ is.0).1

-- A large region that the client holds at an address, with the extent that it has alone.
pub record LargeIs (c : ℕ) (s : Space) (addr class : ℕ) : Type 0 where
  pub region : Region
  pub part : Part
  pub home : large_home s c addr ≡ Some (region, part)
  pub address : region.addr ≡ addr
  pub of_class : region.class ≡ class
  pub start : addr ≡ address_of part.span.first
  pub pages : part.span.pages ≡ pages_at class
  pub active : is_active part.state ≡ true

pub large_is : (c : ℕ) (s : Space) (addr class : ℕ) → Sound s → is_held_of (mine c s) addr class ≡ true → 36 ≤ class → LargeIs c s addr class
large_is c s addr class sound held large =
    let test : Region → Bool = λ q. is_held_by c q && (q.addr == addr && q.class == class) in
    let found = any_found test s.regions (any-both (is_held_by c) (λ q. q.addr == addr && q.class == class) s.regions ∙ held) in
    let r : Region = found.0 in
    let passes = both_true (is_held_by c r) _ (find_passes test s.regions r found.1) in
    let same = both_true (r.addr == addr) _ passes.1 in
    let at : r.addr ≡ addr = eqb-true _ _ same.0 in
    let of : r.class ≡ class = eqb-true _ _ same.1 in
    let alone : filter (starts_at addr) s.regions ≡ r ∷ [] = subst (λ a. filter (starts_at a) s.regions ≡ r ∷ []) at (one_region s test r sound found.1) in
    let is : is_large_at c addr r ≡ true = grind (arith, nat_tests, passes.0, same.0, of, large) in
    let region : find (is_large_at c addr) s.regions ≡ Some r =
    sym (find-kept (is_large_at c addr) (starts_at addr) s.regions (λ q h. grind (arith, h)))
    ∙ ap (find (is_large_at c addr)) alone ∙ ap (λ (v : Bool). cond v (Some r) None) is in
    let one : homes r s.parts ≡ 1 = find_has (λ q. homes q s.parts ≡ 1) (is_large_at c addr) s.regions r sound.homes region in
    let house = counted_found (λ q. houses q r) s.parts (omega (arith, one)) in
    let p : Part = house.0 in
    let big : 36 ≤ r.class = omega (arith, of, large) in
    let at_home = housed s (is_large_at c addr) r p sound region house.1 big in
    let here : houses p r ≡ true = find_passes (λ q. houses q r) s.parts p house.1 in
    let whole = filled s (is_large_at c addr) r p sound region house.1 here big in
    record {
      region = r;
      part = p;
      home = grind (arith, region, house.1);
      address = at;
      of_class = of;
      start = sym at ∙ at_home.start;
      pages = whole ∙ ap pages_at of;
      active = at_home.active;
    }

-- ---- a region that is resized

-- its extent is that of its pages
pub own_is : (c : ℕ) (s : Space) (resize : Resize) (class : ℕ) → (is : LargeIs c s resize.addr class) → resize.pages ≡ pages_at class → is.part.span ≡ own_span resize
own_is c s resize class is pages =
    let first : resize.addr / 4096 ≡ is.part.span.first = omega (arith, is.start) in
    let whole : is.part.span.pages ≡ resize.pages = is.pages ∙ sym pages in
    grind arith

pub resize_is : (c : ℕ) (s : Space) (resize : Resize) → Sound s → (is : IsResize (mine c s) resize) → LargeIs c s resize.addr is.class
resize_is c s resize sound is = large_is c s resize.addr is.class sound is.held is.large
