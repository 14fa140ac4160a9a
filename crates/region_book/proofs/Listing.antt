-- The regions at all pages, and what each change of a page's number makes of them.
use Rattle.std.proofs.Common.{◌≡◌, ℕ, zero, suc, ◌+◌, ◌*◌, ◌/◌, ◌%◌, ◌<◌, true, ◌&&◌, not, cond, List, [], filter, find, Option, None, Some, is_some, refl, sym, ◌∙◌, ap, arith, Bool, eqb, leb, ltb}
use Rattle.std.specs.List.{cons_option}
use Rattle.std.specs.Option.{option_map}
use Rattle.std.specs.Cmp.{unsigned_tied}
use Rattle.std.specs.FinMap as map
use Rattle.std.specs.Ordering.{nat_cmp}
use Rattle.std.proofs.lemmas.Bool.Decides.{nat_tests}
use Rattle.space_model.specs.declared.parts.Region.{Region}
use Rattle.space_model.specs.Region.{address_of, held_anew, inserted, starts_at}
use Rattle.list_facts.specs.ByKey.{AreBehind, IsRising}
use Rattle.list_facts.specs.Codes.{code_of, of_code}
use Rattle.list_facts.proofs.ByKey.{absent_filter, finds_changed, finds_without, is_inserted, rising_changed, rising_filter, same_finds}
use Rattle.region_book.specs.Larges.{Numbers, addr_of, packed, region_at, region_numbered, larges_from, larges_in}

-- ---- what is listed

-- the regions from a page on begin at that page or behind it
behind_page : (numbers : Numbers) (addr page more : ℕ) → addr < 4096 * page → AreBehind addr_of addr (larges_from numbers page more)
unfolding larges_from
behind_page numbers addr page zero low = tt
behind_page numbers addr page (suc more) low =
    elim (map.get numbers page) as (λ o. AreBehind addr_of addr (cons_option (option_map (region_at page) o) (larges_from numbers (page + 1) more))) [
      | None ↦ behind_page numbers addr (page + 1) more (omega (arith, low))
      | Some number ↦ (low, behind_page numbers addr (page + 1) more (omega (arith, low)))
    ]

rises : (numbers : Numbers) (page more : ℕ) → IsRising addr_of (larges_from numbers page more)
unfolding larges_from
rises numbers page zero = tt
rises numbers page (suc more) =
    elim (map.get numbers page) as (λ o. IsRising addr_of (cons_option (option_map (region_at page) o) (larges_from numbers (page + 1) more))) [
      | None ↦ rises numbers (page + 1) more
      | Some number ↦ (behind_page numbers (4096 * page) (page + 1) more (omega arith), rises numbers (page + 1) more)
    ]

-- what is found with the region of one page more in front
found_cons : (o : Option ℕ) (addr page : ℕ) (rs : List Region)
    → find (starts_at addr) (cons_option (option_map (region_at page) o) rs) ≡ cond (eqb (4096 * page) addr && is_some o) (option_map (region_at page) o) (find (starts_at addr) rs)
found_cons None addr page rs = grind (arith, nat_tests)
found_cons (Some number) addr page rs = grind (arith, nat_tests)

-- whether an address is that of one of so many pages from one on
abbrev is_among : ℕ → ℕ → ℕ → Bool
is_among addr page more = eqb (addr % 4096) 0 && leb page (addr / 4096) && ltb (addr / 4096) (page + more)

finds : (numbers : Numbers) (addr page more : ℕ) → find (starts_at addr) (larges_from numbers page more) ≡ cond (is_among addr page more) (region_numbered numbers (addr / 4096)) None
unfolding larges_from
finds numbers addr page zero = grind (arith, nat_tests)
finds numbers addr page (suc more) =
    grind (arith, nat_tests, found_cons (map.get numbers page) addr page (larges_from numbers (page + 1) more), finds numbers addr (page + 1) more)

-- what begins at an address
abbrev pub found : Numbers → ℕ → Option Region
found numbers addr = cond (is_among addr 0 536870912) (region_numbered numbers (addr / 4096)) None

pub larges_rise : (numbers : Numbers) → IsRising addr_of (larges_in numbers)
unfolding larges_in
larges_rise numbers = rises numbers 0 536870912

pub larges_found : (numbers : Numbers) (addr : ℕ) → find (starts_at addr) (larges_in numbers) ≡ found numbers addr
unfolding larges_in
larges_found numbers addr = finds numbers addr 0 536870912

-- ---- numbers and regions

-- a holder's number gives the holder back
holder_back : (class : ℕ) (holder : Option ℕ) → class < 256 → of_code ((class + 256 * code_of holder) / 256) ≡ holder
holder_back class None low = let is : (class + 256 * 0) / 256 ≡ 0 = omega (arith, low) in rw is refl
holder_back class (Some client) low = let is : (class + 256 * (client + 1)) / 256 ≡ client + 1 = omega (arith, low) in rw is (grind (arith, nat_tests))

-- a region's number gives the region back at its page
pub region_back : (r : Region) (page : ℕ) → r.class < 256 → address_of page ≡ r.addr → region_at page (packed r) ≡ r
region_back r page class addr =
    let same : (r.class + 256 * code_of r.holder) % 256 ≡ r.class = omega (arith, class) in
    let holder = holder_back r.class r.holder class in
    λ i. record { addr = addr i; class = same i; holder = holder i }

-- ---- what each change makes

-- what is found once the page of an address has a number
found_put : (numbers : Numbers) (addr number a : ℕ) → addr % 4096 ≡ 0 → addr < 4096 * 536870912
    → found (map.insert numbers (addr / 4096) number) a ≡ cond (eqb addr a) (Some (region_at (addr / 4096) number)) (found numbers a)
found_put numbers addr number a page low = grind (arith, nat_tests, map.gets, unsigned_tied)

-- what is found once the page of an address has no number
found_cleared : (numbers : Numbers) (addr a : ℕ) → addr % 4096 ≡ 0 → found (map.remove numbers (addr / 4096)) a ≡ cond (eqb addr a) None (found numbers a)
found_cleared numbers addr a page = grind (arith, nat_tests, map.gets, unsigned_tied)

-- where a region begins, a page has a number
pub record Stands (numbers : Numbers) (addr : ℕ) : Type 0 where
  pub page : addr % 4096 ≡ 0
  pub low : addr < 4096 * 536870912
  pub number : is_some (map.get numbers (addr / 4096)) ≡ true

pub stands : (numbers : Numbers) (addr : ℕ) → is_some (find (starts_at addr) (larges_in numbers)) ≡ true → Stands numbers addr
stands numbers addr there =
    let is = larges_found numbers addr in
    record { page = grind (arith, nat_tests); low = grind (arith, nat_tests); number = grind (arith, nat_tests) }

-- a rising list in which the same is found is that of the numbers
same_larges : (numbers : Numbers) (rs : List Region) → IsRising addr_of rs → ((a : ℕ) → found numbers a ≡ find (starts_at a) rs) → larges_in numbers ≡ rs
same_larges numbers rs rising same = same_finds addr_of _ _ (larges_rise numbers) rising (λ a. larges_found numbers a ∙ same a)

-- where a page is written, its region stands in the place of what began there
write_is : (numbers : Numbers) (r : Region) → r.class < 256 → r.addr % 4096 ≡ 0 → r.addr < 4096 * 536870912
    → larges_in (map.insert numbers (r.addr / 4096) (packed r)) ≡ inserted r (filter (λ q. not (starts_at r.addr q)) (larges_in numbers))
write_is numbers r class page low = is_inserted addr_of r (larges_in numbers) _ (larges_rise numbers) (larges_rise _) (λ a.
    larges_found _ a ∙ found_put numbers r.addr (packed r) a page low ∙ rw (region_back r (r.addr / 4096) class (omega (arith, page)), ← larges_found numbers a) refl)

pub add_is : (numbers : Numbers) (r : Region) → r.class < 256 → r.addr % 4096 ≡ 0 → r.addr < 4096 * 536870912 → find (starts_at r.addr) (larges_in numbers) ≡ None
    → larges_in (map.insert numbers (r.addr / 4096) (packed r)) ≡ inserted r (larges_in numbers)
add_is numbers r class page low free = write_is numbers r class page low ∙ ap (inserted r) (absent_filter addr_of r.addr (larges_in numbers) free)

-- the region with another holder
abbrev pub held_by : Option ℕ → Region → Region
held_by holder r = record r { holder = holder }

pub hand_over_is : (numbers : Numbers) (addr number : ℕ) (holder : Option ℕ) → Stands numbers addr → map.get numbers (addr / 4096) ≡ Some number
    → larges_in (map.insert numbers (addr / 4096) (packed (held_by holder (region_at (addr / 4096) number)))) ≡ held_anew (starts_at addr) holder (larges_in numbers)
hand_over_is numbers addr number holder stood has =
    let next = held_by holder (region_at (addr / 4096) number) in
    same_larges _ _ (rising_changed addr_of (held_by holder) (λ r. refl) (starts_at addr) (larges_in numbers) (larges_rise numbers)) (λ a.
    found_put numbers addr (packed next) a stood.page stood.low
    ∙ grind (arith, nat_tests, stood.page, region_back next (addr / 4096) (omega arith) (omega (arith, stood.page)), larges_found numbers a, finds_changed addr_of (held_by holder) (λ r. refl) addr a (larges_in numbers)))

pub replace_is : (numbers : Numbers) (r : Region) → r.class < 256 → Stands numbers r.addr
    → larges_in (map.insert numbers (r.addr / 4096) (packed r)) ≡ inserted r (filter (λ q. not (starts_at r.addr q)) (larges_in numbers))
replace_is numbers r class stood = write_is numbers r class stood.page stood.low

pub take_is : (numbers : Numbers) (addr : ℕ) → is_some (find (starts_at addr) (larges_in numbers)) ≡ true → larges_in (map.remove numbers (addr / 4096)) ≡ filter (λ r. not (starts_at addr r)) (larges_in numbers)
take_is numbers addr there =
    same_larges _ _ (rising_filter addr_of (λ r. not (starts_at addr r)) (larges_in numbers) (larges_rise numbers)) (λ a.
    found_cleared numbers addr a (stands numbers addr there).page ∙ ap (cond (eqb addr a) None) (sym (larges_found numbers a)) ∙ sym (finds_without addr_of addr a (larges_in numbers)))

pub none_listed : larges_in map.empty ≡ []
none_listed = same_larges _ _ tt (λ a. grind (arith, map.get-empty {X = ℕ} nat_cmp (a / 4096)))
