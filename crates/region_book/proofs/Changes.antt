-- What is told of regions by address: what a client gives back, what is published, and what can come.
use Rattle.region_book.proofs.Words.{◌≡◌, ℕ, ◌+◌, ◌*◌, ◌≤◌, Bool, true, false, not, eqb, eqb-true, List, [], ◌∷◌, length, filter, find, Option, None, Some, is_some, refl, sym, ◌∙◌, ap, arith, ◌&&◌, count_by, Contains, list_any, nat_tests, sum_by-cons, size_at, Region, is_held_by, is_held_by_other, landing, region_of, regions_from, starts_at, is_published_at, holds_at, is_given_back, staying, AreDistinct, AreNew, IsRising, code_of, distinct_new, found_alone, member_found, any_from, bit, filter_same, find_closer, is_some_find, found, addr_of, found_held, if_published}
use Rattle.space_model.proofs.Pieces.{both_true}
use Rattle.region_book.proofs.Tallies.{landing_sum}

-- where no two begin at one address afterwards, what comes is distinct and new
pub can_come : (come rs : List Region) → ((a : ℕ) → count_by (starts_at a) (landing come rs) ≤ 1) → AreDistinct addr_of come × AreNew addr_of come rs
can_come come rs alone = distinct_new addr_of come rs (λ a. let s = landing_sum (λ r. bit (starts_at a r)) come rs in let l = alone a in omega (arith, s, l))

-- one region of a class from an address on
pub one_from : (client class first : ℕ) → regions_from client class first 1 ≡ region_of client class first ∷ []
one_from client class first = let at : first + 0 * size_at class ≡ first = omega arith in ap (λ a. region_of client class a ∷ []) at

-- regions that begin at one address are one
same_region : (rs : List Region) (q r : Region) → IsRising addr_of rs → Contains rs q → Contains rs r → q.addr ≡ r.addr → q ≡ r
same_region rs q r rising m n e =
    let both : Some q ≡ Some r = sym (member_found addr_of rs q rising m) ∙ ap (λ a. find (starts_at a) rs) e ∙ member_found addr_of rs r rising n in
    cc

-- a region that passes a test and begins at an address is what begins there
pub found_so : (test : Region → Bool) (addr : ℕ) (rs : List Region) → IsRising addr_of rs → list_any (λ r. test r && starts_at addr r) rs ≡ true → (r : Region) × Contains rs r × (test r ≡ true) × (find (starts_at addr) rs ≡ Some r)
found_so test addr rs rising there =
    let m = any_from (λ r. test r && starts_at addr r) rs there in
    let both = both_true (test m.0) (starts_at addr m.0) m.2 in
    (m.0, m.1, both.0, ap (λ a. find (starts_at a) rs) (sym (eqb-true _ _ both.1)) ∙ member_found addr_of rs m.0 rising m.1)

-- What the client's region at an address is, and what stays without it.
pub record Given (c addr : ℕ) (rs : List Region) (r : Region) : Type 0 where
  pub found : find (starts_at addr) rs ≡ Some r
  pub stay : staying c (addr ∷ []) rs ≡ filter (λ q. not (starts_at addr q)) rs
  pub gone : filter (is_given_back c (addr ∷ [])) rs ≡ r ∷ []

pub gives : (c addr : ℕ) (rs : List Region) → IsRising addr_of rs → holds_at c rs addr ≡ true → (r : Region) × Given c addr rs r
gives c addr rs rising held =
    let r = found_so (is_held_by c) addr rs rising held in
    let is = found (starts_at addr) rs r.0 r.3 in
    let same : (q : Region) → Contains rs q → is_given_back c (addr ∷ []) q ≡ starts_at addr q = λ q m. each q (eqb q.addr addr) refl (λ e. ap (is_held_by c) (same_region rs q r.0 rising m r.1 (e ∙ sym (eqb-true _ _ is.1))) ∙ r.2) in (
      r.0,
      record {
        found = r.3;
        stay = filter_same (λ q. not (is_given_back c (addr ∷ []) q)) (λ q. not (starts_at addr q)) rs (λ q m. ap not (same q m));
        gone = filter_same (is_given_back c (addr ∷ [])) (starts_at addr) rs same ∙ found_alone addr_of rs addr r.0 rising r.3;
      },
    )
  where
    each : (q : Region) (b : Bool) → eqb q.addr addr ≡ b → (q.addr ≡ addr → is_held_by c q ≡ true) → is_given_back c (addr ∷ []) q ≡ starts_at addr q
    each q true e mine = let m = mine (eqb-true _ _ e) in grind (arith, nat_tests, m, e)
    each q false e mine = grind (arith, nat_tests, e)

-- what is published at an address is what begins there, if that is published
pub published : (addr : ℕ) (rs : List Region) → IsRising addr_of rs → find (is_published_at addr) rs ≡ if_published (find (starts_at addr) rs)
published addr rs rising = by (find (starts_at addr) rs) refl
  where
    closer : (x : Region) → is_published_at addr x ≡ true → starts_at addr x ≡ true
    closer x t = grind (arith, t)

    own : (x y : Region) → Contains rs x → Contains rs y → starts_at addr x ≡ true → starts_at addr y ≡ true → y ≡ x
    own x y m n t u = same_region rs y x rising n m (eqb-true _ _ u ∙ sym (eqb-true _ _ t))

    by : (o : Option Region) → find (starts_at addr) rs ≡ o → find (is_published_at addr) rs ≡ if_published o
    by None e = find_closer (is_published_at addr) (starts_at addr) rs (λ x m. closer x) own None e
    by (Some y) e = let t = (found (starts_at addr) rs y e).1 in find_closer (is_published_at addr) (starts_at addr) rs (λ x m. closer x) own (Some y) e ∙ grind (arith, t)

-- a client holds a region at an address where it holds the one that begins there
pub held_there : (c addr : ℕ) (rs : List Region) → IsRising addr_of rs → holds_at c rs addr ≡ found_held c (find (starts_at addr) rs)
held_there c addr rs rising = sym (is_some_find test rs) ∙ by (find (starts_at addr) rs) refl
  where
    test : Region → Bool
    test r = is_held_by c r && starts_at addr r

    closer : (x : Region) → test x ≡ true → starts_at addr x ≡ true
    closer x t = (both_true (is_held_by c x) (starts_at addr x) t).1

    own : (x y : Region) → Contains rs x → Contains rs y → starts_at addr x ≡ true → starts_at addr y ≡ true → y ≡ x
    own x y m n t u = same_region rs y x rising n m (eqb-true _ _ u ∙ sym (eqb-true _ _ t))

    by : (o : Option Region) → find (starts_at addr) rs ≡ o → is_some (find test rs) ≡ found_held c o
    by None e = ap is_some (find_closer test (starts_at addr) rs (λ x m. closer x) own None e)
    by (Some y) e = let t = (found (starts_at addr) rs y e).1 in ap is_some (find_closer test (starts_at addr) rs (λ x m. closer x) own (Some y) e) ∙ grind (arith, t)

-- the regions of a client's code are those that it holds
pub held_coded : (client : ℕ) (rs : List Region) → count_by (λ r. eqb (code_of r.holder) (client + 1)) rs ≡ count_by (is_held_by client) rs
held_coded client [] = refl
held_coded client (r ∷ rs) = omega (arith, held_coded client rs, sum_by-cons (λ (q : Region). bit (eqb (code_of q.holder) (client + 1))) r rs, sum_by-cons (λ (q : Region). bit (is_held_by client q)) r rs, here r.holder)
  where
    here : (o : Option ℕ) → bit (eqb (code_of o) (client + 1)) ≡ bit (is_held_by client (record { addr = r.addr; class = r.class; holder = o }))
    here None = grind (arith, nat_tests)
    here (Some c) = grind (arith, nat_tests)

-- every region is held by nobody, by a client, or by another one
pub all_held : (client : ℕ) (rs : List Region) → count_by (λ r. eqb (code_of r.holder) 0) rs + count_by (λ r. eqb (code_of r.holder) (client + 1)) rs + count_by (is_held_by_other client) rs ≡ length rs
all_held client [] = refl
all_held client (r ∷ rs) =
    omega (arith, all_held client rs, sum_by-cons (λ (q : Region). bit (eqb (code_of q.holder) 0)) r rs, sum_by-cons (λ (q : Region). bit (eqb (code_of q.holder) (client + 1))) r rs, sum_by-cons (λ (q : Region). bit (is_held_by_other client q)) r rs, here r.holder)
  where
    here : (o : Option ℕ) → bit (eqb (code_of o) 0) + bit (eqb (code_of o) (client + 1)) + bit (is_held_by_other client (record { addr = r.addr; class = r.class; holder = o })) ≡ 1
    here None = grind (arith, nat_tests)
    here (Some c) = grind (arith, nat_tests)
