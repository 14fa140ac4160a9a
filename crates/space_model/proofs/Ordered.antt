-- Regions that stand by address.
use Rattle.std.proofs.Common.{◌≡◌, ℕ, suc, ◌+◌, ◌<◌, ◌≤◌, Bool, true, false, cond, not, List, [], ◌∷◌, Option, filter, refl, arith, All, AllPairs, ltb as nat_lt, ltb-true, zero, subst, get_or, length}
use Rattle.space_model.proofs.Words.{position_or_len, insert, All-cons, AllPairs-cons, AllPairs-filter, nat_tests, Region, inserted, landing, held_anew, length-map}
use Rattle.space_model.proofs.Lists.{All-insert}

-- each region is at the address of the one before it, or above
abbrev pub Ordered : List Region → Type 0
Ordered regions = AllPairs (λ q r. q.addr ≤ r.addr) regions

pub ordered-filter : (keep : Region → Bool) (regions : List Region) → Ordered regions → Ordered (filter keep regions)
ordered-filter keep regions h = AllPairs-filter (λ q r. q.addr ≤ r.addr) keep regions h

-- all others are at the first one's address or above
lowest : (r : Region) (regions : List Region) → Ordered (r ∷ regions) → All (λ q. r.addr ≤ q.addr) regions
lowest r regions h k d lt = h 0 (suc k) d (omega arith) (omega arith)

rest : (r : Region) (regions : List Region) → Ordered (r ∷ regions) → Ordered regions
rest r regions h i j d lt within = h (suc i) (suc j) d (omega arith) (omega arith)

pub ordered-inserted : (r : Region) (regions : List Region) → Ordered regions → Ordered (inserted r regions)
ordered-inserted r [] h = AllPairs-cons (λ q r. q.addr ≤ r.addr) r [] (λ k d lt. absurd (omega arith)) h
ordered-inserted r (q ∷ qs) h =
    let up : All (λ x. q.addr ≤ x.addr) qs = lowest q qs h in
    let next : 1 + position_or_len (λ x. nat_lt r.addr x.addr) qs ≡ suc (position_or_len (λ x. nat_lt r.addr x.addr) qs) = omega arith in
    elim (nat_lt r.addr q.addr) as (λ b. nat_lt r.addr q.addr ≡ b → Ordered (insert (q ∷ qs) (cond (not b) (1 + position_or_len (λ x. nat_lt r.addr x.addr) qs) 0) r)) [
      | true ↦ λ below. AllPairs-cons (λ q r. q.addr ≤ r.addr) r (q ∷ qs)
          (All-cons (λ x. r.addr ≤ x.addr) q qs (grind (arith, nat_tests)) (λ k d lt. let low : r.addr < q.addr = ltb-true _ _ below in omega (arith, up k d lt))) h
      | false ↦ λ above. rw next (AllPairs-cons (λ q r. q.addr ≤ r.addr) q (inserted r qs) (All-insert (λ x. q.addr ≤ x.addr) qs (position_or_len (λ x. nat_lt r.addr x.addr) qs) r up (grind (arith, nat_tests))) (ordered-inserted r qs (rest q qs h)))
    ] refl

pub ordered-landing : (come regions : List Region) → Ordered regions → Ordered (landing come regions)
ordered-landing [] regions h = h
ordered-landing (r ∷ rs) regions h = ordered-landing rs (inserted r regions) (ordered-inserted r regions h)

-- regions with a new holder stay where they are
same_addr : (test : Region → Bool) (holder : Option ℕ) (regions : List Region) (k : ℕ) (d : Region) →
    (get_or (held_anew test holder regions) k d).addr ≡ (get_or regions k d).addr
same_addr test holder [] k d = refl
same_addr test holder (r ∷ rs) zero d = elim (test r) as (λ b. (cond b (record r { holder = holder }) r).addr ≡ r.addr) [ true ↦ refl | false ↦ refl ]
same_addr test holder (r ∷ rs) (suc k) d = same_addr test holder rs k d

pub ordered-held_anew : (test : Region → Bool) (holder : Option ℕ) (regions : List Region) → Ordered regions → Ordered (held_anew test holder regions)
ordered-held_anew test holder regions h i j d lt within =
    let fits : j < length regions = subst (λ n. j < n) (length-map regions (λ (r : Region). cond (test r) (record r { holder = holder }) r)) within in
    omega (arith, same_addr test holder regions i d, same_addr test holder regions j d, h i j d lt fits)
