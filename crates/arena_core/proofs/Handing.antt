-- A region that gets another holder.
use Rattle.arena_core.proofs.Words.{◌≡◌, ℕ, ◌≤◌, Bool, true, cond, List, find, Option, Some, sym, ◌∙◌, ap, subst, eqb, count_by, list_any, option_map, Region, held_anew, is_held_by, is_published, starts_at, holds_at, both_true, is_held_at, is_published_at, any_from, any_has, found, map_same, Contains}
use Rattle.list_facts.proofs.Members.{mapped_some, only_one}
use Rattle.arena_core.proofs.Booked.{both_ways}

-- one region that passes a test is the only one at its address, so it alone changes by either
pub anew_alone : (t : Region → Bool) (addr : ℕ) (holder : Option ℕ) (regions : List Region) → ((r : Region) → t r ≡ true → starts_at addr r ≡ true) → count_by (starts_at addr) regions ≤ 1 →
    list_any t regions ≡ true → held_anew (starts_at addr) holder regions ≡ held_anew t holder regions
anew_alone t addr holder regions only alone some =
    let one = any_from t regions some in
    let agrees : (r : Region) → Contains regions r → starts_at addr r ≡ t r = λ r m.
    both_ways (starts_at addr r) (t r) (λ h. subst (λ x. t x ≡ true) (only_one (starts_at addr) regions r one.0 alone m one.1 h (only one.0 one.2)) one.2) (only r) in
    map_same (λ r. cond (starts_at addr r) (record r { holder = holder }) r) (λ r. cond (t r) (record r { holder = holder }) r) regions (λ r m. ap (λ b. cond b (record r { holder = holder }) r) (agrees r m))

-- what a client holds at an address begins there, and so does what is published there
pub held_at : (c addr : ℕ) (r : Region) → is_held_at c addr r ≡ true → starts_at addr r ≡ true
held_at c addr r h = (both_true (is_held_by c r) (eqb r.addr addr) h).1

pub published_at : (addr : ℕ) (r : Region) → is_published_at addr r ≡ true → starts_at addr r ≡ true
published_at addr r h = (both_true (is_published r) (eqb r.addr addr) h).1

pub held_there : (c addr : ℕ) (regions : List Region) → holds_at c regions addr ≡ true → (list_any (is_held_at c addr) regions ≡ true) × (list_any (starts_at addr) regions ≡ true)
held_there c addr regions h =
    let r = any_from (is_held_at c addr) regions h in (h, any_has (starts_at addr) regions r.0 r.1 (held_at c addr r.0 r.2))

pub published_there : {o : Option ℕ} {class : ℕ} (addr : ℕ) (regions : List Region) → o ≡ option_map (λ r. r.class) (find (is_published_at addr) regions) → o ≡ Some class →
    (r : Region) × (find (is_published_at addr) regions ≡ Some r) × (r.class ≡ class) × (list_any (is_published_at addr) regions ≡ true) × (list_any (starts_at addr) regions ≡ true)
published_there {o} {class} addr regions told is =
    let one = mapped_some (λ (r : Region). r.class) (find (is_published_at addr) regions) class (sym told ∙ is) in
    let at = found (is_published_at addr) regions one.0 one.1 in
    (one.0, one.1, one.2, any_has (is_published_at addr) regions one.0 at.0 at.1, any_has (starts_at addr) regions one.0 at.0 (published_at addr one.0 at.1))
