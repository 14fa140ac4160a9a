-- What a client owns, seen in the lists of the space: what the step finds, it finds among the client's own.
use Rattle.call_plan.proofs.Words.{arith, ◌≡◌, ℕ, ◌==◌, ◌||◌, Bool, true, false, not, List, [], ◌++◌, All, ◌∙◌, ap, filter, find, list_any, cond, get_or, flight, filter_nothing, nothing_sum, filter-append, Region, State, Life, is_flight, is_flight_at, exchanged, is_held_by, is_live, is_customer, holds_at, IsQuiet, is_in_flight, Space, Part, Span, Sound, Mine, mine, same_span, is_served, in_flight}
use Rattle.call_plan.proofs.Lists.{any-both, any-filter, filter-swap, find-both}

-- ---- the client's own

pub flight_found : (c : ℕ) (span : Span) (parts : List Part) →
    find (is_flight_at c span) parts ≡ in_flight span (filter (λ p. is_flight c p.state) parts)
flight_found c span parts = find-both (λ p. is_flight c p.state) (λ p. same_span p.span span) parts

pub region_found : (c : ℕ) (regions : List Region) (addr : ℕ) →
    holds_at c regions addr ≡ list_any (λ (r : Region). r.addr == addr) (filter (is_held_by c) regions)
region_found c regions addr = any-both (is_held_by c) (λ r. r.addr == addr) regions

pub served : (c : ℕ) (s : Space) → is_customer s c ≡ is_served (mine c s)
served c s = ap (λ v. (mine c s).bound || v) (any-filter (is_held_by c) s.regions)

-- the client's extents after an exchange
pub flights_exchanged : (c : ℕ) (gone : Part → Bool) (parts pieces : List Part) →
    filter (λ p. is_flight c p.state) (exchanged gone parts pieces) ≡
    filter (λ p. not (gone p)) (filter (λ p. is_flight c p.state) parts) ++ filter (λ p. is_flight c p.state) pieces
flights_exchanged c gone parts pieces =
    filter-append (λ p. is_flight c p.state) (filter (λ p. not (gone p)) parts) pieces
    ∙ ap (λ ps. ps ++ filter (λ p. is_flight c p.state) pieces) (filter-swap (λ p. is_flight c p.state) (λ p. not (gone p)) parts)

-- ---- an arena that isn't live serves nobody

not_mine : (c : ℕ) (state : State) → is_in_flight state ≡ false → is_flight c state ≡ false
not_mine c state h = grind arith

none_flies : (c : ℕ) (parts : List Part) → All (λ p. is_in_flight p.state ≡ false) parts → filter (λ p. is_flight c p.state) parts ≡ []
none_flies c parts all =
    filter_nothing (λ p. is_flight c p.state) parts (nothing_sum (flight c) parts (λ k d h. ap {B = ℕ} (λ (v : Bool). cond v 1 0) (not_mine c (get_or parts k d).state (all k d h))))

-- Nothing of an arena is the client's.
pub record Nothing (m : Mine) : Type 0 where
  pub flights : m.flights ≡ []
  pub offers : m.offers ≡ []
  pub regions : m.regions ≡ []
  pub bound : m.bound ≡ false

nothing_at : (c : ℕ) (s : Space) (life : Life) → IsQuiet life s → is_live life ≡ false → Nothing (mine c s)
nothing_at c s life quiet h = grind (arith, none_flies)

-- an arena in which the client has something is live
pub live_where : (c : ℕ) (s : Space) → Sound s → ¬ Nothing (mine c s) → is_live s.life ≡ true
live_where c s sound some = let dead = nothing_at c s s.life sound.quiet in grind arith
