-- What the states of extents say, and the pieces that operations put in their place.
use Rattle.std.proofs.Common.{◌≡◌, ℕ, ◌+◌, ◌<◌, ◌≢◌, Bool, true, false, IsTrue, List, [], ◌∷◌, Some, None, refl, arith, find, filter, ◌&&◌, eqb, ◌⊎◌, cond, ◌==◌, nat_lt, inl, inr, eqb-true, ltb-true}
use Rattle.space_model.proofs.Words.{sum_by, sum_by-cons, nat_tests, Part, Rest, State, Space, Region, IsPlaced, end_of, is_active, is_listed, is_flight, is_backed, rest_of, listed, taken_out, put_down, begins_at, fit, fit_of, is_best, is_candidate, low_piece, high_piece, joined, begins_either, neighbour, is_right_of, is_left_of, Sound, is_held_by, is_live}
use Rattle.space_model.proofs.Lists.{find_has, find_passes, sum_by-either, either_found, if_found}
use Rattle.space_model.proofs.Exchange.{share}
use Rattle.space_model.proofs.Changes.{Fits, Piece, one_left}
use Rattle.space_model.specs.declared.parts.Rest.TheVariants as rests

-- the parts of a conjunction that is true
pub both_true : (a b : Bool) → (a && b) ≡ true → (a ≡ true) × (b ≡ true)
both_true true b h = (refl, h)
both_true false b h = absurd (cc)

-- and those of what only a live arena may do
pub live_and : (s : Space) (b : Bool) → (is_live s.life && b) ≡ true → (is_live s.life ≡ true) × (b ≡ true)
live_and s b h = both_true (is_live s.life) b h

-- a listed extent isn't active
pub listed-idle : (rest : Rest) (state : State) → is_listed rest state ≡ true → is_active state ≡ false
listed-idle rest state h = grind arith

-- an extent in flight isn't active
pub flight-idle : (c : ℕ) (state : State) → is_flight c state ≡ true → is_active state ≡ false
flight-idle c state h = grind arith

-- an extent that is put down isn't active
pub put_down-idle : (rest : Rest) → is_active (listed rest) ≡ false
put_down-idle rest = grind arith

pub put_down-nobody : (d : ℕ) (rest : Rest) → is_flight d (listed rest) ≡ false
put_down-nobody d rest = grind arith

-- a listed extent is nobody's flight
pub listed-nobody : (d : ℕ) (rest : Rest) (state : State) → is_listed rest state ≡ true → is_flight d state ≡ false
listed-nobody d rest state h = grind arith

-- two numbers that differ aren't both the same as a third
pub different : (e c d : ℕ) → eqb e c ≡ true → d ≢ c → eqb e d ≡ false
different e c d h other = grind (arith, nat_tests)

-- two clients that differ are told apart
pub not_both : (d c : ℕ) → d ≢ c → eqb c d ≡ false
not_both d c other = grind (arith, nat_tests)

-- an active extent is nobody's flight
pub active_own : (d : ℕ) (state : State) → is_active state ≡ true → is_flight d state ≡ false
active_own d state h = grind arith

-- a region that one client holds isn't another one's
pub held_by_one : (c d : ℕ) (r : Region) → d ≢ c → is_held_by c r ≡ true → is_held_by d r ≡ false
held_by_one c d r other h = grind (arith, nat_tests)

-- what a fit found: a listed extent, by some test
pub record Listed (parts : List Part) (p : Part) : Type 0 where
  pub test : Part → Bool
  pub found : find test parts ≡ Some p
  pub rest : Rest
  pub is_in : is_listed rest p.state ≡ true

-- a fit is the best extent of one of the lists
pub fit_best : (pages align : ℕ) (parts : List Part) (p : Part) → fit pages align parts ≡ Some p →
    (rest : Rest) × (fit_of rest pages align parts ≡ Some p) × (is_candidate rest pages align p ≡ true)
fit_best pages align parts p e =
    let P : Type 0 = (rest : Rest) × (fit_of rest pages align parts ≡ Some p) × (is_candidate rest pages align p ≡ true) in
    let best : (rest : Rest) → fit_of rest pages align parts ≡ Some p → P =
    λ rest k. (rest, k, (both_true (is_candidate rest pages align p) _ (find_passes (is_best rest pages align parts) parts p k)).0) in
    either_found P (fit_of rests.Dirty pages align parts) _ p (best rests.Dirty)
    (either_found P (fit_of rests.Muzzy pages align parts) (fit_of rests.Retained pages align parts) p (best rests.Muzzy) (best rests.Retained)) e

pub fit-listed : (pages align : ℕ) (parts : List Part) (p : Part) → fit pages align parts ≡ Some p → Listed parts p
fit-listed pages align parts p e =
    let best = fit_best pages align parts p e in
    record { test = is_best best.0 pages align parts; found = best.1; rest = best.0; is_in = (both_true (is_listed best.0 p.state) _ best.2).0 }

-- a neighbour stands on the right at the first try, or on the left at one of the first two
pub neighbour_side : (tries : ℕ) (p : Part) (parts : List Part) (other : Part) → neighbour tries p parts ≡ Some other →
    ((tries ≡ 0) × (find (is_right_of p) parts ≡ Some other)) ⊎ ((tries < 2) × (find (is_left_of p) parts ≡ Some other))
neighbour_side tries p parts other e =
    either_found _ (cond (tries == 0) (find (is_right_of p) parts) None) (cond (nat_lt tries 2) (find (is_left_of p) parts) None) other
    (λ k. let found = if_found (tries == 0) (find (is_right_of p) parts) other k in inl (eqb-true _ _ found.0, found.1))
    (λ k. let found = if_found (nat_lt tries 2) (find (is_left_of p) parts) other k in inr (ltb-true _ _ found.0, found.1)) e

-- a page of an extent is below a cut or above it
pub cut_shares : (page left : ℕ) (p : Part) → 0 < left → left < p.span.pages →
    share page (low_piece left p) + share page (high_piece left p) ≡ share page p
cut_shares page left p some fewer = grind (arith, nat_tests)

-- ---- pieces that a client may take or leave

pub found_fits : (s : Space) (test : Part → Bool) (p : Part) → Sound s → find test s.parts ≡ Some p → Fits p
found_fits s test p sound found = record {
  placed = find_has (λ q. IsPlaced q.span) test s.parts p sound.placed found;
  backed = find_has (λ q. IsTrue (is_backed (rest_of q.state)) → IsTrue q.committed) test s.parts p sound.backed found;
}

-- one in flight of the client, or listed
pub Piece-flight : (c : ℕ) (p : Part) → Fits p → is_flight c p.state ≡ true → Piece c p
Piece-flight c p fits own = record { idle = flight-idle c p.state own; fits = fits; own = λ d other. grind (arith, nat_tests) }

pub Piece-listed : (c : ℕ) (p : Part) (rest : Rest) → Fits p → is_listed rest p.state ≡ true → Piece c p
Piece-listed c p rest fits is_in = record { idle = listed-idle rest p.state is_in; fits = fits; own = λ d other. listed-nobody d rest p.state is_in }

-- one that is put down or taken out
pub Piece-down : (c : ℕ) (p : Part) → Fits p → Piece c (put_down p)
Piece-down c p fits = record {
  idle = put_down-idle (rest_of p.state);
  fits = record { placed = fits.placed; backed = λ h. fits.backed (grind arith) };
  own = λ d other. put_down-nobody d (rest_of p.state);
}

pub Piece-taken : (c : ℕ) (p : Part) → Fits p → Piece c (taken_out c p)
Piece-taken c p fits = record { idle = refl; fits = record { placed = fits.placed; backed = fits.backed }; own = λ d other. not_both d c other }

-- and one of the two pieces of a cut
pub Fits-low : (left : ℕ) (p : Part) → Fits p → 0 < left → left < p.span.pages → Fits (low_piece left p)
Fits-low left p fits some fewer = record { placed = (some, fits.placed.1, omega (arith, fits.placed.2)); backed = fits.backed }

pub Fits-high : (left : ℕ) (p : Part) → Fits p → 0 < left → left < p.span.pages → Fits (high_piece left p)
Fits-high left p fits some fewer = record { placed = (omega arith, omega (arith, fits.placed.1), omega (arith, fits.placed.2)); backed = fits.backed }

pub Piece-low : (c left : ℕ) (p : Part) → Piece c p → 0 < left → left < p.span.pages → Piece c (low_piece left p)
Piece-low c left p piece some fewer = record { idle = piece.idle; fits = Fits-low left p piece.fits some fewer; own = piece.own }

pub Piece-high : (c left : ℕ) (p : Part) → Piece c p → 0 < left → left < p.span.pages → Piece c (high_piece left p)
Piece-high c left p piece some fewer = record { idle = piece.idle; fits = Fits-high left p piece.fits some fewer; own = piece.own }

-- ---- two extents side by side

-- the sums over two extents that were found, as those that go
pub two_left : (s : Space) (test also : Part → Bool) (p q : Part) → Sound s → find test s.parts ≡ Some p → find also s.parts ≡ Some q →
    end_of p.span ≡ q.span.first → (f : Part → ℕ) → sum_by f (filter (begins_either p q) s.parts) ≡ sum_by f (p ∷ q ∷ [])
two_left s test also p q sound low high side f =
    let fits = found_fits s test p sound low in
    omega (
      arith,
      sum_by-either f (begins_at p.span.first) (begins_at q.span.first) (λ x h. grind (arith, nat_tests, side, fits.placed.0)) s.parts,
      one_left s test p sound low f,
      one_left s also q sound high f,
      sum_by-cons f p (q ∷ []),
      sum_by-cons f p [],
      sum_by-cons f q [],
    )

-- a page is in one of the two, or in neither
pub joined_share : (page : ℕ) (p q : Part) → end_of p.span ≡ q.span.first → share page (joined p q) ≡ share page p + share page q
joined_share page p q side = grind (arith, nat_tests)

pub Fits-joined : (p q : Part) → Fits p → Fits q → end_of p.span ≡ q.span.first → Fits (joined p q)
Fits-joined p q low high side = record { placed = (omega (arith, low.placed.0), low.placed.1, omega (arith, side, high.placed.2)); backed = low.backed }

pub Piece-joined : (c : ℕ) (p q : Part) → Piece c p → Fits q → end_of p.span ≡ q.span.first → Piece c (joined p q)
Piece-joined c p q low high side = record { idle = low.idle; fits = Fits-joined p q low.fits high side; own = low.own }
