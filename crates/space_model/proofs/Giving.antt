-- Regions that are given back, and the extents that they leave empty.
use Rattle.std.proofs.Common.{◌≡◌, ℕ, ◌<◌, ◌≢◌, true, not, List, [], ◌∷◌, length, get_or, refl, ap, arith, filter}
use Rattle.space_model.proofs.Words.{sum_by, count_by, sum_by-cons, All-weaker, filter_passes, Back, Part, Region, Space, Live, is_flight, taken_out, houses, homes, is_held_by, is_given_back, staying, is_emptied, after_back, flight, Sound}
use Rattle.space_model.proofs.Lists.{any_counts, none_passes, ones, apart_count}
use Rattle.space_model.proofs.Mixes.{mixed_filter}
use Rattle.space_model.proofs.Ordered.{ordered-filter}
use Rattle.space_model.proofs.Turned.{turned_does}
use Rattle.space_model.proofs.Settled.{Used}
use Rattle.space_model.proofs.Changes.{Does, kept_frame, live_quiet}
use Rattle.space_model.proofs.Pieces.{both_true, Piece-taken, active_own, held_by_one}
use Rattle.space_model.proofs.Landing.{eqb_itself}

-- ---- the extents that are emptied

-- ---- Back

-- the extents that are emptied serve none of the regions that stay
nowhere : (regions : List Region) (parts : List Part) (k : ℕ) (d : Region) → k < length regions →
    homes (get_or regions k d) (filter (is_emptied regions) parts) ≡ 0
nowhere regions parts k d h =
    apart_count (is_emptied regions) (λ p. houses p (get_or regions k d)) parts (λ p gone. none_passes (houses p) regions k d (grind (arith, gone)) h)

-- nor are they in flight
pub none_flying : (d : ℕ) (regions : List Region) (parts : List Part) → count_by (λ p. is_flight d p.state) (filter (is_emptied regions) parts) ≡ 0
none_flying d regions parts = apart_count (is_emptied regions) (λ p. is_flight d p.state) parts (λ p gone. active_own d p.state (grind (arith, gone)))

-- no region that a client gives back is another one's
none_held : (c d : ℕ) (addrs : List ℕ) (regions : List Region) → d ≢ c → count_by (is_held_by d) (filter (is_given_back c addrs) regions) ≡ 0
none_held c d addrs regions other =
    apart_count (is_given_back c addrs) (is_held_by d) regions (λ r given. held_by_one c d r other (both_true (is_held_by c r) _ given).0)

-- extents that a client takes out are all its own
pub taken_fly : (c : ℕ) (ps : List Part) → sum_by (λ p. flight c (taken_out c p)) ps ≡ length ps
taken_fly c [] = refl
taken_fly c (p ∷ ps) =
    let one : flight c (taken_out c p) ≡ 1 = ap ones (eqb_itself c) in
    omega (arith, one, sum_by-cons (λ q. flight c (taken_out c q)) p ps, taken_fly c ps)

-- Regions are given back, and each extent that is emptied is in flight.
pub back_does : (c : ℕ) (s : Space) (addrs : List ℕ) → Sound s → s.life ≡ Live → Does c s (Back addrs) (after_back s c addrs)
back_does c s addrs sound live =
    let rest : List Region = staying c addrs s.regions in
    let stay : List Part = filter (λ p. not (is_emptied rest p)) s.parts in
    let t : Space = (after_back s c addrs).after in
    turned_does {test = is_emptied rest} {turn = taken_out c} {left = filter (is_given_back c addrs) s.regions} (record {
      parts = refl;
      regions = refl;
      gone = mixed_filter (is_given_back c addrs) s.regions;
      same = λ p. refl;
      fits = λ p gone fits. Piece-taken c p fits;
      empty = λ k d h. nowhere rest s.parts k d h;
      served = All-weaker (λ p. not (is_emptied rest p) ≡ true) (Used rest) (λ p kept act. any_counts (houses p) rest (grind arith)) stay
          (filter_passes (λ p. not (is_emptied rest p)) s.parts);
      nobody = λ d other. none_flying d rest s.parts;
      held = λ d other. none_held c d addrs s.regions other;
      ordered = ordered-filter (λ r. not (is_given_back c addrs r)) s.regions sound.ordered;
      frame = kept_frame c s t.parts t.regions sound;
      quiet = live_quiet s t live refl;
    }) sound (Back addrs) _ (λ page before. refl) (omega (arith, taken_fly c (filter (is_emptied rest) s.parts), none_flying c rest s.parts))
