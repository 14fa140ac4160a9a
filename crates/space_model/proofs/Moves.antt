-- What several operations do: an extent that is found is taken out or put down, or nothing changes.
use Rattle.std.proofs.Common.{◌≡◌, ℕ, true, [], ◌∷◌, Some, refl, sym, ◌∙◌, ap, arith, find, ◌==◌}
use Rattle.space_model.proofs.Words.{eqb-true, nat_tests, Op, Reply, Part, Span, Life, Live, Space, same_span, is_flight, is_flight_at, rest_of, taken_out, put_down, stays, replaced, is_live, flight, lost, won, Sound}
use Rattle.space_model.proofs.Lists.{find_passes, ones}
use Rattle.space_model.proofs.Changes.{Does, Plain, Piece, stays_does, put_does}
use Rattle.space_model.proofs.Pieces.{both_true, put_down-nobody, listed-nobody, Listed, found_fits, Piece-flight, Piece-listed, Piece-down, Piece-taken}

-- an arena that serves requests is live
pub live_is : (life : Life) → is_live life ≡ true → life ≡ Live
live_is life h = grind arith

-- a client is itself
pub itself : (c : ℕ) → (c == c) ≡ true
itself c = grind (arith, nat_tests)

-- ---- extents that are found

-- What a search for a client's extent in flight found.
pub record Flight (c : ℕ) (s : Space) (span : Span) (p : Part) : Type 0 where
  pub live : s.life ≡ Live
  pub found : find (is_flight_at c span) s.parts ≡ Some p
  pub own : is_flight c p.state ≡ true
  pub first : p.span.first ≡ span.first
  pub pages : p.span.pages ≡ span.pages
  pub piece : Piece c p

pub flight_at : (c : ℕ) (s : Space) (span : Span) (p : Part) → Sound s → is_live s.life ≡ true → find (is_flight_at c span) s.parts ≡ Some p →
    Flight c s span p
flight_at c s span p sound live found =
    let passes = both_true (is_flight c p.state) (same_span p.span span) (find_passes (is_flight_at c span) s.parts p found) in
    let same = both_true (p.span.first == span.first) (p.span.pages == span.pages) passes.1 in record {
      live = live_is s.life live;
      found = found;
      own = passes.0;
      first = eqb-true _ _ same.0;
      pages = eqb-true _ _ same.1;
      piece = Piece-flight c p (found_fits s (is_flight_at c span) p sound found) passes.0;
    }

-- an operation after which the client has one more extent in flight, or one fewer, or as many
abbrev pub More : ℕ → Space → Op → Reply → Type 0
More c s op reply = Plain op reply × (lost op reply ≡ 0) × (won c s op reply ≡ 1)

abbrev pub Fewer : ℕ → Space → Op → Reply → Type 0
Fewer c s op reply = Plain op reply × (lost op reply ≡ 1) × (won c s op reply ≡ 0)

abbrev pub Same : ℕ → Space → Op → Reply → Type 0
Same c s op reply = Plain op reply × (lost op reply ≡ 0) × (won c s op reply ≡ 0)

-- nothing changes
pub still : (c : ℕ) (s : Space) (op : Op) (reply : Reply) → Sound s → Same c s op reply → Does c s op (stays s reply)
still c s op reply sound same = stays_does c s op reply sound same.0 (same.1 ∙ sym same.2)

-- a listed extent is taken out
pub taken_does : (c : ℕ) (s : Space) (op : Op) (reply : Reply) (p : Part) → Sound s → is_live s.life ≡ true → Listed s.parts p → More c s op reply →
    Does c s op (replaced s p (taken_out c p ∷ []) reply)
taken_does c s op reply p sound live at more =
    let fits = found_fits s at.test p sound at.found in
    let lands : flight c p ≡ 0 = ap ones (listed-nobody c at.rest p.state at.is_in) in
    let flies : flight c (taken_out c p) ≡ 1 = ap ones (itself c) in
    put_does c s op reply at.test p (taken_out c p) sound (live_is s.life live) at.found (Piece-listed c p at.rest fits at.is_in) (Piece-taken c p fits) refl more.0
    (omega (arith, lands, flies, more.1, more.2))

-- an extent in flight is put down
pub down_does : (c : ℕ) (s : Space) (op : Op) (reply : Reply) (span : Span) (p : Part) → Sound s → Flight c s span p → Fewer c s op reply →
    Does c s op (replaced s p (put_down p ∷ []) reply)
down_does c s op reply span p sound at fewer =
    let flies : flight c p ≡ 1 = ap ones at.own in
    let lands : flight c (put_down p) ≡ 0 = ap ones (put_down-nobody c (rest_of p.state)) in
    put_does c s op reply (is_flight_at c span) p (put_down p) sound at.live at.found at.piece (Piece-down c p at.piece.fits) refl fewer.0
    (omega (arith, flies, lands, fewer.1, fewer.2))
