-- A region that lands in a committed extent in flight.
use Rattle.std.proofs.Common.{subst, inl, inr, ◌/◌, ◌≡◌, ℕ, ◌+◌, ◌*◌, ◌%◌, ◌<◌, ◌≤◌, ◌≢◌, Bool, true, false, not, IsTrue, List, [], ◌∷◌, ◌++◌, get_or, Some, refl, sym, ◌∙◌, ap, arith, All, filter, find, eqb, ltb as nat_lt}
use Rattle.space_model.proofs.Words.{sum_by, position_or_len, sum_by-cons, All-cons, All-nil, nat_tests, cases_lt, mul-mod_first, row_fits, div-add-mod, mul-add-mod_self_left, size_at, pages_at, regions_at, align_at, large_size, slab_filled, align_divides, Op, Reply, Part, Region, Span, Active, Space, Live, exchanged, begins_at, holders, is_active, is_flight, address_of, covers, houses, homes, residents, lies_in, inserted, is_held_by, flight, lost, won, Sound}
pub use Rattle.space_model.proofs.Lists.{All-insert}
use Rattle.space_model.proofs.Lists.{ones}
use Rattle.space_model.proofs.Exchange.{share}
use Rattle.space_model.proofs.Mixes.{Mix, mix_sum, mix_first, mix_filter, mixed_filter, mixed_append, mixed_first, mixed_insert}
use Rattle.space_model.proofs.Ordered.{ordered-inserted}
use Rattle.space_model.proofs.Settled.{Settled, Used, LargeAt, SmallAt, serves, serves_by, covered, idle-serves}
use Rattle.space_model.proofs.Changes.{Does, Fits, Piece, Plain, one_left, kept_frame, live_quiet}
use Rattle.space_model.proofs.Pieces.{different}

-- a product is a multiple of what divides its first factor, and so is a sum of what divides both terms
divides_product : (k n a : ℕ) → k % a ≡ 0 → (k * n) % a ≡ 0
divides_product k n a whole =
    let times : ℕ → ℕ = λ x. (x * n) % a in
    let nothing : (0 * n) % a ≡ 0 = grind arith in
    sym (mul-mod_first k n a) ∙ ap times whole ∙ nothing

divides_sum : (x y a : ℕ) → x % a ≡ 0 → y % a ≡ 0 → (x + y) % a ≡ 0
divides_sum x y a first second =
    let whole : x ≡ a * (x / a) = omega (arith, div-add-mod x a, first) in
    subst (λ z. (z + y) % a ≡ 0) (sym whole) (mul-add-mod_self_left a (x / a) y ∙ second)

-- a place of a class's size from a page's start is aligned for the class
pub place_aligned : (first i class : ℕ) → class < 121 → (address_of first + i * size_at class) % align_at class ≡ 0
place_aligned first i class within =
    let whole = align_divides class within in
    let turn : size_at class * i ≡ i * size_at class = grind arith in
    divides_sum (address_of first) (i * size_at class) (align_at class) (divides_product 4096 first (align_at class) whole.2)
    (subst (λ n. n % align_at class ≡ 0) turn (divides_product (size_at class) i (align_at class) whole.1))

-- a number is itself
pub eqb_itself : (n : ℕ) → eqb n n ≡ true
eqb_itself n = grind (arith, nat_tests)

-- a region between a span's ends lies in it
pub lies_between : (s : Span) (r : Region) → address_of s.first ≤ r.addr → r.addr + size_at r.class ≤ address_of s.first + 4096 * s.pages → lies_in s r ≡ true
lies_between s r above below = grind (arith, nat_tests)

-- a region that one client holds isn't another one's
not_held : (c d : ℕ) (r : Region) → r.holder ≡ Some c → d ≢ c → is_held_by d r ≡ false
not_held c d r held other = rw held (different c c d (eqb_itself c) other)

-- a term of a sum is at most 1
pub ones_most : (b : Bool) → ones b ≤ 1
ones_most true = omega arith
ones_most false = omega arith

-- Where a first region lands: an active, committed extent of its class's pages, which it starts.
pub record Site (p : Part) (r : Region) : Type 0 where
  pub active : is_active p.state ≡ true
  pub committed : p.committed ≡ true
  pub class : r.class < 121
  pub pages : p.span.pages ≡ pages_at r.class
  pub start : r.addr ≡ address_of p.span.first

-- a region is no larger than the pages of its class
pub class_fits : (class : ℕ) → class < 121 → size_at class ≤ 4096 * pages_at class
class_fits class within =
    elim (cases_lt class 36) [
      | inl small ↦ let filled = slab_filled class small in omega (arith, filled.0, row_fits 0 (size_at class) (regions_at class) (size_at class) filled.1 (omega arith))
      | inr large ↦ omega (arith, large_size class large within)
    ]

-- the extent serves the region
serves_new : (p : Part) (r : Region) → Site p r → houses p r ≡ true
serves_new p r site =
    let inside : lies_in p.span r ≡ true = lies_between p.span r (omega (arith, site.start)) (omega (arith, site.start, site.pages, class_fits r.class site.class)) in
    rw (site.active, site.committed, inside) refl

-- one region is settled in an extent of its class's pages
pub one_settled : (p : Part) (r : Region) → Site p r → Settled (p ∷ []) (r ∷ [])
one_settled p r site =
    let one : serves r p ≡ 1 = ap ones (serves_new p r site) in
    let first : r.addr ≡ address_of p.span.first + 0 * size_at r.class = grind (arith, site.start) in
    let alone : residents p (r ∷ []) ≡ 1 = omega (arith, one, sum_by-cons (serves_by p) r []) in record {
      home = All-cons (λ q. homes q (p ∷ []) ≡ 1) r [] (omega (arith, one, sum_by-cons (serves r) p [])) (All-nil (λ q. homes q (p ∷ []) ≡ 1));
      used = All-cons (Used (r ∷ [])) p [] (λ act. omega (arith, alone)) (All-nil (Used (r ∷ [])));
      large = All-cons (λ q. All (LargeAt (r ∷ []) q) (p ∷ [])) r []
          (All-cons (LargeAt (r ∷ []) r) p [] (λ home big. (grind (arith, nat_tests, site.start, site.pages), alone)) (All-nil (LargeAt (r ∷ []) r)))
          (All-nil (λ q. All (LargeAt (r ∷ []) q) (p ∷ [])));
      small = All-cons (λ q. All (SmallAt (r ∷ []) q) (p ∷ [])) r []
          (All-cons (SmallAt (r ∷ []) r) p [] (λ home little. record {
            pages = site.pages;
            alike = All-cons (λ q. IsTrue (houses p q) → q.class ≡ r.class) r [] (λ h. refl) (All-nil (λ q. IsTrue (houses p q) → q.class ≡ r.class));
            place = (0, (slab_filled r.class little).1, first);
          }) (All-nil (SmallAt (r ∷ []) r)))
          (All-nil (λ q. All (SmallAt (r ∷ []) q) (p ∷ [])));
      classes = All-cons (λ q. q.class < 121) r [] site.class (All-nil (λ q. q.class < 121));
      aligned = All-cons (λ q. q.addr % align_at q.class ≡ 0) r []
          (subst (λ addr. addr % align_at r.class ≡ 0) (sym first) (place_aligned p.span.first 0 r.class site.class)) (All-nil (λ q. q.addr % align_at q.class ≡ 0));
      apart = λ byte. omega (arith, sum_by-cons (covered byte) r [], ones_most (covers byte r));
    }

-- A region of a client lands in its extent in flight, which was found.
pub land_does : (c : ℕ) (s : Space) (op : Op) (reply : Reply) (test : Part → Bool) (p : Part) (r : Region) → Sound s → s.life ≡ Live →
    find test s.parts ≡ Some p → Piece c p → flight c p ≡ 1 → Site (record p { state = Active }) r → r.holder ≡ Some c → Plain op reply →
    lost op reply ≡ 1 → won c s op reply ≡ 0 →
    Does c s op (record { after = record s { parts = exchanged (begins_at p.span.first) s.parts (record p { state = Active } ∷ []); regions = inserted r s.regions }; reply = reply })
land_does c s op reply test p r sound live found piece flies site holder plain lose win =
    let gone = begins_at p.span.first in
    let active : Part = record p { state = Active } in
    let stay : List Part = filter (λ q. not (gone q)) s.parts in
    let went : Mix Part stay (filter gone s.parts) s.parts = mixed_filter gone s.parts in
    let came : Mix Part stay (active ∷ []) (stay ++ active ∷ []) = mixed_append stay (active ∷ []) in
    let left : (f : Part → ℕ) → sum_by f (filter gone s.parts) ≡ f p = λ f. omega (arith, one_left s test p sound found f, sum_by-cons f p []) in
    let moved : (f : Part → ℕ) → sum_by f (stay ++ active ∷ []) + f p ≡ sum_by f s.parts + f active =
    λ f. omega (arith, mix_sum f went, mix_sum f came, left f, sum_by-cons f active []) in
    let landed : Mix Region s.regions (r ∷ []) (inserted r s.regions) = mixed_insert s.regions (position_or_len (λ (q : Region). nat_lt r.addr q.addr) s.regions) r in
    let t : Space = record s { parts = stay ++ active ∷ []; regions = inserted r s.regions } in
    let same : (page : ℕ) → holders page t.parts ≡ holders page s.parts = λ page. omega (arith, moved (share page)) in
    record {
      change = record { stay = stay; old = filter gone s.parts; new = active ∷ []; rest = s.regions; left = []; come = r ∷ [] };
      lawful = record {
        went = went;
        came = came;
        gone = mixed_first s.regions;
        landed = landed;
        owners = λ page. omega (arith, same page, sound.owners page);
        fits = All-cons Fits active [] (record { placed = piece.fits.placed; backed = λ h. site.committed }) (All-nil Fits);
        empty = λ k d h. omega (arith, left (serves (get_or s.regions k d)), idle-serves p (get_or s.regions k d) piece.idle);
        served = mix_first (Used s.regions) went sound.used;
        settled = one_settled active r site;
        flights = λ d other.
            let nobody : ones (is_flight d p.state) ≡ 0 = ap ones (piece.own d other) in
            mix_filter (λ q. is_flight d q.state) came refl
            ∙ sym (mix_filter (λ q. is_flight d q.state) went (omega (arith, left (λ q. ones (is_flight d q.state)), nobody)));
        held = λ d other.
            let nobody : ones (is_held_by d r) ≡ 0 = ap ones (not_held c d r holder other) in
            mix_filter (is_held_by d) landed (omega (arith, nobody, sum_by-cons (λ q. ones (is_held_by d q)) r []));
        ordered = ordered-inserted r s.regions sound.ordered;
        frame = kept_frame c s t.parts t.regions sound;
        quiet = live_quiet s t live refl;
      };
      pages = λ page before h. same page ∙ h ∙ ap ones (sym (plain page before));
      flew = omega (arith, moved (flight c), flies, lose, win);
    }
