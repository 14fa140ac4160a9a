-- What the operations of a resize do: they look for pages behind a large region, join them to it, or cut some off.
use Rattle.std.proofs.Common.{true, false, ◌≡◌, ◌≢◌, ℕ, ◌+◌, ◌-◌, ◌<◌, ◌≤◌, Bool, not, cond, List, ◌∷◌, get_or, Option, Some, None, refl, sym, ◌∙◌, ap, subst, arith, All, find, filter, ◌&&◌, ◌==◌, ltb as nat_lt, [], ◌++◌, append_assoc}
use Rattle.space_model.proofs.Words.{nat_tests, sum_by, count_by, position_or_len, option_map, eqb-true, leb-true, sum_by-cons, All-weaker, All-cons, All-nil, pages_at, size_bounds, large_size, Ask, Merge, Split, Answer, Done, Heard, Widen, JoinDone, TrimDone, Noted, Nothing, Whole, Part, Region, Span, Space, IsPlaced, end_of, has_page, same_span, holders, exchanged, begins_at, is_active, is_flight, is_flight_at, taken_out, rest_of, address_of, houses, homes, residents, is_held_by, starts_at, is_in, without_client, stays, is_live, is_yes_or_no, found_passes, low_piece, high_piece, joined, begins_either, flight, is_large_at, large_home, reclassed, is_spare, is_open, widen_by, widen_at, is_large_class, has_large, widened_at, after_join, join_stands, trimmed_at, after_trim_done, trim_done_stands, Sound, IsQuiet, JoinLanded, JoinWhole, TrimCut, TrimWhole, WidenNoted, WidenNothing, WidenTook, inserted, sum_by-insert}
use Rattle.space_model.proofs.Lists.{all_sum_le, find_has, find_passes, ones, only_one, sum_nothing, counted_any}
use Rattle.space_model.proofs.Exchange.{share}
use Rattle.space_model.proofs.Mixes.{Mix, mix_sum, mix_first, mix_filter, mixed_first, mixed_filter, mixed_append, mixed_insert}
use Rattle.space_model.proofs.Ordered.{Ordered, ordered-filter, ordered-inserted}
use Rattle.space_model.proofs.Settled.{Settled, Used, LargeAt, serves, serves_by, covered, idle_settled, both_settled}
use Rattle.space_model.proofs.Changes.{Does, IsLawful, Frame, Fits, Piece, pieces_home, pieces_own, one_left, lawful_sums, kept_frame, own_frame, live_quiet, sound_ranges}
use Rattle.space_model.proofs.Pieces.{both_true, Listed, found_fits, two_left, joined_share, cut_shares, Fits-joined, Fits-low, Fits-high, Piece-taken, active_own, held_by_one}
use Rattle.space_model.proofs.Landing.{eqb_itself, ones_most, one_settled}
use Rattle.space_model.proofs.Found.{last_flies}
use Rattle.space_model.proofs.Outcomes.{Comes, Goes, goes, still_goes, on_found, put_flies, whole_goes, any_found}
use Rattle.space_model.proofs.Moves.{live_is, itself, flight_at, taken_does}
use Rattle.space_model.proofs.Settings.{client_does, without_others}
use Rattle.space_model.specs.declared.asks.Answer.TheVariants as answers

-- ---- Widen

-- an unused extent is listed where it belongs
spare_listed : (page pages : ℕ) (parts : List Part) (p : Part) → find (is_spare page pages) parts ≡ Some p → Listed parts p
spare_listed page pages parts p e =
    let passes = find_passes (is_spare page pages) parts p e in
    record { test = is_spare page pages; found = e; rest = rest_of p.state; is_in = grind (arith, passes) }

widen_by_goes : (c : ℕ) (s : Space) (addr pages page lacking : ℕ) (o : Option Part) → find (is_spare page lacking) s.parts ≡ o → Sound s → is_live s.life ≡ true →
    Goes c s (Widen addr pages) (widen_by s c page o)
widen_by_goes c s addr pages page lacking (Some p) e sound live =
    goes sound (taken_does c s (Widen addr pages) _ p sound live (spare_listed page lacking s.parts p e) (λ page before. refl, refl, refl))
    (λ after. WidenTook p.span p.committed (put_flies c s p (taken_out c p) after (itself c)))
widen_by_goes c s addr pages page lacking None e sound live =
    elim (is_open s.parts page) as (λ b. Goes c s (Widen addr pages) (stays s (cond b Noted Nothing))) [
      | true ↦ still_goes c s (Widen addr pages) Noted sound (λ page before. refl, refl, refl) (WidenNoted refl)
      | false ↦ still_goes c s (Widen addr pages) Nothing sound (λ page before. refl, refl, refl) (WidenNothing refl)
    ]

pub widen_goes : (c : ℕ) (s : Space) (addr pages : ℕ) (o : Option (Region × Part)) → Sound s → is_live s.life ≡ true → Goes c s (Widen addr pages) (widen_at s c pages o)
widen_goes c s addr pages None sound live = still_goes c s (Widen addr pages) Noted sound (λ page before. refl, refl, refl) (WidenNoted refl)
widen_goes c s addr pages (Some home) sound live =
    let span : Span = home.1.span in
    widen_by_goes c s addr pages (end_of span) (pages - span.pages) (find (is_spare (end_of span) (pages - span.pages)) s.parts) refl sound live

-- ---- a large region that takes another class

-- a region that is found is the only one at its address
one_region : (s : Space) (test : Region → Bool) (r : Region) → Sound s → find test s.regions ≡ Some r → filter (starts_at r.addr) s.regions ≡ r ∷ []
one_region s test r sound found =
    let few = all_sum_le (λ q. ones (starts_at r.addr q)) (covered r.addr) s.regions
    (All-weaker (λ q. q.class < 121) (λ q. ones (starts_at r.addr q) ≤ covered r.addr q) (λ q h. let some = (size_bounds q.class h).0 in grind (arith, nat_tests, some)) s.regions sound.classes) in
    only_one (starts_at r.addr) test s.regions r (omega (arith, few, sound.apart r.addr)) found (eqb_itself r.addr)

-- A client's large region takes another class, in an extent or two that take its extent's place and that of others.
record Resize (c : ℕ) (s t : Space) (r : Region) (p : Part) (class : ℕ) (gone : Part → Bool) (others new : List Part) : Type 0 where
  test : Region → Bool
  region : find test s.regions ≡ Some r
  held : is_held_by c r ≡ true
  large : 36 ≤ r.class
  home : find (λ q. houses q r) s.parts ≡ Some p
  parts : t.parts ≡ exchanged gone s.parts new
  regions : t.regions ≡ reclassed r class s.regions
  left : (f : Part → ℕ) → sum_by f (filter gone s.parts) ≡ f p + sum_by f others
  own : All (Piece c) others
  pages : (page : ℕ) → holders page new ≡ share page p + holders page others
  fits : All Fits new
  grounded : (d : ℕ) → d ≢ c → count_by (λ q. is_flight d q.state) new ≡ 0
  settled : Settled new (record r { class = class } ∷ [])
  frame : Frame c s t
  quiet : IsQuiet t.life t

-- what is known of the extent of a large region
pub record Housed (s : Space) (r : Region) (p : Part) : Type 0 where
  pub active : is_active p.state ≡ true
  pub committed : p.committed ≡ true
  pub placed : IsPlaced p.span
  pub start : r.addr ≡ address_of p.span.first
  pub home : homes r s.parts ≡ 1
  pub alone : residents p s.regions ≡ 1

pub housed : (s : Space) (test : Region → Bool) (r : Region) (p : Part) → Sound s → find test s.regions ≡ Some r → find (λ q. houses q r) s.parts ≡ Some p → 36 ≤ r.class →
    Housed s r p
housed s test r p sound region home large =
    let here : houses p r ≡ true = find_passes (λ q. houses q r) s.parts p home in
    let at = find_has (λ q. All (LargeAt s.regions q) s.parts) test s.regions r sound.large region in
    let is = find_has (LargeAt s.regions r) (λ q. houses q r) s.parts p at home here large in record {
      active = grind (arith, here);
      committed = grind (arith, here);
      placed = find_has (λ q. IsPlaced q.span) (λ q. houses q r) s.parts p sound.placed home;
      start = eqb-true _ _ (both_true (r.addr == address_of p.span.first) _ is.0).0;
      home = find_has (λ q. homes q s.parts ≡ 1) test s.regions r sound.homes region;
      alone = is.1;
    }

resize_lawful : {c : ℕ} {s t : Space} {r : Region} {p : Part} {class : ℕ} {gone : Part → Bool} {others new : List Part} → Sound s → Resize c s t r p class gone others new →
    IsLawful c s t (record {
      stay = filter (λ q. not (gone q)) s.parts;
      old = filter gone s.parts;
      new = new;
      rest = filter (λ q. not (starts_at r.addr q)) s.regions;
      left = filter (starts_at r.addr) s.regions;
      come = record r { class = class } ∷ [];
    })
resize_lawful {c} {s} {t} {r} {p} {class} {gone} {others} {new} sound x =
    let stay : List Part = filter (λ q. not (gone q)) s.parts in
    let rest : List Region = filter (λ q. not (starts_at r.addr q)) s.regions in
    let other : Region = record r { class = class } in
    let at = housed s x.test r p sound x.region x.home x.large in
    let here : serves r p ≡ 1 = ap ones (find_passes (λ q. houses q r) s.parts p x.home) in
    let went : Mix Part stay (filter gone s.parts) s.parts = mixed_filter gone s.parts in
    let came : Mix Part stay new t.parts = subst (λ (ps : List Part). Mix Part stay new ps) (sym x.parts) (mixed_append stay new) in
    let less : Mix Region rest (filter (starts_at r.addr) s.regions) s.regions = mixed_filter (starts_at r.addr) s.regions in
    let landed : Mix Region rest (other ∷ []) t.regions =
    subst (λ (rs : List Region). Mix Region rest (other ∷ []) rs) (sym x.regions) (mixed_insert rest (position_or_len (λ (q : Region). nat_lt other.addr q.addr) rest) other) in
    let one : (f : Region → ℕ) → sum_by f (filter (starts_at r.addr) s.regions) ≡ f r =
    λ f. omega (arith, ap (sum_by f) (one_region s x.test r sound x.region), sum_by-cons f r []) in
    let guests : All (λ q. serves_by p q ≡ 0) rest = sum_nothing (serves_by p) rest (omega (arith, mix_sum (serves_by p) less, one (serves_by p), here, at.alone)) in
    let elsewhere : All (λ q. serves r q ≡ 0) stay = sum_nothing (serves r) stay (omega (arith, mix_sum (serves r) went, x.left (serves r), here, at.home)) in
    record {
      went = went;
      came = came;
      gone = less;
      landed = landed;
      owners = λ page. omega (arith, mix_sum (share page) went, mix_sum (share page) came, x.left (share page), x.pages page, sound.owners page);
      fits = x.fits;
      empty = λ k d h. omega (arith, x.left (serves (get_or rest k d)), pieces_home c others (get_or rest k d) x.own, guests k d h);
      served = λ j e i act. omega (
        arith,
        mix_first (Used s.regions) went sound.used j e i act,
        mix_sum (serves_by (get_or stay j e)) less,
        one (serves_by (get_or stay j e)),
        elsewhere j e i,
      );
      settled = x.settled;
      flights = λ d differ.
          let nobody : ones (is_flight d p.state) ≡ 0 = ap ones (active_own d p.state at.active) in
          mix_filter (λ q. is_flight d q.state) came (x.grounded d differ)
          ∙ sym (mix_filter (λ q. is_flight d q.state) went (omega (arith, x.left (λ q. ones (is_flight d q.state)), nobody, pieces_own c d others differ x.own)));
      held = λ d differ.
          let nobody : ones (is_held_by d r) ≡ 0 = ap ones (held_by_one c d r differ x.held) in
          mix_filter (is_held_by d) landed (omega (arith, nobody, sum_by-cons (λ q. ones (is_held_by d q)) other []))
          ∙ sym (mix_filter (is_held_by d) less (omega (arith, one (λ q. ones (is_held_by d q)), nobody)));
      ordered = subst (λ (rs : List Region). Ordered rs) (sym x.regions) (ordered-inserted other rest (ordered-filter (λ q. not (starts_at r.addr q)) s.regions sound.ordered));
      frame = x.frame;
      quiet = x.quiet;
    }

-- a large region with the extent that serves it, as they are found together
pub record Home (c : ℕ) (s : Space) (addr : ℕ) (home : Region × Part) : Type 0 where
  pub region : find (is_large_at c addr) s.regions ≡ Some home.0
  pub house : find (λ p. houses p home.0) s.parts ≡ Some home.1
  pub held : is_held_by c home.0 ≡ true
  pub large : 36 ≤ home.0.class

pub home_found : (c : ℕ) (s : Space) (addr : ℕ) (home : Region × Part) → large_home s c addr ≡ Some home → Home c s addr home
home_found c s addr home e =
    let region : find (is_large_at c addr) s.regions ≡ Some home.0 = grind arith in
    let house : find (λ p. houses p home.0) s.parts ≡ Some home.1 = grind arith in
    let passes = both_true (is_held_by c home.0 && starts_at addr home.0) _ (find_passes (is_large_at c addr) s.regions home.0 region) in
    record { region = region; house = house; held = (both_true (is_held_by c home.0) _ passes.0).0; large = leb-true _ _ passes.1 }

-- the extent of the region passes a test that was made of it
large_passes : (c : ℕ) (s : Space) (addr : ℕ) (test : Part → Bool) (home : Region × Part) → large_home s c addr ≡ Some home → has_large s c addr test ≡ true → test home.1 ≡ true
large_passes c s addr test home e h =
    subst (λ (o : Option (Region × Part)). found_passes test (option_map (λ x. x.1) o) ≡ true) e h

-- ---- JoinDone

joined_does : (c : ℕ) (s : Space) (heard : Heard) (class : ℕ) (low high : Span) (home : Region × Part) (q : Part) →
    large_home s c (address_of low.first) ≡ Some home → find (is_flight_at c high) s.parts ≡ Some q → Sound s → is_live s.life ≡ true → 36 ≤ class → class < 121 →
    low.pages + high.pages ≡ pages_at class → end_of low ≡ high.first → has_large s c (address_of low.first) (λ p. same_span p.span low) ≡ true →
    Does c s (JoinDone heard class) (widened_at s class (Some home) (Some q))
joined_does c s heard class low high home q e f sound live big within whole side fits =
    let r : Region = home.0 in
    let p : Part = home.1 in
    let both : Part = joined p q in
    let t : Space = (widened_at s class (Some home) (Some q)).after in
    let found = home_found c s (address_of low.first) home e in
    let at = housed s (is_large_at c (address_of low.first)) r p sound found.region found.house found.large in
    let to = flight_at c s high q sound live f in
    let same = both_true (p.span.first == low.first) (p.span.pages == low.pages) (large_passes c s (address_of low.first) (λ p. same_span p.span low) home e fits) in
    let first : p.span.first ≡ low.first = eqb-true _ _ same.0 in
    let pages : p.span.pages ≡ low.pages = eqb-true _ _ same.1 in
    let beside : end_of p.span ≡ q.span.first = omega (arith, first, pages, to.first, side) in
    let two : (f : Part → ℕ) → sum_by f (filter (begins_either p q) s.parts) ≡ f p + sum_by f (q ∷ []) =
    λ g. omega (arith, two_left s (λ x. houses x r) (is_flight_at c high) p q sound found.house f beside g, sum_by-cons g p (q ∷ [])) in
    let shares : (page : ℕ) → holders page (both ∷ []) ≡ share page p + holders page (q ∷ []) =
    λ page. omega (arith, sum_by-cons (share page) both [], sum_by-cons (share page) q [], joined_share page p q beside) in
    let lawful = resize_lawful {p = p} {others = q ∷ []} sound (record {
      test = is_large_at c (address_of low.first);
      region = found.region;
      held = found.held;
      large = found.large;
      home = found.house;
      parts = refl;
      regions = refl;
      left = two;
      own = All-cons (Piece c) q [] to.piece (All-nil (Piece c));
      pages = shares;
      fits = All-cons Fits both [] (Fits-joined p q (found_fits s (λ x. houses x r) p sound found.house) to.piece.fits beside) (All-nil Fits);
      grounded = λ d other. let none : ones (is_flight d p.state) ≡ 0 = ap ones (active_own d p.state at.active) in omega (arith, none, sum_by-cons (λ x. ones (is_flight d x.state)) both []);
      settled = one_settled both (record r { class = class }) (record {
        active = at.active;
        committed = at.committed;
        class = within;
        pages = omega (arith, pages, to.pages, whole);
        start = at.start;
      });
      frame = kept_frame c s t.parts t.regions sound;
      quiet = live_quiet s t to.live refl;
    }) in
    let moved : (g : Part → ℕ) → sum_by g t.parts + (g p + sum_by g (q ∷ [])) ≡ sum_by g s.parts + sum_by g (both ∷ []) = λ g. omega (arith, lawful_sums lawful g, two g) in
    let lands : flight c p ≡ 0 = ap ones (active_own c p.state at.active) in
    let flies : flight c q ≡ 1 = ap ones to.own in
    record {
      change = _;
      lawful = lawful;
      pages = λ page before h. omega (arith, moved (share page), shares page) ∙ h;
      flew = omega (arith, moved (flight c), lands, flies, sum_by-cons (flight c) q [], sum_by-cons (flight c) both []);
    }

-- and its client holds it
joined_comes : (c : ℕ) (s : Space) (heard : Heard) (class addr : ℕ) (home : Region × Part) (q : Part) → large_home s c addr ≡ Some home → Comes c s (JoinDone heard class) (widened_at s class (Some home) (Some q))
joined_comes c s heard class addr home q e after =
    let r : Region = home.0 in
    let other : Region = record r { class = class } in
    let rest : List Region = filter (λ x. not (starts_at r.addr x)) s.regions in
    let held = (home_found c s addr home e).held in
    let is : Region → Bool = λ x. is_held_by c x && x.addr == r.addr in
    let one : ones (is other) ≡ 1 = rw (held, eqb_itself r.addr) refl in
    JoinLanded r.addr (counted_any is (inserted other rest)
    (omega (arith, one, sum_by-insert (λ x. ones (is x)) rest (position_or_len (λ (x : Region). nat_lt other.addr x.addr) rest) other)))

-- what is so of a large region and its extent is so of what was found, where the extent passes a test
on_home : (P : Option (Region × Part) → Type 0) (test : Part → Bool) (o : Option (Region × Part)) → found_passes test (option_map (λ home. home.1) o) ≡ true →
    ((home : Region × Part) → o ≡ Some home → P (Some home)) → P o
on_home P test None h each = absurd (cc)
on_home P test (Some home) h each = each home refl

pub join_done_goes : (c : ℕ) (s : Space) (heard : Heard) (class : ℕ) (ask : Ask) (answer : Answer) → heard.ask ≡ ask → Sound s → is_live s.life ≡ true → join_stands s c class ask answer ≡ true →
    Goes c s (JoinDone heard class) (after_join s c class ask answer)
join_done_goes c s heard class (Merge low high) Done is sound live h =
    let same : Part → Bool = λ p. same_span p.span low in
    let a = both_true (is_large_class class && low.pages + high.pages == pages_at class && end_of low == high.first && has_large s c (address_of low.first) same) _ h in
    let b = both_true (is_large_class class && low.pages + high.pages == pages_at class && end_of low == high.first) _ a.0 in
    let is_in : (36 ≤ class) × (class < 121) = (grind (arith, nat_tests, b.0), grind (arith, nat_tests, b.0)) in
    on_home (λ o. Goes c s (JoinDone heard class) (widened_at s class o (find (is_flight_at c high) s.parts))) same (large_home s c (address_of low.first)) b.1
    (λ home k. on_found (λ u. Goes c s (JoinDone heard class) (widened_at s class (Some home) u)) (λ p. p.committed) (find (is_flight_at c high) s.parts) a.1
    (λ q m _. goes sound (joined_does c s heard class low high home q k m sound live is_in.0 is_in.1 (grind (arith, nat_tests, b.0)) (grind (arith, nat_tests, b.0)) b.1)
    (joined_comes c s heard class (address_of low.first) home q k)))
join_done_goes c s heard class (Merge low high) answers.Refused is sound live h =
    let a = both_true (is_large_class class && low.pages + high.pages == pages_at class && end_of low == high.first && has_large s c (address_of low.first) (λ p. same_span p.span low)) _ h in
    whole_goes c s (JoinDone heard class) high sound live (any_found (λ p. p.committed) (find (is_flight_at c high) s.parts) a.1) (λ page before. refl, refl, refl) (λ t. JoinWhole low high is)
join_done_goes c s heard class ask answer is sound live h = absurd (cc)

-- ---- TrimDone

trimmed_does : (c : ℕ) (s : Space) (heard : Heard) (class : ℕ) (span : Span) (left : ℕ) (home : Region × Part) →
    large_home s c (address_of span.first) ≡ Some home → Sound s → is_live s.life ≡ true → 36 ≤ class → class < 121 → left ≡ pages_at class → left < span.pages →
    has_large s c (address_of span.first) (λ p. same_span p.span span) ≡ true →
    Does c s (TrimDone heard class) (trimmed_at (record s { trims = without_client c s.trims }) c left class (Some home))
trimmed_does c s heard class span left home e sound live big within exact fewer fits =
    let r : Region = home.0 in
    let p : Part = home.1 in
    let low : Part = low_piece left p in
    let high : Part = taken_out c (high_piece left p) in
    let t : Space = (trimmed_at (record s { trims = without_client c s.trims }) c left class (Some home)).after in
    let found = home_found c s (address_of span.first) home e in
    let at = housed s (is_large_at c (address_of span.first)) r p sound found.region found.house found.large in
    let fit = found_fits s (λ x. houses x r) p sound found.house in
    let same = both_true (p.span.first == span.first) (p.span.pages == span.pages) (large_passes c s (address_of span.first) (λ p. same_span p.span span) home e fits) in
    let pages : p.span.pages ≡ span.pages = eqb-true _ _ same.1 in
    let some : 0 < left = omega (arith, exact, large_size class big within, (size_bounds class within).0) in
    let less : left < p.span.pages = omega (arith, pages) in
    let up = Piece-taken c (high_piece left p) (Fits-high left p fit some less) in
    let one : (f : Part → ℕ) → sum_by f (filter (begins_at p.span.first) s.parts) ≡ f p + sum_by f [] =
    λ f. omega (arith, one_left s (λ x. houses x r) p sound found.house f, sum_by-cons f p []) in
    let sums : (f : Part → ℕ) → sum_by f (low ∷ high ∷ []) ≡ f low + f high = λ f. omega (arith, sum_by-cons f low (high ∷ []), sum_by-cons f high []) in
    let shares : (page : ℕ) → holders page (low ∷ high ∷ []) ≡ share page p + holders page [] = λ page. omega (arith, sums (share page), cut_shares page left p some less) in
    let lawful = resize_lawful {p = p} {others = []} sound (record {
      test = is_large_at c (address_of span.first);
      region = found.region;
      held = found.held;
      large = found.large;
      home = found.house;
      parts = refl;
      regions = refl;
      left = one;
      own = All-nil (Piece c);
      pages = shares;
      fits = All-cons Fits low (high ∷ []) (Fits-low left p fit some less) (All-cons Fits high [] up.fits (All-nil Fits));
      grounded = λ d other.
          let none : ones (is_flight d low.state) ≡ 0 = ap ones (active_own d p.state at.active) in
          let nor : ones (is_flight d high.state) ≡ 0 = ap ones (up.own d other) in
          omega (arith, sums (λ x. ones (is_flight d x.state)), none, nor);
      settled = both_settled {a = low ∷ []} {b = high ∷ []} {q = record r { class = class } ∷ []} {r = []} (record {
        pages = λ page. omega (arith, sum_by-cons (share page) low [], sum_by-cons (share page) high [], cut_shares page left p some less, ones_most (has_page page p.span));
        one = one_settled low (record r { class = class }) (record {
          active = at.active;
          committed = at.committed;
          class = within;
          pages = exact;
          start = at.start;
        });
        two = idle_settled (high ∷ []) (All-cons (λ x. is_active x.state ≡ false) high [] refl (All-nil (λ x. is_active x.state ≡ false)));
        extents = mixed_append (low ∷ []) (high ∷ []);
        landed = mixed_first (record r { class = class } ∷ []);
      });
      frame = own_frame c s t sound (sound_ranges s sound) refl (λ d other. refl) (λ d other. without_others d c s.trims other) (λ d other. refl);
      quiet = live_quiet s t (live_is s.life live) refl;
    }) in
    let moved : (g : Part → ℕ) → sum_by g t.parts + (g p + sum_by g []) ≡ sum_by g s.parts + (g low + g high) = λ g. omega (arith, lawful_sums lawful g, one g, sums g) in
    let lands : flight c p ≡ 0 = ap ones (active_own c p.state at.active) in
    let stands : flight c low ≡ 0 = ap ones (active_own c p.state at.active) in
    let flies : flight c high ≡ 1 = ap ones (itself c) in
    record {
      change = _;
      lawful = lawful;
      pages = λ page before h. omega (arith, moved (share page), shares page, sums (share page)) ∙ h;
      flew = omega (arith, moved (flight c), lands, stands, flies);
    }

-- and the pages that were cut off are in flight
trimmed_comes : (c : ℕ) (s : Space) (heard : Heard) (class left addr : ℕ) (home : Region × Part) → Sound s → large_home s c addr ≡ Some home →
    Comes c s (TrimDone heard class) (trimmed_at (record s { trims = without_client c s.trims }) c left class (Some home))
trimmed_comes c s heard class left addr home sound e after =
    let p : Part = home.1 in
    let found = home_found c s addr home e in
    let at = housed s _ home.0 p sound found.region found.house found.large in
    let front : List Part = filter (λ q. not (begins_at p.span.first q)) s.parts in
    let low : Part = low_piece left p in
    let high : Part = taken_out c (high_piece left p) in
    TrimCut high.span (last_flies c (trimmed_at (record s { trims = without_client c s.trims }) c left class (Some home)).after (front ++ low ∷ []) high true after
    (sym (append_assoc front (low ∷ []) (high ∷ []))) (itself c) at.committed)

pub trim_done_goes : (c : ℕ) (s : Space) (heard : Heard) (class : ℕ) (ask : Ask) (answer : Answer) → Sound s → is_live s.life ≡ true → trim_done_stands s c class ask answer ≡ true →
    Goes c s (TrimDone heard class) (after_trim_done s c class ask answer)
trim_done_goes c s heard class (Split span left) Done sound live h =
    let a = both_true (is_yes_or_no Done && is_in c s.trims && is_large_class class && left == pages_at class && nat_lt left span.pages) _ h in
    let class_is : (36 ≤ class) × (class < 121) = (grind (arith, nat_tests, a.0), grind (arith, nat_tests, a.0)) in
    on_home (λ o. Goes c s (TrimDone heard class) (trimmed_at (record s { trims = without_client c s.trims }) c left class o)) (λ p. same_span p.span span) (large_home s c (address_of span.first)) a.1
    (λ home e. goes sound (trimmed_does c s heard class span left home e sound live class_is.0 class_is.1 (grind (arith, nat_tests, a.0)) (grind (arith, nat_tests, a.0)) a.1)
    (trimmed_comes c s heard class left (address_of span.first) home sound e))
trim_done_goes c s heard class (Split span left) answers.Refused sound live h =
    goes sound (client_does c s s.bound (without_client c s.trims) (TrimDone heard class) Whole sound live (λ d other. refl) (λ d other. without_others d c s.trims other) (λ page before. refl) refl)
    (λ after. TrimWhole refl)
trim_done_goes c s heard class ask answer sound live h = absurd (cc)
