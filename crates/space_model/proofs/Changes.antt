-- What an operation changes, as one value, and what follows of each change that is lawful.
use Rattle.std.proofs.Common.{true, false, ◌≡◌, ℕ, ◌+◌, ◌<◌, ◌≤◌, ◌≢◌, ◌==◌, Bool, false, not, IsTrue, List, [], ◌∷◌, get_or, refl, sym, ◌∙◌, ap, subst, arith, All, filter, find, Some, ◌||◌, ◌&&◌, ◌++◌}
use Rattle.space_model.proofs.Words.{sum_by, count_by, list_any, sum_by-cons, All-weaker, All-cons, All-nil, Op, Offered, Part, Region, Reply, Life, Live, Pace, Space, IsPlaced, has_page, max_series, holders, exchanged, begins_at, is_active, is_flight, is_backed, rest_of, homes, is_held_by, Sound, IsQuiet, IsPaced, mine, is_dying, Stepped, stays, replaced, granted_by, flight, lost, won}
use Rattle.space_model.proofs.Lists.{nothing_sum, ones}
use Rattle.space_model.proofs.Exchange.{share, filter-begins_at}
use Rattle.space_model.proofs.Ordered.{Ordered}
use Rattle.space_model.proofs.Mixes.{Mix, mix_sum, mix_all, mix_first, mix_filter, mixed_first, mixed_second, mixed_filter, mixed_append}
use Rattle.space_model.proofs.Settled.{Settled, Used, serves, idle-serves, sound_settled, some_pages, idle_settled, rest_settled, both_settled}

-- What a step changes: extents stay, and others go or come; so do regions.
pub record Change : Type 0 where
  pub stay : List Part
  pub old : List Part
  pub new : List Part
  pub rest : List Region
  pub left : List Region
  pub come : List Region

-- an extent may stand in a space: it is placed, and committed where it has to be
pub record Fits (p : Part) : Type 0 where
  pub placed : IsPlaced p.span
  pub backed : IsTrue (is_backed (rest_of p.state)) → IsTrue p.committed

-- all extents of a sound space do
pub all_fit : (s : Space) → Sound s → All Fits s.parts
all_fit s sound = λ k d h. record { placed = sound.placed k d h; backed = sound.backed k d h }

-- What is in range beside extents, regions and offers.
pub record Ranges (box_no : ℕ) (first second : Pace) (growth limit : ℕ) : Type 0 where
  pub box : box_no < 32
  pub dirty : IsPaced first
  pub muzzy : IsPaced second
  pub grow : (1 ≤ growth) × (growth ≤ max_series)
  pub grow_limit : (1 ≤ limit) × (limit ≤ max_series)

-- Beside extents and regions a step leaves what is in range, and what another client owns there as it was.
pub record Frame (c : ℕ) (s t : Space) : Type 0 where
  pub offered : All (λ o. IsPlaced o.span) t.offers
  pub ranges : Ranges t.box_no t.dirty t.muzzy t.grow t.grow_limit
  pub offers : (d : ℕ) → d ≢ c → filter (λ (o : Offered). o.client == d) t.offers ≡ filter (λ o. o.client == d) s.offers
  pub bound : (d : ℕ) → d ≢ c → list_any (λ b. b == d) t.bound ≡ list_any (λ b. b == d) s.bound
  pub trims : (d : ℕ) → d ≢ c → list_any (λ b. b == d) t.trims ≡ list_any (λ b. b == d) s.trims
  pub dying : (d : ℕ) → d ≢ c → is_dying d t.life ≡ is_dying d s.life

-- A change is lawful: from one space to the other no page gets a second extent, the new extents may stand there, regions that
-- stay had no home among the old extents, each active extent that stays still serves one, the new regions are settled among the
-- new extents, and no other client's extents in flight and regions are touched.
pub record IsLawful (c : ℕ) (s t : Space) (ch : Change) : Type 0 where
  pub went : Mix Part ch.stay ch.old s.parts
  pub came : Mix Part ch.stay ch.new t.parts
  pub gone : Mix Region ch.rest ch.left s.regions
  pub landed : Mix Region ch.rest ch.come t.regions
  pub owners : (page : ℕ) → holders page t.parts ≤ 1
  pub fits : All Fits ch.new
  pub empty : All (λ r. homes r ch.old ≡ 0) ch.rest
  pub served : All (Used ch.rest) ch.stay
  pub settled : Settled ch.new ch.come
  pub flights : (d : ℕ) → d ≢ c → filter (λ p. is_flight d p.state) t.parts ≡ filter (λ p. is_flight d p.state) s.parts
  pub held : (d : ℕ) → d ≢ c → filter (is_held_by d) t.regions ≡ filter (is_held_by d) s.regions
  pub ordered : Ordered t.regions
  pub frame : Frame c s t
  pub quiet : IsQuiet t.life t

-- ---- what follows of a lawful change

-- the space stays sound
pub lawful_sound : {c : ℕ} {s t : Space} {ch : Change} → IsLawful c s t ch → Sound s → Sound t
lawful_sound {c} {s} {t} {ch} l sound =
    let stays = rest_settled l.went l.gone (sound_settled s sound) l.empty l.served in
    let pages : (page : ℕ) → holders page t.parts ≡ holders page ch.stay + holders page ch.new = λ page. mix_sum (λ (p : Part). ones (has_page page p.span)) l.came in
    let all = both_settled (record {
      pages = λ page. omega (arith, pages page, l.owners page);
      one = stays;
      two = l.settled;
      extents = l.came;
      landed = l.landed;
    }) in record {
      owners = l.owners;
      placed = mix_all (λ p. IsPlaced p.span) l.came (mix_first (λ p. IsPlaced p.span) l.went sound.placed)
          (All-weaker Fits (λ p. IsPlaced p.span) (λ p fits. fits.placed) ch.new l.fits);
      offered = l.frame.offered;
      backed = mix_all (λ p. IsTrue (is_backed (rest_of p.state)) → IsTrue p.committed) l.came
          (mix_first (λ p. IsTrue (is_backed (rest_of p.state)) → IsTrue p.committed) l.went sound.backed)
          (All-weaker Fits (λ p. IsTrue (is_backed (rest_of p.state)) → IsTrue p.committed) (λ p fits. fits.backed) ch.new l.fits);
      homes = all.home;
      used = all.used;
      large = all.large;
      small = all.small;
      classes = all.classes;
      aligned = all.aligned;
      apart = all.apart;
      ordered = l.ordered;
      quiet = l.quiet;
      box = l.frame.ranges.box;
      dirty = l.frame.ranges.dirty;
      muzzy = l.frame.ranges.muzzy;
      grow = l.frame.ranges.grow;
      grow_limit = l.frame.ranges.grow_limit;
    }

-- what another client owns stays
pub lawful_others : {c : ℕ} {s t : Space} {ch : Change} → IsLawful c s t ch → (d : ℕ) → d ≢ c → mine d t ≡ mine d s
lawful_others {c} {s} {t} l d other =
    grind (arith, l.flights d other, l.held d other, l.frame.offers d other, l.frame.bound d other, l.frame.trims d other, l.frame.dying d other)

-- a sum over the extents is that of before with those that came, and without those that went
pub lawful_sums : {c : ℕ} {s t : Space} {ch : Change} → IsLawful c s t ch → (f : Part → ℕ) →
    sum_by f t.parts + sum_by f ch.old ≡ sum_by f s.parts + sum_by f ch.new
lawful_sums l f = omega (arith, mix_sum f l.went, mix_sum f l.came)

-- ---- the frame

-- what is in range in a sound space
pub sound_ranges : (s : Space) → Sound s → Ranges s.box_no s.dirty s.muzzy s.grow s.grow_limit
sound_ranges s sound = record { box = sound.box; dirty = sound.dirty; muzzy = sound.muzzy; grow = sound.grow; grow_limit = sound.grow_limit }

-- where no other client owns less or more
pub own_frame : (c : ℕ) (s t : Space) → Sound s → Ranges t.box_no t.dirty t.muzzy t.grow t.grow_limit → t.offers ≡ s.offers →
    ((d : ℕ) → d ≢ c → list_any (λ b. b == d) t.bound ≡ list_any (λ b. b == d) s.bound) →
    ((d : ℕ) → d ≢ c → list_any (λ b. b == d) t.trims ≡ list_any (λ b. b == d) s.trims) →
    ((d : ℕ) → d ≢ c → is_dying d t.life ≡ is_dying d s.life) → Frame c s t
own_frame c s t sound ranges offers bound trims dying = record {
  offered = subst (All (λ (o : Offered). IsPlaced o.span)) (sym offers) sound.offered;
  ranges = ranges;
  offers = λ d other. ap (filter (λ o. o.client == d)) offers;
  bound = bound;
  trims = trims;
  dying = dying;
}

-- where nobody does
pub range_frame : (c : ℕ) (s t : Space) → Sound s → Ranges t.box_no t.dirty t.muzzy t.grow t.grow_limit →
    t.offers ≡ s.offers → t.bound ≡ s.bound → t.trims ≡ s.trims → t.life ≡ s.life → Frame c s t
range_frame c s t sound ranges offers bound trims life =
    own_frame c s t sound ranges offers (λ d other. ap (list_any (λ b. b == d)) bound) (λ d other. ap (list_any (λ b. b == d)) trims) (λ d other. ap (is_dying d) life)

-- where nothing else changes
pub kept_frame : (c : ℕ) (s : Space) (parts : List Part) (regions : List Region) → Sound s → Frame c s (record s { parts = parts; regions = regions })
kept_frame c s parts regions sound =
    range_frame c s (record s { parts = parts; regions = regions }) sound (sound_ranges s sound) refl refl refl refl

-- a live space is quiet
pub live_quiet : (s t : Space) → s.life ≡ Live → t.life ≡ s.life → IsQuiet t.life t
live_quiet s t live same = subst (λ (l : Life). IsQuiet l t) (sym (same ∙ live)) tt

-- ---- idle extents of a client's own

-- An extent that a client may take or leave: it serves no region, and is no other client's flight.
pub record Piece (c : ℕ) (p : Part) : Type 0 where
  pub idle : is_active p.state ≡ false
  pub fits : Fits p
  pub own : (d : ℕ) → d ≢ c → is_flight d p.state ≡ false

-- none of them serves a region, or is another client's flight
pub pieces_idle : (c : ℕ) (ps : List Part) → All (Piece c) ps → All (λ p. is_active p.state ≡ false) ps
pieces_idle c ps all = All-weaker (Piece c) (λ p. is_active p.state ≡ false) (λ p piece. piece.idle) ps all

pub pieces_home : (c : ℕ) (ps : List Part) (r : Region) → All (Piece c) ps → homes r ps ≡ 0
pieces_home c ps r all = nothing_sum (serves r) ps (All-weaker (Piece c) (λ p. serves r p ≡ 0) (λ p piece. idle-serves p r piece.idle) ps all)

pub pieces_own : (c d : ℕ) (ps : List Part) → d ≢ c → All (Piece c) ps → count_by (λ p. is_flight d p.state) ps ≡ 0
pieces_own c d ps other all =
    nothing_sum (λ p. ones (is_flight d p.state)) ps
    (All-weaker (Piece c) (λ p. ones (is_flight d p.state) ≡ 0) (λ p piece. ap ones (piece.own d other)) ps all)

-- Extents go and come in a space, and no region does. Those that go are given as a list with equal sums.
pub record Trade (c : ℕ) (s t : Space) (stay old gone new : List Part) : Type 0 where
  pub went : Mix Part stay gone s.parts
  pub came : Mix Part stay new t.parts
  pub regions : t.regions ≡ s.regions
  pub left : (f : Part → ℕ) → sum_by f gone ≡ sum_by f old
  pub own : All (Piece c) old
  pub fits : All (Piece c) new
  pub owners : (page : ℕ) → holders page t.parts ≤ 1
  pub frame : Frame c s t
  pub quiet : IsQuiet t.life t

-- the change of a trade
abbrev pub trade : Space → List Part → List Part → List Part → Change
trade s stay gone new = record { stay = stay; old = gone; new = new; rest = s.regions; left = []; come = [] }

-- a trade is lawful
pub lawful_trade : {c : ℕ} {s t : Space} {stay old gone new : List Part} → Sound s → Trade c s t stay old gone new → IsLawful c s t (trade s stay gone new)
lawful_trade {c} {s} {t} {stay} {old} {gone} {new} sound x = record {
  went = x.went;
  came = x.came;
  gone = mixed_first s.regions;
  landed = subst (λ (regions : List Region). Mix Region s.regions [] regions) (sym x.regions) (mixed_first s.regions);
  owners = x.owners;
  fits = All-weaker (Piece c) Fits (λ p piece. piece.fits) new x.fits;
  empty = λ k d h. x.left (serves (get_or s.regions k d)) ∙ pieces_home c old (get_or s.regions k d) x.own;
  served = mix_first (Used s.regions) x.went sound.used;
  settled = idle_settled new (pieces_idle c new x.fits);
  flights = λ d other.
      mix_filter (λ p. is_flight d p.state) x.came (pieces_own c d new other x.fits)
      ∙ sym (mix_filter (λ p. is_flight d p.state) x.went (x.left (λ p. ones (is_flight d p.state)) ∙ pieces_own c d old other x.own));
  held = λ d other. ap (filter (is_held_by d)) x.regions;
  ordered = subst (λ (regions : List Region). Ordered regions) (sym x.regions) sound.ordered;
  frame = x.frame;
  quiet = x.quiet;
}

-- ---- what a step does

-- What a step of an operation does: its change, which is lawful, which pages are granted then, and how many extents the client
-- has in flight.
pub record Does (c : ℕ) (s : Space) (op : Op) (step : Stepped) : Type 0 where
  pub change : Change
  pub lawful : IsLawful c s step.after change
  pub pages : (page : ℕ) (before : Bool) → holders page s.parts ≡ ones before → holders page step.after.parts ≡ ones (granted_by page before op step.reply)
  pub flew : sum_by (flight c) step.after.parts + lost op step.reply ≡ sum_by (flight c) s.parts + won c s op step.reply

-- an operation with its reply that grants no page, and takes none off
abbrev pub Plain : Op → Reply → Type 0
Plain op reply = (page : ℕ) (before : Bool) → granted_by page before op reply ≡ before

-- only the frame changes
pub frame_does : (c : ℕ) (s t : Space) (op : Op) (reply : Reply) → Sound s → t.parts ≡ s.parts → t.regions ≡ s.regions → Frame c s t → IsQuiet t.life t →
    Plain op reply → lost op reply ≡ won c s op reply → Does c s op (record { after = t; reply = reply })
frame_does c s t op reply sound parts regions frame quiet plain same = record {
  change = trade s s.parts [] [];
  lawful = lawful_trade {old = []} sound (record {
    went = mixed_first s.parts;
    came = subst (λ (ps : List Part). Mix Part s.parts [] ps) (sym parts) (mixed_first s.parts);
    regions = regions;
    left = λ f. refl;
    own = All-nil (Piece c);
    fits = All-nil (Piece c);
    owners = λ page. let e : holders page t.parts ≡ holders page s.parts = ap (holders page) parts in omega (arith, e, sound.owners page);
    frame = frame;
    quiet = quiet;
  });
  pages = λ page before h. ap (holders page) parts ∙ h ∙ ap ones (sym (plain page before));
  flew = let e : sum_by (flight c) t.parts ≡ sum_by (flight c) s.parts = ap (sum_by (flight c)) parts in omega (arith, e, same);
}

-- a space that stays as it was
pub stays_does : (c : ℕ) (s : Space) (op : Op) (reply : Reply) → Sound s → Plain op reply → lost op reply ≡ won c s op reply → Does c s op (stays s reply)
stays_does c s op reply sound plain same = frame_does c s s op reply sound refl refl (kept_frame c s s.parts s.regions sound) sound.quiet plain same

-- a trade in which only extents change
pub trade_does : (c : ℕ) (s : Space) (op : Op) (reply : Reply) (gone : Part → Bool) (old new : List Part) → Sound s → s.life ≡ Live →
    ((f : Part → ℕ) → sum_by f (filter gone s.parts) ≡ sum_by f old) → All (Piece c) old → All (Piece c) new →
    ((page : ℕ) → holders page new ≡ holders page old) → Plain op reply →
    sum_by (flight c) new + lost op reply ≡ sum_by (flight c) old + won c s op reply →
    Does c s op (record { after = record s { parts = exchanged gone s.parts new }; reply = reply })
trade_does c s op reply gone old new sound live left own fits pages plain flew =
    let stay : List Part = filter (λ p. not (gone p)) s.parts in
    let went : Mix Part stay (filter gone s.parts) s.parts = mixed_filter gone s.parts in
    let came : Mix Part stay new (exchanged gone s.parts new) = mixed_append stay new in
    let moved : (f : Part → ℕ) → sum_by f (exchanged gone s.parts new) + sum_by f old ≡ sum_by f s.parts + sum_by f new =
    λ f. omega (arith, mix_sum f went, mix_sum f came, left f) in
    let same : (page : ℕ) → holders page (exchanged gone s.parts new) ≡ holders page s.parts = λ page. omega (arith, moved (share page), pages page) in
    record {
      change = trade s stay (filter gone s.parts) new;
      lawful = lawful_trade {old = old} sound (record {
        went = went;
        came = came;
        regions = refl;
        left = left;
        own = own;
        fits = fits;
        owners = λ page. omega (arith, same page, sound.owners page);
        frame = kept_frame c s (exchanged gone s.parts new) s.regions sound;
        quiet = live_quiet s (record s { parts = exchanged gone s.parts new }) live refl;
      });
      pages = λ page before h. same page ∙ h ∙ ap ones (sym (plain page before));
      flew = omega (arith, moved (flight c), flew);
    }

-- the sums over an extent that was found, as one that goes
pub one_left : (s : Space) (test : Part → Bool) (p : Part) → Sound s → find test s.parts ≡ Some p → (f : Part → ℕ) →
    sum_by f (filter (begins_at p.span.first) s.parts) ≡ sum_by f (p ∷ [])
one_left s test p sound found f = ap (sum_by f) (filter-begins_at test s.parts p (some_pages s.parts sound.placed) (sound.owners p.span.first) found)

-- one extent that was found gives way to pieces
pub replaced_does : (c : ℕ) (s : Space) (op : Op) (reply : Reply) (test : Part → Bool) (p : Part) (new : List Part) → Sound s → s.life ≡ Live →
    find test s.parts ≡ Some p → Piece c p → All (Piece c) new → ((page : ℕ) → holders page new ≡ share page p) → Plain op reply →
    sum_by (flight c) new + lost op reply ≡ flight c p + won c s op reply → Does c s op (replaced s p new reply)
replaced_does c s op reply test p new sound live found piece fits pages plain flew =
    trade_does c s op reply (begins_at p.span.first) (p ∷ []) new sound live (one_left s test p sound found)
    (All-cons (Piece c) p [] piece (All-nil (Piece c))) fits (λ page. omega (arith, pages page, sum_by-cons (share page) p [])) plain
    (omega (arith, flew, sum_by-cons (flight c) p []))

-- or to one piece with its pages
pub put_does : (c : ℕ) (s : Space) (op : Op) (reply : Reply) (test : Part → Bool) (p q : Part) → Sound s → s.life ≡ Live →
    find test s.parts ≡ Some p → Piece c p → Piece c q → q.span ≡ p.span → Plain op reply →
    flight c q + lost op reply ≡ flight c p + won c s op reply → Does c s op (replaced s p (q ∷ []) reply)
put_does c s op reply test p q sound live found piece fits same plain flew =
    replaced_does c s op reply test p (q ∷ []) sound live found piece (All-cons (Piece c) q [] fits (All-nil (Piece c)))
    (λ page. let e : share page q ≡ share page p = ap (λ span. ones (has_page page span)) same in omega (arith, e, sum_by-cons (share page) q [])) plain
    (omega (arith, flew, sum_by-cons (flight c) q []))

-- ---- pages that come and go

-- a page that is given up has no extent, and another one as many as before
pages_fewer : (page n m : ℕ) (before : Bool) (p : Part) → m + share page p ≡ n → n ≡ ones before → m ≡ ones (before && not (has_page page p.span))
pages_fewer page n m true p new h = grind arith
pages_fewer page n m false p new h = omega (arith, new, h)

-- an extent comes, whose pages none had, and they are granted from then on
pub come_does : (c : ℕ) (s t : Space) (op : Op) (reply : Reply) (p : Part) → Sound s → t.parts ≡ s.parts ++ p ∷ [] → t.regions ≡ s.regions → Piece c p →
    ((page : ℕ) → holders page s.parts + share page p ≤ 1) → Frame c s t → IsQuiet t.life t →
    ((page : ℕ) (before : Bool) → granted_by page before op reply ≡ (before || has_page page p.span)) → flight c p + lost op reply ≡ won c s op reply →
    Does c s op (record { after = t; reply = reply })
come_does c s t op reply p sound parts regions piece most frame quiet granted flew =
    let came : Mix Part s.parts (p ∷ []) t.parts = subst (λ (ps : List Part). Mix Part s.parts (p ∷ []) ps) (sym parts) (mixed_append s.parts (p ∷ [])) in
    let more : (f : Part → ℕ) → sum_by f t.parts ≡ sum_by f s.parts + f p = λ f. omega (arith, mix_sum f came, sum_by-cons f p []) in
    record {
      change = trade s s.parts [] (p ∷ []);
      lawful = lawful_trade {old = []} sound (record {
        went = mixed_first s.parts;
        came = came;
        regions = regions;
        left = λ f. refl;
        own = All-nil (Piece c);
        fits = All-cons (Piece c) p [] piece (All-nil (Piece c));
        owners = λ page. omega (arith, more (share page), most page);
        frame = frame;
        quiet = quiet;
      });
      pages = λ page before h. grind (arith, granted page before, more (share page), most page, h);
      flew = omega (arith, more (flight c), flew);
    }

-- an extent that was found goes, and its pages are given up
pub go_does : (c : ℕ) (s t : Space) (op : Op) (reply : Reply) (test : Part → Bool) (p : Part) → Sound s → find test s.parts ≡ Some p → Piece c p →
    t.parts ≡ exchanged (begins_at p.span.first) s.parts [] → t.regions ≡ s.regions → Frame c s t → IsQuiet t.life t →
    ((page : ℕ) (before : Bool) → granted_by page before op reply ≡ (before && not (has_page page p.span))) → lost op reply ≡ flight c p + won c s op reply →
    Does c s op (record { after = t; reply = reply })
go_does c s t op reply test p sound found piece parts regions frame quiet given_up flew =
    let gone = begins_at p.span.first in
    let stay : List Part = filter (λ q. not (gone q)) s.parts in
    let went : Mix Part stay (filter gone s.parts) s.parts = mixed_filter gone s.parts in
    let came : Mix Part stay [] t.parts = subst (λ (ps : List Part). Mix Part stay [] ps) (sym parts) (mixed_append stay []) in
    let left = one_left s test p sound found in
    let fewer : (f : Part → ℕ) → sum_by f t.parts + f p ≡ sum_by f s.parts = λ f. omega (arith, mix_sum f went, mix_sum f came, left f, sum_by-cons f p []) in
    record {
      change = trade s stay (filter gone s.parts) [];
      lawful = lawful_trade {old = p ∷ []} sound (record {
        went = went;
        came = came;
        regions = regions;
        left = left;
        own = All-cons (Piece c) p [] piece (All-nil (Piece c));
        fits = All-nil (Piece c);
        owners = λ page. omega (arith, fewer (share page), sound.owners page);
        frame = frame;
        quiet = quiet;
      });
      pages = λ page before h.
          pages_fewer page (holders page s.parts) (holders page t.parts) before p (fewer (share page)) h ∙ ap ones (sym (given_up page before));
      flew = omega (arith, fewer (flight c), flew);
    }

-- ---- regions alone

-- the change of all extents and all regions into others
abbrev pub whole : Space → Space → Change
whole s t = record { stay = []; old = s.parts; new = t.parts; rest = []; left = s.regions; come = t.regions }

-- it is lawful where all is as a sound space wants it
pub whole_lawful : (c : ℕ) (s t : Space) → ((page : ℕ) → holders page t.parts ≤ 1) → All Fits t.parts → Settled t.parts t.regions →
    ((d : ℕ) → d ≢ c → filter (λ p. is_flight d p.state) t.parts ≡ filter (λ p. is_flight d p.state) s.parts) →
    ((d : ℕ) → d ≢ c → filter (is_held_by d) t.regions ≡ filter (is_held_by d) s.regions) → Ordered t.regions → Frame c s t → IsQuiet t.life t →
    IsLawful c s t (whole s t)
whole_lawful c s t owners fits settled flights held ordered frame quiet = record {
  went = mixed_second s.parts;
  came = mixed_second t.parts;
  gone = mixed_second s.regions;
  landed = mixed_second t.regions;
  owners = owners;
  fits = fits;
  empty = All-nil (λ r. homes r s.parts ≡ 0);
  served = All-nil (Used []);
  settled = settled;
  flights = flights;
  held = held;
  ordered = ordered;
  frame = frame;
  quiet = quiet;
}

-- the extents stay, and the regions are others
pub regions_does : (c : ℕ) (s : Space) (op : Op) (reply : Reply) (regions : List Region) → Sound s → s.life ≡ Live → Settled s.parts regions →
    ((d : ℕ) → d ≢ c → filter (is_held_by d) regions ≡ filter (is_held_by d) s.regions) → Ordered regions → Plain op reply → lost op reply ≡ won c s op reply →
    Does c s op (record { after = record s { regions = regions }; reply = reply })
regions_does c s op reply regions sound live settled held ordered plain same =
    let t : Space = record s { regions = regions } in record {
      change = whole s t;
      lawful = whole_lawful c s t sound.owners (all_fit s sound) settled (λ d other. refl) held ordered (kept_frame c s s.parts regions sound) (live_quiet s t live refl);
      pages = λ page before h. h ∙ ap ones (sym (plain page before));
      flew = omega (arith, same);
    }
