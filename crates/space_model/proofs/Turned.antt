-- Extents that all change at once, and stand last in order of address from then on.
use Rattle.std.proofs.Common.{◌≡◌, ℕ, ◌+◌, ◌≢◌, map, Bool, true, not, List, [], ◌∷◌, refl, sym, ◌∙◌, ap, subst, arith, All, filter, fold, ltb as nat_lt}
use Rattle.space_model.proofs.Words.{fold-map, sum_by, count_by, position_or_len, sum_by-cons, sum_by-insert, All-weaker, All-filter, All-head, All-tail, All-nil, filter_passes, Op, Reply, Part, Region, Span, Space, has_page, holders, is_flight, placed, turned, turned_in_order, homes, is_held_by, flight, lost, won, Sound, IsQuiet}
use Rattle.space_model.proofs.Lists.{All-insert, ones}
use Rattle.space_model.proofs.Exchange.{share}
use Rattle.space_model.proofs.Mixes.{Mix, mix_sum, mix_filter, mixed_filter, mixed_append, mixed_first}
use Rattle.space_model.proofs.Ordered.{Ordered}
use Rattle.space_model.proofs.Settled.{Used, idle_settled}
use Rattle.space_model.proofs.Changes.{Does, Plain, Fits, Piece, Frame, pieces_idle, pieces_own, all_fit}

-- extents that are turned first come in the same order
pub turned_first : (turn : Part → Part) (ps : List Part) → turned_in_order (λ p. p) (map turn ps) ≡ turned_in_order turn ps
turned_first turn ps = fold-map (λ done (p : Part). placed p done) turn [] ps

-- a sum over the extents as they are turned
pub turned_sum : (turn : Part → Part) (f : Part → ℕ) (before ps : List Part) →
    sum_by f (fold (λ done p. placed (turn p) done) before ps) ≡ sum_by f before + sum_by (λ p. f (turn p)) ps
turned_sum turn f before [] = omega arith
turned_sum turn f before (p ∷ ps) =
    omega (
      arith,
      turned_sum turn f (placed (turn p) before) ps,
      sum_by-insert f before (position_or_len (λ (q : Part). nat_lt (turn p).span.first q.span.first) before) (turn p),
      sum_by-cons (λ q. f (turn q)) p ps,
    )

-- what is true of each extent as it is turned is true of all
pub All-turned : (turn : Part → Part) (P : Part → Type 0) (before ps : List Part) → All P before → All (λ p. P (turn p)) ps →
    All P (fold (λ done p. placed (turn p) done) before ps)
All-turned turn P before [] old new = old
All-turned turn P before (p ∷ ps) old new =
    All-turned turn P (placed (turn p) before) ps
    (All-insert P before _ (turn p) old (All-head (λ q. P (turn q)) p ps new))
    (All-tail (λ q. P (turn q)) p ps new)

-- All extents that pass a test turn into idle ones with the same pages, and regions go that had their homes there.
pub record Turn (c : ℕ) (s t : Space) (test : Part → Bool) (turn : Part → Part) (rest left : List Region) : Type 0 where
  pub parts : t.parts ≡ turned test turn s.parts
  pub regions : t.regions ≡ rest
  pub gone : Mix Region rest left s.regions
  pub same : (p : Part) → (turn p).span ≡ p.span
  pub fits : (p : Part) → test p ≡ true → Fits p → Piece c (turn p)
  pub empty : All (λ r. homes r (filter test s.parts) ≡ 0) rest
  pub served : All (Used rest) (filter (λ p. not (test p)) s.parts)
  pub nobody : (d : ℕ) → d ≢ c → count_by (λ p. is_flight d p.state) (filter test s.parts) ≡ 0
  pub held : (d : ℕ) → d ≢ c → count_by (is_held_by d) left ≡ 0
  pub ordered : Ordered rest
  pub frame : Frame c s t
  pub quiet : IsQuiet t.life t

pub turned_does : {c : ℕ} {s t : Space} {test : Part → Bool} {turn : Part → Part} {rest left : List Region} → Turn c s t test turn rest left → Sound s →
    (op : Op) (reply : Reply) → Plain op reply →
    sum_by (λ p. flight c (turn p)) (filter test s.parts) + lost op reply ≡ sum_by (flight c) (filter test s.parts) + won c s op reply →
    Does c s op (record { after = t; reply = reply })
turned_does {c} {s} {t} {test} {turn} {rest} {left} x sound op reply plain flew =
    let stay : List Part = filter (λ p. not (test p)) s.parts in
    let old : List Part = filter test s.parts in
    let new : List Part = turned_in_order turn old in
    let went : Mix Part stay old s.parts = mixed_filter test s.parts in
    let came : Mix Part stay new t.parts = subst (λ (ps : List Part). Mix Part stay new ps) (sym x.parts) (mixed_append stay new) in
    let fit : All Fits old = All-filter test Fits s.parts (all_fit s sound) in
    let each : All (λ p. Piece c (turn p)) old = λ k d h. x.fits _ (filter_passes test s.parts k d h) (fit k d h) in
    let fits : All (Piece c) new = All-turned turn (Piece c) [] old (All-nil (Piece c)) each in
    let moved : (f : Part → ℕ) → sum_by f t.parts + sum_by f old ≡ sum_by f s.parts + sum_by (λ p. f (turn p)) old =
    λ f. omega (arith, mix_sum f went, mix_sum f came, turned_sum turn f [] old) in
    let pages : (page : ℕ) → sum_by (λ p. share page (turn p)) old ≡ holders page old = λ page. same_terms page old in
    let same : (page : ℕ) → holders page t.parts ≡ holders page s.parts = λ page. omega (arith, moved (share page), pages page) in
    record {
      change = record { stay = stay; old = old; new = new; rest = rest; left = left; come = [] };
      lawful = record {
        went = went;
        came = came;
        gone = x.gone;
        landed = subst (λ (regions : List Region). Mix Region rest [] regions) (sym x.regions) (mixed_first rest);
        owners = λ page. omega (arith, same page, sound.owners page);
        fits = All-weaker (Piece c) Fits (λ p piece. piece.fits) new fits;
        empty = x.empty;
        served = x.served;
        settled = idle_settled new (pieces_idle c new fits);
        flights = λ d other.
            mix_filter (λ p. is_flight d p.state) came (pieces_own c d new other fits)
            ∙ sym (mix_filter (λ p. is_flight d p.state) went (x.nobody d other));
        held = λ d other. ap (filter (is_held_by d)) x.regions ∙ sym (mix_filter (is_held_by d) x.gone (x.held d other));
        ordered = subst (λ (regions : List Region). Ordered regions) (sym x.regions) x.ordered;
        frame = x.frame;
        quiet = x.quiet;
      };
      pages = λ page before h. same page ∙ h ∙ ap ones (sym (plain page before));
      flew = omega (arith, moved (flight c), flew);
    }
  where
    same_terms : (page : ℕ) (ps : List Part) → sum_by (λ p. share page (turn p)) ps ≡ holders page ps
    same_terms page [] = refl
    same_terms page (p ∷ ps) =
        let one : share page (turn p) ≡ share page p = ap (λ (span : Span). ones (has_page page span)) (x.same p) in
        omega (arith, one, sum_by-cons (λ q. share page (turn q)) p ps, sum_by-cons (share page) p ps, same_terms page ps)
