-- Where the region of a memalign stands: each step of it keeps what the first page of its extent is a multiple of.
use Rattle.call_plan.proofs.Words.{Move, ◌∣◌, ◌≡◌, ℕ, ◌+◌, ◌*◌, ◌%◌, ◌<◌, ◌≤◌, max, min, Bool, true, false, cond, List, [], ◌∷◌, Option, None, Some, refl, sym, subst, arith, nat_lt, find, All, rules, slice_get, cond_both, ltb-true, nat_tests, All-head, dvd_of_mod-eq-zero, dvd_trans, mod-eq-zero_of_dvd, get_or_from_slice_get, slice_get_within, is_flight_at, region_of, after_fill, Stepped, after_cut, after_grow, after_look, is_live, step_of, Spot, lowest_spots, found_span, before_last, Memalign, Item, Ok, Wish, TurnPoint, Filling, Looking, Landing, AskPoint, Skipping, Trimming, Growing, SplittingGrown, GrowingExactly, SplittingExact, Committing, Point, Turns, Asks, Tells, Next, Go, InArena, NextBatch, Ends, Alloc, Split, Answer, Reply, Noted, Took, Grow, Cut, Grown, Landed, Regions, Space, Part, Span, Sound, AskFacts, Held, DeskFacts, align_at, aligned_for, fill_at, land_at, lowest_free, most_regions, max_series, cached_in, is_cacheable, alloc_of, ask_at, chunks_for, commit, done_at, op_at, told, trim, turn_replied, whole_chunks, begin, begin_get, begin_memalign, get, is_alignment, page_align, share, small_hit, step_next, wish_for, with_found, AllCame, Came, IsCacheAligned, MemalignsAreAligned}
use Rattle.call_plan.specs.Words.{Region}
use Rattle.call_plan.proofs.Bounds.{run_keeps}
use Rattle.call_plan.proofs.Multiples.{page_divides, paged_of, run_divides, small_divides}

-- ---- what a reply says of the first page of an extent

-- a run that was found begins at a multiple of the alignment
took_aligned : (s : Space) (c pages align : ℕ) (span : Span) (b : Bool) (skip : ℕ) → 1 ≤ align → Took span b skip ≡ (after_look s c pages align).reply → align ∣ span.first + skip
took_aligned s c pages align span b skip some e = grind (arith, run_divides)

-- what an alloc granted begins at a multiple of the alignment
grown_aligned : (s : Space) (c : ℕ) (found : Option ℕ) (pages align : ℕ) (answer : Answer) (span : Span) (b : Bool) → Grown span b ≡ (after_grow s c found (Alloc false None pages align) answer).reply → align ∣ span.first
grown_aligned s c found pages align answer span b e = grind (arith, nat_tests, dvd_of_mod-eq-zero)

-- where the kept piece of a cut begins
abbrev kept_first : Bool → Span → ℕ → ℕ
kept_first keep_low span left = cond keep_low span.first (span.first + left)

-- a piece of an extent begins where the extent does, or behind what was cut off
cut_first : (s : Space) (c : ℕ) (keep_low : Bool) (span : Span) (left : ℕ) (answer : Answer) (kept : Span) → Cut kept ≡ (after_cut s c keep_low (Split span left) answer).reply → kept.first ≡ kept_first keep_low span left
cut_first s c keep_low span left answer kept e =
    let found : (p : Part) → find (is_flight_at c span) s.parts ≡ Some p → p.span ≡ span = λ p h. (found_span c span s.parts p h).0 in grind (arith, found)

-- regions land at the first byte of the extent
landed_first : (s : Space) (c class count : ℕ) (span : Span) (first come : ℕ) → Landed first come ≡ (land_at s c class count (find (is_flight_at c span) s.parts)).reply → first ≡ 4096 * span.first
landed_first s c class count span first come e =
    let found : (p : Part) → find (is_flight_at c span) s.parts ≡ Some p → p.span ≡ span = λ p h. (found_span c span s.parts p h).0 in grind (arith, found)

-- a free region of a slab stands at a multiple of the alignment of its class
filled_aligned : (s : Space) (c class count addr : ℕ) (others : List ℕ) → Sound s → class < 36 → Regions (addr ∷ others) ≡ (after_fill s c class count).reply → align_at class ∣ addr
filled_aligned s c class count addr others sound small e =
    cond_both (is_live s.life) _ _ (λ (u : Stepped). Regions (addr ∷ others) ≡ u.reply → align_at class ∣ addr) (λ _. filled (lowest_free class count s) (lowest_spots c class count s small sound))
    (λ _ k. absurd (cc)) e
  where
    filled : (xs : List ℕ) → All (λ a. Spot s.parts s.regions (region_of c class a)) xs → Regions (addr ∷ others) ≡ (fill_at s c class xs).reply → align_at class ∣ addr
    filled [] spots k = absurd (cc)
    filled (x ∷ xs) spots k =
        let same : addr ≡ x = cc in
        subst (λ n. align_at class ∣ n) (sym same) (dvd_of_mod-eq-zero (align_at class) (All-head (λ a. Spot s.parts s.regions (region_of c class a)) x xs spots).aligned)

-- a region that a memalign takes from the cache stands at a multiple of the alignment of its class
hit_aligned : (class : ℕ) (desk : DeskFacts) (region : Held) → IsCacheAligned desk → small_hit class desk ≡ Some region → (class < 36) × (align_at class ∣ region.addr)
hit_aligned class desk region cached e =
    cond_both (nat_lt class 36) _ _ (λ o. o ≡ Some region → (class < 36) × (align_at class ∣ region.addr)) (λ h. cond_both (is_cacheable class desk) _ _ (λ o. o ≡ Some region → (class < 36) × (align_at class ∣ region.addr)) (λ _. got (ltb-true _ _ h)) (λ _ k. absurd (cc))) (λ _ k. absurd (cc)) e
  where
    got : class < 36 → slice_get (cached_in desk.cached class) (before_last class desk) ≡ Some region → (class < 36) × (align_at class ∣ region.addr)
    got small there =
        let regions : List Held = cached_in desk.cached class in
        let place : ℕ = before_last class desk in
        let at = cached class small place region (slice_get_within regions place region there) in
        (small, dvd_of_mod-eq-zero (align_at class) (subst (λ (r : Held). r.addr % align_at class ≡ 0) (get_or_from_slice_get regions place region region there) at))

module _ (align size : ℕ) where
  -- ---- what is so at each point

  -- A wish of the memalign is for its class, at an alignment in pages by which the first byte of an extent is aligned.
  pub record Aims (wish : Wish) : Type 0 where
    pub class : wish.class ≡ aligned_for size align
    pub stays : wish.moves ≡ false
    pub some : 1 ≤ wish.align
    pub chunk : wish.align ∣ max 512 wish.align
    pub bytes : align ∣ 4096 * wish.align
    pub small : wish.class < 36 → align ∣ align_at wish.class

  -- the extent for the wish begins at a page that is a multiple of its alignment
  abbrev pub Starts : Wish → ℕ → Type 0
  Starts wish first = Aims wish × (wish.align ∣ first)

  abbrev pub TurnAligned : TurnPoint → Type 0
  TurnAligned (Filling wish count) = Aims wish × (wish.class < 36)
  TurnAligned (Looking wish) = Aims wish
  TurnAligned (Landing wish span) = Starts wish span.first
  TurnAligned point = ⊥

  abbrev pub AskAligned : AskPoint → Type 0
  AskAligned (Skipping wish span b skip) = Starts wish (span.first + skip)
  AskAligned (Trimming wish span b) = Starts wish span.first
  AskAligned (Growing wish chunks) = Aims wish
  AskAligned (SplittingGrown wish span b) = Starts wish span.first
  AskAligned (GrowingExactly wish) = Aims wish
  AskAligned (SplittingExact wish span b) = Starts wish span.first
  AskAligned (Committing wish span) = Starts wish span.first
  AskAligned point = ⊥

  abbrev pub PointAligned : Point → Type 0
  PointAligned (Turns point) = TurnAligned point
  PointAligned (Asks point None) = AskAligned point
  PointAligned (Asks point (Some asked)) = AskAligned point × (asked.ask ≡ ask_at point)
  PointAligned (Tells span b) = ⊥

  abbrev pub NextAligned : Next → Type 0
  NextAligned (Go point) = PointAligned point
  NextAligned (InArena index point) = ⊥
  NextAligned NextBatch = ⊥
  NextAligned (Move class) = ⊥
  NextAligned (Ends (Ok (Region addr class))) = (class ≡ aligned_for size align) × (addr % align ≡ 0)
  NextAligned next = Unit {0}

  -- ---- where a point leads

  commit_aligned : (wish : Wish) (span : Span) (b : Bool) → Starts wish span.first → NextAligned (commit wish span b)
  commit_aligned wish span b starts = grind arith

  trim_aligned : (wish : Wish) (span : Span) (b : Bool) → Starts wish span.first → NextAligned (trim wish span b)
  trim_aligned wish span b starts = grind arith

  -- what is skipped is cut off, and otherwise nothing is
  skip_aligned : (wish : Wish) (span : Span) (b : Bool) (skip : ℕ) → Starts wish (span.first + skip) → NextAligned (turn_replied (Looking wish) (Took span b skip))
  skip_aligned wish span b skip starts =
      cond_both (nat_lt 0 skip) _ _ NextAligned (λ _. starts)
      (λ h. let same : span.first + skip ≡ span.first = grind (arith, nat_tests) in trim_aligned wish span b (starts.0, subst (λ n. wish.align ∣ n) same starts.1))

  turned_aligned : (s : Space) (c : ℕ) (found : Option ℕ) (point : TurnPoint) (reply : Reply) → Sound s → TurnAligned point →
      reply ≡ (step_of s c (with_found found (op_at point))).reply → NextAligned (turn_replied point reply)
  turned_aligned s c found (Filling wish count) (Regions []) sound knows e = tt
  turned_aligned s c found (Filling wish count) (Regions (addr ∷ others)) sound (aims, small) e =
      rw aims.stays (aims.class, mod-eq-zero_of_dvd align (dvd_trans align (aims.small small) (filled_aligned s c wish.class count addr others sound small e)))
  turned_aligned s c found (Looking wish) (Took span b skip) sound aims e = skip_aligned wish span b skip (aims, took_aligned s c wish.pages wish.align span b skip aims.some e)
  turned_aligned s c found (Looking wish) (Grow series) sound aims e = cond_both (nat_lt (chunks_for wish.pages) (min series max_series)) _ _ NextAligned (λ _. aims) (λ _. aims)
  turned_aligned s c found (Landing wish span) (Landed first count) sound (aims, starts) e =
      let at = landed_first s c wish.class wish.count span first count e in
      rw aims.stays (aims.class, mod-eq-zero_of_dvd align (subst (λ n. align ∣ n) (sym at) (page_divides align wish.align span.first aims.bytes starts)))
  turned_aligned s c found point reply sound knows e = search rules

  -- a piece of the extent begins where it has to
  cut_starts : (s : Space) (c : ℕ) (keep_low : Bool) (wish : Wish) (span : Span) (left : ℕ) (asked : AskFacts) (kept : Span) → asked.ask ≡ Split span left → Starts wish (kept_first keep_low span left) →
      Cut kept ≡ (after_cut s c keep_low asked.ask asked.answer).reply → Starts wish kept.first
  cut_starts s c keep_low wish span left asked kept is starts e =
      let at = cut_first s c keep_low span left asked.answer kept (subst (λ a. Cut kept ≡ (after_cut s c keep_low a asked.answer).reply) is e) in
      (starts.0, subst (λ n. wish.align ∣ n) (sym at) starts.1)

  -- what an alloc granted begins where it has to
  grown_starts : (s : Space) (c : ℕ) (found : Option ℕ) (wish : Wish) (pages : ℕ) (asked : AskFacts) (span : Span) (b : Bool) → asked.ask ≡ alloc_of wish pages → Aims wish →
      Grown span b ≡ (after_grow s c found asked.ask asked.answer).reply → Starts wish span.first
  grown_starts s c found wish pages asked span b is aims e =
      let at = grown_aligned s c found pages (max 512 wish.align) asked.answer span b (subst (λ a. Grown span b ≡ (after_grow s c found a asked.answer).reply) is e) in
      (aims, dvd_trans wish.align aims.chunk at)

  told_aligned : (s : Space) (c : ℕ) (found : Option ℕ) (point : AskPoint) (asked : AskFacts) (reply : Reply) → AskAligned point → asked.ask ≡ ask_at point →
      reply ≡ (step_of s c (with_found found (done_at point asked))).reply → NextAligned (told point asked reply)
  told_aligned s c found (Skipping wish span b skip) asked (Cut high) starts is e = trim_aligned wish high b (cut_starts s c false wish span skip asked high is starts e)
  told_aligned s c found (Trimming wish span b) asked (Cut low) starts is e = commit_aligned wish low b (cut_starts s c true wish span wish.pages asked low is starts e)
  told_aligned s c found (Growing wish chunks) asked (Grown span b) aims is e = grown_starts s c found wish (chunks * 512) asked span b is aims e
  told_aligned s c found (SplittingGrown wish span b) asked (Cut low) starts is e = commit_aligned wish low b (cut_starts s c true wish span wish.pages asked low is starts e)
  told_aligned s c found (GrowingExactly wish) asked (Grown span b) aims is e =
      let starts = grown_starts s c found wish (whole_chunks wish.pages) asked span b is aims e in
      cond_both (nat_lt wish.pages span.pages) _ _ NextAligned (λ _. starts) (λ _. commit_aligned wish span b starts)
  told_aligned s c found (SplittingExact wish span b) asked (Cut low) starts is e = commit_aligned wish low b (cut_starts s c true wish span wish.pages asked low is starts e)
  told_aligned s c found (Committing wish span) asked Noted starts is e = starts
  told_aligned s c found point asked reply knows is e = search rules

  -- ---- the fold

  next_aligned : (c : ℕ) (past : List Item) (desk : DeskFacts) (arena : ℕ) (next : Next) (item : Item) → NextAligned next → Came c next item → NextAligned (step_next next item)
  next_aligned c past desk arena next item knows came = grind (arith, turned_aligned, told_aligned)

  -- ---- where the memalign begins

  wish_aims : (count : ℕ) → is_alignment align ≡ true → Aims (wish_for false (aligned_for size align) (page_align align) count)
  wish_aims count passes = let paged = paged_of align passes in record { class = refl; stays = refl; some = paged.some; chunk = paged.chunk; bytes = paged.bytes; small = small_divides size align passes }

  get_aligned : (count : ℕ) → is_alignment align ≡ true → NextAligned (get false (aligned_for size align) (page_align align) count)
  get_aligned count passes =
      let class : ℕ = aligned_for size align in
      let wish : Wish = wish_for false class (page_align align) (min count (most_regions class)) in
      let aims : Aims wish = wish_aims (min count (most_regions class)) passes in
      cond_both (nat_lt class 36) _ _ NextAligned (λ h. (aims, ltb-true _ _ h)) (λ _. aims)

  got_aligned : (desk : DeskFacts) (found : Option Held) → is_alignment align ≡ true → IsCacheAligned desk → small_hit (aligned_for size align) desk ≡ found →
      NextAligned (begin_get (aligned_for size align) (page_align align) found desk).next
  got_aligned desk None passes cached e = get_aligned (share (aligned_for size align) desk) passes
  got_aligned desk (Some region) passes cached e =
      let (small, at) = hit_aligned (aligned_for size align) desk region cached e in
      (refl, mod-eq-zero_of_dvd align (dvd_trans align (small_divides size align passes small) at))

  begin_aligned : (desk : DeskFacts) → IsCacheAligned desk → NextAligned (begin_memalign align size desk).next
  begin_aligned desk cached = grind (arith, nat_tests, got_aligned)

pub memaligns-are_aligned : MemalignsAreAligned
memaligns-are_aligned c align size desk items addr class cached came e =
    subst (NextAligned align size) e (run_keeps (Came c) (AllCame c) (λ at item items came. came) (Memalign align size) (λ past desk next. NextAligned align size next)
    (λ past. (
      record {
        over = λ desk index point knows. absurd knows;
        gone = λ desk arena knows. tt;
        batch = λ desk addrs knows. absurd knows;
        done = λ desk e knows. absurd knows;
        given = λ desk region e knows. absurd knows;
        cached = λ desk class region e knows. absurd knows;
        other = λ desk class knows. absurd knows;
      },
      λ desk now answer knows. knows,
    )) (next_aligned align size c) items [] (begin (Memalign align size) desk) refl came (begin_aligned align size desk cached))
