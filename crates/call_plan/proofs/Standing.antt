-- Every turn that a call wants may stand.
use Rattle.call_plan.proofs.Words.{filter, ◌≡◌, ◌≢◌, ℕ, ◌*◌, ◌<◌, ◌≤◌, ◌==◌, ◌&&◌, ◌||◌, ◌+◌, Bool, true, false, List, [], ◌∷◌, Option, None, Some, refl, sym, ◌∙◌, ap, subst, arith, length, lt-ltb, le-leb, eq-eqb, list_any, list_all, beq, and_assoc, length-filter, Offered, CutDone, GrowDone, Region, is_flight, is_held_by, reset_stands, is_offer, op_stands, is_live, is_yes_or_no, is_range_or_no, holds_at, heard_in, Wish, TurnPoint, Filling, Looking, Landing, Giving, Finding, Taking, Offering, Advancing, Changing, Making, Resetting, Destroying, Dooming, Publishing, Owning, Widening, Narrowing, AskPoint, Skipping, Trimming, Growing, SplittingGrown, GrowingExactly, SplittingExact, Committing, Merging, PurgingLazily, Returning, Decommitting, Forcing, Cutting, Extending, Sparing, Backing, Joining, Turns, Asks, Tells, Split, Answer, Placed, Done, Space, Part, Span, Sound, mine, AskFacts, nat_lt, pages_at, same_span, AnswersTo, done_at, op_at, alloc_of, whole_chunks, Idle, Alone, HasOffered, Gets, IsResize, Widens, Narrows, Resize, own_span, lacks, Mine, is_held_of, KnowsAsk, KnowsTurn, Heard, is_held, is_served, in_flight, with_found, WantsStand}
use Rattle.std.specs.List.{count_by}
use Rattle.call_plan.proofs.Lists.{any-both, any_some, none-any}
use Rattle.call_plan.proofs.Own.{flight_found, region_found, served, live_where}
use Rattle.call_plan.proofs.Getting.{span_itself, wish_some, alone_found}
use Rattle.call_plan.proofs.Aligned.{chunk_power, power_max}
use Rattle.call_plan.proofs.Large.{own_is, resize_is}
use Rattle.call_plan.proofs.Resizing.{has_large_is}
use Rattle.space_model.specs.Region.{address_of}
use Rattle.space_model.specs.Resizing.{has_large}

-- ---- where the arena is live

live_alone : (c : ℕ) (s : Space) (span : Span) (b : Bool) → Sound s → Alone (mine c s) span b → is_live s.life ≡ true
live_alone c s span b sound alone = live_where c s sound (λ none. absurd (let e : alone.part ∷ [] ≡ [] = sym alone.flights ∙ none.flights in cc))

live_found : (c : ℕ) (s : Space) (span : Span) (p : Part) → Sound s → in_flight span (mine c s).flights ≡ Some p → is_live s.life ≡ true
live_found c s span p sound found = live_where c s sound (λ none. absurd (let e : None ≡ Some p = sym (ap (in_flight span) none.flights) ∙ found in cc))

live_served : (c : ℕ) (s : Space) → Sound s → is_served (mine c s) ≡ true → is_live s.life ≡ true
live_served c s sound is = live_where c s sound (λ none. absurd (let e : false ≡ true = sym (rw (none.bound, none.regions) refl) ∙ is in cc))

live_held : (c : ℕ) (s : Space) (addrs : List ℕ) → Sound s → 0 < length addrs → list_all (λ addr. list_any (λ (r : Region). r.addr == addr) (mine c s).regions) addrs ≡ true → is_live s.life ≡ true
live_held c s [] sound some held = absurd (omega arith)
live_held c s (addr ∷ addrs) sound some held =
    live_where c s sound (λ none. absurd (let e : false ≡ true = sym (rw none.regions refl) ∙ held in cc))

-- ---- each turn may stand

plain_answer : (answer : Answer) → ((first : ℕ) (b z : Bool) → answer ≢ Placed b z first) → is_yes_or_no answer ≡ true
plain_answer answer h = grind arith

range_answer : (answer : Answer) → answer ≢ Done → is_range_or_no answer ≡ true
range_answer answer h = grind arith

-- who holds some region of an arena is its customer
any_served : (m : Mine) (addr class : ℕ) → is_held_of m addr class ≡ true → is_served m ≡ true
any_served m addr class held = ap (λ v. m.bound || v) (any_some (λ (r : Region). r.addr == addr && r.class == class) m.regions held) ∙ or_true m.bound
  where
    or_true : (v : Bool) → (v || true) ≡ true
    or_true v = grind arith

reset_stands_at : (c : ℕ) (s : Space) (cached : ℕ) → Idle (mine c s) → cached ≤ length (mine c s).regions → reset_stands s c cached ≡ true
reset_stands_at c s cached idle fewer =
    let most : cached ≤ count_by (is_held_by c) s.regions = omega (arith, fewer, length-filter (is_held_by c) s.regions) in
    rw (none-any (λ p. is_flight c p.state) s.parts idle.flights, none-any (λ (o : Offered). o.client == c) s.offers idle.calm.0, le-leb _ _ most) refl

-- a large region that is held is in a live arena, whose customer its client is
live_resized : (c : ℕ) (s : Space) (resize : Resize) → Sound s → IsResize (mine c s) resize → is_live s.life ≡ true
live_resized c s resize sound is = live_where c s sound (λ none. absurd (let e : false ≡ true = sym (rw none.regions refl) ∙ is.held in cc))

resized_served : (c : ℕ) (s : Space) (resize : Resize) → IsResize (mine c s) resize → is_served (mine c s) ≡ true
resized_served c s resize is = any_served (mine c s) resize.addr is.class is.held

widen_stands_at : (c : ℕ) (s : Space) (resize : Resize) → Sound s → Widens (mine c s) resize → op_stands s c (op_at (Widening resize)) ≡ true
widen_stands_at c s resize sound (is, more) =
    let at = resize_is c s resize sound is in
    let less : at.part.span.pages < pages_at resize.class = omega (arith, at.pages, is.pages, more) in
    rw (live_resized c s resize sound is) (has_large_is c s resize.addr is.class (λ p. nat_lt p.span.pages (pages_at resize.class)) at (lt-ltb _ _ less))

trim_stands_at : (c : ℕ) (s : Space) (resize : Resize) → Sound s → (mine c s).trims ≡ false → Narrows (mine c s) resize → op_stands s c (op_at (Narrowing resize)) ≡ true
trim_stands_at c s resize sound free (is, fewer) =
    let at = resize_is c s resize sound is in
    let less : pages_at resize.class < at.part.span.pages = omega (arith, at.pages, is.pages, fewer) in
    rw (live_resized c s resize sound is, le-leb _ _ is.to_large, lt-ltb _ _ is.below, free)
    (has_large_is c s resize.addr is.class (λ p. nat_lt (pages_at resize.class) p.span.pages) at (lt-ltb _ _ less))

-- the region's extent is found at the first page of its pages
same_at : (c : ℕ) (s : Space) (resize : Resize) → Sound s → IsResize (mine c s) resize → has_large s c (address_of (own_span resize).first) (λ p. same_span p.span (own_span resize)) ≡ true
same_at c s resize sound is =
    let at = resize_is c s resize sound is in
    let own = own_is c s resize is.class at is.pages in
    let here : address_of (own_span resize).first ≡ resize.addr = omega (arith, at.start) in
    subst (λ a. has_large s c a (λ p. same_span p.span (own_span resize)) ≡ true) (sym here)
    (has_large_is c s resize.addr is.class (λ p. same_span p.span (own_span resize)) at (subst (λ x. same_span x (own_span resize) ≡ true) (sym own) (span_itself (own_span resize))))

turn_stands : (c : ℕ) (s : Space) (point : TurnPoint) (found : Option ℕ) → Sound s → KnowsTurn (mine c s) point → op_stands s c (with_found found (op_at point)) ≡ true
turn_stands c s (Filling wish count) found sound (gets, idle, small, some) = rw (lt-ltb _ _ small, lt-ltb _ _ some) refl
turn_stands c s (Looking wish) found sound (gets, idle) = rw (lt-ltb _ _ (wish_some wish gets.is), gets.is.align) refl
turn_stands c s (Landing wish span) found sound (gets, alone, pages) =
    let same : span.pages ≡ pages_at wish.class = pages ∙ gets.is.pages in
    rw (live_alone c s span true sound alone, lt-ltb _ _ gets.is.class, lt-ltb _ _ gets.is.some, le-leb _ _ gets.is.fewer, eq-eqb _ _ same, alone_found c s span true alone, alone.committed) refl
turn_stands c s (Giving addrs) found sound gives =
    let same : list_all (holds_at c s.regions) addrs ≡ list_all (is_held (mine c s)) addrs = λ i. list_all (λ addr. region_found c s.regions addr i) addrs in
    let held : list_all (holds_at c s.regions) addrs ≡ true = same ∙ gives.held in
    rw (live_held c s addrs sound gives.some gives.held, lt-ltb _ _ gives.some, gives.rise, held) refl
turn_stands c s (Finding own tries fresh later) found sound (look, flies, is) =
    rw (live_found c s own flies.part sound flies.found, lt-ltb _ _ look, flight_found c own s.parts, flies.found) refl
turn_stands c s (Taking visit left) found sound (idle, is, some) = is
turn_stands c s (Offering span later) found sound (flies, is) = rw (live_found c s span flies.part sound flies.found, flight_found c span s.parts, flies.found) refl
turn_stands c s (Advancing now) found sound knows = refl
turn_stands c s (Changing setting change) found sound (idle, stands, is, of) = stands
turn_stands c s (Making index setting) found sound (idle, stands, of) = stands
turn_stands c s (Resetting cached) found sound (idle, fewer) = reset_stands_at c s cached idle fewer
turn_stands c s (Destroying cached) found sound (idle, fewer) = reset_stands_at c s cached idle fewer
turn_stands c s Dooming found sound (idle, dying) = dying
turn_stands c s (Publishing addr) found sound (idle, held) =
    let all : list_all (is_held (mine c s)) (addr ∷ []) ≡ true = rw held refl in
    rw (live_held c s (addr ∷ []) sound (omega arith) all, region_found c s.regions addr, held) refl
turn_stands c s (Owning addr frees past) found sound idle = refl
turn_stands c s (Widening resize) found sound (idle, widens) = widen_stands_at c s resize sound widens
turn_stands c s (Narrowing resize) found sound (idle, narrows) = trim_stands_at c s resize sound idle.calm.1 narrows

cut_stands_at : (c : ℕ) (s : Space) (keep_low : Bool) (asked : AskFacts) (span : Span) (left : ℕ) (b : Bool) (found : Option ℕ) → Sound s → Alone (mine c s) span b →
    0 < left → left < span.pages → asked.ask ≡ Split span left → AnswersTo (Split span left) asked.answer →
    op_stands s c (with_found found (CutDone (heard_in asked) keep_low)) ≡ true
cut_stands_at c s keep_low asked span left b found sound alone some fewer is kind =
    rw (live_alone c s span b sound alone, is, plain_answer asked.answer kind, lt-ltb _ _ some, lt-ltb _ _ fewer, alone_found c s span b alone) refl

alloc_stands_at : (c : ℕ) (s : Space) (asked : AskFacts) (wish : Wish) (pages : ℕ) (found : Option ℕ) → Sound s → Gets (mine c s) wish → 0 < pages →
    asked.ask ≡ alloc_of wish pages → AnswersTo (alloc_of wish pages) asked.answer → op_stands s c (GrowDone (heard_in asked) found) ≡ true
alloc_stands_at c s asked wish pages found sound gets some is kind =
    rw (live_served c s sound gets.served, is, range_answer asked.answer kind, lt-ltb _ _ some, power_max wish.align gets.is.align, served c s, gets.served) refl

live_offered : (c : ℕ) (s : Space) (span : Span) → Sound s → HasOffered (mine c s) span → is_live s.life ≡ true
live_offered c s span sound has = live_where c s sound (λ none. absurd (let e : has.offer ∷ [] ≡ [] = sym has.offers ∙ none.offers in cc))

-- an offer is found among the client's
offer_found : (c : ℕ) (span : Span) (offers : List Offered) → list_any (is_offer c span true) offers ≡ list_any (λ (o : Offered). same_span o.span span && beq o.committed true) (filter (λ (o : Offered). o.client == c) offers)
offer_found c span offers =
    (λ i. list_any (λ (o : Offered). and_assoc (o.client == c) (same_span o.span span) (beq o.committed true) i) offers) ∙ any-both (λ (o : Offered). o.client == c) (λ o. same_span o.span span && beq o.committed true) offers

offer_stands_at : (c : ℕ) (s : Space) (span : Span) → HasOffered (mine c s) span → list_any (is_offer c span true) s.offers ≡ true
offer_stands_at c s span has =
    let same : same_span has.offer.span span ≡ true = subst (λ x. same_span x span ≡ true) (sym has.spans) (span_itself span) in
    let one : list_any (λ (o : Offered). same_span o.span span && beq o.committed true) (has.offer ∷ []) ≡ true = rw (same, has.committed) refl in
    offer_found c span s.offers ∙ ap (list_any (λ (o : Offered). same_span o.span span && beq o.committed true)) has.offers ∙ one

ask_stands : (c : ℕ) (s : Space) (point : AskPoint) (asked : AskFacts) (found : Option ℕ) → Sound s → KnowsAsk (mine c s) point → Heard point (Some asked) →
    op_stands s c (with_found found (done_at point asked)) ≡ true
ask_stands c s (Skipping wish span b skip) asked found sound (gets, alone, some, holds) (is, kind) =
    cut_stands_at c s false asked span skip b found sound alone some (omega (arith, wish_some wish gets.is)) is kind
ask_stands c s (Trimming wish span b) asked found sound (gets, alone, more) (is, kind) =
    cut_stands_at c s true asked span wish.pages b found sound alone (wish_some wish gets.is) more is kind
ask_stands c s (Growing wish chunks) asked found sound (gets, idle, more) (is, kind) =
    alloc_stands_at c s asked wish (chunks * 512) found sound gets (omega (arith, more)) is kind
ask_stands c s (SplittingGrown wish span b) asked found sound (gets, alone, more) (is, kind) =
    cut_stands_at c s true asked span wish.pages b found sound alone (wish_some wish gets.is) more is kind
ask_stands c s (GrowingExactly wish) asked found sound (gets, idle) (is, kind) =
    alloc_stands_at c s asked wish (whole_chunks wish.pages) found sound gets (omega (arith, wish_some wish gets.is)) is kind
ask_stands c s (SplittingExact wish span b) asked found sound (gets, alone, more) (is, kind) =
    cut_stands_at c s true asked span wish.pages b found sound alone (wish_some wish gets.is) more is kind
ask_stands c s (Committing wish span) asked found sound (gets, alone, pages) (is, kind) =
    rw (live_alone c s span false sound alone, is, plain_answer asked.answer kind, alone_found c s span false alone, alone.committed) refl
ask_stands c s (Merging low high own_low fresh later) asked found sound (pair, then_is) (is, kind) =
    rw (live_found c s low pair.low_part sound pair.low_found, is, plain_answer asked.answer kind, eq-eqb _ _ pair.side_by_side, flight_found c low s.parts, pair.low_found, flight_found c high s.parts, pair.high_found, pair.alike) refl
ask_stands c s (PurgingLazily span later) asked found sound (flies, then_is) (is, kind) =
    rw (live_found c s span flies.part sound flies.found, is, plain_answer asked.answer kind, flight_found c span s.parts, flies.found, flies.is) refl
ask_stands c s (Returning span later) asked found sound (has, then_is) (is, kind) =
    rw (live_offered c s span sound has, is, plain_answer asked.answer kind, offer_stands_at c s span has) refl
ask_stands c s (Decommitting span later) asked found sound (flies, then_is) (is, kind) =
    rw (live_found c s span flies.part sound flies.found, is, plain_answer asked.answer kind, flight_found c span s.parts, flies.found, flies.is.0, flies.is.1) refl
ask_stands c s (Forcing span later) asked found sound (flies, then_is) (is, kind) =
    rw (live_found c s span flies.part sound flies.found, is, plain_answer asked.answer kind, flight_found c span s.parts, flies.found) refl
ask_stands c s (Cutting resize) asked found sound (flights, offers, trims, narrows) (is, kind) =
    rw (live_resized c s resize sound narrows.0, is, plain_answer asked.answer kind, trims, le-leb _ _ narrows.0.to_large, lt-ltb _ _ narrows.0.below, eq-eqb (pages_at resize.class) _ refl, lt-ltb _ _ narrows.1)
    (same_at c s resize sound narrows.0)
ask_stands c s (Extending resize) asked found sound (idle, widens) (is, kind) =
    let some : 0 < whole_chunks (lacks resize) = omega (arith, widens.1) in
    rw (live_resized c s resize sound widens.0, is, range_answer asked.answer kind, lt-ltb _ _ some, chunk_power, served c s, resized_served c s resize widens.0) refl
ask_stands c s (Sparing resize span b) asked found sound ((resizes, more), alone, at, fewer) (is, kind) =
    cut_stands_at c s true asked span (lacks resize) b found sound alone (omega (arith, more)) fewer is kind
ask_stands c s (Backing resize span) asked found sound (widens, alone, at, pages) (is, kind) =
    rw (live_alone c s span false sound alone, is, plain_answer asked.answer kind, alone_found c s span false alone, alone.committed) refl
ask_stands c s (Joining resize span) asked found sound ((resizes, more), alone, at, pages) (is, kind) =
    let whole : resize.pages + span.pages ≡ pages_at resize.class = omega (arith, more, pages) in
    rw (live_alone c s span true sound alone, is, plain_answer asked.answer kind, le-leb _ _ resizes.to_large, lt-ltb _ _ resizes.below, eq-eqb _ _ whole, eq-eqb _ _ (sym at), same_at c s resize sound resizes, alone_found c s span true alone, alone.committed) refl

pub wants-stand : WantsStand
wants-stand c s (Turns point) sound knows = λ found. turn_stands c s point found sound knows
wants-stand c s (Asks point None) sound knows = tt
wants-stand c s (Asks point (Some asked)) sound (knows, heard) = λ found. ask_stands c s point asked found sound knows heard
wants-stand c s (Tells span b) sound knows = tt
