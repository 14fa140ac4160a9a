-- What the turns of a call leave that gets an extent: what it knows where it goes on.
use Rattle.call_plan.proofs.Words.{min, ◌≡◌, ◌≢◌, ℕ, ◌+◌, ◌-◌, ◌<◌, ◌≤◌, Bool, true, false, not, cond, List, [], ◌∷◌, ◌++◌, Option, None, Some, refl, sym, ◌∙◌, ap, subst, arith, filter, find, count_ones, is_power_of_two, nat_tests, cond_both, leb-true, eqb-true, ones_le_self, filter-append, pages_bounds, run_start, holds_run, exchanged, begins_at, is_flight, is_flight_at, put_down, taken_out, listed, rest_of, fit, Stepped, whole_at, after_cut, cut_at, kept_piece, other_piece, after_look, look_at, after_grow, grow_unless, why_not, new_part, after_commit, commit_at, put_down-nobody, both_true, fit_best, itself, Wish, Looking, Landing, Next, Alloc, Commit, Split, Answer, Placed, Done, Reply, Noted, Cut, Whole, Bad, Grown, Space, Part, Span, Why, mine, same_span, end_of, land_at, AnswersTo, commit, got, grant, grow, trim, skip_to, turn_replied, IsWish, Idle, Alone, Gets, is_served, in_flight, Keeps}
use Rattle.space_model.specs.Stepped.{is_live}
use Rattle.call_plan.proofs.Lists.{passes_alone}
use Rattle.call_plan.proofs.Own.{flight_found, flights_exchanged}
use Rattle.space_model.specs.declared.Answer.TheVariants as answers
use Rattle.space_model.specs.declared.Reply.TheVariants as replies

-- a wish has a page at least
pub wish_some : (wish : Wish) → IsWish wish → 0 < wish.pages
wish_some wish is = omega (arith, is.pages, pages_bounds wish.class is.class)

-- ---- where a call goes on that has its extent

pub commit_goes : (c : ℕ) (t : Space) (bound : ℕ) (wish : Wish) (span : Span) (b : Bool) → Gets (mine c t) wish → Alone (mine c t) span b →
    span.pages ≡ wish.pages → 3 < bound → Keeps c t 0 bound (commit wish span b)
commit_goes c t bound wish span b gets alone pages fewer = grind arith

pub grant_goes : (c : ℕ) (t : Space) (bound : ℕ) (wish : Wish) (span : Span) (b : Bool) → Gets (mine c t) wish → Alone (mine c t) span b →
    wish.pages ≤ span.pages → 5 < bound → Keeps c t 0 bound (grant wish span b)
grant_goes c t bound wish span b gets alone holds fewer = grind (arith, nat_tests, commit_goes)

pub trim_goes : (c : ℕ) (t : Space) (bound : ℕ) (wish : Wish) (span : Span) (b : Bool) → Gets (mine c t) wish → Alone (mine c t) span b →
    wish.pages ≤ span.pages → 9 < bound → Keeps c t 0 bound (trim wish span b)
trim_goes c t bound wish span b gets alone holds fewer = grind (arith, nat_tests, commit_goes)

skip_goes : (c : ℕ) (t : Space) (bound : ℕ) (wish : Wish) (span : Span) (b : Bool) (skip : ℕ) → Gets (mine c t) wish → Alone (mine c t) span b →
    skip + wish.pages ≤ span.pages → 11 < bound → Keeps c t 0 bound (skip_to wish span b skip)
skip_goes c t bound wish span b skip gets alone holds fewer = grind (arith, nat_tests, trim_goes)

-- the arena grows by more chunks than are needed, or by just as many
pub grow_goes : (c : ℕ) (t : Space) (bound : ℕ) (wish : Wish) (series : ℕ) → Gets (mine c t) wish → Idle (mine c t) → 11 < bound →
    Keeps c t 0 bound (grow wish series)
grow_goes c t bound wish series gets idle fewer = grind (arith, nat_tests)

-- a customer stays one
pub gets_kept : (c : ℕ) (s t : Space) (wish : Wish) → Gets (mine c s) wish → is_served (mine c t) ≡ is_served (mine c s) → Gets (mine c t) wish
gets_kept c s t wish gets e = grind arith

-- ---- the client's only extent in flight

pub span_itself : (s : Span) → same_span s s ≡ true
span_itself s = grind (arith, nat_tests)

pub begins_itself : (p : Part) → begins_at p.span.first p ≡ true
begins_itself p = grind (arith, nat_tests)

-- the client's only extent is the one that is found
pub alone_found : (c : ℕ) (s : Space) (span : Span) (b : Bool) → (alone : Alone (mine c s) span b) → find (is_flight_at c span) s.parts ≡ Some alone.part
alone_found c s span b alone =
    let same : same_span alone.part.span span ≡ true = subst (λ x. same_span alone.part.span x ≡ true) alone.spans (span_itself alone.part.span) in
    flight_found c span s.parts ∙ ap (in_flight span) alone.flights ∙ ap (λ (v : Bool). cond v (Some alone.part) None) same

-- once pieces have taken its place, those of them that are in flight are all that the client has
pub replaced_alone : (c : ℕ) (s : Space) (p : Part) (pieces : List Part) → (mine c s).flights ≡ p ∷ [] →
    filter (λ q. is_flight c q.state) (exchanged (begins_at p.span.first) s.parts pieces) ≡ filter (λ q. is_flight c q.state) pieces
replaced_alone c s p pieces e =
    let gone : Bool → List Part = λ v. cond (not v) (p ∷ []) [] in
    flights_exchanged c (begins_at p.span.first) s.parts pieces
    ∙ ap (λ ps. filter (λ q. not (begins_at p.span.first q)) ps ++ filter (λ q. is_flight c q.state) pieces) e
    ∙ ap (λ v. gone v ++ filter (λ q. is_flight c q.state) pieces) (begins_itself p)

-- where there was nothing, the same is so, wherever the pieces came from
pub replaced_idle : (c : ℕ) (s : Space) (gone : Part → Bool) (pieces : List Part) → (mine c s).flights ≡ [] →
    filter (λ q. is_flight c q.state) (exchanged gone s.parts pieces) ≡ filter (λ q. is_flight c q.state) pieces
replaced_idle c s gone pieces e =
    flights_exchanged c gone s.parts pieces ∙ ap (λ ps. filter (λ q. not (gone q)) ps ++ filter (λ q. is_flight c q.state) pieces) e

-- ---- the answers that are taken in

-- what is known where a reply leads, by the space and the reply that a step left
abbrev pub Onto : ℕ → (Reply → Next) → ℕ → ℕ → Stepped → Type 0
Onto c f stage bound u = Keeps c u.after stage bound (f u.reply)

-- the client is as much a customer as before, and holds the same regions
abbrev pub Same : ℕ → Space → Space → Type 0
Same c s t = (is_served (mine c t) ≡ is_served (mine c s)) × ((mine c t).regions ≡ (mine c s).regions)

-- what is so of each such space
abbrev pub AnyAfter : ℕ → Space → (Space → Type 0) → Type 0
AnyAfter c s P = (t : Space) → Same c s t → P t

-- an extent whose hook refused is put down
pub whole_onto : (c : ℕ) (s : Space) (f : Reply → Next) (stage bound : ℕ) (span : Span) (b : Bool) → Alone (mine c s) span b →
    AnyAfter c s (λ t. Idle (mine c t) → Keeps c t stage bound (f Whole)) → Onto c f stage bound (whole_at s (find (is_flight_at c span) s.parts))
whole_onto c s f stage bound span b alone on =
    let p : Part = alone.part in
    let t : Space = (whole_at s (Some p)).after in
    let idle : Idle (mine c t) = record {
      flights = replaced_alone c s p (put_down p ∷ []) alone.flights ∙ ap (λ (v : Bool). cond v (put_down p ∷ []) []) (put_down-nobody c (rest_of p.state));
      calm = alone.calm;
    } in
    subst (λ o. Onto c f stage bound (whole_at s o)) (sym (alone_found c s span b alone)) (on t (refl, refl) idle)

-- the span that stays in flight after a cut
abbrev pub kept_span : Bool → ℕ → Span → Span
kept_span true left s = record { first = s.first; pages = left }
kept_span false left s = record { first = s.first + left; pages = s.pages - left }

-- what the pieces of a cut have of the extent
piece_is : (keep_low : Bool) (left : ℕ) (p : Part) → ((kept_piece keep_low left p).span ≡ kept_span keep_low left p.span) × ((kept_piece keep_low left p).state ≡ p.state)
    × ((kept_piece keep_low left p).committed ≡ p.committed) × ((put_down (other_piece keep_low left p)).state ≡ listed (rest_of p.state))
piece_is keep_low left p = grind arith

cut_done : (c : ℕ) (s : Space) (f : Reply → Next) (stage bound : ℕ) (keep_low : Bool) (span : Span) (left : ℕ) (b : Bool) → (alone : Alone (mine c s) span b) →
    AnyAfter c s (λ t. Alone (mine c t) (kept_span keep_low left span) b → Keeps c t stage bound (f (Cut (kept_span keep_low left span)))) →
    Onto c f stage bound (cut_at s keep_low left (Some alone.part))
cut_done c s f stage bound keep_low span left b alone on =
    let p : Part = alone.part in
    let kept : Part = kept_piece keep_low left p in
    let is = piece_is keep_low left p in
    let t : Space = (cut_at s keep_low left (Some p)).after in
    let spans : kept.span ≡ kept_span keep_low left span = is.0 ∙ ap (kept_span keep_low left) alone.spans in
    let own : is_flight c kept.state ≡ true = ap (is_flight c) is.1 ∙ passes_alone (λ q. is_flight c q.state) s.parts p alone.flights in
    let down : is_flight c (put_down (other_piece keep_low left p)).state ≡ false = ap (is_flight c) is.3 ∙ put_down-nobody c (rest_of p.state) in
    let still : Alone (mine c t) (kept_span keep_low left span) b = record {
      part = kept;
      flights = replaced_alone c s p (put_down (other_piece keep_low left p) ∷ kept ∷ []) alone.flights ∙ rw (down, own) refl;
      spans = spans;
      committed = is.2 ∙ alone.committed;
      calm = alone.calm;
    } in
    subst (λ k. Keeps c t stage bound (f (Cut k))) (sym spans) (on t (refl, refl) still)

-- the answer to a split
pub cut_onto : (c : ℕ) (s : Space) (f : Reply → Next) (stage bound : ℕ) (keep_low : Bool) (span : Span) (left : ℕ) (b : Bool) (answer : Answer) →
    Alone (mine c s) span b → AnswersTo (Split span left) answer →
    AnyAfter c s (λ t. Alone (mine c t) (kept_span keep_low left span) b → Keeps c t stage bound (f (Cut (kept_span keep_low left span)))) →
    AnyAfter c s (λ t. Idle (mine c t) → Keeps c t stage bound (f Whole)) → Onto c f stage bound (after_cut s c keep_low (Split span left) answer)
cut_onto c s f stage bound keep_low span left b Done alone kind on_cut on_whole =
    subst (λ o. Onto c f stage bound (cut_at s keep_low left o)) (sym (alone_found c s span b alone)) (cut_done c s f stage bound keep_low span left b alone on_cut)
cut_onto c s f stage bound keep_low span left b answers.Refused alone kind on_cut on_whole = whole_onto c s f stage bound span b alone on_whole
cut_onto c s f stage bound keep_low span left b (Placed is_committed zeroed first) alone kind on_cut on_whole = absurd (kind first is_committed zeroed refl)

-- the answer to a commit
pub commit_onto : (c : ℕ) (s : Space) (f : Reply → Next) (stage bound : ℕ) (span : Span) (b : Bool) (answer : Answer) → Alone (mine c s) span b → AnswersTo (Commit span) answer →
    AnyAfter c s (λ t. Alone (mine c t) span true → Keeps c t stage bound (f Noted)) →
    AnyAfter c s (λ t. Idle (mine c t) → Keeps c t stage bound (f Whole)) → Onto c f stage bound (after_commit s c (Commit span) answer)
commit_onto c s f stage bound span b Done alone kind on_noted on_whole =
    let p : Part = alone.part in
    let own = passes_alone (λ q. is_flight c q.state) s.parts p alone.flights in
    let t : Space = (commit_at s (Some p)).after in
    let piece : Part = record p { committed = true } in
    let still : Alone (mine c t) span true = record {
      part = piece;
      flights = replaced_alone c s p (piece ∷ []) alone.flights ∙ ap (λ (v : Bool). cond v (piece ∷ []) []) own;
      spans = alone.spans;
      committed = refl;
      calm = alone.calm;
    } in
    subst (λ o. Onto c f stage bound (commit_at s o)) (sym (alone_found c s span b alone)) (on_noted t (refl, refl) still)
commit_onto c s f stage bound span b answers.Refused alone kind on_noted on_whole = whole_onto c s f stage bound span b alone on_whole
commit_onto c s f stage bound span b (Placed is_committed zeroed first) alone kind on_noted on_whole = absurd (kind first is_committed zeroed refl)

-- the answer to an alloc
grown_onto : (c : ℕ) (s : Space) (f : Reply → Next) (stage bound : ℕ) (span : Span) (b : Bool) (o : Option Why) → Idle (mine c s) →
    AnyAfter c s (λ t. Idle (mine c t) → (why : Why) → Keeps c t stage bound (f (Bad why))) →
    AnyAfter c s (λ t. Alone (mine c t) span b → Keeps c t stage bound (f (Grown span b))) → Onto c f stage bound (grow_unless s c span b o)
grown_onto c s f stage bound span b (Some why) idle on_bad on_grown = on_bad s (refl, refl) idle why
grown_onto c s f stage bound span b None idle on_bad on_grown =
    on_grown (grow_unless s c span b None).after (refl, refl)
    (record {
      part = new_part c span b;
      flights = filter-append (λ q. is_flight c q.state) s.parts (new_part c span b ∷ [])
          ∙ ap (λ ps. ps ++ filter (λ q. is_flight c q.state) (new_part c span b ∷ [])) idle.flights
          ∙ ap (λ (v : Bool). cond v (new_part c span b ∷ []) []) (itself c);
      spans = refl;
      committed = refl;
      calm = idle.calm;
    })

pub alloc_onto : (c : ℕ) (s : Space) (f : Reply → Next) (stage bound : ℕ) (found place : Option ℕ) (pages align : ℕ) (answer : Answer) → Idle (mine c s) →
    answer ≢ Done → AnyAfter c s (λ t. Idle (mine c t) → Keeps c t stage bound (f replies.Refused)) →
    AnyAfter c s (λ t. Idle (mine c t) → (why : Why) → Keeps c t stage bound (f (Bad why))) →
    AnyAfter c s (λ t. (span : Span) (b : Bool) → span.pages ≡ pages → Alone (mine c t) span b → Keeps c t stage bound (f (Grown span b))) →
    Onto c f stage bound (after_grow s c found (Alloc false place pages align) answer)
alloc_onto c s f stage bound found place pages align answers.Refused idle kind on_refused on_bad on_grown = on_refused s (refl, refl) idle
alloc_onto c s f stage bound found place pages align (Placed b zeroed first) idle kind on_refused on_bad on_grown =
    let span : Span = record { first = first; pages = pages } in
    grown_onto c s f stage bound span b (why_not found align s.parts span) idle on_bad (λ t e alone. on_grown t e span b refl alone)
alloc_onto c s f stage bound found place pages align Done idle kind on_refused on_bad on_grown = absurd (kind refl)

-- ---- the look

-- the run begins at the span's start or above
run_above : (align : ℕ) (s : Span) → 1 ≤ align → s.first ≤ run_start align s
run_above align s some = grind arith

-- an alignment isn't 0
pub align_some : (align : ℕ) → is_power_of_two align ≡ true → 1 ≤ align
align_some align h = let one : count_ones align ≡ 1 = eqb-true _ _ h in omega (arith, one, ones_le_self align)

found_goes : (c : ℕ) (s : Space) (wish : Wish) (o : Option Part) → fit wish.pages wish.align s.parts ≡ o → Gets (mine c s) wish → Idle (mine c s) →
    Onto c (turn_replied (Looking wish)) 0 12 (look_at s c wish.align o)
found_goes c s wish None e gets idle = grow_goes c s 12 wish (min s.grow s.grow_limit) gets idle (omega arith)
found_goes c s wish (Some p) e gets idle =
    let taken : Part = taken_out c p in
    let t : Space = (look_at s c wish.align (Some p)).after in
    let alone : Alone (mine c t) p.span p.committed = record {
      part = taken;
      flights = replaced_idle c s (begins_at p.span.first) (taken ∷ []) idle.flights ∙ ap (λ (v : Bool). cond v (taken ∷ []) []) (itself c);
      spans = refl;
      committed = refl;
      calm = idle.calm;
    } in
    let above = run_above wish.align p.span (align_some wish.align gets.is.align) in
    let within : run_start wish.align p.span + wish.pages ≤ end_of p.span = leb-true _ _ (both_true _ (holds_run wish.pages wish.align p.span) (fit_best wish.pages wish.align s.parts p e).2).1 in
    skip_goes c t 12 wish p.span p.committed (run_start wish.align p.span - p.span.first) (gets_kept c s t wish gets refl) alone (omega (arith, above, within)) (omega arith)

-- the reply to the look
pub look_onto : (c : ℕ) (s : Space) (wish : Wish) → Gets (mine c s) wish → Idle (mine c s) → Onto c (turn_replied (Looking wish)) 0 12 (after_look s c wish.pages wish.align)
look_onto c s wish gets idle =
    cond_both (is_live s.life) _ _ (Onto c (turn_replied (Looking wish)) 0 12) (λ _. found_goes c s wish (fit wish.pages wish.align s.parts) refl gets idle) (λ _. idle)

-- ---- the landing

-- where a region was got nothing is in flight
pub got_goes : (c : ℕ) (t : Space) (stage bound : ℕ) (wish : Wish) (addr : ℕ) → Idle (mine c t) → Keeps c t stage bound (got wish addr)
got_goes c t stage bound wish addr idle = grind arith

pub land_onto : (c : ℕ) (s : Space) (wish : Wish) (span : Span) → Alone (mine c s) span true →
    Onto c (turn_replied (Landing wish span)) 0 1 (land_at s c wish.class wish.count (find (is_flight_at c span) s.parts))
land_onto c s wish span alone =
    let p : Part = alone.part in
    let t : Space = (land_at s c wish.class wish.count (Some p)).after in
    let idle : Idle (mine c t) = record { flights = replaced_alone c s p _ alone.flights; calm = alone.calm } in
    subst (λ o. Onto c (turn_replied (Landing wish span)) 0 1 (land_at s c wish.class wish.count o)) (sym (alone_found c s span true alone)) (got_goes c t 0 1 wish _ idle)
