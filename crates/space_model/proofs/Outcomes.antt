-- Which ways the looks, cuts, growths, commits and merges go: what each does, and what its reply tells.
use Rattle.std.proofs.Common.{true, false, ◌≡◌, ◌≢◌, ℕ, ◌+◌, ◌-◌, ◌<◌, ◌≤◌, Bool, not, cond, List, ◌∷◌, ◌++◌, Option, Some, None, refl, sym, ◌∙◌, ap, subst, arith, find, filter, ◌&&◌, ◌==◌, ltb as nat_lt, append_assoc, inl, inr, [], leb as nat_le}
use Rattle.space_model.proofs.Words.{nat_tests, beq, is_power_of_two, ones_le_self, count_by, option_map, eqb-true, leb-true, sum_by-cons, Ask, Alloc, Commit, Split, Merge, Answer, Done, Placed, Heard, Op, Look, CutDone, GrowDone, CommitDone, PutLook, MergeDone, NoArena, Whole, Purge, Why, Part, Rest, Span, State, Dirty, Space, end_of, run_start, holds_run, exchanged, begins_at, is_flight, is_flight_at, is_listed, rest_of, put_down, taken_out, next_flight, fit, Stepped, stays, whole_at, is_live, if_live, is_dirty_time_over, is_lazy, joined, begins_either, found_passes, is_yes_or_no, look_at, kept_piece, other_piece, cut_at, after_cut, cut_stands, new_part, why_not, grow_unless, after_grow, grow_stands, commit_at, after_commit, commit_stands, is_like, is_right_of, is_left_of, neighbour, is_purged, put_at_rest, put_beside, put_at, join_at, apart_at, after_merge, merge_stands, both_merge, may_merge, Sound, Outcome, PutDown, Flying, NextFlies, LookTook, LookNone, CutKept, CutWhole, GrowRefused, GrowBad, GrowGrown, CommitNoted, CommitWhole, PutRight, PutLeft, PutPurge, PutNext, MergeJoined, All-cons, All-nil, Bad, IsPlaced, Noted, Refused, Reply, flight, high_piece, low_piece, ltb-true, pages_end, replaced, sum_by}
use Rattle.std.proofs.Common.{◌≡◌, ℕ, ◌+◌, ◌-◌, ◌<◌, ◌≤◌, Bool, true, false, not, cond, List, ◌∷◌, ◌++◌, Option, Some, None, refl, sym, ◌∙◌, ap, subst, arith, filter, find, ◌==◌, append_assoc, count_ones}
use Rattle.space_model.proofs.Lists.{false_true, find_passes, ones}
use Rattle.space_model.proofs.Pieces.{both_true, not_both, put_down-nobody, Listed, fit-listed, cut_shares, found_fits, Piece-down, Piece-low, Piece-high, Piece-joined, two_left, joined_share, fit_best, neighbour_side}
use Rattle.space_model.proofs.Moves.{live_is, itself, flight_at, Flight, Same, Fewer, still, taken_does, down_does}
use Rattle.space_model.proofs.Changes.{Does, Piece, trade_does, replaced_does, put_does, range_frame, lawful_sound, live_quiet, come_does}
use Rattle.space_model.proofs.Exchange.{share}
use Rattle.space_model.proofs.Growth.{why_not-free, free-holders}
use Rattle.space_model.proofs.Found.{found_span, last_found, last_flies, find_kept, first_found}
use Rattle.space_model.specs.declared.asks.Answer.TheVariants as answers

-- a step comes to one of the ways in which its operation may go, where the space after it is sound
abbrev pub Comes : ℕ → Space → Op → Stepped → Type 0
Comes c s op step = Sound step.after → Outcome c s step.after op step.reply

-- What a step does, and the way in which its operation went.
pub record Goes (c : ℕ) (s : Space) (op : Op) (step : Stepped) : Type 0 where
  pub does : Does c s op step
  pub outcome : Outcome c s step.after op step.reply

pub goes : {c : ℕ} {s : Space} {op : Op} {step : Stepped} → Sound s → Does c s op step → Comes c s op step → Goes c s op step
goes sound does comes = record { does = does; outcome = comes (lawful_sound does.lawful sound) }

-- nothing changes
pub still_goes : (c : ℕ) (s : Space) (op : Op) (reply : Reply) → Sound s → Same c s op reply → Outcome c s s op reply → Goes c s op (stays s reply)
still_goes c s op reply sound same outcome = record { does = still c s op reply sound same; outcome = outcome }

-- a step that only a live arena makes
pub live_goes : (c : ℕ) (s : Space) (op : Op) (step : Stepped) → Sound s → Same c s op NoArena → (is_live s.life ≡ false → Outcome c s s op NoArena) →
    (is_live s.life ≡ true → Goes c s op step) → Goes c s op (if_live s step)
live_goes c s op step sound same none live =
    elim (is_live s.life) as (λ b. is_live s.life ≡ b → Goes c s op (cond b step (stays s NoArena)))
    [ false ↦ λ h. still_goes c s op NoArena sound same (none h) | true ↦ λ h. live h ] refl

-- what is so of each extent that was found and passes a test is so of what was found, where that passes it
pub on_found : (P : Option Part → Type 0) (test : Part → Bool) (o : Option Part) → found_passes test o ≡ true → ((p : Part) → o ≡ Some p → test p ≡ true → P (Some p)) → P o
on_found P test None h each = absurd (cc)
on_found P test (Some p) h each = each p refl h

-- the piece that comes last is in flight, where it is the client's
pub put_flies : (c : ℕ) (s : Space) (p q : Part) → Sound (record s { parts = exchanged (begins_at p.span.first) s.parts (q ∷ []) }) → is_flight c q.state ≡ true →
    Flying c (record s { parts = exchanged (begins_at p.span.first) s.parts (q ∷ []) }) q.span q.committed
put_flies c s p q sound own =
    last_flies c (record s { parts = exchanged (begins_at p.span.first) s.parts (q ∷ []) }) (filter (λ x. not (begins_at p.span.first x)) s.parts) q q.committed sound refl own refl

-- an extent that was found is in flight
pub found_flies : (c : ℕ) (s : Space) (span : Span) (p : Part) → find (is_flight_at c span) s.parts ≡ Some p → Flying c s span p.committed
found_flies c s span p found = record { part = p; found = found; committed = refl }

-- the next extent in flight is known
pub next_flies : (c : ℕ) (t : Space) → NextFlies c t (next_flight c t.parts)
next_flies c t =
    elim (find (λ q. is_flight c q.state) t.parts) as (λ o. find (λ q. is_flight c q.state) t.parts ≡ o → NextFlies c t (option_map (λ p. p.span) o)) [
      | None ↦ λ e. none_fly t.parts e
      | Some p ↦ λ e. (p.committed, record { part = p; found = first_found c t.parts p e; committed = refl })
    ] refl
  where
    none_fly : (parts : List Part) → find (λ q. is_flight c q.state) parts ≡ None → count_by (λ q. is_flight c q.state) parts ≡ 0
    none_fly [] e = refl
    none_fly (p ∷ ps) e = grind (arith, sum_by-cons (λ q. ones (is_flight c q.state)) p ps, none_fly ps)

-- an extent whose hook refused is put down whole
pub whole_goes : (c : ℕ) (s : Space) (op : Op) (span : Span) → Sound s → is_live s.life ≡ true → found_passes (λ _. true) (find (is_flight_at c span) s.parts) ≡ true →
    Fewer c s op Whole → ((t : Space) → PutDown c s t span → Outcome c s t op Whole) → Goes c s op (whole_at s (find (is_flight_at c span) s.parts))
whole_goes c s op span sound live h fewer whole =
    on_found (λ o. Goes c s op (whole_at s o)) (λ _. true) (find (is_flight_at c span) s.parts) h
    (λ p e _. goes sound (down_does c s op Whole span p sound (flight_at c s span p sound live e) fewer) (λ after. whole (whole_at s (Some p)).after (record { part = p; found = e; after = refl })))

-- ---- Look

-- the run begins within the span or above its start
run_above : (align : ℕ) (s : Span) → 1 ≤ align → s.first ≤ run_start align s
run_above align s some = grind arith

-- an alignment isn't 0
pub align_some : (align : ℕ) → is_power_of_two align ≡ true → 1 ≤ align
align_some align h =
    let one : count_ones align ≡ 1 = eqb-true _ _ h in omega (arith, one, ones_le_self align)

pub look_at_goes : (c : ℕ) (s : Space) (pages align : ℕ) (o : Option Part) → fit pages align s.parts ≡ o → Sound s → is_live s.life ≡ true → 1 ≤ align →
    Goes c s (Look pages align) (look_at s c align o)
look_at_goes c s pages align None e sound live some = still_goes c s (Look pages align) _ sound (λ page before. refl, refl, refl) (LookNone refl)
look_at_goes c s pages align (Some p) e sound live some =
    let within : run_start align p.span + pages ≤ end_of p.span = leb-true _ _ (both_true _ (holds_run pages align p.span) (fit_best pages align s.parts p e).2).1 in
    goes sound (taken_does c s (Look pages align) _ p sound live (fit-listed pages align s.parts p e) (λ page before. refl, refl, refl))
    (λ after. LookTook p.span p.committed (run_start align p.span - p.span.first) (put_flies c s p (taken_out c p) after (itself c)) (omega (arith, run_above align p.span some, within)))

-- ---- CutDone

-- an extent is two from now on: one piece is put down, and the other one stays in flight
two_does : (c : ℕ) (s : Space) (op : Op) (reply : Reply) (span : Span) (p down kept : Part) → Sound s → Flight c s span p → Piece c down → Piece c kept →
    ((page : ℕ) → share page down + share page kept ≡ share page p) → flight c kept ≡ flight c p → Same c s op reply →
    Does c s op (replaced s p (put_down down ∷ kept ∷ []) reply)
two_does c s op reply span p down kept sound at lower upper pages flies same =
    let new : List Part = put_down down ∷ kept ∷ [] in
    let lands : flight c (put_down down) ≡ 0 = ap ones (put_down-nobody c (rest_of down.state)) in
    let sums : (f : Part → ℕ) → sum_by f new ≡ f (put_down down) + f kept = λ f. omega (arith, sum_by-cons f (put_down down) (kept ∷ []), sum_by-cons f kept []) in
    replaced_does c s op reply (is_flight_at c span) p new sound at.live at.found at.piece
    (All-cons (Piece c) (put_down down) (kept ∷ []) (Piece-down c down lower.fits) (All-cons (Piece c) kept [] upper (All-nil (Piece c))))
    (λ page. omega (arith, sums (share page), pages page)) same.0 (omega (arith, sums (flight c), lands, flies, same.1, same.2))

cut_at_goes : (c : ℕ) (s : Space) (heard : Heard) (keep_low : Bool) (span : Span) (left : ℕ) (p : Part) → heard.ask ≡ Split span left → find (is_flight_at c span) s.parts ≡ Some p →
    Sound s → is_live s.life ≡ true → 0 < left → left < span.pages → Goes c s (CutDone heard keep_low) (cut_at s keep_low left (Some p))
cut_at_goes c s heard keep_low span left p is e sound live some fewer =
    let at = flight_at c s span p sound live e in
    let less : left < p.span.pages = omega (arith, at.pages) in
    let down = Piece-low c left p at.piece some less in
    let up = Piece-high c left p at.piece some less in
    let op : Op = CutDone heard keep_low in
    let kept : Part = kept_piece keep_low left p in
    let front : List Part = filter (λ q. not (begins_at p.span.first q)) s.parts in
    let other : Part = put_down (other_piece keep_low left p) in
    goes sound (elim keep_low as (λ b. Does c s op (cut_at s b left (Some p))) [
      | true ↦ two_does c s op _ span p (high_piece left p) (low_piece left p) sound at up down (λ page. omega (arith, cut_shares page left p some less)) refl (λ page before. refl, refl, refl)
      | false ↦ two_does c s op _ span p (low_piece left p) (high_piece left p) sound at down up (λ page. cut_shares page left p some less) refl (λ page before. refl, refl, refl)
    ])
    (λ after. CutKept span kept.span left p.committed is (found_flies c s span p e) (grind (arith, (found_span c span s.parts p e).0))
    (last_flies c (cut_at s keep_low left (Some p)).after (front ++ other ∷ []) kept p.committed after (sym (append_assoc front (other ∷ []) (kept ∷ []))) (grind (arith, at.own)) (grind arith)))

pub cut_goes : (c : ℕ) (s : Space) (heard : Heard) (keep_low : Bool) (ask : Ask) (answer : Answer) → heard.ask ≡ ask → Sound s → is_live s.life ≡ true →
    cut_stands s c ask answer ≡ true → Goes c s (CutDone heard keep_low) (after_cut s c keep_low ask answer)
cut_goes c s heard keep_low (Split span left) Done is sound live h =
    let whole = both_true (is_yes_or_no Done && nat_lt 0 left && nat_lt left span.pages) _ h in
    let both = both_true (nat_lt 0 left) (nat_lt left span.pages) whole.0 in
    on_found (λ o. Goes c s (CutDone heard keep_low) (cut_at s keep_low left o)) (λ _. true) (find (is_flight_at c span) s.parts) whole.1
    (λ p e _. cut_at_goes c s heard keep_low span left p is e sound live (ltb-true _ _ both.0) (ltb-true _ _ both.1))
cut_goes c s heard keep_low (Split span left) answers.Refused is sound live h =
    whole_goes c s (CutDone heard keep_low) span sound live (both_true (is_yes_or_no answers.Refused && nat_lt 0 left && nat_lt left span.pages) _ h).1 (λ page before. refl, refl, refl) (λ t. CutWhole span left is)
cut_goes c s heard keep_low ask answer is sound live h = absurd (cc)

-- ---- GrowDone

grow_unless_goes : (c : ℕ) (s : Space) (heard : Heard) (found : Option ℕ) (span : Span) (b : Bool) (at : Option ℕ) (align : ℕ) (commit : Bool) (o : Option Why) →
    heard.ask ≡ Alloc commit at span.pages align → why_not found align s.parts span ≡ o → Sound s → is_live s.life ≡ true → 0 < span.pages →
    Goes c s (GrowDone heard found) (grow_unless s c span b o)
grow_unless_goes c s heard found span b at align commit (Some why) is e sound live some =
    still_goes c s (GrowDone heard found) (Bad why) sound (λ page before. refl, refl, refl) (GrowBad why refl)
grow_unless_goes c s heard found span b at align commit None is e sound live some =
    let p : Part = new_part c span b in
    let t : Space = (grow_unless s c span b None).after in
    let free = why_not-free found align s.parts span e in
    let inside = both_true (nat_le 512 span.first) (nat_le (end_of span) pages_end) free.inside in
    let placed : IsPlaced span = (some, leb-true _ _ inside.0, leb-true _ _ inside.1) in
    let flies : flight c p ≡ 1 = ap ones (itself c) in
    goes sound (come_does c s t (GrowDone heard found) _ p sound refl refl
    (record { idle = refl; fits = record { placed = placed; backed = λ h. absurd (false_true h) }; own = λ d other. not_both d c other })
    (λ page. free-holders found s.parts p free page (sound.owners page))
    (range_frame c s t sound (record { box = sound.box; dirty = sound.dirty; muzzy = sound.muzzy; grow = (omega (arith, sound.grow), omega (arith, sound.grow)); grow_limit = sound.grow_limit }) refl refl refl refl)
    (live_quiet s t (live_is s.life live) refl) (λ page before. refl) (omega (arith, flies)))
    (λ after. GrowGrown span b at align commit is (last_flies c t s.parts p b after refl (itself c) refl))

pub grow_goes : (c : ℕ) (s : Space) (heard : Heard) (found : Option ℕ) (ask : Ask) (answer : Answer) → heard.ask ≡ ask → Sound s → is_live s.life ≡ true →
    grow_stands s c ask answer ≡ true → Goes c s (GrowDone heard found) (after_grow s c found ask answer)
grow_goes c s heard found (Alloc commit at pages align) answers.Refused is sound live h =
    still_goes c s (GrowDone heard found) Refused sound (λ page before. refl, refl, refl) (GrowRefused refl)
grow_goes c s heard found (Alloc commit at pages align) (Placed b zeroed first) is sound live h =
    let within = both_true (nat_lt 0 pages && is_power_of_two align) _ h in
    let span : Span = record { first = first; pages = pages } in
    grow_unless_goes c s heard found span b at align commit (why_not found align s.parts span) is refl sound live (ltb-true _ _ (both_true (nat_lt 0 pages) _ within.0).0)
grow_goes c s heard found ask answer is sound live h = absurd (cc)

-- ---- CommitDone

-- what was found passes a test that all do
pub any_found : (test : Part → Bool) (o : Option Part) → found_passes test o ≡ true → found_passes (λ _. true) o ≡ true
any_found test o h = grind arith

pub commit_goes : (c : ℕ) (s : Space) (heard : Heard) (ask : Ask) (answer : Answer) → heard.ask ≡ ask → Sound s → is_live s.life ≡ true → commit_stands s c ask answer ≡ true →
    Goes c s (CommitDone heard) (after_commit s c ask answer)
commit_goes c s heard (Commit span) Done is sound live h =
    on_found (λ o. Goes c s (CommitDone heard) (commit_at s o)) (λ p. not p.committed) (find (is_flight_at c span) s.parts) h
    (λ p e _.
    let at = flight_at c s span p sound live e in
    let q : Part = record p { committed = true } in
    let fits : Piece c q = record { idle = at.piece.idle; fits = record { placed = at.piece.fits.placed; backed = λ h. refl }; own = at.piece.own } in
    goes sound (put_does c s (CommitDone heard) Noted (is_flight_at c span) p q sound at.live e at.piece fits refl (λ page before. refl) refl)
    (λ after. CommitNoted span is (subst (λ (k : Span). Flying c (commit_at s (Some p)).after k true) (found_span c span s.parts p e).0 (put_flies c s p q after at.own))))
commit_goes c s heard (Commit span) answers.Refused is sound live h =
    whole_goes c s (CommitDone heard) span sound live (any_found (λ p. not p.committed) (find (is_flight_at c span) s.parts) h) (λ page before. refl, refl, refl) (λ t. CommitWhole span is)
commit_goes c s heard ask answer is sound live h = absurd (cc)

-- ---- PutLook

-- a neighbour is a listed extent
neighbour-listed : (tries : ℕ) (p : Part) (parts : List Part) (other : Part) → neighbour tries p parts ≡ Some other → Listed parts other
neighbour-listed tries p parts other e =
    let listed : (test : Part → Bool) → find test parts ≡ Some other → is_like p other ≡ true → Listed parts other =
    λ test found like. record { test = test; found = found; rest = rest_of p.state; is_in = (both_true (is_listed (rest_of p.state) other.state) _ like).0 } in
    elim (neighbour_side tries p parts other e) [
      | inl right ↦ listed (is_right_of p) right.1 (both_true (is_like p other) _ (find_passes (is_right_of p) parts other right.1)).0
      | inr left ↦ listed (is_left_of p) left.1 (both_true (is_like p other) _ (find_passes (is_left_of p) parts other left.1)).0
    ]

-- an extent that is listed where another one belongs belongs there too
pub belongs : (r : Rest) (state : State) → is_listed r state ≡ true → rest_of state ≡ r
belongs r state h = grind arith

pub beq_itself : (a : Bool) → beq a a ≡ true
beq_itself a = grind arith

-- A neighbour that is taken out leaves the extent where it was.
record Neighboured (c : ℕ) (s : Space) (p other : Part) (own : Span) : Type 0 where
  stays : find (is_flight_at c own) (exchanged (begins_at other.span.first) s.parts (taken_out c other ∷ [])) ≡ Some p
  taken : find (is_flight_at c other.span) (exchanged (begins_at other.span.first) s.parts (taken_out c other ∷ [])) ≡ Some (taken_out c other)
  merges : (may_merge p (taken_out c other) ≡ true) × (may_merge (taken_out c other) p ≡ true)

beside_it : (c : ℕ) (s : Space) (p other : Part) (own : Span) → find (is_flight_at c own) s.parts ≡ Some p → is_like p other ≡ true → p.span.first ≢ other.span.first →
    Sound (record s { parts = exchanged (begins_at other.span.first) s.parts (taken_out c other ∷ []) }) → Neighboured c s p other own
beside_it c s p other own found like differ after =
    let at = found_span c own s.parts p found in
    let gone : Part → Bool = begins_at other.span.first in record {
      stays = find_kept (is_flight_at c own) gone s.parts (taken_out c other ∷ []) p
          (λ q h. grind (arith, nat_tests, differ, at.0)) found;
      taken = last_found c (record s { parts = exchanged gone s.parts (taken_out c other ∷ []) }) (filter (λ q. not (gone q)) s.parts) (taken_out c other) after refl (itself c);
      merges = (grind (arith, like), grind (arith, like));
    }

-- the neighbour on the right is in flight too
right_comes : (c : ℕ) (s : Space) (own : Span) (tries : ℕ) (p other : Part) → find (is_flight_at c own) s.parts ≡ Some p → 0 < p.span.pages → tries ≡ 0 →
    is_right_of p other ≡ true → Comes c s (PutLook own tries) (put_beside s c p (Some other))
right_comes c s own tries p other found some first h sound =
    let passes = both_true (is_like p other) _ h in
    let side : other.span.first ≡ end_of p.span = eqb-true _ _ passes.1 in
    let at = beside_it c s p other own found passes.0 (λ e. absurd (omega (arith, e, side, some))) sound in
    PutRight other.span first (record {
      low_part = p;
      high_part = taken_out c other;
      low_found = at.stays;
      high_found = at.taken;
      alike = at.merges.0;
      side_by_side = sym (side ∙ ap (λ (k : Span). end_of k) (found_span c own s.parts p found).0);
    })

-- or the one on the left
left_comes : (c : ℕ) (s : Space) (own : Span) (tries : ℕ) (p other : Part) → find (is_flight_at c own) s.parts ≡ Some p → 0 < other.span.pages → tries < 2 →
    is_left_of p other ≡ true → Comes c s (PutLook own tries) (put_beside s c p (Some other))
left_comes c s own tries p other found some few h sound =
    let passes = both_true (is_like p other) _ h in
    let side : end_of other.span ≡ p.span.first = eqb-true _ _ passes.1 in
    let at = beside_it c s p other own found passes.0 (λ e. absurd (omega (arith, e, side, some))) sound in
    PutLeft other.span few (record {
      low_part = taken_out c other;
      high_part = p;
      low_found = at.taken;
      high_found = at.stays;
      alike = at.merges.1;
      side_by_side = side ∙ ap (λ (k : Span). k.first) (found_span c own s.parts p found).0;
    })

-- a neighbour that was found stands on one side
neighbour_comes : (c : ℕ) (s : Space) (own : Span) (tries : ℕ) (p other : Part) → Sound s → find (is_flight_at c own) s.parts ≡ Some p → neighbour tries p s.parts ≡ Some other →
    Comes c s (PutLook own tries) (put_beside s c p (Some other))
neighbour_comes c s own tries p other sound found near =
    elim (neighbour_side tries p s.parts other near) [
      | inl right ↦ right_comes c s own tries p other found (found_fits s (is_flight_at c own) p sound found).placed.0 right.0 (find_passes (is_right_of p) s.parts other right.1)
      | inr left ↦ left_comes c s own tries p other found (found_fits s (is_left_of p) other sound left.1).placed.0 left.0 (find_passes (is_left_of p) s.parts other left.1)
    ]

-- where no neighbour is, the extent is to be purged or was put down
none_goes : (c : ℕ) (s : Space) (own : Span) (tries : ℕ) (p : Part) → Sound s → is_live s.life ≡ true → find (is_flight_at c own) s.parts ≡ Some p →
    Goes c s (PutLook own tries) (put_beside s c p None)
none_goes c s own tries p sound live found =
    elim (is_purged s p) as (λ b. is_purged s p ≡ b → Goes c s (PutLook own tries) (cond b (stays s (Purge (is_lazy s))) (put_at_rest s c p))) [
      | false ↦ λ h. goes sound (down_does c s (PutLook own tries) _ own p sound (flight_at c s own p sound live found) (λ page before. refl, refl, refl))
          (λ after. PutNext (next_flight c (put_at_rest s c p).after.parts) (next_flies c (put_at_rest s c p).after))
      | true ↦ λ h.
          let both = both_true (is_listed (rest_of p.state) Dirty) (is_dirty_time_over s) h in
          let fits = found_fits s (is_flight_at c own) p sound found in
          let committed : p.committed ≡ true = fits.backed (grind (arith, both.0)) in
          still_goes c s (PutLook own tries) _ sound (λ page before. refl, refl, refl) (PutPurge both.1 (record { part = p; found = found; committed = committed }) refl)
    ] refl

pub put_goes : (c : ℕ) (s : Space) (own : Span) (tries : ℕ) → Sound s → is_live s.life ≡ true → found_passes (λ _. true) (find (is_flight_at c own) s.parts) ≡ true →
    Goes c s (PutLook own tries) (put_at s c tries (find (is_flight_at c own) s.parts))
put_goes c s own tries sound live h =
    on_found (λ o. Goes c s (PutLook own tries) (put_at s c tries o)) (λ _. true) (find (is_flight_at c own) s.parts) h
    (λ p e _. elim (neighbour tries p s.parts) as (λ o. neighbour tries p s.parts ≡ o → Goes c s (PutLook own tries) (put_beside s c p o)) [
      | Some other ↦ λ near. goes sound (taken_does c s (PutLook own tries) _ other sound live (neighbour-listed tries p s.parts other near) (λ page before. refl, refl, refl))
          (neighbour_comes c s own tries p other sound e near)
      | None ↦ λ near. none_goes c s own tries p sound live e
    ] refl)

-- ---- MergeDone

-- what is so of each two extents that were found and may be merged is so of what was found, where both may be
on_both : (P : Option Part → Option Part → Type 0) (o u : Option Part) → both_merge o u ≡ true → ((p q : Part) → o ≡ Some p → u ≡ Some q → P (Some p) (Some q)) → P o u
on_both P (Some p) (Some q) h each = each p q refl refl
on_both P None u h each = absurd (cc)
on_both P (Some p) None h each = absurd (cc)

join_goes : (c : ℕ) (s : Space) (heard : Heard) (own_low : Bool) (low high : Span) (p q : Part) → find (is_flight_at c low) s.parts ≡ Some p →
    find (is_flight_at c high) s.parts ≡ Some q → Sound s → is_live s.life ≡ true → end_of low ≡ high.first → Goes c s (MergeDone heard own_low) (join_at s (Some p) (Some q))
join_goes c s heard own_low low high p q e f sound live side =
    let at = flight_at c s low p sound live e in
    let to = flight_at c s high q sound live f in
    let beside : end_of p.span ≡ q.span.first = omega (arith, at.first, at.pages, to.first, side) in
    let both : Part = joined p q in
    let sums : (f : Part → ℕ) → sum_by f (p ∷ q ∷ []) ≡ f p + f q = λ f. omega (arith, sum_by-cons f p (q ∷ []), sum_by-cons f q []) in
    let low_flies : flight c p ≡ 1 = ap ones at.own in
    let high_flies : flight c q ≡ 1 = ap ones to.own in
    goes sound (trade_does c s (MergeDone heard own_low) _ (begins_either p q) (p ∷ q ∷ []) (both ∷ []) sound at.live
    (two_left s (is_flight_at c low) (is_flight_at c high) p q sound e f beside)
    (All-cons (Piece c) p (q ∷ []) at.piece (All-cons (Piece c) q [] to.piece (All-nil (Piece c))))
    (All-cons (Piece c) both [] (Piece-joined c p q at.piece to.piece.fits beside) (All-nil (Piece c)))
    (λ page. omega (arith, sums (share page), sum_by-cons (share page) both [], joined_share page p q beside)) (λ page before. refl)
    (omega (arith, sums (flight c), sum_by-cons (flight c) both [], low_flies, high_flies)))
    (λ after. MergeJoined both.span p.committed
    (last_flies c (join_at s (Some p) (Some q)).after (filter (λ x. not (begins_either p q x)) s.parts) both p.committed after refl at.own refl))

-- the one that looked is in flight still
apart_flies : (c : ℕ) (s : Space) (own other : Span) (p q : Part) → find (is_flight_at c own) s.parts ≡ Some p → find (is_flight_at c other) s.parts ≡ Some q → own.first ≢ other.first →
    Flying c (record s { parts = exchanged (begins_at q.span.first) s.parts (put_down q ∷ []) }) p.span p.committed
apart_flies c s own other p q e f differ =
    let at = (found_span c own s.parts p e).0 in
    let to = (found_span c other s.parts q f).0 in
    let stays : find (is_flight_at c own) (exchanged (begins_at q.span.first) s.parts (put_down q ∷ [])) ≡ Some p =
    find_kept (is_flight_at c own) (begins_at q.span.first) s.parts (put_down q ∷ []) p (λ x h. grind (arith, nat_tests, differ, to)) e in
    record { part = p; found = subst (λ (k : Span). find (is_flight_at c k) (exchanged (begins_at q.span.first) s.parts (put_down q ∷ [])) ≡ Some p) (sym at) stays; committed = refl }

apart_goes : (c : ℕ) (s : Space) (heard : Heard) (side own_low : Bool) (low high : Span) (p q : Part) → find (is_flight_at c low) s.parts ≡ Some p → find (is_flight_at c high) s.parts ≡ Some q →
    Sound s → is_live s.life ≡ true → low.first ≢ high.first → Goes c s (MergeDone heard side) (apart_at s own_low (Some p) (Some q))
apart_goes c s heard side true low high p q e f sound live differ =
    goes sound (down_does c s (MergeDone heard side) _ high q sound (flight_at c s high q sound live f) (λ page before. refl, refl, refl))
    (λ after. MergeJoined p.span p.committed (apart_flies c s low high p q e f differ))
apart_goes c s heard side false low high p q e f sound live differ =
    goes sound (down_does c s (MergeDone heard side) _ low p sound (flight_at c s low p sound live e) (λ page before. refl, refl, refl))
    (λ after. MergeJoined q.span q.committed (apart_flies c s high low q p f e (λ k. differ (sym k))))

pub merge_goes : (c : ℕ) (s : Space) (heard : Heard) (own_low : Bool) (ask : Ask) (answer : Answer) → Sound s → is_live s.life ≡ true → merge_stands s c ask answer ≡ true →
    Goes c s (MergeDone heard own_low) (after_merge s c own_low ask answer)
merge_goes c s heard own_low (Merge low high) Done sound live h =
    let both = both_true (is_yes_or_no Done && end_of low == high.first) _ h in
    on_both (λ o u. Goes c s (MergeDone heard own_low) (join_at s o u)) (find (is_flight_at c low) s.parts) (find (is_flight_at c high) s.parts) both.1
    (λ p q e f. join_goes c s heard own_low low high p q e f sound live (eqb-true _ _ both.0))
merge_goes c s heard own_low (Merge low high) answers.Refused sound live h =
    let both = both_true (is_yes_or_no answers.Refused && end_of low == high.first) _ h in
    let side : end_of low ≡ high.first = eqb-true _ _ both.0 in
    on_both (λ o u. Goes c s (MergeDone heard own_low) (apart_at s own_low o u)) (find (is_flight_at c low) s.parts) (find (is_flight_at c high) s.parts) both.1
    (λ p q e f. let at = flight_at c s low p sound live e in apart_goes c s heard own_low own_low low high p q e f sound live (λ m. absurd (omega (arith, m, side, at.pages, at.piece.fits.placed.0))))
merge_goes c s heard own_low ask answer sound live h = absurd (cc)
