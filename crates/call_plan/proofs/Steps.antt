-- Whatever comes of what a call wants leads on.
use Rattle.call_plan.proofs.Words.{rules, add-zero, append-nil, inr, filter, ◌≡◌, ℕ, ◌+◌, ◌-◌, ◌*◌, Bool, true, false, not, cond, List, [], ◌∷◌, Option, None, Some, refl, sym, ◌∙◌, ap, subst, arith, max, length, find, nat_tests, is_active, is_listed, is_flight, begins_at, moved_to, turned_parts, turned_in_order, turned_sum, nothing_sum, filter_nothing, sum_by, flight, Stepped, replaced, after_advance, after_set, setting_stands, after_reset, after_destroy, doom_at, step_of, after_cut, put_down-nobody, itself, Replied, Told, Starved, Split, Answer, Reply, Doomed, Rest, Setting, Space, Part, Span, Sound, mine, AskFacts, AnswersTo, Wish, Change, TurnPoint, Filling, Looking, Landing, Giving, Finding, Taking, Offering, Advancing, Changing, Making, Resetting, Destroying, Dooming, Publishing, Owning, Widening, Narrowing, AskPoint, Skipping, Trimming, Growing, SplittingGrown, GrowingExactly, SplittingExact, Committing, Merging, PurgingLazily, Returning, Decommitting, Forcing, Cutting, Extending, Sparing, Backing, Joining, Turns, Asks, Tells, Next, Go, ask_at, turn_replied, starved, is_marked, told, done_at, op_at, whole_chunks, skipped, trimmed, grown, needed, grant_split, committed, Idle, Alone, Gets, KnowsAsk, KnowsTurn, Heard, IsChange, is_of_arena, with_found, Keeps, stages_turn, stages_ask, stages_change, left, left_ask, flights_of, StepsKeep}
use Rattle.call_plan.proofs.Lists.{filter-fewer}
use Rattle.call_plan.proofs.Own.{flight_found}
use Rattle.call_plan.proofs.Getting.{Onto, kept_span, cut_onto, commit_onto, alloc_onto, look_onto, land_onto, commit_goes, grant_goes, trim_goes, gets_kept, replaced_idle, begins_itself}
use Rattle.call_plan.proofs.Resizing.{extend_onto, back_up_onto, join_up_onto, narrow_onto, spare_onto, trim_onto, widen_onto}
use Rattle.call_plan.proofs.Putting.{merge_onto, back_onto, put_onto}
use Rattle.call_plan.proofs.Dropping.{lazy_onto, offer_onto, return_onto, decommit_onto, forced_onto, take_onto}
use Rattle.space_model.specs.declared.Rest.TheVariants as rests

-- ---- the turns of an arena as a whole

-- where the client had nothing in flight, it has nothing after extents were moved to a list
moved_idle : (c : ℕ) (s : Space) (r : Rest) (test : Part → Bool) → Idle (mine c s) → filter (λ q. is_flight c q.state) (turned_parts test (moved_to r) s.parts) ≡ []
moved_idle c s r test idle =
    let turned : List Part = turned_in_order (moved_to r) (filter test s.parts) in
    let none = nothing_sum (λ p. flight c (moved_to r p)) (filter test s.parts) (λ k d h. ap {B = ℕ} (λ (v : Bool). cond v 1 0) (put_down-nobody c r)) in
    let fly : sum_by (flight c) turned ≡ 0 = omega (arith, none, turned_sum (moved_to r) (flight c) [] (filter test s.parts)) in
    replaced_idle c s test turned idle.flights ∙ filter_nothing (λ q. is_flight c q.state) turned fly

fill_keeps : (c : ℕ) (s : Space) (wish : Wish) (count : ℕ) → Gets (mine c s) wish → Idle (mine c s) → Onto c (turn_replied (Filling wish count)) 1 0 (step_of s c (op_at (Filling wish count)))
fill_keeps c s wish count gets idle = grind arith

advance_keeps : (c : ℕ) (s : Space) (now : ℕ) → Idle (mine c s) → Onto c (turn_replied (Advancing now)) 4 0 (after_advance s now)
advance_keeps c s now idle = grind arith

set_keeps : (c : ℕ) (s : Space) (setting : Setting) (change : Change) → Idle (mine c s) → IsChange change → is_of_arena setting ≡ true →
    Onto c (turn_replied (Changing setting change)) (stages_change change) 0 (after_set s c setting)
set_keeps c s setting change idle is of = grind arith

make_keeps : (c : ℕ) (s : Space) (index : ℕ) (setting : Setting) → Idle (mine c s) → setting_stands setting ≡ true → is_of_arena setting ≡ false →
    Onto c (turn_replied (Making index setting)) (31 - index) 0 (after_set s c setting)
make_keeps c s index setting idle stands of = grind (arith, nat_tests)

reset_keeps : (c : ℕ) (s : Space) (cached : ℕ) → Idle (mine c s) → Onto c (turn_replied (Resetting cached)) 2 0 (after_reset s c cached)
reset_keeps c s cached idle = let still = moved_idle c s rests.Dirty (λ p. is_active p.state) idle in grind arith

destroy_keeps : (c : ℕ) (s : Space) (cached : ℕ) → Idle (mine c s) → Onto c (turn_replied (Destroying cached)) 1 0 (after_destroy s c cached)
destroy_keeps c s cached idle = let still = moved_idle c s rests.Retained (λ p. not (is_listed rests.Retained p.state)) idle in grind (arith, itself c)

doom_keeps : (c : ℕ) (s : Space) (parts : List Part) → s.parts ≡ parts → Idle (mine c s) → (mine c s).dying ≡ true → Onto c (turn_replied Dooming) 0 (2 * length s.parts + 1) (doom_at s parts)
doom_keeps c s [] e idle dying = record { flights = idle.flights; calm = idle.calm }
doom_keeps c s (p ∷ ps) e idle dying =
    let t : Space = (replaced s p [] (Doomed p.span p.committed)).after in
    let still : Idle (mine c t) = record { flights = replaced_idle c s (begins_at p.span.first) [] idle.flights; calm = idle.calm } in
    let first : find (λ _. true) s.parts ≡ Some p = ap (find (λ _. true)) e in
    let fewer = filter-fewer (λ _. true) (begins_at p.span.first) s.parts p first (begins_itself p) in
    let count : length t.parts ≡ length (filter (λ q. not (begins_at p.span.first q)) s.parts) = ap length (append-nil (filter (λ q. not (begins_at p.span.first q)) s.parts)) in
    ((still, dying), inr (refl, omega (arith, fewer, count)))

own_keeps : (c : ℕ) (s : Space) (addr : ℕ) (frees past : Bool) → Idle (mine c s) → Onto c (turn_replied (Owning addr frees past)) 0 0 (step_of s c (op_at (Owning addr frees past)))
own_keeps c s addr frees past idle = grind arith

-- the answer to a split behind the run, or of a grant of more chunks than are needed
trim_keeps : (c : ℕ) (s : Space) (wish : Wish) (span : Span) (b : Bool) (answer : Answer) → Gets (mine c s) wish → Alone (mine c s) span b → AnswersTo (Split span wish.pages) answer →
    Onto c (trimmed wish b) 0 8 (after_cut s c true (Split span wish.pages) answer)
trim_keeps c s wish span b answer gets alone kind =
    cut_onto c s (trimmed wish b) 0 8 true span wish.pages b answer alone kind
    (λ t e kept. commit_goes c t 8 wish (kept_span true wish.pages span) b (gets_kept c s t wish gets e.0) kept refl (omega arith))
    (λ t e idle. (((gets_kept c s t wish gets e.0, idle), tt), inr (refl, omega arith)))

-- ---- what a step keeps

turn_keeps : (c : ℕ) (s : Space) (point : TurnPoint) (found : Option ℕ) → Sound s → KnowsTurn (mine c s) point →
    Onto c (turn_replied point) (stages_turn point) (left c s (Turns point)) (step_of s c (with_found found (op_at point)))
turn_keeps c s (Filling wish count) found sound (gets, idle, small, some) = fill_keeps c s wish count gets idle
turn_keeps c s (Looking wish) found sound (gets, idle) = look_onto c s wish gets idle
turn_keeps c s (Landing wish span) found sound (gets, alone, pages) = land_onto c s wish span alone
turn_keeps c s (Giving addrs) found sound gives = back_onto c s addrs gives.idle.calm
turn_keeps c s (Finding own tries fresh later) found sound (look, flies, is) =
    rw (flight_found c own s.parts, flies.found) (put_onto c s own tries fresh later sound look flies is)
turn_keeps c s (Taking visit left) found sound (idle, is, some) = take_onto c s visit left idle is some
turn_keeps c s (Offering span later) found sound (flies, is) = rw (flight_found c span s.parts, flies.found) (offer_onto c s span later sound flies is)
turn_keeps c s (Advancing now) found sound idle = advance_keeps c s now idle
turn_keeps c s (Changing setting change) found sound (idle, stands, is, of) = set_keeps c s setting change idle is of
turn_keeps c s (Making index setting) found sound (idle, stands, of) = make_keeps c s index setting idle stands of
turn_keeps c s (Resetting cached) found sound (idle, fewer) = reset_keeps c s cached idle
turn_keeps c s (Destroying cached) found sound (idle, fewer) = destroy_keeps c s cached idle
turn_keeps c s Dooming found sound (idle, dying) = doom_keeps c s s.parts refl idle dying
turn_keeps c s (Publishing addr) found sound (idle, held) = record { flights = idle.flights; calm = idle.calm }
turn_keeps c s (Owning addr frees past) found sound idle = own_keeps c s addr frees past idle
turn_keeps c s (Widening resize) found sound (idle, widens) = widen_onto c s resize sound idle widens
turn_keeps c s (Narrowing resize) found sound (idle, narrows) = narrow_onto c s resize idle narrows

-- what is so of an ask that is the point's own is so of the ask that was heard
abbrev asked_at : AskPoint → AskFacts → AskFacts
asked_at point asked = record asked { ask = ask_at point }

ask_keeps : (c : ℕ) (s : Space) (point : AskPoint) (asked : AskFacts) (found : Option ℕ) → Sound s → KnowsAsk (mine c s) point → AnswersTo (ask_at point) asked.answer →
    Onto c (told point (asked_at point asked)) (stages_ask point) (left_ask (flights_of c s) point) (step_of s c (with_found found (done_at point (asked_at point asked))))
ask_keeps c s (Skipping wish span b skip) asked found sound (gets, alone, some, holds) kind =
    cut_onto c s (skipped wish b) 0 10 false span skip b asked.answer alone kind
    (λ t e kept. trim_goes c t 10 wish (kept_span false skip span) b (gets_kept c s t wish gets e.0) kept (omega arith) (omega arith))
    (λ t e idle. (((gets_kept c s t wish gets e.0, idle), tt), inr (refl, omega arith)))
ask_keeps c s (Trimming wish span b) asked found sound (gets, alone, more) kind = trim_keeps c s wish span b asked.answer gets alone kind
ask_keeps c s (Growing wish chunks) asked found sound (gets, idle, more) kind =
    alloc_onto c s (grown wish chunks asked.answer) 0 10 found None (chunks * 512) (max 512 wish.align) asked.answer idle kind
    (λ t e none. (((gets_kept c s t wish gets e.0, none), tt), inr (refl, omega arith)))
    (λ t e none why. none)
    (λ t e span b pages alone. (((gets_kept c s t wish gets e.0, alone, omega (arith, pages, more)), tt), inr (refl, omega arith)))
ask_keeps c s (SplittingGrown wish span b) asked found sound (gets, alone, more) kind = trim_keeps c s wish span b asked.answer gets alone kind
ask_keeps c s (GrowingExactly wish) asked found sound (gets, idle) kind =
    alloc_onto c s (needed wish (asked_at (GrowingExactly wish) asked)) 0 6 found None (whole_chunks wish.pages) (max 512 wish.align) asked.answer idle kind
    (λ t e none. none)
    (λ t e none why. none)
    (λ t e span b pages alone. grant_goes c t 6 wish span b (gets_kept c s t wish gets e.0) alone (omega (arith, pages)) (omega arith))
ask_keeps c s (SplittingExact wish span b) asked found sound (gets, alone, more) kind =
    cut_onto c s (grant_split wish b (asked_at (SplittingExact wish span b) asked)) 0 4 true span wish.pages b asked.answer alone kind
    (λ t e kept. commit_goes c t 4 wish (kept_span true wish.pages span) b (gets_kept c s t wish gets e.0) kept refl (omega arith))
    (λ t e idle. idle)
ask_keeps c s (Committing wish span) asked found sound (gets, alone, pages) kind =
    commit_onto c s (committed wish span (asked_at (Committing wish span) asked)) 0 2 span false asked.answer alone kind
    (λ t e noted. ((gets_kept c s t wish gets e.0, noted, pages), inr (refl, omega arith)))
    (λ t e idle. idle)
ask_keeps c s (Merging low high own_low fresh later) asked found sound (pair, then_is) kind = merge_onto c s low high own_low fresh later asked.answer sound pair then_is kind
ask_keeps c s (PurgingLazily span later) asked found sound (flies, then_is) kind = lazy_onto c s span later asked.answer sound flies then_is kind
ask_keeps c s (Returning span later) asked found sound (has, then_is) kind = return_onto c s span later found asked.answer sound has then_is kind
ask_keeps c s (Decommitting span later) asked found sound (flies, then_is) kind = decommit_onto c s span later asked.answer sound flies then_is kind
ask_keeps c s (Forcing span later) asked found sound (flies, then_is) kind = forced_onto c s span later flies then_is
ask_keeps c s (Cutting resize) asked found sound (flights, offers, trims, narrows) kind = trim_onto c s resize asked.answer sound flights offers narrows kind
ask_keeps c s (Extending resize) asked found sound (idle, widens) kind = extend_onto c s resize found asked.answer idle widens kind
ask_keeps c s (Sparing resize span b) asked found sound (widens, alone, at, more) kind = spare_onto c s resize span b asked.answer widens alone at kind
ask_keeps c s (Backing resize span) asked found sound (widens, alone, at, pages) kind = back_up_onto c s resize span asked.answer widens alone at pages kind
ask_keeps c s (Joining resize span) asked found sound (widens, alone, at, pages) kind = join_up_onto c s resize span asked.answer sound widens alone kind

heard_keeps : (c : ℕ) (s : Space) (point : AskPoint) (asked : AskFacts) (found : Option ℕ) → Sound s → KnowsAsk (mine c s) point → Heard point (Some asked) →
    Onto c (told point asked) (stages_ask point) (left_ask (flights_of c s) point) (step_of s c (with_found found (done_at point asked)))
heard_keeps c s point asked found sound knows (is, kind) =
    subst (λ a. Onto c (told point (record asked { ask = a })) (stages_ask point) (left_ask (flights_of c s) point) (step_of s c (with_found found (done_at point (record asked { ask = a }))))) (sym is)
    (ask_keeps c s point asked found sound knows kind)

-- a turn that found no memory changed nothing, and the client had nothing in flight
pub starved_keeps : (c : ℕ) (s : Space) (point : TurnPoint) (stage bound : ℕ) → KnowsTurn (mine c s) point → is_marked (op_at point) ≡ true →
    Keeps c s stage bound (starved (is_marked (op_at point)))
starved_keeps c s point stage bound knows may = first_of (search rules, grind arith, cc)

pub never_starves : (point : AskPoint) (asked : AskFacts) → is_marked (done_at point asked) ≡ false
never_starves point asked = grind arith

-- what is known where a step leads is known there, in its own space and by its own reply
moved : (c : ℕ) (f : Reply → Next) (stage bound : ℕ) (u : Stepped) (t : Space) (reply : Reply) → t ≡ u.after → reply ≡ u.reply → Onto c f stage bound u → Keeps c t stage bound (f reply)
moved c f stage bound u t reply after replied onto = rw (after, replied) onto

pub steps-keep : StepsKeep
steps-keep c s t (Turns point) (Replied reply) sound knows (found, after, replied) =
    moved c (turn_replied point) (stages_turn point) (left c s (Turns point)) _ t reply after replied (turn_keeps c s point found sound knows)
steps-keep c s t (Turns point) Starved sound knows (may, same) =
    subst (λ v. Keeps c v (stages_turn point) (left c s (Turns point)) (starved (is_marked (op_at point)))) (sym same) (starved_keeps c s point _ _ knows may)
steps-keep c s t (Asks point None) (Told asked) sound (knows, heard) (is, kind, same) =
    subst (λ v. Keeps c v (stages_ask point) (left_ask (flights_of c s) point + 1) (Go (Asks point (Some asked)))) (sym same) ((knows, (is, kind)), inr (refl, omega arith))
steps-keep c s t (Asks point (Some asked)) (Replied reply) sound (knows, heard) (found, after, replied) =
    moved c (told point asked) (stages_ask point) (left c s (Asks point (Some asked))) _ t reply after replied
    (subst (λ n. Onto c (told point asked) (stages_ask point) n (step_of s c (with_found found (done_at point asked)))) (sym (add-zero (left_ask (flights_of c s) point))) (heard_keeps c s point asked found sound knows heard))
steps-keep c s t (Asks point (Some asked)) Starved sound (knows, heard) (may, same) = absurd (let no = never_starves point asked in cc)
steps-keep c s t (Tells span b) (Told asked) sound knows (is, kind, same) =
    subst (λ v. Keeps c v 0 (2 * length s.parts + 2) (Go (Turns Dooming))) (sym same) (knows, inr (refl, omega arith))
steps-keep c s t point item sound knows moves = absurd moves
