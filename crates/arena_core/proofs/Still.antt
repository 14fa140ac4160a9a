-- What leaves the extents that serve regions, and the regions, as they were.
use Rattle.arena_core.proofs.Words.{◌≡◌, ℕ, ◌-◌, ◌<◌, Bool, true, false, not, cond, IsTrue, List, [], ◌∷◌, ◌++◌, append-nil, filter, find, Option, None, Some, refl, sym, ◌∙◌, ap, All, ◌||◌, ◌&&◌, arith, nat_lt, All-cons, All-nil, filter-append, Answer, Done, Placed, Ask, Alloc, Commit, Dalloc, Decommit, Merge, PurgeLazy, Split, Abandoned, Kept, NoArena, Noted, Nothing, Purge, Setting, MakeLive, Why, Part, Region, Rest, Span, Flight, Space, begins_at, exchanged, is_active, is_flight_at, is_listed, next_flight, pages_listed, put_down, rest_of, taken_out, end_of, Stepped, if_live, is_lazy, stays, whole_at, fit, after_commit, after_cut, after_grow, after_look, after_merge, apart_at, begins_either, commit_at, cut_at, grow_unless, high_piece, is_left_of, is_like, is_purged, is_right_of, join_at, joined, look_at, low_piece, neighbour, put_at, put_at_rest, put_beside, why_not, after_decommit, after_lazy, after_offer, after_purge_take, decommit_at, is_regranted, lazy_at, offer_at, purge_at, without_offer, is_spare, widen_at, widen_by, after_set, is_absent, made_live, doom_at, is_dying, residents, IsQuiet, Sound, Life, Absent, Dying, Live, filter-begins_at, filter-without, find_has, find_passes, Listed, both_true, fit-listed, listed-idle, put_down-idle, some_pages, is_unused, is_live, inl, inr, subst, neighbour_side}
use Rattle.arena_core.proofs.Emptying.{none_kept}
use Rattle.arena_core.proofs.Homes.{in_flight}
use Rattle.space_model.specs.declared.Answer.TheVariants as answers
use Rattle.space_model.specs.declared.Rest.TheVariants as rests

-- the extents that serve regions
abbrev pub serving : List Part → List Part
serving parts = filter (λ p. is_active p.state) parts

-- The extents that serve regions are as they were, and so are the regions.
pub record Still (s t : Space) : Type 0 where
  pub parts : serving t.parts ≡ serving s.parts
  pub regions : t.regions ≡ s.regions

-- where neither changes
pub still : (s t : Space) → t.parts ≡ s.parts → t.regions ≡ s.regions → Still s t
still s t parts regions = record { parts = ap serving parts; regions = regions }

pub same : (s : Space) → Still s s
same s = record { parts = refl; regions = refl }

-- ---- extents that serve none

-- that an extent serves none
abbrev pub Idle : Part → Type 0
Idle p = is_active p.state ≡ false

-- extents that fail a test don't count behind the others
kept_behind : (f : Part → Bool) (parts pieces : List Part) → All (λ p. f p ≡ false) pieces → filter f (parts ++ pieces) ≡ filter f parts
kept_behind f parts pieces none = filter-append f parts pieces ∙ ap (λ ps. filter f parts ++ ps) (none_kept f pieces none) ∙ append-nil (filter f parts)

-- nor where they go, and others come
pub kept_exchanged : (f gone : Part → Bool) (parts pieces : List Part) → filter f (filter gone parts) ≡ [] → All (λ p. f p ≡ false) pieces → filter f (exchanged gone parts pieces) ≡ filter f parts
kept_exchanged f gone parts pieces none come = kept_behind f (filter (λ p. not (gone p)) parts) pieces come ∙ filter-without f gone parts none

-- one that is found goes
idle_alone : (s : Space) (test : Part → Bool) (p : Part) → Sound s → find test s.parts ≡ Some p → Idle p → serving (filter (begins_at p.span.first) s.parts) ≡ []
idle_alone s test p sound found idle =
    ap serving (filter-begins_at test s.parts p (some_pages s.parts sound.placed) (sound.owners p.span.first) found) ∙ rw idle refl

pub idle_replaced : (s : Space) (test : Part → Bool) (p : Part) (pieces : List Part) → Sound s → find test s.parts ≡ Some p → Idle p → All Idle pieces →
    Still s (record s { parts = exchanged (begins_at p.span.first) s.parts pieces })
idle_replaced s test p pieces sound found idle come = record { parts = kept_exchanged (λ p. is_active p.state) (begins_at p.span.first) s.parts pieces (idle_alone s test p sound found idle) come; regions = refl }

-- two that are found go
filter_or : (f g h : Part → Bool) (xs : List Part) → filter h (filter f xs) ≡ [] → filter h (filter g xs) ≡ [] → filter h (filter (λ x. f x || g x) xs) ≡ []
filter_or f g h [] a b = refl
filter_or f g h (x ∷ xs) a b = grind (arith, filter_or f g h xs)

idle_either : (s : Space) (test also : Part → Bool) (p q : Part) → Sound s → find test s.parts ≡ Some p → find also s.parts ≡ Some q → Idle p → Idle q →
    serving (filter (begins_either p q) s.parts) ≡ []
idle_either s test also p q sound e f low high =
    filter_or (begins_at p.span.first) (begins_at q.span.first) (λ x. is_active x.state) s.parts (idle_alone s test p sound e low) (idle_alone s also q sound f high)

one : (p : Part) → Idle p → All Idle (p ∷ [])
one p idle = All-cons Idle p [] idle (All-nil Idle)

-- a client's extent in flight that is found is idle
flies : (c : ℕ) (s : Space) (span : Span) (p : Part) → Sound s → find (is_flight_at c span) s.parts ≡ Some p → Idle p
flies c s span p sound found = (in_flight c s span p sound (sym found)).idle

-- ---- what a step finds

-- a step that looks for an extent leaves all as it was where it does so with none and with each that it may find
found_still : (s : Space) (step : Option Part → Stepped) (o : Option Part) → Still s (step None).after → ((p : Part) → o ≡ Some p → Still s (step (Some p)).after) → Still s (step o).after
found_still s step None none some = none
found_still s step (Some p) none some = some p refl

-- a client's extent in flight goes, and pieces come that serve none
flown : (s : Space) (c : ℕ) (span : Span) (step : Option Part → Stepped) (come : Part → List Part) → Sound s → ((p : Part) → Idle p → All Idle (come p)) → Still s (step None).after →
    ((p : Part) → (step (Some p)).after ≡ record s { parts = exchanged (begins_at p.span.first) s.parts (come p) }) → Still s (step (find (is_flight_at c span) s.parts)).after
flown s c span step come sound idle none is =
    found_still s step (find (is_flight_at c span) s.parts) none (λ p e.
    let at = flies c s span p sound e in subst (Still s) (sym (is p)) (idle_replaced s (is_flight_at c span) p (come p) sound e at (idle p at)))

-- or it is put down
rested : (s : Space) (c : ℕ) (span : Span) (p : Part) → Sound s → find (is_flight_at c span) s.parts ≡ Some p → Still s (record s { parts = exchanged (begins_at p.span.first) s.parts (put_down p ∷ []) })
rested s c span p sound e = idle_replaced s (is_flight_at c span) p (put_down p ∷ []) sound e (flies c s span p sound e) (one (put_down p) (put_down-idle (rest_of p.state)))

pub whole_still : (s : Space) (c : ℕ) (span : Span) → Sound s → Still s (whole_at s (find (is_flight_at c span) s.parts)).after
whole_still s c span sound = found_still s (whole_at s) (find (is_flight_at c span) s.parts) (same s) (λ p e. rested s c span p sound e)

-- a listed extent is taken out
taken_still : (s : Space) (c : ℕ) (step : Option Part → Stepped) (o : Option Part) → Sound s → ((p : Part) → o ≡ Some p → Listed s.parts p) → Still s (step None).after →
    ((p : Part) → (step (Some p)).after ≡ record s { parts = exchanged (begins_at p.span.first) s.parts (taken_out c p ∷ []) }) → Still s (step o).after
taken_still s c step o sound listed none is =
    found_still s step o none (λ p e.
    let l = listed p e in subst (Still s) (sym (is p)) (idle_replaced s l.test p (taken_out c p ∷ []) sound l.found (listed-idle l.rest p.state l.is_in) (one (taken_out c p) refl)))

-- ---- the steps of a malloc

pub live_still : (s : Space) (step : Stepped) → Still s step.after → Still s (if_live s step).after
live_still s step h = elim (is_live s.life) as (λ b. Still s (cond b step (stays s NoArena)).after) [ true ↦ h | false ↦ same s ]

pub look_still : (s : Space) (c pages align : ℕ) → Sound s → Still s (after_look s c pages align).after
look_still s c pages align sound = live_still s _ (taken_still s c (look_at s c align) (fit pages align s.parts) sound (fit-listed pages align s.parts) (same s) (λ p. refl))

-- one of two pieces is put down
down_beside : (p q : Part) → Idle q → All Idle (put_down p ∷ q ∷ [])
down_beside p q idle = All-cons Idle (put_down p) (q ∷ []) (put_down-idle (rest_of p.state)) (one q idle)

pub cut_still : (s : Space) (c : ℕ) (keep_low : Bool) (ask : Ask) (answer : Answer) → Sound s → Still s (after_cut s c keep_low ask answer).after
cut_still s c true (Split span left) Done sound =
    flown s c span (cut_at s true left) (λ p. put_down (high_piece left p) ∷ low_piece left p ∷ []) sound (λ p. down_beside (high_piece left p) (low_piece left p)) (same s) (λ p. refl)
cut_still s c false (Split span left) Done sound =
    flown s c span (cut_at s false left) (λ p. put_down (low_piece left p) ∷ high_piece left p ∷ []) sound (λ p. down_beside (low_piece left p) (high_piece left p)) (same s) (λ p. refl)
cut_still s c keep_low (Split span left) answers.Refused sound = whole_still s c span sound
cut_still s c keep_low ask answer sound = same s

grow_by_still : (s : Space) (c : ℕ) (span : Span) (committed : Bool) (o : Option Why) → Still s (grow_unless s c span committed o).after
grow_by_still s c span committed (Some why) = same s
grow_by_still s c span committed None = record { parts = kept_behind (λ p. is_active p.state) s.parts _ (one _ refl); regions = refl }

pub grow_still : (s : Space) (c : ℕ) (found : Option ℕ) (ask : Ask) (answer : Answer) → Still s (after_grow s c found ask answer).after
grow_still s c found (Alloc commit at pages align) (Placed committed zeroed first) =
    let span : Span = record { first = first; pages = pages } in grow_by_still s c span committed (why_not found align s.parts span)
grow_still s c found ask answer = same s

pub commit_still : (s : Space) (c : ℕ) (ask : Ask) (answer : Answer) → Sound s → Still s (after_commit s c ask answer).after
commit_still s c (Commit span) Done sound = flown s c span (commit_at s) (λ p. record p { committed = true } ∷ []) sound (λ p idle. one (record p { committed = true }) idle) (same s) (λ p. refl)
commit_still s c (Commit span) answers.Refused sound = whole_still s c span sound
commit_still s c ask answer sound = same s

-- ---- the steps of a free

-- a neighbour is a listed extent
neighbour_listed : (tries : ℕ) (p : Part) (parts : List Part) (other : Part) → neighbour tries p parts ≡ Some other → Listed parts other
neighbour_listed tries p parts other e =
    let listed : (test : Part → Bool) → find test parts ≡ Some other → is_like p other ≡ true → Listed parts other =
    λ test found like. record { test = test; found = found; rest = rest_of p.state; is_in = (both_true (is_listed (rest_of p.state) other.state) _ like).0 } in
    elim (neighbour_side tries p parts other e) [
      | inl right ↦ listed (is_right_of p) right.1 (both_true (is_like p other) _ (find_passes (is_right_of p) parts other right.1)).0
      | inr left ↦ listed (is_left_of p) left.1 (both_true (is_like p other) _ (find_passes (is_left_of p) parts other left.1)).0
    ]

pub put_still : (s : Space) (c tries : ℕ) (span : Span) → Sound s → Still s (put_at s c tries (find (is_flight_at c span) s.parts)).after
put_still s c tries span sound =
    found_still s (put_at s c tries) (find (is_flight_at c span) s.parts) (same s) (λ p e.
    taken_still s c (put_beside s c p) (neighbour tries p s.parts) sound (neighbour_listed tries p s.parts)
    (elim (is_purged s p) as (λ b. Still s (cond b (stays s (Purge (is_lazy s))) (put_at_rest s c p)).after) [ true ↦ same s | false ↦ rested s c span p sound e ]) (λ q. refl))

join_still : (s : Space) (c : ℕ) (low high : Span) → Sound s → Still s (join_at s (find (is_flight_at c low) s.parts) (find (is_flight_at c high) s.parts)).after
join_still s c low high sound =
    found_still s (λ o. join_at s o (find (is_flight_at c high) s.parts)) (find (is_flight_at c low) s.parts) (same s) (λ p e.
    found_still s (join_at s (Some p)) (find (is_flight_at c high) s.parts) (same s) (λ q f.
    let first = flies c s low p sound e in record {
      parts = kept_exchanged (λ p. is_active p.state) (begins_either p q) s.parts (joined p q ∷ []) (idle_either s (is_flight_at c low) (is_flight_at c high) p q sound e f first (flies c s high q sound f)) (one (joined p q) first);
      regions = refl;
    }))

apart_still : (s : Space) (c : ℕ) (own_low : Bool) (low high : Span) → Sound s → Still s (apart_at s own_low (find (is_flight_at c low) s.parts) (find (is_flight_at c high) s.parts)).after
apart_still s c true low high sound =
    found_still s (λ o. apart_at s true o (find (is_flight_at c high) s.parts)) (find (is_flight_at c low) s.parts) (same s) (λ p e.
    found_still s (apart_at s true (Some p)) (find (is_flight_at c high) s.parts) (same s) (λ q f. rested s c high q sound f))
apart_still s c false low high sound =
    found_still s (λ o. apart_at s false o (find (is_flight_at c high) s.parts)) (find (is_flight_at c low) s.parts) (same s) (λ p e.
    found_still s (apart_at s false (Some p)) (find (is_flight_at c high) s.parts) (same s) (λ q f. rested s c low p sound e))

pub merge_still : (s : Space) (c : ℕ) (own_low : Bool) (ask : Ask) (answer : Answer) → Sound s → Still s (after_merge s c own_low ask answer).after
merge_still s c own_low (Merge low high) Done sound = join_still s c low high sound
merge_still s c own_low (Merge low high) answers.Refused sound = apart_still s c own_low low high sound
merge_still s c own_low ask answer sound = same s

-- ---- the steps of a purge

pub purge_still : (s : Space) (c : ℕ) (rest : Rest) (keep : ℕ) → Sound s → Still s (after_purge_take s c rest keep).after
purge_still s c rest keep sound =
    let oldest = λ (p : Part). is_listed rest p.state in
    let took = taken_still s c (purge_at s c rest) (find oldest s.parts) sound (λ p e. record { test = oldest; found = e; rest = rest; is_in = find_passes oldest s.parts p e }) (same s) (λ p. refl) in
    live_still s _ (elim (nat_lt keep (pages_listed rest s.parts)) as (λ b. Still s (cond b (purge_at s c rest (find oldest s.parts)) (stays s Nothing)).after) [ true ↦ took | false ↦ same s ])

pub lazy_still : (s : Space) (c : ℕ) (ask : Ask) (answer : Answer) → Sound s → Still s (after_lazy s c ask answer).after
lazy_still s c (PurgeLazy span) Done sound = flown s c span (lazy_at s c) (λ p. record p { state = Flight c rests.Muzzy } ∷ []) sound (λ p idle. one (record p { state = Flight c rests.Muzzy }) refl) (same s) (λ p. refl)
lazy_still s c ask answer sound = same s

pub decommit_still : (s : Space) (c : ℕ) (ask : Ask) (answer : Answer) → Sound s → Still s (after_decommit s c ask answer).after
decommit_still s c (Decommit span) Done sound = flown s c span (decommit_at s) (λ p. record p { committed = false } ∷ []) sound (λ p idle. one (record p { committed = false }) idle) (same s) (λ p. refl)
decommit_still s c ask answer sound = same s

pub offer_still : (s : Space) (c : ℕ) (span : Span) → Sound s → Still s (offer_at s c (find (is_flight_at c span) s.parts)).after
offer_still s c span sound =
    found_still s (offer_at s c) (find (is_flight_at c span) s.parts) (same s) (λ p e.
    record { parts = kept_exchanged (λ p. is_active p.state) (begins_at p.span.first) s.parts [] (idle_alone s (is_flight_at c span) p sound e (flies c s span p sound e)) (All-nil Idle); regions = refl })

pub offer_done_still : (s : Space) (c : ℕ) (found : Option ℕ) (ask : Ask) (answer : Answer) → Still s (after_offer s c found ask answer).after
offer_done_still s c found (Dalloc span committed) Done = still s _ refl refl
offer_done_still s c found (Dalloc span committed) answers.Refused =
    let t : Space = record s { offers = without_offer c span committed s.offers } in
    let kept : Part = record { span = span; state = Flight c rests.Retained; committed = committed } in
    elim (is_regranted found span s.parts) as (λ b. Still s (cond b (stays t (Abandoned (next_flight c s.parts))) (record { after = record t { parts = s.parts ++ kept ∷ [] }; reply = Kept })).after)
    [ true ↦ still s t refl refl | false ↦ record { parts = kept_behind (λ p. is_active p.state) s.parts (kept ∷ []) (one kept refl); regions = refl } ]
offer_done_still s c found ask answer = same s

-- ---- the other steps

-- a spare extent is a listed one
spare_listed : (page lacking : ℕ) (parts : List Part) (p : Part) → find (is_spare page lacking) parts ≡ Some p → Listed parts p
spare_listed page lacking parts p e =
    let passes = both_true (is_unused p.state && begins_at page p) _ (find_passes (is_spare page lacking) parts p e) in
    let unused = (both_true (is_unused p.state) _ passes.0).0 in
    record { test = is_spare page lacking; found = e; rest = rest_of p.state; is_in = grind (arith, unused) }

pub widen_still : (s : Space) (c pages : ℕ) (o : Option (Region × Part)) → Sound s → Still s (widen_at s c pages o).after
widen_still s c pages None sound = same s
widen_still s c pages (Some home) sound =
    let end = end_of home.1.span in
    let lacking = pages - home.1.span.pages in
    taken_still s c (widen_by s c end) (find (is_spare end lacking) s.parts) sound (spare_listed end lacking s.parts) (same s) (λ p. refl)

pub set_still : (s : Space) (c : ℕ) (setting : Setting) → Still s (after_set s c setting).after
set_still s c (MakeLive box_no dirty_ms muzzy_ms now) =
    elim (is_absent s.life) as (λ b. Still s (cond b (stays (made_live s box_no dirty_ms muzzy_ms now) Noted) (stays s Nothing)).after) [ true ↦ still s _ refl refl | false ↦ same s ]
set_still s c setting = live_still s _ (still s _ refl refl)

-- an arena that is being destroyed has no region, so none of its extents serves one
pub doom_still : (s : Space) (c : ℕ) (p : Part) (ps : List Part) → s.parts ≡ p ∷ ps → Sound s → is_dying c s.life ≡ true → Still s (doom_at s (p ∷ ps)).after
doom_still s c p ps e sound dying =
    let found : find (λ q. true) s.parts ≡ Some p = ap (find (λ q. true)) e in
    let idle : Idle p = quiet_idle s.life dying sound.quiet in
    record { parts = kept_exchanged (λ p. is_active p.state) (begins_at p.span.first) s.parts [] (idle_alone s (λ q. true) p sound found idle) (All-nil Idle); regions = refl }
  where
    quiet_idle : (life : Life) → is_dying c life ≡ true → IsQuiet life s → Idle p
    quiet_idle Live h quiet = absurd (cc)
    quiet_idle Absent h quiet = absurd (cc)
    quiet_idle (Dying d) h quiet =
        let used = find_has (λ q. IsTrue (is_active q.state) → 0 < residents q s.regions) (λ q. true) s.parts p sound.used (ap (find (λ q. true)) e) in
        let none : residents p s.regions ≡ 0 = ap (residents p) quiet.0 in
        elim (is_active p.state) as (λ b. is_active p.state ≡ b → b ≡ false) [ false ↦ λ k. refl | true ↦ λ k. absurd (omega (arith, used k, none)) ] refl
