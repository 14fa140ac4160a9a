-- The region that a memalign is given is aligned: each step of the call keeps what is so of its place.
use Rattle.replay_run.proofs.Words.{known_is, ◌≡◌, ℕ, ◌%◌, ◌<◌, ◌==◌, Bool, true, false, All, inl, inr, List, [], ◌∷◌, ◌++◌, Option, Some, IfSome, length, get_or, refl, sym, ◌∙◌, ap, subst, arith, nat_lt, Contains, count_by, eqb-true, ltb-true, nat_tests, get_or_default, All-filter, All-head, All-tail, sum_by-cons, ones, align_at, SpaceRegion, Space, is_held_by, Sound, both_true, Held, cached_in, DeskFacts, cached_is_flat, Answered, Region, Item, Request, Memalign, Owning, Point, Turns, Next, Go, Ends, IsCacheAligned, CallFacts, AllCame, desk_fed, Moment, after, begin, begin_memalign, begin_stage, run, settle, step_next, step, memaligns-are_aligned, IsArenas, opening_records, record_at, HeapFacts, Record, Seat, asked_for, first_desk, first_seat, seat_at, HasRegions, IsSeated, is_region, sound_at, had_counts, Owns, count_in, counts_low, has_owns, opening-sits, opening_is, past, IsAligned, IsAlignedFor, MemalignsAreAligned, Tale, answer_in, tale_fed, tale_in, WorldEvent, IsSound, World, Came}
use Rattle.call_plan.specs.declared.needs.Answered.TheVariants.{Ok}
use Rattle.replay_run.proofs.Getting.{Gets, begin_gets, step_gets}
use Rattle.call_plan.specs.Desks.{meant, ready}
use Rattle.replay_run.proofs.Tales.{EndsHere, EndsWith, Kept, each_event, meant_in}

-- a region stands at a multiple of the alignment of its class
abbrev IsRegionAligned : SpaceRegion → Type 0
IsRegionAligned r = r.addr % align_at r.class ≡ 0

counted_aligned : (a k : ℕ) (rs : List SpaceRegion) → All IsRegionAligned rs → 0 < count_by (is_region a k) rs → a % align_at k ≡ 0
counted_aligned a k [] all some = absurd (omega (arith, some))
counted_aligned a k (r ∷ rs) all some =
    elim (is_region a k r) as (λ v. is_region a k r ≡ v → a % align_at k ≡ 0) [
      | true ↦ λ e.
          let same = region_is a k r e in
          subst (λ n. n % align_at k ≡ 0) same.0 (subst (λ n. r.addr % align_at n ≡ 0) same.1 (All-head IsRegionAligned r rs all))
      | false ↦ λ e.
          let one : ones (is_region a k r) ≡ 0 = ap ones e in
          counted_aligned a k rs (All-tail IsRegionAligned r rs all) (omega (arith, some, one, sum_by-cons (λ (q : SpaceRegion). ones (is_region a k q)) r rs))
    ] refl
  where
    region_is : (a k : ℕ) (r : SpaceRegion) → is_region a k r ≡ true → (r.addr ≡ a) × (r.class ≡ k)
    region_is a k r e = let both = both_true (r.addr == a) (r.class == k) e in (eqb-true r.addr a both.0, eqb-true r.class k both.1)

-- a client that is as it has to be has what it has among the arenas
sound_has : (records : List Record) (c : ℕ) (desk : DeskFacts) (call : Option CallFacts) → IsSeated records c desk call → HasRegions records c desk
sound_has records c desk call seated = grind arith

-- each region that it has cached is aligned
has_aligned : (records : List Record) (c : ℕ) (desk : DeskFacts) → IsArenas records → HasRegions records c desk → IsCacheAligned desk
has_aligned records c desk is has class small i d within =
    let owns : Owns true records c [] desk = has_owns records c desk has in
    let list : List Held = cached_in desk.cached class in
    let r : Held = get_or list i d in
    let there : Contains list r = (i, within, get_or_default list i r d within) in
    let counts : 0 < count_in records c r.arena r.addr r.class = had_counts (count_in records c) desk r owns.hands (inr (inl (cached_is_flat desk.cached class r there))) owns.shaped in
    let s : Space = (record_at records r.arena).space in
    let sound : Sound s = sound_at records r.arena is (counts_low records c r.arena r.addr r.class (known_is records is) counts) in
    let aligned : r.addr % align_at r.class ≡ 0 = counted_aligned r.addr r.class _ (All-filter (is_held_by c) IsRegionAligned s.regions sound.aligned) counts in
    subst (λ k. r.addr % align_at k ≡ 0) (has.classed class i d within) aligned

cache_aligned : (h : HeapFacts) (c : ℕ) → IsSound h → length h.seats ≡ 32 → IsCacheAligned (seat_at h.seats c).desk
cache_aligned h c sound all = by (nat_lt c 32) refl
  where
    by : (v : Bool) → nat_lt c 32 ≡ v → IsCacheAligned (seat_at h.seats c).desk
    by true e = has_aligned h.records c (seat_at h.seats c).desk sound.arenas (sound_has h.records c (seat_at h.seats c).desk (seat_at h.seats c).call (sound.seats c (ltb-true c 32 e)))
    by false e = subst (λ (x : Seat). IsCacheAligned x.desk) (sym (past h.seats c first_seat (grind (arith, nat_tests)))) (has_aligned opening_records 0 first_desk opening_is (opening-sits 0 (omega arith)).has)

-- the run of a call goes on by an item that came of what was wanted
run_push : (at : Moment) (items : List Item) (item : Item) → run at (items ++ item ∷ []) ≡ after (run at items) item
run_push at [] item = refl
run_push at (first ∷ items) item = run_push (after at first) items item

came_push : (c : ℕ) (at : Moment) (items : List Item) (item : Item) → AllCame c at items → Came c (run at items).stage.next item → AllCame c at (items ++ item ∷ [])
came_push c at [] item all came = (came, tt)
came_push c at (first ∷ items) item all came = (all.0, came_push c (after at first) items item all.1 came)

-- a call that waits at a point, or was given a region, is where the run of what it was fed is
abbrev Follows : ℕ → Moment → List Item → Next → Type 0
Follows c start items (Go point) = AllCame c start items × ((run start items).stage.next ≡ Go point)
Follows c start items (Ends (Ok (Region addr class))) = AllCame c start items × ((run start items).stage.next ≡ Ends (Ok (Region addr class)))
Follows c start items next = Unit {0}

settled_follows : (c : ℕ) (start : Moment) (items : List Item) (request : Request) (desk : DeskFacts) (arena : ℕ) (next : Next) → AllCame c start items →
    (run start items).stage.next ≡ (settle request desk arena next).next → Follows c start items next
settled_follows c start items request desk arena next all is = grind arith

begun_follows : (c : ℕ) (start : Moment) (next : Next) → start.stage.next ≡ next → Follows c start [] next
begun_follows c start next is = grind arith

-- a memalign began with an aligned cache, gets a region, and is where the run of what it was fed is
abbrev AlignsAt : ℕ → Request → Tale → Next → Type 0
AlignsAt c (Memalign align size) tale next = IsCacheAligned tale.began × Gets next × Follows c (begin (Memalign align size) tale.began) tale.items next
AlignsAt c request tale next = Unit {0}

abbrev Aligns : ℕ → Tale → DeskFacts → Next → Type 0
Aligns c tale now next = AlignsAt c tale.request tale next

begins_aligned : (c : ℕ) (request : Request) (desk : DeskFacts) → IsCacheAligned desk → AlignsAt c request (record { began = desk; request = request; items = [] }) (begin_stage (meant request desk) (ready request desk)).next
begins_aligned c (Memalign align size) desk cached = (cached, begin_gets align size desk, begun_follows c (begin (Memalign align size) desk) (begin_memalign align size desk).next refl)
begins_aligned c request desk cached = tt

steps_aligned : (c : ℕ) (request : Request) (tale : Tale) (point : Point) (item : Item) → AlignsAt c request tale (Go point) → Came c (Go point) item → AlignsAt c request (tale_fed item tale) (step point item)
steps_aligned c (Memalign align size) tale point item (cached, gets, (all, is)) came =
    let start : Moment = begin (Memalign align size) tale.began in
    let at : Moment = run start tale.items in
    let desk : DeskFacts = desk_fed at.desk at.stage.arena at.stage.next item in
    let more : AllCame c start (tale.items ++ item ∷ []) = came_push c start tale.items item all (subst (λ (n : Next). Came c n item) (sym is) came) in
    let goes : (run start (tale.items ++ item ∷ [])).stage.next ≡ (settle at.request desk at.stage.arena (step point item)).next =
    ap (λ (m : Moment). m.stage.next) (run_push start tale.items item) ∙ ap (λ (n : Next). (settle at.request desk at.stage.arena (step_next n item)).next) is in
    (cached, step_gets point item gets, settled_follows c start (tale.items ++ item ∷ []) at.request desk at.stage.arena (step point item) more goes)
steps_aligned c request tale point item so came = tt

settles_aligned : (c : ℕ) (request of : Request) (tale : Tale) (now : DeskFacts) (arena : ℕ) (next : Next) → AlignsAt c request tale next → AlignsAt c request tale (settle of now arena next).next
settles_aligned c request of tale now arena next so = grind arith

published_aligned : (c : ℕ) (request : Request) (tale : Tale) (addr : ℕ) → AlignsAt c request tale (Go (Turns (Owning addr true false))) → AlignsAt c request tale (Go (Turns (Owning addr true true)))
published_aligned c (Memalign align size) tale addr so = absurd so.1
published_aligned c request tale addr so = tt

aligns_kept : Kept Aligns
aligns_kept = record {
  begins = λ h c request sound clients. begins_aligned c (asked_for h.seats c request) (seat_at h.seats c).desk (cache_aligned h c sound clients);
  steps = λ c tale now arena point item so came. steps_aligned c tale.request tale point item so came;
  settles = λ c tale now arena next so. settles_aligned c tale.request (meant_in tale) tale now arena next so;
  closes = λ c tale now other answer so. so;
  loses = λ c tale now addr next so. so;
  publishes = λ c tale now addr so. published_aligned c tale.request tale addr so;
}

answer_aligned : (c : ℕ) (request : Request) (tale : Tale) (answer : Answered) → AlignsAt c request tale (Ends answer) → IsAlignedFor request answer
answer_aligned c (Memalign align size) tale (Ok (Region addr class)) (cached, gets, (all, is)) = memaligns-are_aligned c align size tale.began tale.items addr class cached all is
answer_aligned c request tale answer so = tt

given_aligned : (w : World) (event : WorldEvent) (answer : Option Answered) (tale : Option Tale) → IfSome answer (EndsWith Aligns w event tale) →
    IfSome answer (λ given. IfSome tale (λ told. IsAlignedFor told.request given))
given_aligned w event (Some answer) (Some tale) ends = answer_aligned ends.0 tale.request tale answer ends.2
given_aligned w event answer tale ends = tt

event_aligned : (w : World) (tales : List (Option Tale)) (event : WorldEvent) → EndsHere Aligns w tales event → IsAligned w tales event
event_aligned w tales event it = given_aligned w event (answer_in w event) (tale_in w tales event) it.ends

pub plays-are_aligned : MemalignsAreAligned
plays-are_aligned events play sound = each_event Aligns IsAligned event_aligned aligns_kept events play sound
