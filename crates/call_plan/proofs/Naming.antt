-- Regions that go back are named at their turn, and nothing else changes by that.
use Rattle.call_plan.proofs.Words.{◌≡◌, ℕ, ◌<◌, ◌≤◌, true, false, List, [], ◌∷◌, Option, None, Some, IsSomeAnd, length, refl, sym, ap, subst, ◌∙◌, arith, nat_tests, batch_is, addrs_in, Request, Free, Flush, Cache, Item, Giving, Point, Turns, Next, Go, Stage, Held, DeskFacts, BatchFacts, batch_of, freeing, going, going_with, held_at, is_cacheable, places, get, gives, share, desk_moved, desk_led, move_stage, begin_resize, begin_realloc, Realloc, flushes, desk_closed, desk_fed, Goes, IsPointOrEnd, GivesNone, named, named_addrs, named_next, IsSizedNext, Moment, after, batch_goes, begin_free, begin_stage, closed, moved, settle, stage, step_next, step, cond_both, nat_lt, ◌^◌, resizing, class_for}
use Rattle.call_plan.proofs.Credits.{settle_place}

-- ---- no step leads to regions that are named already

step_gives_none : (point : Point) (item : Item) → GivesNone (step point item)
step_gives_none point item = grind (arith, nat_tests)

pub next_gives_none : (next : Next) (item : Item) → GivesNone (step_next next item)
next_gives_none (Go point) item = step_gives_none point item
next_gives_none next item = grind arith

-- ---- what is the same once they are named

pub sized_named : (request : Request) (desk : DeskFacts) (at : Stage) → IsSizedNext (named request desk at).next → IsSizedNext at.next
sized_named request desk at is = grind arith

pub named_sized : (request : Request) (desk : DeskFacts) (at : Stage) → IsSizedNext at.next → IsSizedNext (named request desk at).next
named_sized request desk at is = grind arith

pub place_named : (request : Request) (desk : DeskFacts) (at : Stage) → IsPointOrEnd (named request desk at).next → IsPointOrEnd at.next
place_named request desk at is = grind arith

places_named : (request : Request) (desk now : DeskFacts) (at : Stage) → places now (named request desk at).next ≡ places now at.next
places_named request desk now at = grind arith

fed_named : (request : Request) (had desk : DeskFacts) (arena index : ℕ) (next : Next) (item : Item) → desk_fed desk index (named_next request had arena next) item ≡ desk_fed desk index next item
fed_named request had desk arena index next item = grind arith

step_named : (request : Request) (had : DeskFacts) (arena : ℕ) (next : Next) (item : Item) → step_next (named_next request had arena next) item ≡ step_next next item
step_named request had arena next item = grind arith

-- an item leads on alike before they are named
pub after_named : (request : Request) (desk : DeskFacts) (at : Stage) (item : Item) →
    after (record { request = request; desk = desk; stage = named request desk at }) item ≡ moved request (desk_fed desk at.arena at.next item) at.arena (step_next at.next item)
after_named request desk at item =
    ap (λ d. moved request d at.arena (step_next (named_next request desk at.arena at.next) item)) (fed_named request desk desk at.arena at.arena at.next item)
    ∙ ap (λ next. moved request (desk_fed desk at.arena at.next item) at.arena next) (step_named request desk at.arena at.next item)

-- ---- where a call stands after an item

-- once a call has ended its client has what is to be had, and no regions are to be named
closed_named : (request : Request) (desk now : DeskFacts) (at led : Stage) → named request desk at ≡ led → now ≡ desk_closed request at.arena at.next desk →
    record { request = request; desk = now; stage = named request now at } ≡ closed request desk led
closed_named request desk now at led is same = grind arith

-- a call that was fed stands where its run goes on
pub fed_moment : (request : Request) (desk told led now : DeskFacts) (was at : Stage) (item : Item) → told ≡ desk_fed desk was.arena was.next item →
    named request led at ≡ settle request told was.arena (step_next was.next item) → led ≡ desk_led told (step_next was.next item) → now ≡ desk_closed request at.arena at.next led →
    record { request = request; desk = now; stage = named request now at } ≡ after (record { request = request; desk = desk; stage = named request desk was }) item
fed_moment request desk told led now was at item is leads has same =
    closed_named request led now at (settle request told was.arena (step_next was.next item)) leads same
    ∙ ap (λ d. closed request d (settle request told was.arena (step_next was.next item))) has
    ∙ ap (λ d. moved request d was.arena (step_next was.next item)) is ∙ sym (after_named request desk was item)

-- and waits there, or has ended
pub fed_place : (request : Request) (desk told led : DeskFacts) (was at : Stage) (item : Item) → told ≡ desk_fed desk was.arena was.next item →
    named request led at ≡ settle request told was.arena (step_next was.next item) →
    Goes (after (record { request = request; desk = desk; stage = named request desk was }) item).stage.next → IsPointOrEnd at.next
fed_place request desk told led was at item is leads goes =
    let now = subst (λ (m : Moment). Goes m.stage.next) (after_named request desk was item) goes in
    let here = subst (λ d. Goes (settle request d was.arena (step_next was.next item)).next) (sym is) now in
    place_named request led at (subst (λ (s : Stage). IsPointOrEnd s.next) (sym leads) (settle_place request told was.arena (step_next was.next item) here))

-- the regions that its client comes to hold where it stands have as much room as where the step leads
pub named_room : (request : Request) (led now : DeskFacts) (at there : Stage) (n : ℕ) → named request led at ≡ there → led ≡ now → places now there.next ≤ n → places led at.next ≤ n
named_room request led now at there n is same room =
    subst (λ m. m ≤ n) (ap (λ (s : Stage). places now s.next) (sym is) ∙ places_named request led now at ∙ ap (λ d. places d at.next) (sym same)) room

-- ---- what is named

again : (request : Request) (desk : DeskFacts) (arena : ℕ) (addrs : List ℕ) → named_addrs request desk arena (named_addrs request desk arena addrs) ≡ named_addrs request desk arena addrs
again request desk arena (addr ∷ addrs) = refl
again request desk arena [] = by (addrs_in arena (going (flushes request) desk)) refl
  where
    by : (addrs : List ℕ) → addrs_in arena (going (flushes request) desk) ≡ addrs → named_addrs request desk arena addrs ≡ addrs
    by [] e = e
    by (addr ∷ addrs) e = refl

next_again : (request : Request) (desk : DeskFacts) (arena : ℕ) (next : Next) → named_next request desk arena (named_next request desk arena next) ≡ named_next request desk arena next
next_again request desk arena next = grind (arith, again)

pub named_again : (request : Request) (desk : DeskFacts) (at : Stage) → named request desk (named request desk at) ≡ named request desk at
named_again request desk at = ap (λ next. record { arena = at.arena; next = next }) (next_again request desk at.arena at.next)

-- the region in hand alone is one
pub few_going : (request : Request) (desk : DeskFacts) (arena : ℕ) → IsSomeAnd desk.hand (λ region. is_cacheable region.class desk ≡ false) → length (addrs_in arena (going (flushes request) desk)) ≤ 2
few_going request desk arena one = grind (arith, nat_tests)

-- ---- where a request begins

some_named : (request : Request) (desk : DeskFacts) (arena : ℕ) (addrs : List ℕ) → 0 < length addrs → named_addrs request desk arena addrs ≡ addrs
some_named request desk arena [] some = absurd (omega (arith, some))
some_named request desk arena (addr ∷ addrs) some = refl

batch_named : (request : Request) (desk : DeskFacts) (arena : ℕ) (gained : Option Held) (regions : List Held) → named request desk (batch_goes arena gained (batch_of regions)) ≡ batch_goes arena gained (batch_of regions)
batch_named request desk arena gained regions = by gained (batch_of regions) refl
  where
    by : (gained : Option Held) (batch : Option BatchFacts) → batch_of regions ≡ batch → named request desk (batch_goes arena gained batch) ≡ batch_goes arena gained batch
    by None None e = refl
    by (Some region) None e = refl
    by gained (Some batch) e = ap (λ addrs. stage batch.arena (Go (Turns (Giving addrs)))) (some_named request desk batch.arena batch.addrs (batch_is regions batch e).some)

free_named : (request : Request) (desk now : DeskFacts) (addr : ℕ) (held : Option Held) → named request now (begin_free addr held desk) ≡ begin_free addr held desk
free_named request desk now addr None = refl
free_named request desk now addr (Some region) = batch_named request now region.arena None (going_with (freeing region desk).hand false desk)

move_named : (request own : Request) (now desk : DeskFacts) (arena class : ℕ) (found : Option Held) → named request now (move_stage own arena class found desk) ≡ move_stage own arena class found desk
move_named request own now desk arena class None = get_named request now desk.arena class (share class desk)
  where
    get_named : (request : Request) (now : DeskFacts) (arena class count : ℕ) → named request now (stage arena (get true class 1 count)) ≡ stage arena (get true class 1 count)
    get_named request now arena class count = grind (arith, nat_tests)
move_named request own now desk arena class (Some region) =
    let then : DeskFacts = desk_moved class (Some region) desk in batch_named request now arena (gives own then) (going (flushes own) then)

resize_named : (request own : Request) (now desk : DeskFacts) (class : ℕ) (region : Held) → named request now (begin_resize own class region desk) ≡ begin_resize own class region desk
resize_named request own now desk class region = grind (arith, nat_tests, move_named)

realloc_named : (request : Request) (now desk : DeskFacts) (addr size : ℕ) (held : Option Held) → named request now (begin_realloc addr size held desk) ≡ begin_realloc addr size held desk
realloc_named request now desk addr size None = refl
realloc_named request now desk addr size (Some region) =
    cond_both (nat_lt (2 ^ 35) size) _ _ (λ (at : Stage). named request now at ≡ at) (λ _. refl) (λ _. resize_named request (Realloc addr size) now (resizing addr region desk) (class_for size) region)

-- the regions that go back first are named where the request begins
pub begins_named : (request : Request) (desk now : DeskFacts) → named request now (begin_stage request desk) ≡ begin_stage request desk
begins_named (Free addr) desk now = free_named (Free addr) desk now addr (held_at addr desk)
begins_named (Realloc addr size) desk now = realloc_named (Realloc addr size) now desk addr size (held_at addr desk)
begins_named Flush desk now = batch_named Flush now desk.arena None (going true desk)
begins_named (Cache false) desk now = batch_named (Cache false) now desk.arena None (going true desk)
begins_named request desk now = grind (arith, nat_tests)
