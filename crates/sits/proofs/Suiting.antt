-- What a client has suits each point to which its call comes.
use Rattle.sits.proofs.Words.{[], rules, ◌≡◌, ℕ, ◌<◌, ◌≤◌, true, false, List, ◌∷◌, None, refl, sym, ◌∙◌, subst, arith, nat_lt, cond_both, ltb-true, nat_tests, discarding, Request, Answered, Change, Leaves, TurnPoint, Filling, Landing, Changing, Making, Resetting, Owning, AskPoint, Next, Go, InArena, Ends, Reply, Nothing, Noted, Landed, Regions, Owned, Setting, AskFacts, Held, DeskFacts, desk_turned, landed_behind, held_region, needed_at, make_next, told, turn_replied, HasSlots, Suits, SuitsChange, SuitsAsk, SuitsTurn, visited, Visit, Bool, cond, Option, Some, NextBatch, Move, Wish, sharing, gaining, taking_place, desk_told, got}
use Rattle.sits.specs.Words.{Region, Ok}
use Rattle.sits.proofs.Having.{CanKeep, share_stays}

-- a region that was got is handed out, or takes the place of the one in hand
abbrev pub handed : Wish → Held → List Held
handed wish region = cond wish.moves [] (region ∷ [])

-- a region that came by a turn and is handed out
abbrev pub came : ℕ → TurnPoint → Reply → List Held
came arena (Filling wish count) (Regions (addr ∷ others)) = handed wish (held_region arena wish.class addr)
came arena (Landing wish span) (Landed first count) = handed wish (held_region arena wish.class first)
came arena (Owning addr false past) (Owned class) = held_region arena class addr ∷ []
came arena point reply = []

-- a region that is the answer came just now, or is the one gained
abbrev pub SuitsRegion : Option Held → List Held → DeskFacts → Held → Type 0
SuitsRegion None extra desk region = (extra ≡ region ∷ []) × (desk.hand ≡ None)
SuitsRegion (Some gained) extra desk region = (extra ≡ []) × CanKeep desk desk.hand

-- an answer gives just the region that came, and what is in hand at the end can be cached
abbrev pub SuitsAnswer : List Held → DeskFacts → ℕ → Answered → Type 0
SuitsAnswer extra desk arena (Ok (Region addr class)) = SuitsRegion desk.gained extra desk (held_region arena class addr)
SuitsAnswer extra desk arena (Ok given) = (extra ≡ []) × CanKeep desk desk.hand
SuitsAnswer extra desk arena answer = extra ≡ []

-- what a client has suits where its call goes next
abbrev pub Suited : List Held → DeskFacts → Request → ℕ → Next → Type 0
Suited extra desk request arena (Go point) = (extra ≡ []) × Suits desk request arena point
Suited extra desk request arena (InArena index point) = (extra ≡ []) × (index < 32) × Suits desk request index point × (needed_at 0 point ≡ 0)
Suited extra desk request arena (Ends answer) = SuitsAnswer extra desk arena answer
Suited extra desk request arena (Move class) = (extra ≡ []) × (desk.gained ≡ None)
Suited extra desk request arena next = extra ≡ []

-- nothing in hand needs no slot
pub can_keep : (desk : DeskFacts) → desk.hand ≡ None → CanKeep desk desk.hand
can_keep desk e = subst (CanKeep desk) (sym e) tt

module _ (desk : DeskFacts) (request : Request) (arena : ℕ) where
  -- ---- what follows a turn

  visited_suits : (visit : Visit) → desk.hand ≡ None → Suited [] desk request arena (visited visit)
  visited_suits visit empty = grind (arith, can_keep)

  make_suits : (index : ℕ) (setting : Setting) → desk.hand ≡ None → Suited [] desk request arena (make_next index setting)
  make_suits index setting empty =
      cond_both (nat_lt index 31) _ _ (Suited [] desk request arena) (λ e. (refl, (let low = ltb-true index 31 e in omega (arith, low)), empty, refl)) (λ e. refl)

  -- ---- where the reply to a turn leads that took an answer in

  pub told_suits : (point : AskPoint) (asked : AskFacts) (reply : Reply) → SuitsAsk desk arena point → Suited [] (desk_told desk point reply) request arena (told point asked reply)
  told_suits point asked reply suits = grind (arith, nat_tests, visited_suits)

-- ---- where the reply to a turn leads that took no answer in

pub fewer_slots : (desk : DeskFacts) (class few many : ℕ) → few ≤ many → HasSlots desk class many → HasSlots desk class few
fewer_slots desk class few many le slots more = let room = slots (omega (arith, le, more)) in (room.0, omega (arith, le, room.1))

change_suits : (desk : DeskFacts) (request : Request) (arena : ℕ) (setting : Setting) (change : Change) → desk.arena < 32 → desk.hand ≡ None → SuitsChange desk arena setting change →
    Suited [] (desk_turned desk arena (Changing setting change) Noted) request arena (turn_replied (Changing setting change) Noted)
change_suits desk request arena setting change low empty suits = grind (arith, can_keep)

-- a region that was got is handed out, or takes the place of the one in hand
got_suits : (request : Request) (arena : ℕ) (wish : Wish) (addr : ℕ) (desk : DeskFacts) → (wish.moves ≡ false → desk.hand ≡ None) → desk.gained ≡ None →
    Suited (handed wish (held_region arena wish.class addr)) (taking_place wish (held_region arena wish.class addr) desk) request arena (got wish addr)
got_suits request arena wish addr desk empty none = by wish.moves refl
  where
    by : (v : Bool) → wish.moves ≡ v → Suited (cond v [] (held_region arena wish.class addr ∷ [])) (cond v (gaining (held_region arena wish.class addr) desk) desk) request arena (cond v NextBatch (Ends (Ok (Region addr wish.class))))
    by true e = refl
    by false e = subst (λ o. SuitsRegion o (held_region arena wish.class addr ∷ []) desk (held_region arena wish.class addr)) (sym none) (refl, empty e)

pub turned_suits : (desk : DeskFacts) (request : Request) (arena : ℕ) (point : TurnPoint) (reply : Reply) → desk.arena < 32 → SuitsTurn desk request arena point →
    Suited (came arena point reply) (desk_turned desk arena point reply) request arena (turn_replied point reply)
turned_suits desk request arena (Filling wish count) (Regions (addr ∷ others)) low suits =
    let stays = share_stays arena wish.class others desk in
    got_suits request arena wish addr (sharing arena wish.class others desk) (λ e. stays.0 ∙ suits.0.empty e) (stays.2 ∙ suits.0.none)
turned_suits desk request arena (Filling wish count) Nothing low suits =
    (refl, record { empty = suits.0.empty; none = suits.0.none; own = suits.0.own; slots = fewer_slots desk wish.class wish.count count suits.1 suits.0.slots })
turned_suits desk request arena (Landing wish span) (Landed first count) low suits =
    let stays = share_stays arena wish.class (landed_behind first wish.class count) desk in
    got_suits request arena wish first (sharing arena wish.class (landed_behind first wish.class count) desk) (λ e. stays.0 ∙ suits.empty e) (stays.2 ∙ suits.none)
turned_suits desk request arena (Changing setting change) Noted low suits = change_suits desk request arena setting change low suits.0 suits.1
turned_suits desk request arena (Changing setting (Leaves old)) reply low suits = refl
turned_suits desk request arena (Making index setting) Nothing low suits = make_suits desk request arena index setting suits
turned_suits desk request arena (Resetting cached) Noted low suits = (refl, can_keep (discarding arena desk) suits.0)
turned_suits desk request arena (Owning addr true past) reply low suits = grind arith
turned_suits desk request arena point reply low suits =
    let keep = can_keep desk in let visits = visited_suits desk request arena in first_of (search rules, grind (arith, nat_tests))
