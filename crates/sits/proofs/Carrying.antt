-- What a turn of a client does to the regions that it holds, and to those that it has.
use Rattle.sits.proofs.Words.{[], ◌≡◌, ◌≢◌, ℕ, ◌+◌, ◌-◌, ◌*◌, ◌<◌, ◌≤◌, ◌==◌, ◌&&◌, Bool, true, false, cond, cond_both, List, ◌∷◌, Option, None, Some, length, map, refl, sym, ◌∙◌, ap, subst, arith, suc, zero, filter, find, nat_lt, count_by, list_any, range_with_len, eqb-true, ltb-true, length-map, length-take, All-cons, All-nil, All-weaker, filter_passes, length-range_with_len, sum_by-cons, regions_at, size_at, Region, flight_count, held_count, is_published_at, take_over_at, is_flight_at, address_of, is_held_by_other, landing, region_of, regions_from, IsPlaced, is_live, stays, step_of, Stepped, is_dirty_time_over, is_lazy, find_has, both_true, discarding, empty_handed, gave, is_in_arena, Request, Wish, Change, Leaves, TurnPoint, Filling, Landing, Giving, Changing, Resetting, Destroying, Publishing, Owning, Reply, Noted, Purge, Set, Setting, Space, Part, Span, Sound, mine, Held, DeskFacts, cached_of, freeing, going, most_regions, fill_at, land_at, lowest_free, address_behind, desk_turned, flushes, landed_behind, held_region, sharing, KnowsTurn, op_at, HasSlots, IsTheHand, SuitsTurn, or-false, gaining, taking_place}
use Rattle.call_plan.specs.Words.{NoArena}
use Rattle.sits.proofs.Hands.{Count, Hands, Single, hands_come, hands_gain, hands_discard, hands_part}
use Rattle.sits.proofs.Having.{Shaped, gain_gains, share_stays, discard_shaped, free_gains, of_hand, over, share_all}
use Rattle.sits.proofs.Parting.{Parts, addrs_any, batch_addrs, gave_parts}
use Rattle.sits.proofs.Regions.{any_at, back_counts, behind_is, count_at, landed_counts, none_elsewhere, one_in, op_regions, published_counts, taken_counts}
use Rattle.sits.proofs.Suiting.{came, handed}

-- What a client has after a turn is what it holds then, and in order.
pub record Carried (together : Bool) (m : Count) (extra : List Held) (after : DeskFacts) : Type 0 where
  pub hands : Hands together m extra after
  pub shaped : Shaped after

-- the addresses of regions of a class one behind another
abbrev addrs_from : ℕ → ℕ → ℕ → ℕ → List ℕ
addrs_from class first place count = map (λ i. first + i * size_at class) (range_with_len place count)

-- regions of a class one behind another are those at their addresses
regions_are : (c class first place count : ℕ) → map (λ i. region_of c class (first + i * size_at class)) (range_with_len place count) ≡ map (region_of c class) (addrs_from class first place count)
regions_are c class first place zero = refl
regions_are c class first place (suc count) = ap (λ rs. region_of c class (first + place * size_at class) ∷ rs) (regions_are c class first (place + 1) count)

-- those behind the first have the addresses that their client is told
behind_are : (page class place count most : ℕ) → class < 36 → place + count ≤ most → most ≤ regions_at class → page ≤ 536870912 →
    map (address_behind (4096 * page) class) (range_with_len place count) ≡ addrs_from class (4096 * page) place count
behind_are page class place zero most small within few low = refl
behind_are page class place (suc count) most small within few low =
    (λ i. behind_is page place class small (omega (arith, within, few)) low i ∷ behind_are page class (place + 1) count most small (omega (arith, within)) few low i)

module _ (together : Bool) (n m : Count) (c arena : ℕ) (s : Space) (desk : DeskFacts) (request : Request) (sound : Sound s) (single : Single together n) (hands : Hands together n [] desk) (shaped : Shaped desk)
    (counted : (a k : ℕ) → n arena a k ≡ count_at c a k s.regions) (others : (i a k : ℕ) → i ≢ arena → m i a k ≡ n i a k) where
  -- what a step leaves of the client's regions, by what they count there
  abbrev pub Carries : TurnPoint → Stepped → Type 0
  Carries point step = ((a k : ℕ) → m arena a k ≡ count_at c a k step.after.regions) → Carried together m (came arena point step.reply) (desk_turned desk arena point step.reply)

  -- ---- where no region moves

  stay_hands : (after : DeskFacts) → ((f : Held → ℕ) → over f after ≡ over f desk) → (t : Space) → t.regions ≡ s.regions → ((a k : ℕ) → m arena a k ≡ count_at c a k t.regions) → Hands together m [] after
  stay_hands after over_same t same now =
      hands_come n m arena [] [] desk after hands (λ f. omega (arith, over_same f))
      (λ a k. let here : count_at c a k t.regions ≡ count_at c a k s.regions = ap (count_at c a k) same in omega (arith, now a k, here, counted a k))
      (λ i a k differ. (others i a k differ, refl))

  stay : (t : Space) → t.regions ≡ s.regions → ((a k : ℕ) → m arena a k ≡ count_at c a k t.regions) → Carried together m [] desk
  stay t same now = record { hands = stay_hands desk (λ f. refl) t same now; shaped = shaped }

  -- a setting that changes leaves all but the arena from which the client allocates
  change : (setting : Setting) (change : Change) (reply : Reply) (t : Space) → t.regions ≡ s.regions → ((a k : ℕ) → m arena a k ≡ count_at c a k t.regions) →
      Carried together m [] (desk_turned desk arena (Changing setting change) reply)
  change setting (Leaves old) Noted t same now = record {
    hands = stay_hands (record desk { arena = arena }) (λ f. refl) t same now;
    shaped = record { keyed = shaped.keyed; lists = shaped.lists; classed = shaped.classed; places = shaped.places };
  }
  change setting chosen reply t same now = stay t same now

  -- ---- regions that come

  -- regions of a class at some addresses come: the first one is handed out, and the others are cached
  come : (class first : ℕ) (rest : List ℕ) (count : ℕ) (t : Space) → t.regions ≡ landing (map (region_of c class) (first ∷ rest)) s.regions → length rest + 1 ≤ count → HasSlots desk class count →
      ((a k : ℕ) → m arena a k ≡ count_at c a k t.regions) → Carried together m (held_region arena class first ∷ []) (sharing arena class rest desk)
  come class first rest count t landed few slots now =
      let shares = share_all arena class rest desk shaped (λ some. let room = slots (omega (arith, some, few)) in (room.0, omega (arith, room.1, few))) in record {
        hands = hands_come n m arena (map (held_region arena class) (first ∷ rest)) (held_region arena class first ∷ []) desk (sharing arena class rest desk) hands
            (λ f. omega (arith, shares.more f, sum_by-cons f (held_region arena class first) [], sum_by-cons f (held_region arena class first) (map (held_region arena class) rest)))
            (λ a k. let at : count_at c a k t.regions ≡ count_at c a k (landing (map (region_of c class) (first ∷ rest)) s.regions) = ap (count_at c a k) landed in
            omega (arith, now a k, at, counted a k, landed_counts c arena a k class (first ∷ rest) s.regions))
            (λ i a k differ. (others i a k differ, none_elsewhere i arena a k class (first ∷ rest) differ));
        shaped = shares.shaped;
      }

  -- the first one takes the place of the one in hand, if that is wanted
  take_place : (wish : Wish) (first : ℕ) (rest : List ℕ) → desk.gained ≡ None → Carried together m (held_region arena wish.class first ∷ []) (sharing arena wish.class rest desk) →
      Carried together m (handed wish (held_region arena wish.class first)) (taking_place wish (held_region arena wish.class first) (sharing arena wish.class rest desk))
  take_place wish first rest none carried = by wish.moves
    where
      own : Held
      own = held_region arena wish.class first

      shared : DeskFacts
      shared = sharing arena wish.class rest desk

      by : (v : Bool) → Carried together m (cond v [] (own ∷ [])) (cond v (gaining own shared) shared)
      by true =
          let free : shared.gained ≡ None = (share_stays arena wish.class rest desk).2 ∙ none in
          record { hands = hands_gain m own shared carried.hands carried.shaped free; shaped = (gain_gains own shared carried.shaped free).shaped }
      by false = carried

  fill : (wish : Wish) (count : ℕ) → HasSlots desk wish.class count → desk.gained ≡ None → (addrs : List ℕ) → length addrs ≤ count → Carries (Filling wish count) (fill_at s c wish.class addrs)
  fill wish count slots none [] few now = stay s refl now
  fill wish count slots none (addr ∷ addrs) few now = take_place wish addr addrs none (come wish.class addr addrs count (fill_at s c wish.class (addr ∷ addrs)).after refl (omega (arith, few)) slots now)

  filling : (wish : Wish) (count : ℕ) → HasSlots desk wish.class count → desk.gained ≡ None → Carries (Filling wish count) (step_of s c (op_at (Filling wish count)))
  filling wish count slots none = cond_both (is_live s.life) _ _ (Carries (Filling wish count))
      (λ _. fill wish count slots none (lowest_free wish.class count s) (omega (arith, length-take {A = ℕ}))) (λ _ now. stay s refl now)

  landing_in : (wish : Wish) (span : Span) (o : Option Part) → find (is_flight_at c span) s.parts ≡ o → 0 < wish.count → wish.count ≤ most_regions wish.class → HasSlots desk wish.class wish.count → desk.gained ≡ None →
      Carries (Landing wish span) (land_at s c wish.class wish.count o)
  landing_in wish span None e some few slots none now = stay s refl now
  landing_in wish span (Some p) e some few slots none now =
      let placed = find_has (λ (q : Part). IsPlaced q.span) (is_flight_at c span) s.parts p sound.placed e in
      let low : p.span.first ≤ 536870912 = omega (arith, placed.2) in
      let first : ℕ = address_of p.span.first in
      let all : regions_from c wish.class first wish.count ≡ map (region_of c wish.class) (first ∷ addrs_from wish.class first 1 (wish.count - 1)) = begins wish.count first some ∙ ap (λ xs. map (region_of c wish.class) (first ∷ xs)) refl in
      let same : landed_behind first wish.class wish.count ≡ addrs_from wish.class first 1 (wish.count - 1) = behind p.span.first low in
      take_place wish first (landed_behind first wish.class wish.count) none
      (subst (λ rest. Carried together m (held_region arena wish.class first ∷ []) (sharing arena wish.class rest desk)) (sym same)
      (come wish.class first (addrs_from wish.class first 1 (wish.count - 1)) wish.count (land_at s c wish.class wish.count (Some p)).after (ap (λ come. landing come s.regions) all)
      (let long = length-map (range_with_len 1 (wish.count - 1)) (λ i. first + i * size_at wish.class) in omega (arith, some, long, length-range_with_len 1 (wish.count - 1))) slots now))
    where
      begins : (count first : ℕ) → 0 < count → regions_from c wish.class first count ≡ map (region_of c wish.class) (first ∷ addrs_from wish.class first 1 (count - 1))
      begins zero first some = absurd (omega (arith, some))
      begins (suc count) first some =
          let at : first + 0 * size_at wish.class ≡ first = grind arith in
          let less : suc count - 1 ≡ count = omega arith in
          ap (λ a. region_of c wish.class a ∷ map (λ i. region_of c wish.class (first + i * size_at wish.class)) (range_with_len 1 count)) at
          ∙ ap (λ rs. region_of c wish.class first ∷ rs) (regions_are c wish.class first 1 count)
          ∙ ap (λ k. map (region_of c wish.class) (first ∷ addrs_from wish.class first 1 k)) (sym less)

      behind : (page : ℕ) → page ≤ 536870912 → landed_behind (address_of page) wish.class wish.count ≡ addrs_from wish.class (address_of page) 1 (wish.count - 1)
      behind page low =
          elim (nat_lt wish.class 36) as (λ v. nat_lt wish.class 36 ≡ v → wish.count ≤ cond v (regions_at wish.class) 1 → landed_behind (address_of page) wish.class wish.count ≡ addrs_from wish.class (address_of page) 1 (wish.count - 1)) [
            | true ↦ λ h le. behind_are page wish.class 1 (wish.count - 1) wish.count (ltb-true wish.class 36 h) (omega (arith, some)) le low
            | false ↦ λ h le. let none : wish.count - 1 ≡ 0 = omega (arith, le) in
                ap (λ k. map (address_behind (address_of page) wish.class) (range_with_len 1 k)) none ∙ ap (λ k. addrs_from wish.class (address_of page) 1 k) (sym none)
          ] refl few

  -- ---- regions that go

  giving : (addrs : List ℕ) → SuitsTurn desk request arena (Giving addrs) → Carries (Giving addrs) (step_of s c (op_at (Giving addrs)))
  giving addrs suits now =
      let gone : List Held = filter (is_in_arena arena) (going (flushes request) desk) in
      let parts = gave_parts desk (flushes request) arena addrs shaped suits in
      let home = All-weaker (λ r. is_in_arena arena r ≡ true) (λ (r : Held). r.arena ≡ arena) (λ r h. eqb-true r.arena arena h) gone (filter_passes (is_in_arena arena) (going (flushes request) desk)) in record {
        hands = hands_part n m arena gone desk (gave arena desk) single hands parts home (λ a k. gone_here a k) others;
        shaped = parts.shaped;
      }
    where
      gone_here : (a k : ℕ) → m arena a k ≡ cond (any_at a (filter (is_in_arena arena) (going (flushes request) desk))) 0 (n arena a k)
      gone_here a k =
          now a k ∙ back_counts c a k addrs s.regions
          ∙ ap (λ v. cond v 0 (count_at c a k s.regions)) (ap (list_any (λ x. x == a)) (batch_addrs (going (flushes request) desk) arena addrs suits) ∙ addrs_any arena a (going (flushes request) desk))
          ∙ ap (cond (any_at a (filter (is_in_arena arena) (going (flushes request) desk))) 0) (sym (counted a k))

  publishing : (addr : ℕ) → SuitsTurn desk request arena (Publishing addr) → Carries (Publishing addr) (step_of s c (op_at (Publishing addr)))
  publishing addr suits now = by desk.hand refl suits
    where
      by : (hand : Option Held) → desk.hand ≡ hand → IsTheHand arena addr hand → Carried together m [] (empty_handed desk)
      by None e is = absurd is
      by (Some r) e is =
          let parts : Parts desk (empty_handed desk) (r ∷ []) = record {
            less = λ f. let had : of_hand f desk.hand ≡ f r = ap (of_hand f) e in omega (arith, had, sum_by-cons f r []);
            shaped = record { keyed = shaped.keyed; lists = shaped.lists; classed = shaped.classed; places = shaped.places };
            arena = refl;
          } in record {
            hands = hands_part n m arena (r ∷ []) desk (empty_handed desk) single hands parts (All-cons (λ (q : Held). q.arena ≡ arena) r [] is.1 (All-nil (λ (q : Held). q.arena ≡ arena)))
                (λ a k. now a k ∙ published_counts c addr a k s.regions ∙ ap (λ v. cond v 0 (count_at c a k s.regions)) (ap (λ x. x == a) (sym is.0) ∙ sym (or-false (r.addr == a))) ∙ ap (cond (any_at a (r ∷ [])) 0) (sym (counted a k))) others;
            shaped = parts.shaped;
          }

  -- ---- all regions go

  emptied_hands : desk.hand ≡ None → desk.gained ≡ None → cached_of arena desk ≡ 0 → ((a k : ℕ) → m arena a k ≡ 0) → Carried together m [] (discarding arena desk)
  emptied_hands empty no_gain none now = record { hands = hands_discard n m arena desk hands empty no_gain none now others; shaped = discard_shaped arena desk shaped }

  none_cached : (cached others flights threads : ℕ) → cached ≡ cached_of arena desk → (others + cached == 0 && flights == 0 && threads == 0) ≡ true → cached_of arena desk ≡ 0
  none_cached cached others flights threads is free =
      let none : others + cached ≡ 0 = eqb-true (others + cached) 0 (both_true (others + cached == 0) _ (both_true (others + cached == 0 && flights == 0) _ free).0).0 in omega (arith, none, is)

  resetting : (cached : ℕ) → SuitsTurn desk request arena (Resetting cached) → Carries (Resetting cached) (step_of s c (op_at (Resetting cached)))
  resetting cached suits = cond_both (is_live s.life) _ _ (Carries (Resetting cached)) (λ _.
      cond_both (held_count s c cached == 0 && flight_count s c == 0 && zero == 0) _ _ (Carries (Resetting cached))
      (λ free now. reset (is_dirty_time_over s) (emptied_hands suits.0 suits.2 (none_cached cached (count_by (is_held_by_other c) s.regions) (flight_count s c) 0 suits.1 free) now)) (λ _ now. stay s refl now))
      (λ _ now. stay s refl now)
    where
      reset : (over : Bool) → Carried together m [] (discarding arena desk) → Carried together m [] (desk_turned desk arena (Resetting cached) (cond over (Purge (is_lazy s)) Noted))
      reset true is = is
      reset false is = is

  destroying : (cached : ℕ) → SuitsTurn desk request arena (Destroying cached) → Carries (Destroying cached) (step_of s c (op_at (Destroying cached)))
  destroying cached suits = cond_both (is_live s.life) _ _ (Carries (Destroying cached)) (λ _.
      cond_both (held_count s c cached == 0 && flight_count s c == 0 && length s.bound == 0) _ _ (Carries (Destroying cached))
      (λ free now. emptied_hands suits.0 suits.2 (none_cached cached (count_by (is_held_by_other c) s.regions) (flight_count s c) (length s.bound) suits.1 free) now) (λ _ now. stay s refl now))
      (λ _ now. stay s refl now)

  -- ---- a region that is taken over

  taking : (addr : ℕ) (frees past : Bool) (o : Option Region) → find (is_published_at addr) s.regions ≡ o → desk.hand ≡ None → Carries (Owning addr frees past) (take_over_at s c addr o)
  taking addr true past None e empty now = stay s refl now
  taking addr false past None e empty now = stay s refl now
  taking addr true past (Some r) e empty now =
      let own : Held = held_region arena r.class addr in
      let gains = free_gains own desk shaped empty in record {
        hands = hands_come n m arena (own ∷ []) [] desk (freeing own desk) hands (λ f. omega (arith, gains.more f, sum_by-cons f own []))
            (λ a k. omega (arith, now a k, counted a k, taken_counts c arena addr a k s r sound e, sum_by-cons (one_in arena a k) own []))
            (λ i a k differ. (others i a k differ, none_elsewhere i arena a k r.class (addr ∷ []) differ));
        shaped = gains.shaped;
      }
  taking addr false past (Some r) e empty now =
      let own : Held = held_region arena r.class addr in record {
        hands = hands_come n m arena (own ∷ []) (own ∷ []) desk desk hands (λ f. omega arith)
            (λ a k. omega (arith, now a k, counted a k, taken_counts c arena addr a k s r sound e, sum_by-cons (one_in arena a k) own []))
            (λ i a k differ. (others i a k differ, none_elsewhere i arena a k r.class (addr ∷ []) differ));
        shaped = shaped;
      }

  owning : (addr : ℕ) (frees past : Bool) → desk.hand ≡ None → Carries (Owning addr frees past) (step_of s c (op_at (Owning addr frees past)))
  owning addr frees past empty =
      cond_both (is_live s.life) _ _ (Carries (Owning addr frees past)) (λ _. taking addr frees past (find (is_published_at addr) s.regions) refl empty) (λ _ now. none frees now)
    where
      none : (frees : Bool) → Carries (Owning addr frees past) (stays s NoArena)
      none true now = stay s refl now
      none false now = stay s refl now

  -- ---- any turn

  abbrev left : TurnPoint → Space
  left point = (step_of s c (op_at point)).after

  pub carries : (point : TurnPoint) → KnowsTurn (mine c s) point → SuitsTurn desk request arena point → Carries point (step_of s c (op_at point))
  carries (Filling wish count) knows suits now = filling wish count suits.0.slots suits.0.none now
  carries (Landing wish span) knows suits now = landing_in wish span (find (is_flight_at c span) s.parts) refl knows.0.is.some knows.0.is.fewer suits.slots suits.none now
  carries (Giving addrs) knows suits now = giving addrs suits now
  carries (Changing setting chosen) knows suits now = change setting chosen (step_of s c (op_at (Changing setting chosen))).reply (left (Changing setting chosen)) (op_regions s c (Set setting) tt) now
  carries (Resetting cached) knows suits now = resetting cached suits now
  carries (Destroying cached) knows suits now = destroying cached suits now
  carries (Publishing addr) knows suits now = publishing addr suits now
  carries (Owning addr frees past) knows suits now = owning addr frees past suits.0 now
  carries point knows suits now = stay (left point) (op_regions s c (op_at point) tt) now
