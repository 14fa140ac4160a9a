-- Each step keeps the rule.
use Rattle.turn_lock.proofs.Words.{◌≡◌, ℕ, ◌+◌, ◌-◌, ◌%◌, ◌^◌, ◌<◌, ◌≤◌, ◌≢◌, ◌⊎◌, zero, suc, true, false, cond, ltb, List, [], ◌∷◌, ◌++◌, map, length, get_or, take, drop, set, Some, sym, refl, ap, ◌∙◌, subst, inl, inr, ⊎_elim, arith, length-append, Option, none, some, some-injective, some-ne-none, dite, ℕ_discrete, get_elem?, set-get_or, mod-add-mod, nat_tests, append_cancel_left, range_with_len, State, Me, step, keeps, takes, gives, stepped, rest, Allows, Splits, Joins, opening, at_set, set_again, set_else, at_snoc, at_longer, one_turn, Turn, Claim, Stage, Idle, Waiting, Serving, View, turn_of, entries, entries_by, replay_turns, IsLegal, total, times, tickets_in, ticket_of, is_serving, is_idle, IsClaim, StandsIn, number_count, has, tickets, staged, IsTrueView, Slot, opening_view, Rule, drew, looked, with_turn, entry_added, nothing_added, first_part, later_part, both_views, spent}
use Rattle.std.proofs.lemmas.Bool.{false_from_ne_true}
use Rattle.std.proofs.lemmas.List.FromFn.{length-range_with_len}
use Rattle.turn_lock.proofs.Totals.{total_set, total_append, total_one, total_two, total_le, times_range, times_parts, length_parts, total_parts, at_mapped, at_append}
use Rattle.turn_lock.proofs.Histories.{by_other, entries_append, prefix_all, prefix_more, replay_append, legal_more}

-- what stands at a place that was set
set_at : {A : Type 0} (l : List A) (i : ℕ) (a b : A) → get_elem? l i ≡ some a → get_elem? (set l i b) i ≡ some b
set_at [] i a b e = absurd (some-ne-none a (sym e))
set_at (x ∷ xs) zero a b e = refl
set_at (x ∷ xs) (suc i) a b e = set_at xs i a b e

-- the cases of a place after one was set
set_cases : {A : Type 0} (P : ℕ → A → Type 0) (l : List A) (id : ℕ) (w : A) → P id w → ((j : ℕ) (u : A) → j ≢ id → get_elem? l j ≡ some u → P j u) → (j : ℕ) (u : A) → get_elem? (set l id w) j ≡ some u → P j u
set_cases {A = A} P l id w mine others j u e = ⊎_elim (λ (t : (j ≡ id) × (w ≡ u)). subst (λ (x : ℕ × A). P x.0 x.1) (λ i. (sym t.0 i, t.1 i)) mine) (λ (t : (j ≢ id) × (get_elem? l j ≡ some u)). others j u t.0 t.1) (at_set l id j w u e)

-- the cases of a place in a list of one
at_only : {A : Type 0} (P : ℕ → A → Type 0) (a : A) → P 0 a → (j : ℕ) (u : A) → get_elem? (a ∷ []) j ≡ some u → P j u
at_only P a here zero u e = subst (P 0) (some-injective a u e) here
at_only P a here (suc j) u e = absurd (some-ne-none u (sym e))

-- lists of one element are equal by it
the_one : {A : Type 0} (a b : A) → a ∷ [] ≡ b ∷ [] → a ≡ b
the_one a b e = some-injective a b (ap (λ l. get_elem? l 0) e)

-- the first of some numbers is among them
pub first_there : (numbers : List ℕ) → 0 < length numbers → 0 < times (get_or numbers 0 0) numbers
first_there [] h = absurd (omega arith)
first_there (x ∷ xs) h = grind (arith, nat_tests)

module _ {E : Type 0} where
  -- the history that the seat that is served knows
  abbrev whole_of : Stage E → List (Turn E)
  whole_of Idle = []
  whole_of (Waiting t) = []
  whole_of (Serving t whole) = whole

  -- the one idle stage
  idle_is : (st : Stage E) → is_idle st ≡ true → st ≡ Idle
  idle_is Idle h = refl
  idle_is (Waiting t) h = cc
  idle_is (Serving t whole) h = cc

  -- the stage of a seat that is served
  serving_is : (st : Stage E) → is_serving st ≡ true → (t : ℕ) × (whole : List (Turn E)) × (st ≡ Serving t whole)
  serving_is Idle h = cc
  serving_is (Waiting t) h = cc
  serving_is (Serving t whole) h = (t, whole, refl)

  -- a seat that cannot be served is not
  not_serving : (st : Stage E) → (is_serving st ≡ true → ⊥) → is_serving st ≡ false
  not_serving st h = false_from_ne_true (is_serving st) h

  -- each ticket stands in the line
  stands_in : (log : List (Turn E)) (served waiting : ℕ) (st : Stage E) (t : ℕ) → StandsIn log served waiting st → ticket_of st ≡ some t → (served ≤ t) × (t < served + waiting)
  stands_in log served waiting Idle t k e = absurd (some-ne-none t (sym e))
  stands_in log served waiting (Waiting x) t k e = let is : x ≡ t = some-injective x t e in let a = k.0 in let b = k.1 in (omega arith, omega arith)
  stands_in log served waiting (Serving x whole) t k e = let is : x ≡ t = some-injective x t e in let a = k.0 in let b = k.1 in (omega arith, omega arith)

  -- the seat that is served has the ticket that is served
  serving_ticket : (log : List (Turn E)) (served waiting : ℕ) (st : Stage E) → is_serving st ≡ true → StandsIn log served waiting st → ticket_of st ≡ some served
  serving_ticket log served waiting Idle h k = cc
  serving_ticket log served waiting (Waiting x) h k = cc
  serving_ticket log served waiting (Serving x whole) h k = ap some k.0

  -- where the next ticket is served, each other one is nearer
  stands_nearer : (log log' : List (Turn E)) (served waiting : ℕ) (st : Stage E) → (ticket_of st ≡ some served → ⊥) → StandsIn log served waiting st → StandsIn log' (served + 1) (waiting - 1) st
  stands_nearer log log' served waiting Idle other k = tt
  stands_nearer log log' served waiting (Waiting t) other k = let a = k.0 in let b = k.1 in let c : t ≢ served = (λ e. other (ap some e)) in (omega arith, omega arith)
  stands_nearer log log' served waiting (Serving t whole) other k = absurd (other (ap some k.0))

  -- a longer line leaves each ticket its place
  stands_longer : (log : List (Turn E)) (served waiting : ℕ) (st : Stage E) → StandsIn log served waiting st → StandsIn log served (waiting + 1) st
  stands_longer log served waiting Idle k = tt
  stands_longer log served waiting (Waiting t) k = let a = k.0 in let b = k.1 in (a, omega arith)
  stands_longer log served waiting (Serving t whole) k = let b = k.1 in (k.0, omega arith, k.2)

module _ {S E : Type 0} where
  -- a view that is replaced by one that is served as it was leaves the slot where it is
  slot_stays : (value : S) (homes : List (Option S)) (views : List (View S E)) (id : ℕ) (v w : View S E) → get_elem? views id ≡ some v → is_serving w.stage ≡ is_serving v.stage → Slot value homes views → Slot value homes (set views id w)
  slot_stays value homes views id v w at alike (inl h) = inl (h.0, set_cases (λ j (u : View S E). is_serving u.stage ≡ false) views id w (alike ∙ h.1 id v at) (λ j u _ e. h.1 j u e))
  slot_stays value homes views id v w at alike (inr h) = dite (ℕ_discrete h.1.0 id)
      (λ is. let one = some-injective v h.1.1 (sym at ∙ subst (λ j. get_elem? views j ≡ some h.1.1) is h.1.2) in
      inr (h.0, (id, w, set_at views id v w at, alike ∙ (ap (λ (u : View S E). is_serving u.stage) one ∙ h.1.3))))
      (λ other. inr (h.0, (h.1.0, h.1.1, set_else views id h.1.0 w other ∙ h.1.2, h.1.3)))

module _ {S O E R : Type 0} (logs : S → ℕ → O → E → Type 0) (after : S → E → S × R) (kept : S → List E) (first : S) (seats : ℕ) where
  abbrev V : Type 0
  V = View S E

  abbrev Hist : Type 0
  Hist = List (Turn E)

  abbrev St : Type 0
  St = State S V

  abbrev Kept : St → Type 0
  Kept = Rule logs after kept first seats

  -- one view is replaced by another with the same numbers, and the line, the history and the slot follow
  moved : (s : St) (r : Kept s) (id : ℕ) (v w : V) → get_elem? s.views id ≡ some v → (log : Hist) (served waiting : ℕ) (ws : List ℕ) (hs : List (Option S))
      → ws ≡ ((served + waiting) % 18446744073709551616) ∷ (served % 18446744073709551616) ∷ [] → tickets w + r.waiting ≡ tickets v + waiting
      → w.claims ≡ v.claims ⊎ ((number_count w ≡ number_count v) × ((n : ℕ) → has n w ≡ has n v))
      → length log ≤ served → IsLegal logs after first log → kept (replay_turns after first log) ≡ entries log → ((n : ℕ) → seats ≤ n → entries_by n log ≡ [])
      → IsTrueView first log served waiting w → ((j : ℕ) (u : V) → j ≢ id → get_elem? s.views j ≡ some u → IsTrueView first log served waiting u)
      → ((j : ℕ) (u : V) (t : ℕ) → j ≢ id → get_elem? s.views j ≡ some u → ticket_of w.stage ≡ some t → ticket_of u.stage ≡ some t → ⊥)
      → Slot (replay_turns after first log) hs (set s.views id w) → Kept record { words = ws; homes = hs; views = set s.views id w }
  moved s r id v w at log served waiting ws hs words line numbers turns legal tied named mine others alone slot =
      let same : (number_count w ≡ number_count v) × ((n : ℕ) → has n w ≡ has n v) = ⊎_elim (λ (e : w.claims ≡ v.claims). (ap (total (λ (c : Claim E). length c.numbers)) e, λ n. ap (total (λ (c : Claim E). times n c.numbers)) e)) (λ z. z) numbers in
      record {
        log = log;
        served = served;
        waiting = waiting;
        words = words;
        line = (let a = total_set tickets s.views id v w at in let b = r.line in omega arith);
        room = (let a = total_set number_count s.views id v w at in let b = r.room in let c = same.0 in omega arith);
        once = λ n. (let a = total_set (has n) s.views id v w at in let c = same.1 n in let d : total (has n) (set s.views id w) ≡ total (has n) s.views = omega arith in d ∙ r.once n);
        small = r.small;
        turns = turns;
        legal = legal;
        keeps = tied;
        named = named;
        knows = set_cases (λ j (u : V). IsTrueView first log served waiting u) s.views id w mine others;
        apart = λ i j a b t ia jb ta tb. set_cases (λ i (x : V). ticket_of x.stage ≡ some t → i ≡ j) s.views id w
            (λ tx. set_cases (λ j (y : V). ticket_of y.stage ≡ some t → id ≡ j) s.views id w (λ _. refl) (λ j y n e ty. absurd (alone j y t n e tx ty)) j b jb tb)
            (λ i x n e tx. set_cases (λ j (y : V). ticket_of y.stage ≡ some t → i ≡ j) s.views id w (λ ty. absurd (alone i x t n e ty tx)) (λ j y _ f ty. r.apart i j x y t e f tx ty) j b jb tb)
            i a ia ta;
        slot = slot;
      }

  -- the low 64 bits of the next number
  low_next : (n : ℕ) → (n % 18446744073709551616 + 1) % 18446744073709551616 ≡ (n + 1) % 18446744073709551616
  low_next n = mod-add-mod n 18446744073709551616 1

  -- drawing a ticket keeps the rule
  pub draws : (slots id : ℕ) (me : Me S V) → is_idle me.0.stage ≡ true → 0 < number_count me.0 → Allows Kept slots id me 0 (λ n. (n + 1) % 2 ^ 64) (drew (step slots 0 1 0 none) me)
  draws slots id me idle some_number s r long at small =
      let k : ℕ = r.served + r.waiting in let v : V = me.0 in let w : V = staged v (Waiting k) in let still = idle_is v.stage idle in let know = r.knows id v at in
      let free : tickets v ≡ 0 = ap tickets_in still in
      let found : get_or s.words 0 0 ≡ k % 18446744073709551616 = ap (λ (l : List ℕ). get_or l 0 0) r.words in
      let next : (get_or s.words 0 0 + 1) % 18446744073709551616 ≡ (r.served + (r.waiting + 1)) % 18446744073709551616 = ap (λ (n : ℕ). (n + 1) % 18446744073709551616) found ∙ (low_next k ∙ ap (λ (n : ℕ). n % 18446744073709551616) (omega arith)) in
      let words : set s.words 0 ((get_or s.words 0 0 + 1) % 18446744073709551616) ≡ ((r.served + (r.waiting + 1)) % 18446744073709551616) ∷ (r.served % 18446744073709551616) ∷ [] =
      ap (λ (l : List ℕ). set l 0 ((get_or s.words 0 0 + 1) % 18446744073709551616)) r.words ∙ ap (λ (n : ℕ). n ∷ (r.served % 18446744073709551616) ∷ []) next in (
        w,
        keeps,
        tt,
        moved s r id v w at r.log r.served (r.waiting + 1) _ s.homes words (omega arith) (inl refl) r.turns r.legal r.keeps r.named
            record { begun = know.begun; claims = know.claims; named = some_number; stands = (omega arith, omega arith) }
            (λ j u _ e. let other = r.knows j u e in record { begun = other.begun; claims = other.claims; named = other.named; stands = stands_longer r.log r.served r.waiting u.stage other.stands })
            (λ j u t _ e tw tu. let is : k ≡ t = some-injective k t tw in let low = stands_in r.log r.served r.waiting u.stage t (r.knows j u e).stands tu in let b = low.1 in omega arith)
            (slot_stays (replay_turns after first r.log) s.homes s.views id v w at (ap is_serving (sym still)) r.slot),
        (k, sym found, refl),
      )

  -- no more tickets stand in the line than there are numbers
  few : (s : St) (r : Kept s) → r.waiting ≤ seats
  few s r = let a = total_le tickets number_count s.views (λ j u e. (r.knows j u e).named) in let b = r.line in let c = r.room in omega arith

  -- a step that changes nothing
  unmoved : (s : St) (r : Kept s) (i id : ℕ) (me : Me S V) → get_elem? s.views id ≡ some me.0 → Kept (stepped s i (get_or s.words i 0) id me.1 me.0 keeps)
  unmoved s r i id me at = subst (λ (ws : List ℕ). Kept record { words = ws; homes = s.homes; views = set s.views id me.0 }) (sym (set-get_or s.words i 0))
      (subst (λ (vs : List V). Kept record { words = s.words; homes = s.homes; views = vs }) (sym (set_again s.views id me.0 at)) r)

  -- who has the ticket that is served is the seat that is served, if there is one
  served_one : (s : St) (r : Kept s) (id j : ℕ) (v u : V) → get_elem? s.views id ≡ some v → ticket_of v.stage ≡ some r.served → get_elem? s.views j ≡ some u → is_serving u.stage ≡ true → j ≡ id
  served_one s r id j v u at ticket there out = r.apart j id u v r.served there at (serving_ticket r.log r.served r.waiting u.stage out (r.knows j u there).stands) ticket

  -- a seat whose ticket is served, and which hasn't entered, finds the slot at home
  at_home : (s : St) (r : Kept s) (id : ℕ) (v : V) → get_elem? s.views id ≡ some v → ticket_of v.stage ≡ some r.served → is_serving v.stage ≡ false → s.homes ≡ some (replay_turns after first r.log) ∷ []
  at_home s r id v at ticket not_yet = ⊎_elim (λ h. h.0)
      (λ (h : (s.homes ≡ none ∷ []) × ((j : ℕ) × (u : V) × (get_elem? s.views j ≡ some u) × (is_serving u.stage ≡ true))). let j : ℕ = h.1.0 in let u : V = h.1.1 in let same_seat = served_one s r id j v u at ticket h.1.2 h.1.3 in
      let one = some-injective v u (sym at ∙ subst (λ i. get_elem? s.views i ≡ some u) same_seat h.1.2) in
      let wrong : false ≡ true = sym not_yet ∙ (ap (λ (x : V). is_serving x.stage) one ∙ h.1.3) in absurd cc)
      r.slot

  -- a seat waits with one ticket
  same_tickets : (v : V) (k j : ℕ) → v.stage ≡ Waiting k → v.stage ≡ Waiting j → k ≡ j
  same_tickets v k j a b = some-injective k j (sym (ap ticket_of a) ∙ ap ticket_of b)

  -- reading the ticket that is served keeps the rule
  pub looks : (slots id : ℕ) (me : Me S V) (k : ℕ) → me.0.stage ≡ Waiting k → me.1 ≡ [] → Allows Kept slots id me 1 (λ n. n) (looked logs after kept (step slots 1 0 0 none) me)
  looks slots id me k stage empty s r long at small =
      let v : V = me.0 in let know = r.knows id v at in let n : ℕ = get_or s.words 1 0 in let found : n ≡ r.served % 18446744073709551616 = ap (λ (l : List ℕ). get_or l 1 0) r.words in
      let stands : StandsIn r.log r.served r.waiting (Waiting k) = subst (StandsIn r.log r.served r.waiting) stage know.stands in dite (ℕ_discrete n (k % 18446744073709551616))
      (λ yes. let a = stands.0 in let b = stands.1 in let c = few s r in let d = r.small in let same_ticket : r.served ≡ k = one_turn r.served k 18446744073709551616 a (omega arith) (sym found ∙ yes) in
      let y : S = replay_turns after first r.log in let w : V = staged v (Serving k r.log) in
      let home = at_home s r id v at (ap ticket_of stage ∙ ap some (sym same_ticket)) (ap is_serving stage) in
      let out : set s.homes 0 none ≡ none ∷ [] = ap (λ l. set l 0 none) home in (
        w,
        takes 0 y,
        ap (λ l. get_elem? l 0) home,
        moved s r id v w at r.log r.served r.waiting _ (set s.homes 0 none) (set-get_or s.words 1 0 ∙ r.words) (ap (λ (z : Stage E). tickets_in z + r.waiting) (sym stage)) (inl refl) r.turns r.legal r.keeps r.named
            record { begun = know.begun; claims = know.claims; named = subst (λ (z : Stage E). tickets_in z ≤ number_count v) stage know.named; stands = (sym same_ticket, omega arith, refl) }
            (λ j u _ e. r.knows j u e)
            (λ j u t other e tw tu. other (r.apart j id u v t e at tu (ap ticket_of stage ∙ tw)))
            (inr (out, (id, w, set_at s.views id v w at, refl))),
        (λ k' is _. let one = same_tickets v k k' stage is in (
          (λ no. absurd (no (yes ∙ ap (λ (z : ℕ). z % 18446744073709551616) one))),
          (λ _. record {
            log = r.log;
            value = y;
            seat = (λ i. (staged v (Serving (one i) r.log), (0, y) ∷ empty i));
            replayed = (λ b begun. let begin = sym (know.begun b begun) in (ap (λ (z : S). replay_turns after z r.log) begin, subst (λ (z : S). IsLegal logs after z r.log) begin r.legal));
            keeps = r.keeps;
            claims = know.claims;
          }),
        )),
      ))
      (λ no. (v, keeps, tt, unmoved s r 1 id me at, (λ k' is _. ((λ _. refl), (λ yes. absurd (no (yes ∙ ap (λ (z : ℕ). z % 18446744073709551616) (sym (same_tickets v k k' stage is)))))))))

  -- what a view's claims say of a history
  abbrev Claims : Hist → V → Type 0
  Claims log v = (i : ℕ) (c : Claim E) → get_elem? v.claims i ≡ some c → IsClaim log c

  -- the seat that is served leaves, and the next ticket is served
  leaves : (s : St) (r : Kept s) (id : ℕ) (v w : V) (k : ℕ) (whole : Hist) (y y' : S) → get_elem? s.views id ≡ some v → v.stage ≡ Serving k whole → w.stage ≡ Idle → w.first ≡ v.first → (log : Hist)
      → w.claims ≡ v.claims ⊎ ((number_count w ≡ number_count v) × ((n : ℕ) → has n w ≡ has n v))
      → length log ≤ r.served + 1 → IsLegal logs after first log → kept (replay_turns after first log) ≡ entries log → ((n : ℕ) → seats ≤ n → entries_by n log ≡ []) → y' ≡ replay_turns after first log
      → Claims log w → ((j : ℕ) (u : V) → j ≢ id → get_elem? s.views j ≡ some u → Claims log u) → Kept (stepped s 1 ((get_or s.words 1 0 + 1) % 2 ^ 64) id ((0, y') ∷ []) w gives)
  leaves s r id v w k whole y y' at stage idle same_first log numbers turns legal tied named value mine others =
      let know = r.knows id v at in let stands : StandsIn r.log r.served r.waiting (Serving k whole) = subst (StandsIn r.log r.served r.waiting) stage know.stands in
      let here : k ≡ r.served = stands.0 in let some_ticket : 0 < r.waiting = stands.1 in
      let ticket : ticket_of v.stage ≡ some r.served = ap ticket_of stage ∙ ap some here in
      let found : get_or s.words 1 0 ≡ r.served % 18446744073709551616 = ap (λ (l : List ℕ). get_or l 1 0) r.words in
      let next : (get_or s.words 1 0 + 1) % 18446744073709551616 ≡ (r.served + 1) % 18446744073709551616 = ap (λ (n : ℕ). (n + 1) % 18446744073709551616) found ∙ low_next r.served in
      let more : r.served + r.waiting ≡ (r.served + 1) + (r.waiting - 1) = omega arith in
      let words : set s.words 1 ((get_or s.words 1 0 + 1) % 18446744073709551616) ≡ (((r.served + 1) + (r.waiting - 1)) % 18446744073709551616) ∷ ((r.served + 1) % 18446744073709551616) ∷ [] =
      ap (λ (l : List ℕ). set l 1 ((get_or s.words 1 0 + 1) % 18446744073709551616)) r.words ∙ (λ i. ((more i) % 18446744073709551616) ∷ (next i) ∷ []) in
      let out : set s.homes 0 (some y') ≡ some (replay_turns after first log) ∷ [] =
      ⊎_elim (λ h. let wrong : true ≡ false = sym (ap is_serving stage) ∙ h.1 id v at in absurd cc) (λ h. ap (λ l. set l 0 (some y')) h.0 ∙ ap (λ (z : S). some z ∷ []) value) r.slot in
      let one : tickets v ≡ 1 = ap tickets_in stage in let none_left : tickets w ≡ 0 = ap tickets_in idle in
      moved s r id v w at log (r.served + 1) (r.waiting - 1) _ _ words (omega arith) numbers turns legal tied named
      record { begun = λ b h. know.begun b (sym same_first ∙ h); claims = mine; named = omega arith; stands = subst (StandsIn log (r.served + 1) (r.waiting - 1)) (sym idle) tt }
      (λ j u other e. let him = r.knows j u e in record {
        begun = him.begun;
        claims = others j u other e;
        named = him.named;
        stands = stands_nearer r.log log r.served r.waiting u.stage
            (λ t. other (r.apart j id u v r.served e at t ticket)) him.stands;
      })
      (λ j u t _ e tw tu. absurd (some-ne-none t (sym tw ∙ ap ticket_of idle)))
      (inl (out, set_cases (λ j (u : V). is_serving u.stage ≡ false) s.views id w (ap is_serving idle) (λ j u other e. not_serving u.stage (λ h. other (served_one s r id j v u at ticket e h)))))

  -- the seat that is served leaves with no entry
  pub skips : (slots id : ℕ) (me : Me S V) (k : ℕ) (whole : Hist) (y : S) → me.0.stage ≡ Serving k whole → me.0.first ≡ Some first → me.1 ≡ (0, y) ∷ [] → y ≡ replay_turns after first whole
      → Allows Kept slots id me 1 (λ n. (n + 1) % 2 ^ 64) (nothing_added (step slots 1 1 0 none) me)
  skips slots id me k whole y stage begun holds value s r long at small =
      let v : V = me.0 in let w : V = staged v Idle in let know = r.knows id v at in
      let stands : StandsIn r.log r.served r.waiting (Serving k whole) = subst (StandsIn r.log r.served r.waiting) stage know.stands in let turns = r.turns in (
        w,
        gives,
        tt,
        subst (λ cs. Kept (stepped s 1 ((get_or s.words 1 0 + 1) % 2 ^ 64) id cs w gives)) (sym holds)
            (leaves s r id v w k whole y y at stage refl refl r.log (inl refl) (omega arith) r.legal r.keeps r.named (value ∙ ap (replay_turns after first) stands.2) know.claims (λ j u _ e. (r.knows j u e).claims)),
        refl,
      )

  -- a number that a view has is below the number of seats, and no other view has it
  below : (s : St) (r : Kept s) (id n : ℕ) (v : V) → get_elem? s.views id ≡ some v → 0 < has n v → n < seats
  below s r id n v at some_time = let a = total_one (has n) s.views id v at in let b = r.once n in let c : 0 < cond (ltb n seats) 1 0 = omega arith in grind (arith, nat_tests)

  -- nor has another view a number that one has
  alone : (s : St) (r : Kept s) (id j n : ℕ) (v u : V) → get_elem? s.views id ≡ some v → get_elem? s.views j ≡ some u → j ≢ id → 0 < has n v → has n u ≡ 0
  alone s r id j n v u at there other some_time = let a = total_two (has n) s.views id j v u (λ e. other (sym e)) at there in let b = r.once n in let c : cond (ltb n seats) 1 0 ≤ 1 = grind (arith, nat_tests) in omega arith

  -- a history with one more turn of a number leaves the claims of others
  claims_stay : (log : Hist) (m : ℕ) (e : E) (u : V) → has m u ≡ 0 → Claims log u → Claims (log ++ turn_of m e ∷ []) u
  claims_stay log m e u none_of claims i c at = let old = claims i c at in (
    prefix_more c.seen log (turn_of m e ∷ []) old.0,
    λ n some_time. by_other n m e log
        (λ is. let a = total_one (λ (c : Claim E). times n c.numbers) u.claims i c at in let b : has n u ≡ 0 = subst (λ (x : ℕ). has x u ≡ 0) is none_of in omega arith) ∙ old.1 n some_time,
  )

  -- the seat that is served leaves with one more entry
  pub adds : (slots id : ℕ) (me : Me S V) (k : ℕ) (whole : Hist) (c : Claim E) (op : O) (e : E) (y : S) → me.0.stage ≡ Serving k whole → me.0.first ≡ Some first → me.0.claims ≡ c ∷ [] → 0 < length c.numbers
      → me.1 ≡ (0, y) ∷ [] → y ≡ (after (replay_turns after first whole) e).0 → logs (replay_turns after first whole) (get_or c.numbers 0 0) op e → kept y ≡ entries whole ++ e ∷ []
      → Allows Kept slots id me 1 (λ n. (n + 1) % 2 ^ 64) (entry_added kept (step slots 1 1 0 none) me)
  adds slots id me k whole c op e y stage begun claim some_number holds value logged keeps_one s r long at small =
      let v : V = me.0 in let know = r.knows id v at in let m : ℕ = get_or c.numbers 0 0 in
      let stands : StandsIn r.log r.served r.waiting (Serving k whole) = subst (StandsIn r.log r.served r.waiting) stage know.stands in
      let turns = r.turns in let same_log : whole ≡ r.log = stands.2 in
      let log : Hist = whole ++ turn_of m e ∷ [] in let c' : Claim E = with_turn c whole e in
      let w : V = record { first = v.first; stage = Idle; claims = c' ∷ [] } in
      let mine : (n : ℕ) → has n w ≡ has n v = λ n. sym (ap (total (λ (c : Claim E). times n c.numbers)) claim) in
      let there : 0 < has m v = (let a = first_there c.numbers some_number in let b = mine m in omega arith) in
      let now : y ≡ replay_turns after first log = value ∙ sym (replay_append logs after first whole (turn_of m e ∷ [])) in (
        w,
        gives,
        tt,
        subst (λ cs. Kept (stepped s 1 ((get_or s.words 1 0 + 1) % 2 ^ 64) id cs w gives)) (sym holds)
            (leaves s r id v w k whole y y at stage refl refl log
            (inr (sym (ap (total (λ (c : Claim E). length c.numbers)) claim), mine))
            (omega (arith, length-append whole (turn_of m e ∷ []), ap length same_log))
            (legal_more logs after first whole (turn_of m e ∷ []) (subst (IsLegal logs after first) (sym same_log) r.legal) ((op, logged), tt))
            (ap kept (sym now) ∙ (keeps_one ∙ sym (entries_append whole (turn_of m e ∷ []))))
            (λ n far. let near = below s r id m v at there in by_other n m e whole (λ is. omega arith) ∙ (ap (entries_by n) same_log ∙ r.named n far))
            now
            (at_only (λ i (d : Claim E). IsClaim log d) c' (prefix_all log, λ n _. refl))
            (λ j u other e'. subst (λ (h : Hist). Claims (h ++ turn_of m e ∷ []) u) (sym same_log) (claims_stay r.log m e u (alone s r id j m v u at e' other there) (r.knows j u e').claims))),
        (λ k' whole' c1 y1 e1 stage' claim' holds' keeps'.
            let same_whole : whole ≡ whole' = sym (ap whole_of stage) ∙ ap whole_of stage' in let same_claim = the_one c c1 (sym claim ∙ claim') in
            let same_slot : y ≡ y1 = ap (λ (z : ℕ × S). z.1) (the_one (0, y) (0, y1) (sym holds ∙ holds')) in
            let same_entry = the_one e e1 (append_cancel_left (entries whole) (e ∷ []) (e1 ∷ []) (sym keeps_one ∙ (ap kept same_slot ∙ (keeps' ∙ ap (λ (h : Hist). entries h ++ e1 ∷ []) (sym same_whole))))) in
            (λ i. (record { first = v.first; stage = Idle; claims = with_turn (same_claim i) (same_whole i) (same_entry i) ∷ [] }, ap rest holds i))),
      )

  -- where two parts of a view count what it counted, so do all views
  part_totals : (f : V → ℕ) (views : List V) (id : ℕ) (v left right : V) → get_elem? views id ≡ some v → f left + f right ≡ f v → total f (set views id left ++ right ∷ []) ≡ total f views
  part_totals f views id v left right at both = let a = total_set f views id v left at in let b = total_append f (set views id left) (right ∷ []) in omega arith

  -- the claims of a part, which has some of the numbers
  part_claims : (log : Hist) (part : List ℕ → List ℕ) → ((n : ℕ) (xs : List ℕ) → times n (part xs) ≤ times n xs) → (claims : List (Claim E)) → ((i : ℕ) (c : Claim E) → get_elem? claims i ≡ some c → IsClaim log c)
      → (i : ℕ) (c : Claim E) → get_elem? (map (λ (c : Claim E). record { numbers = part c.numbers; seen = c.seen }) claims) i ≡ some c → IsClaim log c
  part_claims log part fewer claims all i c at = let from = at_mapped (λ (c : Claim E). record { numbers = part c.numbers; seen = c.seen }) claims i c at in let old = all i from.0 from.1 in
      subst (IsClaim log) from.2 (old.0, λ n some_time. let few = fewer n from.0.numbers in old.1 n (omega arith))

  -- an idle seat has no ticket
  no_ticket : (st : Stage E) (t : ℕ) {P : Type 0} → st ≡ Idle → ticket_of st ≡ some t → P
  no_ticket st t is e = absurd (some-ne-none t (sym e ∙ ap ticket_of is))

  -- a split keeps the rule
  pub splits : (id : ℕ) (v : V) → is_idle v.stage ≡ true → Splits Kept id v (first_part v) (later_part v)
  splits id v idle s r at =
      let left : V = first_part v in let right : V = later_part v in let still = idle_is v.stage idle in let know = r.knows id v at in let free : tickets v ≡ 0 = ap tickets_in still in
      let part_count : number_count left + number_count right ≡ number_count v = total_parts (λ (c : Claim E). length c.numbers) (λ (c : Claim E). record { numbers = take 1 c.numbers; seen = c.seen }) (λ (c : Claim E). record { numbers = drop 1 c.numbers; seen = c.seen })
      (λ (c : Claim E). length c.numbers) (λ c. length_parts c.numbers) v.claims in
      let part_has : (n : ℕ) → has n left + has n right ≡ has n v = λ n. total_parts (λ (c : Claim E). times n c.numbers) (λ (c : Claim E). record { numbers = take 1 c.numbers; seen = c.seen }) (λ (c : Claim E). record { numbers = drop 1 c.numbers; seen = c.seen })
      (λ (c : Claim E). times n c.numbers) (λ c. times_parts n c.numbers) v.claims in
      let left_ok : IsTrueView first r.log r.served r.waiting left =
      record { begun = know.begun; claims = part_claims r.log (take 1) (λ n xs. let a = times_parts n xs in omega arith) v.claims know.claims; named = omega arith; stands = know.stands } in
      let right_ok : IsTrueView first r.log r.served r.waiting right =
      record { begun = know.begun; claims = part_claims r.log (drop 1) (λ n xs. let a = times_parts n xs in omega arith) v.claims know.claims; named = omega arith; stands = tt } in
      let vs : List V = set s.views id left in
      let each : (P : ℕ → V → Type 0) → P id left → ((j : ℕ) → P j right) → ((j : ℕ) (u : V) → j ≢ id → get_elem? s.views j ≡ some u → P j u) → (j : ℕ) (u : V) → get_elem? (vs ++ right ∷ []) j ≡ some u → P j u =
      (λ P one two others j u e. ⊎_elim (λ h. set_cases P s.views id left one others j u h) (λ h. subst (P j) h (two j)) (at_snoc vs right u j e)) in
      record {
        log = r.log;
        served = r.served;
        waiting = r.waiting;
        words = r.words;
        line = part_totals tickets s.views id v left right at (omega arith) ∙ r.line;
        room = part_totals number_count s.views id v left right at part_count ∙ r.room;
        once = λ n. part_totals (has n) s.views id v left right at (part_has n) ∙ r.once n;
        small = r.small;
        turns = r.turns;
        legal = r.legal;
        keeps = r.keeps;
        named = r.named;
        knows = each (λ j u. IsTrueView first r.log r.served r.waiting u) left_ok (λ j. right_ok) (λ j u _ e. r.knows j u e);
        apart = λ i j a b t ia jb ta tb. each (λ i x. ticket_of x.stage ≡ some t → i ≡ j) (λ tx. no_ticket v.stage t still tx) (λ i tx. no_ticket Idle t refl tx)
            (λ i x n e tx. each (λ j y. ticket_of y.stage ≡ some t → i ≡ j) (λ ty. no_ticket v.stage t still ty) (λ j ty. no_ticket Idle t refl ty) (λ j y _ f ty. r.apart i j x y t e f tx ty) j b jb tb) i a ia ta;
        slot = ⊎_elim
            (λ h. inl (h.0, λ j u e. ⊎_elim (h.1 j u) (λ p. ap (λ (z : V). is_serving z.stage) (sym p)) (at_snoc vs right u j e)))
            (λ h. inr (h.0, (h.1.0, h.1.1, at_longer vs (right ∷ []) h.1.0 h.1.1 h.1.2, h.1.3)))
            (slot_stays (replay_turns after first r.log) s.homes s.views id v left at refl r.slot);
      }

  -- a join keeps the rule
  pub joins : (id : ℕ) (v : V) (other : ℕ) (w : V) → is_idle v.stage ≡ true → is_idle w.stage ≡ true → Joins Kept id v other w (both_views v w) spent
  joins id v other w idle_v idle_w s r at differ there =
      let both : V = both_views v w in let vs : List V = set s.views id both in let still_v = idle_is v.stage idle_v in let still_w = idle_is w.stage idle_w in
      let theirs : get_elem? s.views other ≡ some w = sym (set_else s.views id other both differ) ∙ there in
      let know_v = r.knows id v at in let know_w = r.knows other w theirs in
      let free_v : tickets v ≡ 0 = ap tickets_in still_v in let free_w : tickets w ≡ 0 = ap tickets_in still_w in
      let sums : (f : V → ℕ) → f both ≡ f w + f v → f spent ≡ 0 → total f (set vs other spent) ≡ total f s.views =
      (λ f sum none_left. let a = total_set f s.views id v both at in let b = total_set f vs other w spent there in omega arith) in
      let each : (P : ℕ → V → Type 0) → P id both → P other spent → ((j : ℕ) (u : V) → get_elem? s.views j ≡ some u → P j u) → (j : ℕ) (u : V) → get_elem? (set vs other spent) j ≡ some u → P j u =
      (λ P one two others. set_cases P vs other spent two (λ j u _ e. set_cases P s.views id both one (λ i x _ f. others i x f) j u e)) in
      record {
        log = r.log;
        served = r.served;
        waiting = r.waiting;
        words = r.words;
        line = sums tickets (omega arith) refl ∙ r.line;
        room = sums number_count (total_append (λ (c : Claim E). length c.numbers) w.claims v.claims) refl ∙ r.room;
        once = λ n. sums (has n) (total_append (λ (c : Claim E). times n c.numbers) w.claims v.claims) refl ∙ r.once n;
        small = r.small;
        turns = r.turns;
        legal = r.legal;
        keeps = r.keeps;
        named = r.named;
        knows = each (λ j u. IsTrueView first r.log r.served r.waiting u)
            record { begun = know_v.begun; claims = at_append (IsClaim r.log) w.claims v.claims know_w.claims know_v.claims; named = omega arith; stands = know_v.stands }
            record { begun = λ b h. absurd cc; claims = λ i c e. absurd (some-ne-none c (sym e)); named = omega arith; stands = tt }
            r.knows;
        apart = λ i j a b t ia jb ta tb. each (λ i x. ticket_of x.stage ≡ some t → i ≡ j) (λ tx. no_ticket v.stage t still_v tx) (λ tx. no_ticket Idle t refl tx)
            (λ i x e tx. each (λ j y. ticket_of y.stage ≡ some t → i ≡ j) (λ ty. no_ticket v.stage t still_v ty) (λ ty. no_ticket Idle t refl ty) (λ j y f ty. r.apart i j x y t e f tx ty) j b jb tb) i a ia ta;
        slot = slot_stays (replay_turns after first r.log) s.homes vs other w spent there (sym (ap is_serving still_w)) (slot_stays (replay_turns after first r.log) s.homes s.views id v both at refl r.slot);
      }

  -- the rule holds at the start
  pub opens : kept first ≡ [] → seats < 4294967296 → Kept (opening (0 ∷ 0 ∷ []) (first ∷ []) (opening_view first seats))
  opens empty small = let v : V = opening_view first seats in
      record {
        log = [];
        served = 0;
        waiting = 0;
        words = refl;
        line = refl;
        room = (let a = length-range_with_len 0 seats in omega arith);
        once = λ n. (let a = times_range n 0 seats in grind (arith, nat_tests));
        small = small;
        turns = omega arith;
        legal = tt;
        keeps = empty;
        named = λ n far. refl;
        knows = at_only (λ j (u : V). IsTrueView first [] 0 0 u) v record { begun = λ b h. cc; claims = at_only (λ i (c : Claim E). IsClaim [] c) (record { numbers = range_with_len 0 seats; seen = [] }) (prefix_all [], λ n _. refl); named = omega arith; stands = tt };
        apart = λ i j a b t ia jb ta tb. at_only (λ i (x : V). ticket_of x.stage ≡ some t → i ≡ j) v (λ tx. no_ticket Idle t refl tx) i a ia ta;
        slot = inl (refl, at_only (λ j (u : V). is_serving u.stage ≡ false) v refl);
      }

  -- where one view has all numbers and no ticket, the value is at home
  pub closes : (s : St) (r : Kept s) (id : ℕ) (v : V) → get_elem? s.views id ≡ some v → is_idle v.stage ≡ true → number_count v ≡ seats → s.homes ≡ some (replay_turns after first r.log) ∷ []
  closes s r id v at idle all = ⊎_elim (λ h. h.0)
      (λ (h : (s.homes ≡ none ∷ []) × ((j : ℕ) × (u : V) × (get_elem? s.views j ≡ some u) × (is_serving u.stage ≡ true))). let j : ℕ = h.1.0 in let u : V = h.1.1 in let whose = serving_is u.stage h.1.3 in let one : tickets u ≡ 1 = ap tickets_in whose.2 in
      dite (ℕ_discrete j id)
      (λ is. let same_view = some-injective v u (sym at ∙ subst (λ i. get_elem? s.views i ≡ some u) is h.1.2) in
      let none_there : tickets u ≡ 0 = ap tickets_in (sym (ap (λ (x : V). x.stage) same_view) ∙ idle_is v.stage idle) in absurd (omega arith))
      (λ other. let a = total_two number_count s.views id j v u (λ e. other (sym e)) at h.1.2 in let b = r.room in let c = (r.knows j u h.1.2).named in absurd (omega arith)))
      r.slot
