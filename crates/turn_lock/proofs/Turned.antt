-- What a turn shows of the history that it met.
use Rattle.turn_lock.proofs.Words.{◌≡◌, ℕ, ◌+◌, ◌-◌, ◌%◌, ◌^◌, ◌<◌, ◌≢◌, true, Result, Ok, Err, IfOk, OnErr, List, [], ◌∷◌, ◌++◌, length, get_or, Some, sym, refl, ap, ◌∙◌, subst, arith, range_with_len, nat_tests, none, some-injective, IsPrefix, get_elem?, rest, step, Allows, Turn, Claim, View, Stage, Idle, Serving, Sat, Enters, entry_added, nothing_added, with_turn, turn_of, entries, entries_by, replay_turns, IsLegal, times, is_idle, IsClaim, staged, Rule, seen_by, first_numbers, Served}
use Rattle.turn_lock.proofs.Totals.{times_range}
use Rattle.turn_lock.proofs.Histories.{by_append, by_other, by_same, nothing_after, replay_append, legal_later, legal_more, own_stays}
use Rattle.turn_lock.proofs.Keeps.{adds, skips, first_there}

-- a list of one
pub only_one : {A : Type 0} (xs : List A) → length xs ≡ 1 → (a : A) × (xs ≡ a ∷ [])
only_one [] e = absurd (omega arith)
only_one (x ∷ []) e = (x, refl)
only_one (x ∷ y ∷ ys) e = absurd (omega arith)

module _ {S O E R W : Type 0} (logs : S → ℕ → O → E → Type 0) (after : S → E → S × R) (own : S → ℕ → W)
    (others : (s : S) (n : ℕ) (op : O) (e : E) (k : ℕ) → logs s n op e → k ≢ n → own (after s e).0 k ≡ own s k) where
  -- what a number owns is what its claim knew, since the turns after it were others'
  pub own_met : (first : S) (n : ℕ) (log : List (Turn E)) (c : Claim E) → IsClaim log c → 0 < times n c.numbers → IsLegal logs after first log → own (replay_turns after first log) n ≡ own (replay_turns after first c.seen) n
  own_met first n log c claim some_time legal =
      let later : List (Turn E) = claim.0.0 in let is : c.seen ++ later ≡ log = claim.0.1 in
      let none_made : entries_by n later ≡ [] = nothing_after (entries_by n c.seen) (entries_by n later) (sym (by_append n c.seen later) ∙ (ap (entries_by n) is ∙ claim.1 n some_time)) in
      ap (λ (h : List (Turn E)). own (replay_turns after first h) n) (sym is)
      ∙ (ap (λ (s : S). own s n) (replay_append logs after first c.seen later)
      ∙ own_stays logs after own others n (replay_turns after first c.seen) later (legal_later logs after first c.seen later (subst (IsLegal logs after first) (sym is) legal)) none_made)

-- the seat that waited has entered
pub waited : {S O E R : Type 0} (logs : S → ℕ → O → E → Type 0) (after : S → E → S × R) (kept : S → List E) (k : ℕ) (v : View S E) (stage : Stage E) (m : Sat S E) → Enters logs after kept k (staged v stage) m → Enters logs after kept k v m
waited logs after kept k v stage m e = record { log = e.log; value = e.value; seat = e.seat; replayed = e.replayed; keeps = e.keeps; claims = e.claims }

-- the seat that has entered, by its parts
pub ready : {S E : Type 0} (v : View S E) (m : Sat S E) (k : ℕ) (log : List (Turn E)) (y first : S) (c : Claim E) (now x : S) → m ≡ (staged v (Serving k log), (0, y) ∷ []) → v.first ≡ Some first → v.claims ≡ c ∷ []
    → m.1 ≡ (0, now) ∷ rest m.1 → (m.0.stage ≡ Serving k log) × (m.0.first ≡ Some first) × (m.0.claims ≡ c ∷ []) × ((0, x) ∷ rest m.1 ≡ (0, x) ∷ []) × (now ≡ y)
ready {S} {E} v m k log y first c now x is begun claim slot = (
  ap (λ (p : Sat S E). p.0.stage) is,
  ap (λ (p : Sat S E). p.0.first) is ∙ begun,
  ap (λ (p : Sat S E). p.0.claims) is ∙ claim,
  ap (λ (p : Sat S E). (0, x) ∷ rest p.1) is,
  (let heads = some-injective (0, now) (0, y) (ap (λ (l : List (ℕ × S)). get_elem? l 0) (sym slot ∙ ap (λ (p : Sat S E). p.1) is)) in ap (λ (p : ℕ × S). p.1) heads),
)

-- what one step of the machine did to the replay of a history
pub wrote : {S O E R : Type 0} (logs : S → ℕ → O → E → Type 0) (after : S → E → S × R) (kept : S → List E) → ((s : S) (n : ℕ) (op : O) (e : E) → logs s n op e → kept (after s e).0 ≡ kept s ++ e ∷ [])
    → (s now y state : S) (n : ℕ) (op : O) (e : E) (r : R) (log : List (Turn E)) → now ≡ y → y ≡ s → logs now n op e → (state, r) ≡ after now e → kept y ≡ entries log
    → (state ≡ (after s e).0) × logs s n op e × (kept state ≡ entries log ++ e ∷ []) × (r ≡ (after s e).1)
wrote {S} {O} {E} {R} logs after kept keeps s now y state n op e r log here is logged did all =
    let at_s = here ∙ is in let at : (state, r) ≡ after s e = did ∙ ap (λ (z : S). after z e) at_s in let logged_s = subst (λ (z : S). logs z n op e) at_s logged in (
      ap (λ (p : S × R). p.0) at,
      logged_s,
      ap kept (ap (λ (p : S × R). p.0) at) ∙ (keeps s n op e logged_s ∙ (ap (λ (z : S). kept z ++ e ∷ []) (sym is) ∙ ap (λ (l : List E). l ++ e ∷ []) all)),
      ap (λ (p : S × R). p.1) at,
    )

module _ {S O E R W : Type 0} (logs : S → ℕ → O → E → Type 0) (after : S → E → S × R) (own : S → ℕ → W) (kept : S → List E)
    (keeps : (s : S) (n : ℕ) (op : O) (e : E) → logs s n op e → kept (after s e).0 ≡ kept s ++ e ∷ [])
    (others : (s : S) (n : ℕ) (op : O) (e : E) (k : ℕ) → logs s n op e → k ≢ n → own (after s e).0 k ≡ own s k)
    (v : View S E) (m : Sat S E) (k n : ℕ) (first now : S) (entered : Enters logs after kept k v m) (begun : v.first ≡ Some first)
    (one : length v.claims ≡ 1) (some_number : 0 < length (first_numbers v.claims)) (named : get_or (first_numbers v.claims) 0 0 ≡ n) (slot : m.1 ≡ (0, now) ∷ rest m.1) where
  abbrev Hist : Type 0
  Hist = List (Turn E)

  abbrev log : Hist
  log = entered.log

  abbrev y : S
  y = entered.value

  -- the one claim of the pass
  claim : (c : Claim E) × (v.claims ≡ c ∷ [])
  claim = only_one v.claims one

  -- it is a claim of the whole history
  is_claim : (c : Claim E) → v.claims ≡ c ∷ [] → IsClaim log c
  is_claim c e = entered.claims 0 c (ap (λ (l : List (Claim E)). get_elem? l 0) e)

  -- the value is the replay of a legal history
  replayed : (y ≡ replay_turns after first log) × IsLegal logs after first log
  replayed = entered.replayed first begun

  -- the seat by its parts, with x in its slot
  parts : (c : Claim E) → v.claims ≡ c ∷ [] → (x : S) → (m.0.stage ≡ Serving k log) × (m.0.first ≡ Some first) × (m.0.claims ≡ c ∷ []) × ((0, x) ∷ rest m.1 ≡ (0, x) ∷ []) × (now ≡ y)
  parts c e x = ready v m k log y first c now x entered.seat begun e slot

  -- the first number of the claim
  first_of : (c : Claim E) → v.claims ≡ c ∷ [] → get_or c.numbers 0 0 ≡ n
  first_of c e = sym (ap (λ (l : List (Claim E)). get_or (first_numbers l) 0 0) e) ∙ named

  -- it has numbers
  some_of : (c : Claim E) → v.claims ≡ c ∷ [] → 0 < length c.numbers
  some_of c e = subst (λ (l : List (Claim E)). 0 < length (first_numbers l)) e some_number

  -- what the number owns in the replay is what the claim knew
  met_at : (c : Claim E) → v.claims ≡ c ∷ [] → own (replay_turns after first log) n ≡ own (replay_turns after first (seen_by v.claims)) n
  met_at c e = own_met logs after own others first n log c (is_claim c e) (subst (λ (x : ℕ). 0 < times x c.numbers) (first_of c e) (first_there c.numbers (some_of c e))) replayed.1
      ∙ ap (λ (l : List (Claim E)). own (replay_turns after first (seen_by l)) n) (sym e)

  -- what the number owns is what the pass knew
  pub met : own now n ≡ own (replay_turns after first (seen_by v.claims)) n
  met = ap (λ (s : S). own s n) ((parts claim.0 claim.1 now).4 ∙ replayed.0) ∙ met_at claim.0 claim.1

  -- the seat may leave where the step found no memory
  pub leaves_as_it_was : (state : S) → state ≡ now → (seats slots id : ℕ) → Allows (Rule logs after kept first seats) slots id (m.0, (0, state) ∷ rest m.1) 1 (λ x. (x + 1) % 2 ^ 64) (nothing_added (step slots 1 1 0 none) (m.0, (0, state) ∷ rest m.1))
  leaves_as_it_was state same seats slots id = let p = parts claim.0 claim.1 state in
      skips logs after kept first seats slots id (m.0, (0, state) ∷ rest m.1) k log state p.0 p.1 p.3 (same ∙ (p.4 ∙ replayed.0))

  module _ (state : S) (op : O) (e : E) (r : R) (logged : logs now n op e) (did : (state, r) ≡ after now e) where
    -- what the step did to the replay
    facts : (c : Claim E) → v.claims ≡ c ∷ [] → (state ≡ (after (replay_turns after first log) e).0) × logs (replay_turns after first log) n op e × (kept state ≡ entries log ++ e ∷ []) × (r ≡ (after (replay_turns after first log) e).1)
    facts c is = wrote logs after kept keeps (replay_turns after first log) now y state n op e r log (parts c is now).4 replayed.0 logged did entered.keeps

    -- the seat may leave with the entry
    pub leaves_with : (seats slots id : ℕ) → Allows (Rule logs after kept first seats) slots id (m.0, (0, state) ∷ rest m.1) 1 (λ x. (x + 1) % 2 ^ 64) (entry_added kept (step slots 1 1 0 none) (m.0, (0, state) ∷ rest m.1))
    leaves_with seats slots id = let c = claim.0 in let is = claim.1 in let p = parts c is state in let f = facts c is in
        adds logs after kept first seats slots id (m.0, (0, state) ∷ rest m.1) k log c op e state p.0 p.1 p.2 (some_of c is) p.3 f.0
        (subst (λ (x : ℕ). logs (replay_turns after first log) x op e) (sym (first_of c is)) f.1) f.2

    module _ (slots found : ℕ) (w : Sat S E) (told : entry_added kept (step slots 1 1 0 none) (m.0, (0, state) ∷ rest m.1) found w) where
      -- the seat after the turn
      after_it : (c : Claim E) → v.claims ≡ c ∷ [] → w ≡ (record { first = m.0.first; stage = Idle; claims = with_turn c log e ∷ [] }, [])
      after_it c is = let p = parts c is state in told k log c state e p.0 p.2 p.3 (facts c is).2

      -- the seat has no ticket and no slot, and its claim has the same numbers
      pub left : (w.0.first ≡ v.first) × (is_idle w.0.stage ≡ true) × (w.1 ≡ []) × (length w.0.claims ≡ 1) × (first_numbers w.0.claims ≡ first_numbers v.claims)
      left = let c = claim.0 in let is = claim.1 in let now_is = after_it c is in (
        ap (λ (p : Sat S E). p.0.first) now_is ∙ ((parts c is state).1 ∙ sym begun),
        ap (λ (p : Sat S E). is_idle p.0.stage) now_is,
        ap (λ (p : Sat S E). p.1) now_is,
        ap (λ (p : Sat S E). length p.0.claims) now_is,
        ap (λ (p : Sat S E). first_numbers p.0.claims) now_is ∙ sym (ap (λ (l : List (Claim E)). first_numbers l) is),
      )

      -- what the turn did
      pub served : Served logs after own first n (first_numbers v.claims) op r (seen_by v.claims) (seen_by w.0.claims)
      served = let c = claim.0 in let is = claim.1 in let f = facts c is in let owned = is_claim c is in let same_number = first_of c is in
          let ends : seen_by w.0.claims ≡ log ++ turn_of n e ∷ [] = ap (λ (p : Sat S E). seen_by p.0.claims) (after_it c is) ∙ ap (λ (x : ℕ). log ++ turn_of x e ∷ []) same_number in
          record {
            before = log;
            entry = e;
            ends = ends;
            begins = subst (λ (l : List (Claim E)). IsPrefix (seen_by l) log) (sym is) owned.0;
            legal = subst (IsLegal logs after first) (sym ends) (legal_more logs after first log (turn_of n e ∷ []) replayed.1 ((op, f.1), tt));
            logged = f.1;
            reply = f.3;
            made = subst (λ (l : List (Claim E)). (x : ℕ) → 0 < times x (first_numbers l) → entries_by x log ≡ entries_by x (seen_by l)) (sym is) owned.1;
            met = met_at c is;
          }

-- numbers that a pass has to give away stay without entries
pub fresh_stays : {S O E R W X : Type 0} (logs : S → ℕ → O → E → Type 0) (after : S → E → S × R) (own : S → ℕ → W) (first : S) (n end : ℕ) (op : O) (result : Result R X) (old new : List (Claim E))
    → first_numbers old ≡ range_with_len n (end - n) → ((m : ℕ) → n < m → m < end → length (entries_by m (seen_by old)) ≡ 0)
    → IfOk result (λ r. Served logs after own first n (first_numbers old) op r (seen_by old) (seen_by new)) → OnErr result (new ≡ old) → (m : ℕ) → n < m → m < end → length (entries_by m (seen_by new)) ≡ 0
fresh_stays logs after own first n end op (Ok r) old new numbers fresh s _ m above below =
    let there : 0 < times m (range_with_len n (end - n)) = (let a = times_range m n (end - n) in grind (arith, nat_tests)) in
    let made = s.made m (subst (λ (l : List ℕ). 0 < times m l) (sym numbers) there) in
    ap (λ h. length (entries_by m h)) s.ends ∙ (ap length (by_other m n s.entry s.before (λ e. omega arith)) ∙ (ap length made ∙ fresh m above below))
fresh_stays logs after own first n end op (Err e) old new numbers fresh _ same m above below = ap (λ l. length (entries_by m (seen_by l))) same ∙ fresh m above below

-- the entries of the pass's number are those from before and the new one
pub made_one : {S O E R W : Type 0} (logs : S → ℕ → O → E → Type 0) (after : S → E → S × R) (own : S → ℕ → W) (first : S) (n end : ℕ) (numbers : List ℕ) (op : O) (r : R) (old new : List (Turn E)) → n < end → numbers ≡ range_with_len n (end - n)
    → (s : Served logs after own first n numbers op r old new) → entries_by n new ≡ entries_by n old ++ s.entry ∷ []
made_one logs after own first n end numbers op r old new some_number is s =
    let there : 0 < times n (range_with_len n (end - n)) = (let a = times_range n n (end - n) in grind (arith, nat_tests)) in
    ap (entries_by n) s.ends ∙ (by_same n s.entry s.before ∙ ap (λ l. l ++ s.entry ∷ []) (s.made n (subst (λ (l : List ℕ). 0 < times n l) (sym is) there)))

-- what the number owns after the turn
pub left_with : {S O E R W : Type 0} (logs : S → ℕ → O → E → Type 0) (after : S → E → S × R) (own : S → ℕ → W) (first : S) (n : ℕ) (numbers : List ℕ) (op : O) (r : R) (old new : List (Turn E))
    → (s : Served logs after own first n numbers op r old new) → own (replay_turns after first new) n ≡ own (after (replay_turns after first s.before) s.entry).0 n
left_with {E = E} logs after own first n numbers op r old new s =
    ap (λ (h : List (Turn E)). own (replay_turns after first h) n) s.ends ∙ ap (λ z. own z n) (replay_append logs after first s.before (turn_of n s.entry ∷ []))
