-- The entries of a number with what they told, in a history that grows.
use Rattle.heap_runs.proofs.Words.{◌≡◌, ℕ, Bool, true, false, cond, eqb, List, [], ◌∷◌, ◌++◌, map, filter, sym, refl, ap, ◌∙◌, append-nil, eq-eqb, append_cancel_left, append_cancel_right, map-append, filter-append, IsPrefix, Turn, turn_of, entries_by, replay_turns, told_to}

module _ {E : Type 0} where
  -- the entries of a number in two parts of a history
  by_append : (n : ℕ) (xs ys : List (Turn E)) → entries_by n (xs ++ ys) ≡ entries_by n xs ++ entries_by n ys
  by_append n xs ys =
      let p : Turn E → Bool = λ t. eqb t.number n in
      ap (map (λ (t : Turn E). t.entry)) (filter-append p xs ys) ∙ map-append (λ (t : Turn E). t.entry) (filter p xs) (filter p ys)

  -- a turn of the number is its last
  by_same : (n : ℕ) (e : E) (xs : List (Turn E)) → entries_by n (xs ++ turn_of n e ∷ []) ≡ entries_by n xs ++ e ∷ []
  by_same n e xs =
      by_append n xs (turn_of n e ∷ [])
      ∙ ap (λ (b : Bool). entries_by n xs ++ map (λ (t : Turn E). t.entry) (cond b (turn_of n e ∷ []) [])) (eq-eqb n n refl)

module _ {S E R : Type 0} (after : S → E → S × R) where
  -- in two parts of a history
  pub told_append : (n : ℕ) (s : S) (xs ys : List (Turn E)) → told_to after n s (xs ++ ys) ≡ told_to after n s xs ++ told_to after n (replay_turns after s xs) ys
  told_append n s [] ys = refl
  told_append n s (t ∷ ts) ys =
      let next : S = (after s t.entry).0 in
      let rest = told_append n next ts ys in
      elim (eqb t.number n) as (λ v. cond v ((t.entry, (after s t.entry).1) ∷ told_to after n next (ts ++ ys)) (told_to after n next (ts ++ ys))
      ≡ cond v ((t.entry, (after s t.entry).1) ∷ told_to after n next ts) (told_to after n next ts) ++ told_to after n (replay_turns after next ts) ys) [
        | true ↦ ap (λ (l : List (E × R)). (t.entry, (after s t.entry).1) ∷ l) rest
        | false ↦ rest
      ]

  -- nothing was told where no entry was made
  pub told_none : (n : ℕ) (s : S) (ts : List (Turn E)) → entries_by n ts ≡ [] → told_to after n s ts ≡ []
  told_none n s [] none = refl
  told_none n s (t ∷ ts) none =
      let next : S = (after s t.entry).0 in
      elim (eqb t.number n) as (λ v. map (λ (u : Turn E). u.entry) (cond v (t ∷ filter (λ (u : Turn E). eqb u.number n) ts) (filter (λ (u : Turn E). eqb u.number n) ts)) ≡ []
      → cond v ((t.entry, (after s t.entry).1) ∷ told_to after n next ts) (told_to after n next ts) ≡ []) [
        | true ↦ λ h. absurd (cc)
        | false ↦ λ h. told_none n next ts h
      ] none

  -- a longer history that has no more entries of a number told it no more
  pub told_longer : (n : ℕ) (s : S) (xs log : List (Turn E)) → IsPrefix xs log → entries_by n log ≡ entries_by n xs → told_to after n s log ≡ told_to after n s xs
  told_longer n s xs log begins same =
      let rest : List (Turn E) = begins.0 in
      let is : xs ++ rest ≡ log = begins.1 in
      let none : entries_by n rest ≡ [] = append_cancel_left (entries_by n xs) (entries_by n rest) [] (sym (by_append n xs rest) ∙ ap (entries_by n) is ∙ same ∙ sym (append-nil (entries_by n xs))) in
      ap (told_to after n s) (sym is) ∙ told_append n s xs rest
      ∙ ap (λ (l : List (E × R)). told_to after n s xs ++ l) (told_none n (replay_turns after s xs) rest none) ∙ append-nil (told_to after n s xs)

  -- a turn adds its entry, with what it told
  pub told_turn : (n : ℕ) (s : S) (old before new : List (Turn E)) (e : E) (r : R) → IsPrefix old before → entries_by n new ≡ entries_by n old ++ e ∷ [] → new ≡ before ++ turn_of n e ∷ []
      → r ≡ (after (replay_turns after s before) e).1 → told_to after n s new ≡ told_to after n s old ++ (e, r) ∷ []
  told_turn n s old before new e r begins made ends told =
      let met : S = replay_turns after s before in
      let none : entries_by n before ≡ entries_by n old = append_cancel_right (entries_by n before) (entries_by n old) (e ∷ []) (sym (by_same n e before) ∙ sym (ap (entries_by n) ends) ∙ made) in
      let one : told_to after n met (turn_of n e ∷ []) ≡ (e, r) ∷ [] = ap (λ (b : Bool). cond b ((e, (after met e).1) ∷ []) []) (eq-eqb n n refl) ∙ ap (λ (x : R). (e, x) ∷ []) (sym told) in
      ap (told_to after n s) ends ∙ told_append n s before (turn_of n e ∷ [])
      ∙ (λ j. told_longer n s old before begins none j ++ one j)
