-- A history that grows.
use Rattle.turn_lock.proofs.Words.{◌≡◌, ℕ, ◌≢◌, Bool, cond, eqb, List, [], ◌∷◌, ◌++◌, map, sym, refl, ap, ◌∙◌, subst, ne_eqb, eq-eqb, append_assoc, append-nil, filter, append_cancel_left, map-append, filter-append, fold-append, IsPrefix, dite, ℕ_discrete, Turn, turn_of, entries, entries_by, replay_turns, IsLegal}

module _ {E : Type 0} where
  -- the entries of a number in two parts of a history
  pub by_append : (n : ℕ) (xs ys : List (Turn E)) → entries_by n (xs ++ ys) ≡ entries_by n xs ++ entries_by n ys
  by_append n xs ys = let p : Turn E → Bool = λ t. eqb t.number n in ap (map (λ (t : Turn E). t.entry)) (filter-append p xs ys) ∙ map-append (λ (t : Turn E). t.entry) (filter p xs) (filter p ys)

  -- a turn of another number is none of this one
  pub by_other : (n m : ℕ) (e : E) (xs : List (Turn E)) → m ≢ n → entries_by n (xs ++ turn_of m e ∷ []) ≡ entries_by n xs
  by_other n m e xs other = by_append n xs (turn_of m e ∷ []) ∙ (ap (λ (b : Bool). entries_by n xs ++ map (λ (t : Turn E). t.entry) (cond b (turn_of m e ∷ []) [])) (ne_eqb m n other) ∙ append-nil (entries_by n xs))

  -- a turn of this number is its last
  pub by_same : (n : ℕ) (e : E) (xs : List (Turn E)) → entries_by n (xs ++ turn_of n e ∷ []) ≡ entries_by n xs ++ e ∷ []
  by_same n e xs = by_append n xs (turn_of n e ∷ []) ∙ ap (λ (b : Bool). entries_by n xs ++ map (λ (t : Turn E). t.entry) (cond b (turn_of n e ∷ []) [])) (eq-eqb n n refl)

  -- the entries of two parts of a history
  pub entries_append : (xs ys : List (Turn E)) → entries (xs ++ ys) ≡ entries xs ++ entries ys
  entries_append xs ys = map-append (λ (t : Turn E). t.entry) xs ys

-- a list begins with itself
pub prefix_all : {A : Type 0} (xs : List A) → IsPrefix xs xs
prefix_all xs = ([], append-nil xs)

-- what begins a list begins a longer one
pub prefix_more : {A : Type 0} (xs ys zs : List A) → IsPrefix xs ys → IsPrefix xs (ys ++ zs)
prefix_more xs ys zs p = (p.0 ++ zs, sym (append_assoc xs p.0 zs) ∙ ap (λ l. l ++ zs) p.1)

-- what follows where nothing was added
pub nothing_after : {A : Type 0} (xs ys : List A) → xs ++ ys ≡ xs → ys ≡ []
nothing_after xs ys e = append_cancel_left xs ys [] (e ∙ sym (append-nil xs))

module _ {S O E R : Type 0} (logs : S → ℕ → O → E → Type 0) (after : S → E → S × R) where
  abbrev Hist : Type 0
  Hist = List (Turn E)

  -- the replay of two parts
  pub replay_append : (s : S) (xs ys : Hist) → replay_turns after s (xs ++ ys) ≡ replay_turns after (replay_turns after s xs) ys
  replay_append s xs ys = fold-append (λ (z : S) (t : Turn E). (after z t.entry).0) s xs ys

  -- two legal parts are a legal history
  pub legal_more : (s : S) (xs ys : Hist) → IsLegal logs after s xs → IsLegal logs after (replay_turns after s xs) ys → IsLegal logs after s (xs ++ ys)
  legal_more s [] ys l m = m
  legal_more s (x ∷ xs) ys l m = (l.0, legal_more (after s x.entry).0 xs ys l.1 m)

  -- the later part of a legal history is legal
  pub legal_later : (s : S) (xs ys : Hist) → IsLegal logs after s (xs ++ ys) → IsLegal logs after (replay_turns after s xs) ys
  legal_later s [] ys l = l
  legal_later s (x ∷ xs) ys l = legal_later (after s x.entry).0 xs ys l.1

  -- what a state began as stays
  pub start_stays : (start : S → S) → ((s : S) (n : ℕ) (op : O) (e : E) → logs s n op e → start (after s e).0 ≡ start s) → (s : S) (ts : Hist) → IsLegal logs after s ts → start (replay_turns after s ts) ≡ start s
  start_stays start law s [] l = refl
  start_stays start law s (t ∷ ts) l = start_stays start law (after s t.entry).0 ts l.1 ∙ law s t.number l.0.0 t.entry l.0.1

  -- what a number owns stays as it was through the turns of others
  pub own_stays : {W : Type 0} (own : S → ℕ → W) → ((s : S) (n : ℕ) (op : O) (e : E) (k : ℕ) → logs s n op e → k ≢ n → own (after s e).0 k ≡ own s k)
      → (k : ℕ) (s : S) (ts : Hist) → IsLegal logs after s ts → entries_by k ts ≡ [] → own (replay_turns after s ts) k ≡ own s k
  own_stays own law k s [] l none = refl
  own_stays own law k s (t ∷ ts) l none =
      let rest : List E = entries_by k ts in let with_it : Bool → Type 0 = λ b. map (λ (u : Turn E). u.entry) (cond b (t ∷ filter (λ (u : Turn E). eqb u.number k) ts) (filter (λ (u : Turn E). eqb u.number k) ts)) ≡ [] in
      dite (ℕ_discrete t.number k)
      (λ is. let wrong : t.entry ∷ rest ≡ [] = subst with_it (eq-eqb t.number k is) none in cc)
      (λ other. own_stays own law k (after s t.entry).0 ts l.1 (subst with_it (ne_eqb t.number k other) none) ∙ law s t.number l.0.0 t.entry k l.0.1 (λ is. other (sym is)))
