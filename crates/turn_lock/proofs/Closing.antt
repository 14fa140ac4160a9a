-- What the claims of all passes say of the whole history.
use Rattle.turn_lock.proofs.Words.{◌≡◌, ℕ, ◌+◌, ◌-◌, ◌<◌, ◌≤◌, ◌≢◌, suc, List, [], ◌∷◌, ◌++◌, length, set, sym, refl, ap, ◌∙◌, subst, lt_of_not-le, arith, append_assoc, append-nil, All, AllPairs, flat_map, sum_by, range_with_len, All-nil, All-cons, All-tail, AllPairs-cons, sum_by-cons, flat_map-append, nat_tests, some, IsPrefix, dite, dec_le, ℕ_discrete, get_elem?, State, at_longer, Ghosts, Pass, Turn, Claim, View, entries_by, replay_turns, total, times, number_count, has, IsClaim, Rule, spent, seen_by, first_numbers, number, held, HasMade, IsWhole}
use Rattle.std.proofs.lemmas.List.FromFn.{length-range_with_len}
use Rattle.turn_lock.proofs.Totals.{total_one, total_set, total_append, total_le, times_range}
use Rattle.turn_lock.proofs.Histories.{start_stays}
use Rattle.turn_lock.proofs.Turned.{only_one}

-- a fact of each element is one of the last
last_of_all : {A : Type 0} (P : A → Type 0) (xs : List A) (x : A) → All P (xs ++ x ∷ []) → P x
last_of_all P [] x h = h 0 x (omega arith)
last_of_all P (y ∷ ys) x h = last_of_all P ys x (All-tail P y (ys ++ x ∷ []) h)

-- and of each before it
front_of_all : {A : Type 0} (P : A → Type 0) (xs : List A) (x : A) → All P (xs ++ x ∷ []) → All P xs
front_of_all P [] x h = All-nil P
front_of_all P (y ∷ ys) x h = All-cons P y ys (h 0 y (omega arith)) (front_of_all P ys x (All-tail P y (ys ++ x ∷ []) h))

-- a fact of each element is one of the last, and of those before it
pub all_parts : {A : Type 0} (P : A → Type 0) (items xs : List A) (x : A) → items ≡ xs ++ x ∷ [] → All P items → P x × All P xs
all_parts P items xs x is h = let parts = subst (All P) is h in (last_of_all P xs x parts, front_of_all P xs x parts)

-- a list of no length is empty
pub empty_is : {A : Type 0} (xs : List A) → length xs ≡ 0 → xs ≡ []
empty_is [] e = refl
empty_is (x ∷ xs) e = absurd (omega arith)

-- a number stands among some no more often than there are numbers
times_le : (n : ℕ) (xs : List ℕ) → times n xs ≤ length xs
times_le n [] = omega arith
times_le n (x ∷ xs) = let rest = times_le n xs in grind (arith, nat_tests)

module _ {E : Type 0} where
  -- the claims of a list are claims of the history
  abbrev AllClaims : List (Turn E) → List (Claim E) → Type 0
  AllClaims log cs = (i : ℕ) (c : Claim E) → get_elem? cs i ≡ some c → IsClaim log c

  -- claims of two lists are claims of the first
  claims_left : (log : List (Turn E)) (xs ys : List (Claim E)) → AllClaims log (xs ++ ys) → AllClaims log xs
  claims_left log xs ys h i c e = h i c (at_longer xs ys i c e)

  -- and of the second
  claims_right : (log : List (Turn E)) (xs ys : List (Claim E)) → AllClaims log (xs ++ ys) → AllClaims log ys
  claims_right log [] ys h = h
  claims_right log (x ∷ xs) ys h = claims_right log xs ys (λ i c e. h (suc i) c e)

  -- how many numbers some claims have
  abbrev sizes : List (Claim E) → ℕ
  sizes cs = total (λ c. length c.numbers) cs

  -- how often they have the number n
  abbrev often : ℕ → List (Claim E) → ℕ
  often n cs = total (λ c. times n c.numbers) cs

module _ {S O E R : Type 0} (logs : S → ℕ → O → E → Type 0) (after : S → E → S × R) (kept : S → List E) (first : S) (seats : ℕ) where
  -- a view that has all numbers has each
  has_each : (s : State S (View S E)) (r : Rule logs after kept first seats s) (id : ℕ) (v : View S E) → get_elem? s.views id ≡ some v → number_count v ≡ seats → (n : ℕ) → n < seats → 0 < has n v
  has_each s r id v at all n below =
      let none_left : total number_count (set s.views id spent) ≡ 0 = (let a = total_set number_count s.views id v spent at in let b = r.room in omega arith) in
      let few = total_le (has n) number_count (set s.views id spent) (λ j u e. total_le (λ (c : Claim E). times n c.numbers) (λ (c : Claim E). length c.numbers) u.claims (λ i c e. times_le n c.numbers)) in
      let a = total_set (has n) s.views id v spent at in let b = r.once n in let d : total (has n) s.views ≡ 1 = grind (arith, nat_tests) in omega arith

module _ {M S O E R W : Type 0} {g : Ghosts M S O E R W} where
  -- the claims of a pass
  abbrev pub claims_of : Pass M S O E R W g → List (Claim E)
  claims_of pass = pass.seat.me.0.claims

  -- the claims of all passes
  abbrev pub claims_in : List (Pass M S O E R W g) → List (Claim E)
  claims_in passes = flat_map claims_of passes

  -- the claims stay the same where the last pass is joined
  pub claims_move : (items rest : List (Pass M S O E R W g)) (p : Pass M S O E R W g) (vs : List (Claim E)) → items ≡ rest ++ p ∷ [] → claims_in rest ++ (claims_of p ++ vs) ≡ claims_in items ++ vs
  claims_move items rest p vs is = sym (ap (λ l. claims_in l ++ vs) is ∙ (ap (λ l. l ++ vs) (flat_map-append claims_of rest (p ∷ []) ∙ ap (λ l. claims_in rest ++ l) (append-nil (claims_of p))) ∙ append_assoc (claims_in rest) (claims_of p) vs))

  -- a pass has one claim
  one_of : (p : Pass M S O E R W g) → (c : Claim E) × (claims_of p ≡ c ∷ [])
  one_of p = only_one (claims_of p) p.one

  -- its claim has as many numbers as it holds
  size_is : (p : Pass M S O E R W g) (c : Claim E) → claims_of p ≡ c ∷ [] → sizes (claims_of p) ≡ held p
  size_is p c is = let a = ap (λ (l : List (Claim E)). length (first_numbers l)) is in let b = ap (λ (l : List ℕ). length l) p.numbers in let d = length-range_with_len p.number (p.end - p.number) in let e = ap sizes is in let some_number : p.number < p.end = p.some in omega arith

  -- so do the claims of all passes
  sizes_are : (ps : List (Pass M S O E R W g)) → sizes (claims_in ps) ≡ sum_by held ps
  sizes_are [] = refl
  sizes_are (p ∷ ps) = let one = one_of p in let a = size_is p one.0 one.1 in let b = sizes_are ps in let d = total_append (λ (c : Claim E). length c.numbers) (claims_of p) (claims_in ps) in let e = sum_by-cons held p ps in omega arith

  -- a pass's number is among the numbers of its claim
  own_number : (p : Pass M S O E R W g) (c : Claim E) → claims_of p ≡ c ∷ [] → 0 < times (number p) c.numbers
  own_number p c is = let some_number = p.some in let there : 0 < times p.number (range_with_len p.number (p.end - p.number)) = (let a = times_range p.number p.number (p.end - p.number) in grind (arith, nat_tests)) in
      subst (λ (l : List ℕ). 0 < times p.number l) (sym (sym (ap (λ (l : List (Claim E)). first_numbers l) is) ∙ p.numbers)) there

  -- and among those of its claims
  own_often : (p : Pass M S O E R W g) (c : Claim E) → claims_of p ≡ c ∷ [] → 0 < often (number p) (claims_of p)
  own_often p c is = let a = own_number p c is in let b = ap (often (number p)) is in omega arith

  -- passes that have a number nowhere have another
  others_differ : (n : ℕ) (ps : List (Pass M S O E R W g)) → often n (claims_in ps) ≡ 0 → All (λ q. n ≢ number q) ps
  others_differ n [] none = All-nil (λ q. n ≢ number q)
  others_differ n (q ∷ qs) none = let one = one_of q in let a = total_append (λ (c : Claim E). times n c.numbers) (claims_of q) (claims_in qs) in
      All-cons (λ q. n ≢ number q) q qs (λ is. let b : 0 < often n (claims_of q) = subst (λ (m : ℕ). 0 < often m (claims_of q)) (sym is) (own_often q one.0 one.1) in omega arith) (others_differ n qs (omega arith))

  -- where no number is there twice, no two passes have one number
  all_apart : (ps : List (Pass M S O E R W g)) → ((n : ℕ) → often n (claims_in ps) ≤ 1) → AllPairs (λ p q. number p ≢ number q) ps
  all_apart [] once = λ i j d l m. absurd (omega arith)
  all_apart (p ∷ ps) once = let one = one_of p in let a = own_often p one.0 one.1 in let b = once (number p) in let e = total_append (λ (c : Claim E). times (number p) c.numbers) (claims_of p) (claims_in ps) in
      AllPairs-cons (λ p q. number p ≢ number q) p ps (others_differ (number p) ps (omega arith))
      (all_apart ps (λ n. let c = once n in let d = total_append (λ (c : Claim E). times n c.numbers) (claims_of p) (claims_in ps) in omega arith))

  -- the entries of a pass are those that its claim has
  made_by : (log : List (Turn E)) (p : Pass M S O E R W g) (c : Claim E) → claims_of p ≡ c ∷ [] → AllClaims log (claims_of p) → HasMade log p
  made_by log p c is all =
      let claim = all 0 c (ap (λ (l : List (Claim E)). get_elem? l 0) is) in
      subst (λ (l : List (Claim E)). IsPrefix (seen_by l) log × (entries_by p.number log ≡ entries_by p.number (seen_by l))) (sym is)
      (claim.0, claim.1 p.number (own_number p c is))

  -- and those of all passes
  all_made : (log : List (Turn E)) (ps : List (Pass M S O E R W g)) → AllClaims log (claims_in ps) → All (HasMade log) ps
  all_made log [] all = All-nil (HasMade log)
  all_made log (p ∷ ps) all = let one = one_of p in All-cons (HasMade log) p ps (made_by log p one.0 one.1 (claims_left log (claims_of p) (claims_in ps) all)) (all_made log ps (claims_right log (claims_of p) (claims_in ps) all))

  -- a number that a pass only has to give away has no entry
  unused : (log : List (Turn E)) (p : Pass M S O E R W g) (c : Claim E) → claims_of p ≡ c ∷ [] → AllClaims log (claims_of p) → (n : ℕ) → number p ≢ n → 0 < often n (claims_of p) → entries_by n log ≡ []
  unused log p c is all n other some_time =
      let claim = all 0 c (ap (λ (l : List (Claim E)). get_elem? l 0) is) in let some_here : 0 < times n c.numbers = (let a = ap (often n) is in omega arith) in
      let numbers : c.numbers ≡ range_with_len p.number (p.end - p.number) = sym (ap (λ (l : List (Claim E)). first_numbers l) is) ∙ p.numbers in
      let there : 0 < times n (range_with_len p.number (p.end - p.number)) = subst (λ (l : List ℕ). 0 < times n l) numbers some_here in
      let within : (p.number ≤ n) × (n < p.end) = (let a = times_range n p.number (p.end - p.number) in grind (arith, nat_tests)) in
      let low = within.0 in let above : p.number < n = (let q : p.number ≢ n = other in omega arith) in
      let none_seen : length (entries_by n c.seen) ≡ 0 = sym (ap (λ (l : List (Claim E)). length (entries_by n (seen_by l))) is) ∙ p.fresh n above within.1 in
      claim.1 n some_here ∙ empty_is (entries_by n c.seen) none_seen

  -- a number of none of the passes has no entry, where some pass has it
  unused_in : (log : List (Turn E)) (ps : List (Pass M S O E R W g)) → AllClaims log (claims_in ps) → (n : ℕ) → All (λ p. number p ≢ n) ps → 0 < often n (claims_in ps) → entries_by n log ≡ []
  unused_in log [] all n other some_time = absurd (omega arith)
  unused_in log (p ∷ ps) all n other some_time = let one = one_of p in dite (ℕ_discrete (often n (claims_of p)) 0)
      (λ none_here. unused_in log ps (claims_right log (claims_of p) (claims_in ps) all) n (All-tail (λ p. number p ≢ n) p ps other)
      (let a = total_append (λ (c : Claim E). times n c.numbers) (claims_of p) (claims_in ps) in omega arith))
      (λ some_here. unused log p one.0 one.1 (claims_left log (claims_of p) (claims_in ps) all) n (other 0 p (omega arith)) (omega arith))

  module _ (logs : S → ℕ → O → E → Type 0) (after : S → E → S × R) (kept : S → List E) (start : S → S) (starts : (s : S) (n : ℕ) (op : O) (e : E) → logs s n op e → start (after s e).0 ≡ start s) (first : S) (seats : ℕ) where
    -- the history of a lock all of whose passes are joined
    pub whole : (s : State S (View S E)) (r : Rule logs after kept first seats s) (id : ℕ) (v : View S E) (pass : Pass M S O E R W g) (others : List (Pass M S O E R W g)) → get_elem? s.views id ≡ some v
        → v.claims ≡ claims_in others ++ claims_of pass → held pass + sum_by held others ≡ seats → (number_count v ≡ seats) × IsWhole logs after kept start {g = g} first (pass ∷ others) (replay_turns after first r.log)
    whole s r id v pass others at claims count =
        let one = one_of pass in
        let all_of : AllClaims r.log (claims_in others ++ claims_of pass) = subst (AllClaims r.log) claims (r.knows id v at).claims in
        let left = claims_left r.log (claims_in others) (claims_of pass) all_of in let right = claims_right r.log (claims_in others) (claims_of pass) all_of in
        let all : number_count v ≡ seats = (let a = ap sizes claims in let b = total_append (λ (c : Claim E). length c.numbers) (claims_in others) (claims_of pass) in let d = sizes_are others in let e = size_is pass one.0 one.1 in omega arith) in (
          all,
          record {
            log = r.log;
            replayed = refl;
            begun = start_stays logs after start starts first r.log r.legal;
            keeps = r.keeps;
            legal = r.legal;
            apart = all_apart (pass ∷ others) (λ n. let a = ap (often n) claims in let b = total_append (λ (c : Claim E). times n c.numbers) (claims_in others) (claims_of pass) in
                let d = total_append (λ (c : Claim E). times n c.numbers) (claims_of pass) (claims_in others) in let e = total_one (has n) s.views id v at in let f = r.once n in let h : total (has n) s.views ≤ 1 = grind (arith, nat_tests) in omega arith);
            made = All-cons (HasMade r.log) pass others (made_by r.log pass one.0 one.1 right) (all_made r.log others left);
            others = λ n other. dite (dec_le seats n)
                (λ far. r.named n far)
                (λ near. let some_time = has_each logs after kept first seats s r id v at all n (lt_of_not-le near) in let a = ap (often n) claims in let b = total_append (λ (c : Claim E). times n c.numbers) (claims_in others) (claims_of pass) in
                dite (ℕ_discrete (often n (claims_of pass)) 0)
                (λ none_here. unused_in r.log others left n (All-tail (λ p. number p ≢ n) pass others other) (omega arith))
                (λ some_here. unused r.log pass one.0 one.1 right n (other 0 pass (omega arith)) (omega arith)));
          },
        )
