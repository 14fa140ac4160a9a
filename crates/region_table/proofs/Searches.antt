-- What searches through slots meet.
use Rattle.std.proofs.Common.{rules, arith, ◌≡◌, ◌≢◌, ℕ, zero, suc, ◌+◌, ◌<◌, ◌≤◌, ◌==◌, Bool, true, false, nat_lt, if◌then◌else◌, List, [], ◌∷◌, length, slice_set, cond, refl, sym, ap, subst, ◌∙◌, true≢false}
use Rattle.std.proofs.lemmas.Grind.{common_steps}
use Rattle.std.proofs.lemmas.List.{get_or-set_same, get_or-set_other, length-set}
use Rattle.std.proofs.lemmas.List.Sums.{sum_by-set}
use Rattle.std.specs.List.{sum_by}
use Rattle.region_table.specs.Slots.{Passes, filled_in, is_filled, meets, next_slot, word_at}

-- the search goes on behind a filled slot
pub passes_more : (words : List ℕ) (past first at : ℕ) → Passes words past first at → is_filled (word_at words at) ≡ true → Passes words (suc past) first (next_slot (length words) at)
unfolding Passes
passes_more words zero first at p f = (subst (λ k. is_filled (word_at words k) ≡ true) (sym p) f, ap (next_slot (length words)) p)
passes_more words (suc past) first at p f = (p.0, passes_more words past (next_slot (length words) first) at p.1 f)

-- the slots that were passed before the last one are filled
passed_ahead : (words : List ℕ) (past first at i : ℕ) → Passes words past first at → first ≤ i → i < first + past → i < length words → is_filled (word_at words i) ≡ true
unfolding Passes
passed_ahead words zero first at i p low high within = absurd (omega (arith, low, high))
passed_ahead words (suc past) first at i p low high within = by (passed_ahead words past (first + 1) at i) (first == i) refl
  where
    by : (Passes words past (first + 1) at → first + 1 ≤ i → i < first + 1 + past → i < length words → is_filled (word_at words i) ≡ true) → (b : Bool) → (first == i) ≡ b → is_filled (word_at words i) ≡ true
    by more true e = let same : first ≡ i = search (rules, e) in subst (λ k. is_filled (word_at words k) ≡ true) same p.0
    by more false e =
        let other : first ≢ i = search (rules, e) in
        let here : first < i = omega (arith, low, other) in
        let next : next_slot (length words) first ≡ first + 1 = grind (arith, here, within) in
        more (subst (λ k. Passes words past k at) next p.1) (omega (arith, here)) (omega (arith, high)) within

-- and so are those behind it, once it was passed
passed_around : (words : List ℕ) (past first at i : ℕ) → Passes words past first at → first < length words → i + length words < first + past → i < length words → is_filled (word_at words i) ≡ true
unfolding Passes
passed_around words zero first at i p inside high within = absurd (omega (arith, inside, high))
passed_around words (suc past) first at i p inside high within = by (passed_around words past (first + 1) at i) (nat_lt (first + 1) (length words)) refl
  where
    by : (Passes words past (first + 1) at → first + 1 < length words → i + length words < first + 1 + past → i < length words → is_filled (word_at words i) ≡ true) → (b : Bool) → nat_lt (first + 1) (length words) ≡ b → is_filled (word_at words i) ≡ true
    by more true e =
        let next : next_slot (length words) first ≡ first + 1 = grind (arith, e) in
        more (subst (λ k. Passes words past k at) next p.1) (grind (arith, e)) (omega (arith, high)) within
    by more false e =
        let last : length words ≤ first + 1 = grind (arith, e) in
        let next : next_slot (length words) first ≡ 0 = grind (arith, e) in
        passed_ahead words past 0 at i (subst (λ k. Passes words past k at) next p.1) (omega arith) (omega (arith, high, inside, last)) within

-- where each slot is filled, as many are filled as there are
all_filled : (words : List ℕ) → ((i : ℕ) → i < length words → is_filled (word_at words i) ≡ true) → filled_in words ≡ length words
all_filled [] f = refl
all_filled (w ∷ ws) f =
    let here : is_filled w ≡ true = f 0 (omega arith) in
    grind (arith, common_steps, here, all_filled ws (λ i within. f (suc i) (omega (arith, within))))

-- a search that passed each slot leaves no empty one
pub none_empty : (words : List ℕ) (first at : ℕ) → first < length words → Passes words (length words) first at → filled_in words ≡ length words
none_empty words first at inside p = all_filled words (λ i within. by i within (nat_lt i first) refl)
  where
    by : (i : ℕ) → i < length words → (b : Bool) → nat_lt i first ≡ b → is_filled (word_at words i) ≡ true
    by i within true e = passed_around words (length words) first at i p inside (grind (arith, e)) within
    by i within false e = passed_ahead words (length words) first at i p (grind (arith, e)) (omega (arith, within)) within

-- a search that met no empty slot, and not what is searched, goes on
pub meets_behind : (words : List ℕ) (left at word : ℕ) → meets words (suc left) at word ≡ true → (word_at words at ≡ word → ⊥) → meets words left (next_slot (length words) at) word ≡ true
unfolding meets
meets_behind words left at word m other = by (word_at words at == word) refl (is_filled (word_at words at)) refl m
  where
    by : (a : Bool) → (word_at words at == word) ≡ a → (b : Bool) → is_filled (word_at words at) ≡ b
        → (if a then true else if b then meets words left (next_slot (length words) at) word else false) ≡ true → meets words left (next_slot (length words) at) word ≡ true
    by true e b f m = absurd (other (search (rules, e)))
    by false e true f m = m
    by false e false f m = absurd (true≢false (sym m))

-- a search ends at an empty slot
pub meets_filled : (words : List ℕ) (left at word : ℕ) → meets words (suc left) at word ≡ true → is_filled word ≡ true → is_filled (word_at words at) ≡ true
unfolding meets
meets_filled words left at word m filled = by (word_at words at == word) refl (is_filled (word_at words at)) refl m
  where
    by : (a : Bool) → (word_at words at == word) ≡ a → (b : Bool) → is_filled (word_at words at) ≡ b
        → (if a then true else if b then meets words left (next_slot (length words) at) word else false) ≡ true → is_filled (word_at words at) ≡ true
    by true e b f m = subst (λ w. is_filled w ≡ true) (sym (search (rules, e))) filled
    by false e true f m = f
    by false e false f m = absurd (true≢false (sym m))

-- no search of no slot meets anything
pub meets_none : (words : List ℕ) (at word : ℕ) → meets words 0 at word ≡ true → ⊥
unfolding meets
meets_none words at word m = true≢false (sym m)

-- a slot that is filled anew keeps what searches meet, but for what it had
pub meets_kept : (words : List ℕ) (at w word : ℕ) → at < length words → is_filled w ≡ true → (word_at words at ≡ word → ⊥) → (left first : ℕ)
    → meets words left first word ≡ true → meets (slice_set words at w) left first word ≡ true
unfolding meets
meets_kept words at w word inside filled other zero first m = m
meets_kept words at w word inside filled other (suc left) first m =
    let behind = meets_kept words at w word inside filled other left (next_slot (length words) first) in
    by behind (first == at) refl (word_at words first == word) refl (is_filled (word_at words first)) refl m
  where
    new : List ℕ
    new = slice_set words at w

    by : (meets words left (next_slot (length words) first) word ≡ true → meets new left (next_slot (length words) first) word ≡ true)
        → (here : Bool) → (first == at) ≡ here → (a : Bool) → (word_at words first == word) ≡ a → (b : Bool) → is_filled (word_at words first) ≡ b
        → (if a then true else if b then meets words left (next_slot (length words) first) word else false) ≡ true
        → (if word_at new first == word then true else if is_filled (word_at new first) then meets new left (next_slot (length new) first) word else false) ≡ true
    by behind true e true f b g m = absurd (other (search (rules, e, f)))
    by behind true e false f true g m = search (rules, arith, e, g, m, filled, inside, get_or-set_same, length-set, behind)
    by behind true e false f false g m = absurd (true≢false (sym m))
    by behind false e true f b g m = search (rules, e, f, get_or-set_other)
    by behind false e false f true g m = search (rules, e, f, g, get_or-set_other, length-set, behind, m)
    by behind false e false f false g m = absurd (true≢false (sym m))

-- what a slot has from now on is met by the searches that passed those before it
pub met_there : (words : List ℕ) (at w : ℕ) → at < length words → (past left first : ℕ) → Passes words past first at → past < left → meets (slice_set words at w) left first w ≡ true
unfolding meets Passes
met_there words at w inside past zero first p more = absurd (omega (arith, more))
met_there words at w inside zero (suc left) first p more =
    let here : word_at (slice_set words at w) first ≡ w = ap (word_at (slice_set words at w)) p ∙ get_or-set_same words at w 0 inside in
    search (rules, here)
met_there words at w inside (suc past) (suc left) first p more =
    by (met_there words at w inside past left (next_slot (length words) first) p.1 (omega (arith, more))) (first == at) refl
  where
    new : List ℕ
    new = slice_set words at w

    by : meets new left (next_slot (length words) first) w ≡ true → (here : Bool) → (first == at) ≡ here
        → (if word_at new first == w then true else if is_filled (word_at new first) then meets new left (next_slot (length new) first) w else false) ≡ true
    by behind true e = search (rules, e, inside, get_or-set_same)
    by behind false e = search (rules, e, p.0, behind, get_or-set_other, length-set)

-- how many slots have been filled once one of them is
pub filled_more : (words : List ℕ) (at w : ℕ) → at < length words → is_filled w ≡ true → filled_in (slice_set words at w) ≡ filled_in words + (if is_filled (word_at words at) then 0 else 1)
filled_more words at w inside filled =
    let sum = sum_by-set (λ k. cond (is_filled k) 1 0) words at w 0 inside in
    by (is_filled (word_at words at)) refl sum
  where
    by : (b : Bool) → is_filled (word_at words at) ≡ b
        → sum_by (λ k. cond (is_filled k) 1 0) (slice_set words at w) + cond (is_filled (word_at words at)) 1 0 ≡ sum_by (λ k. cond (is_filled k) 1 0) words + cond (is_filled w) 1 0
        → filled_in (slice_set words at w) ≡ filled_in words + (if is_filled (word_at words at) then 0 else 1)
    by true e sum = grind (arith, common_steps, e, sum, filled)
    by false e sum = grind (arith, common_steps, e, sum, filled)

-- a slot that is filled anew is passed as before
pub passes_kept : (words : List ℕ) (at w : ℕ) → at < length words → is_filled w ≡ true → (past first last : ℕ) → Passes words past first last → Passes (slice_set words at w) past first last
unfolding Passes
passes_kept words at w inside filled zero first last p = p
passes_kept words at w inside filled (suc past) first last p =
    (by (first == at) refl, subst (λ k. Passes (slice_set words at w) past k last) (ap (λ n. next_slot n first) (sym (length-set words at w))) (passes_kept words at w inside filled past (next_slot (length words) first) last p.1))
  where
    by : (here : Bool) → (first == at) ≡ here → is_filled (word_at (slice_set words at w) first) ≡ true
    by true e = search (rules, e, filled, inside, get_or-set_same)
    by false e = search (rules, e, p.0, get_or-set_other)
