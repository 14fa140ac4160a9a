-- Each step on a word keeps the rule.
use Rattle.std.proofs.Common.{◌≡◌, ℕ, ◌+◌, ◌<◌, ◌≤◌, ◌≢◌, ◌||◌, zero, suc, true, false, Bool, cond, not, eqb, ltb, List, [], ◌∷◌, ◌++◌, map, length, get_or, set, filter, sym, refl, ap, ◌∙◌, subst, ⊎_elim, arith, eq-eqb, ne_eqb, length-set, ◌&&◌, leb}
use mathlib.Core.Option.{none, some, some-injective, some-ne-none}
use mathlib.Core.Logic.{dite}
use native.Mathlib.Decide.{ℕ_discrete}
use lib.ListN.{get_elem?}
use lib.Seq.{set-get_or}
use prog.Atomic.{either}
use Rattle.std.proofs.lemmas.Bool.Decides.{nat_tests}
use Rattle.std.proofs.lemmas.List.Elements.{All-nil, All-cons, All-head, All-tail, All-append, All-take, All-drop, All-weaker}
use Rattle.std.proofs.lemmas.List.Sums.{sum_by-cons, sum_by-append, sum_by-set, sum_by_push, sum_by-take-drop}
use Rattle.std.specs.List.{All, list_any, count_by, sum_by, range_with_len}
use Rattle.atomic_table.specs.Table.{State, Me, Act, Valid, carried_after, step, keeps, stepped, Allows, Splits, Joins, opening}
use Rattle.atomic_table.proofs.Lists.{at_set, set_else, at_snoc, exchanged}
use Rattle.chunk_table.specs.declared.view.Share.{Share}
use Rattle.chunk_table.specs.declared.view.View.{View}
use Rattle.chunk_table.specs.Rule.{mark, owns, marked, blank, opening_view, Agrees, Rule}
use Rattle.chunk_table.specs.Steps.{with_owned, with_freed, with_looked, with_taken, first_of, alone, Shows, claimed, freed, looked, noticed, first_part, later_part, both_views, spent}

-- an element that is there lies within the list, and is read there
at_within : {A : Type 0} (l : List A) (i : ℕ) (a d : A) → get_elem? l i ≡ some a → (i < length l) × (get_or l i d ≡ a)
at_within [] i a d e = absurd (some-ne-none a (sym e))
at_within (x ∷ xs) zero a d e = (omega arith, some-injective x a e)
at_within (x ∷ xs) (suc i) a d e = let r = at_within xs i a d e in let lt = r.0 in (omega arith, r.1)

-- the sum over a list after one element is replaced
sum_set : {A : Type 0} (f : A → ℕ) (l : List A) (i : ℕ) (a b : A) → get_elem? l i ≡ some a → sum_by f (set l i b) + f a ≡ sum_by f l + f b
sum_set f l i a b e = let r = at_within l i a a e in let h = sum_by-set f l i b a r.0 in let same : f (get_or l i a) ≡ f a = ap f r.1 in omega arith

-- one element counts no more than all
sum_one : {A : Type 0} (f : A → ℕ) (l : List A) (i : ℕ) (a : A) → get_elem? l i ≡ some a → f a ≤ sum_by f l
sum_one f [] i a e = absurd (some-ne-none a (sym e))
sum_one f (x ∷ xs) zero a e = let is : f x ≡ f a = ap f (some-injective x a e) in let s = sum_by-cons f x xs in omega arith
sum_one f (x ∷ xs) (suc i) a e = let rest = sum_one f xs i a e in let s = sum_by-cons f x xs in omega arith

-- nor do two at different places
sum_two : {A : Type 0} (f : A → ℕ) (l : List A) (i j : ℕ) (a b : A) → i ≢ j → get_elem? l i ≡ some a → get_elem? l j ≡ some b → f a + f b ≤ sum_by f l
sum_two f [] i j a b n e d = absurd (some-ne-none a (sym e))
sum_two f (x ∷ xs) zero zero a b n e d = absurd (n refl)
sum_two f (x ∷ xs) zero (suc j) a b n e d = let is : f x ≡ f a = ap f (some-injective x a e) in let rest = sum_one f xs j b d in let s = sum_by-cons f x xs in omega arith
sum_two f (x ∷ xs) (suc i) zero a b n e d = let is : f x ≡ f b = ap f (some-injective x b d) in let rest = sum_one f xs i a e in let s = sum_by-cons f x xs in omega arith
sum_two f (x ∷ xs) (suc i) (suc j) a b n e d = let rest = sum_two f xs i j a b (λ p. n (ap suc p)) e d in let s = sum_by-cons f x xs in omega arith

-- what is read where a word was set
read_set : (l : List ℕ) (i j new : ℕ) → i < length l → get_or (set l i new) j 0 ≡ cond (eqb i j) new (get_or l j 0)
read_set [] i j new lt = absurd (omega arith)
read_set (x ∷ xs) zero zero new lt = refl
read_set (x ∷ xs) zero (suc j) new lt = grind (arith, nat_tests)
read_set (x ∷ xs) (suc i) zero new lt = grind (arith, nat_tests)
read_set (x ∷ xs) (suc i) (suc j) new lt = let r = read_set xs i j new (omega arith) in grind (arith, nat_tests)

-- the cases of a place after one was set
set_cases : {A : Type 0} (P : A → Type 0) (l : List A) (id : ℕ) (w : A) → P w → ((j : ℕ) (u : A) → j ≢ id → get_elem? l j ≡ some u → P u) → (j : ℕ) (u : A) → get_elem? (set l id w) j ≡ some u → P u
set_cases P l id w mine others j u e = ⊎_elim (λ (t : (j ≡ id) × (w ≡ u)). subst P t.1 mine) (λ (t : (j ≢ id) × (get_elem? l j ≡ some u)). others j u t.0 t.1) (at_set l id j w u e)

-- the only place of a list of one
at_only : {A : Type 0} (P : A → Type 0) (a : A) → P a → (j : ℕ) (u : A) → get_elem? (a ∷ []) j ≡ some u → P u
at_only P a here zero u e = subst P (some-injective a u e) here
at_only P a here (suc j) u e = absurd (some-ne-none u (sym e))

-- what a list has without a number, and with one more
pub any_without : (x c : ℕ) (l : List ℕ) → list_any (λ d. eqb d x) (filter (λ d. not (eqb d c)) l) ≡ cond (eqb c x) false (list_any (λ d. eqb d x) l)
any_without x c [] = grind (arith, nat_tests)
any_without x c (y ∷ ys) = let r = any_without x c ys in grind (arith, nat_tests)

any_with : (x c : ℕ) (l : List ℕ) → list_any (λ d. eqb d x) (l ++ c ∷ []) ≡ (list_any (λ d. eqb d x) l || eqb c x)
any_with x c [] = grind (arith, nat_tests)
any_with x c (y ∷ ys) = let r = any_with x c ys in grind (arith, nat_tests)

-- 1 where the marks are equal, and else 0
abbrev bit : ℕ → Share → ℕ
bit m s = cond (eqb (mark s) m) 1 0

-- it is 1 at the mark itself
bit_own : (s : Share) (m : ℕ) → mark s ≡ m → bit m s ≡ 1
bit_own s m is = ap (λ (b : Bool). cond {A = ℕ} b 1 0) (eq-eqb (mark s) m is)

-- how many of one share and others have a mark
bit_more : (m : ℕ) (s : Share) (ss : List Share) → count_by (λ t. eqb (mark t) m) (s ∷ ss) ≡ bit m s + count_by (λ t. eqb (mark t) m) ss
bit_more m s ss = sum_by-cons (bit m) s ss

-- a mark that no share has is none of theirs
unmarked : (m : ℕ) (ss : List Share) → count_by (λ s. eqb (mark s) m) ss ≡ 0 → All (λ s. mark s ≢ m) ss
unmarked m [] e = All-nil (λ s. mark s ≢ m)
unmarked m (s ∷ ss) e =
    let c = bit_more m s ss in All-cons (λ s. mark s ≢ m) s ss (λ is. let one = bit_own s m is in absurd (omega arith)) (unmarked m ss (omega arith))

-- a share that has neither the word that was there nor the one that was set agrees as before
agrees_else : (arenas : ℕ) (words : List ℕ) (c new : ℕ) → c < length words → (t : Share) → get_or words c 0 ≢ mark t → new ≢ mark t → Agrees arenas words t → Agrees arenas (set words c new) t
agrees_else arenas words c new lt t old_other new_other a = record {
  of = a.of;
  owner = λ chunk. let was = a.owner chunk in let now = read_set words c chunk new lt in dite (ℕ_discrete c chunk)
      (λ is. was ∙ (ap (λ k. eqb (get_or words k 0) (mark t)) (sym is) ∙ (ne_eqb (get_or words c 0) (mark t) old_other ∙ sym (ap (λ n. eqb n (mark t)) now ∙ (ap (λ b. eqb (cond b new (get_or words chunk 0)) (mark t)) (eq-eqb c chunk is) ∙ ne_eqb new (mark t) new_other)))))
      (λ other. was ∙ sym (ap (λ n. eqb n (mark t)) now ∙ ap (λ b. eqb (cond b new (get_or words chunk 0)) (mark t)) (ne_eqb c chunk other)));
}

-- so do all shares that don't have a mark, where the words that come and go are only for it
all_else : (arenas : ℕ) (words : List ℕ) (c new m : ℕ) → c < length words → ((t : Share) → mark t ≢ m → (get_or words c 0 ≢ mark t) × (new ≢ mark t)) → (ss : List Share)
    → All (λ t. mark t ≢ m) ss → All (Agrees arenas words) ss → All (Agrees arenas (set words c new)) ss
all_else arenas words c new m lt apart [] others agree = All-nil (Agrees arenas (set words c new))
all_else arenas words c new m lt apart (t ∷ ts) others agree =
    let a = apart t (All-head (λ t. mark t ≢ m) t ts others) in
    All-cons (Agrees arenas (set words c new)) t ts (agrees_else arenas words c new lt t a.0 a.1 (All-head (Agrees arenas words) t ts agree))
    (all_else arenas words c new m lt apart ts (All-tail (λ t. mark t ≢ m) t ts others) (All-tail (Agrees arenas words) t ts agree))

-- a share agrees with the words once its own word stands for a chunk that was free
agrees_with : (arenas : ℕ) (words : List ℕ) (c m : ℕ) → c < length words → (t : Share) → m ≡ mark t → Agrees arenas words t → Agrees arenas (set words c m) (with_owned c t)
agrees_with arenas words c m lt t own a = record { of = a.of; owner = λ chunk. let was = a.owner chunk in let now = read_set words c chunk m lt in let had = any_with chunk c t.owned in grind (arith, nat_tests) }

-- and once that word is 0 again
agrees_without : (arenas : ℕ) (words : List ℕ) (c : ℕ) → c < length words → (t : Share) → Agrees arenas words t → Agrees arenas (set words c 0) (with_freed c t)
agrees_without arenas words c lt t a = record { of = a.of; owner = λ chunk. let was = a.owner chunk in let now = read_set words c chunk 0 lt in let had = any_without chunk c t.owned in grind (arith, nat_tests) }

-- the marks of some shares that own a chunk are its word
few_own : (arenas : ℕ) (words : List ℕ) (c : ℕ) (ss : List Share) → All (Agrees arenas words) ss → count_by (owns c) ss ≤ count_by (λ t. eqb (mark t) (get_or words c 0)) ss
few_own arenas words c [] agree = omega arith
few_own arenas words c (t ∷ ts) agree =
    let a = (All-head (Agrees arenas words) t ts agree).owner c in let rest = few_own arenas words c ts (All-tail (Agrees arenas words) t ts agree) in
    let x = sum_by-cons (λ (u : Share). cond (owns c u) 1 0) t ts in let y = bit_more (get_or words c 0) t ts in grind (arith, nat_tests)

-- how often a mark is among those of the arenas from one number up to another
count_range : (arenas n a k end : ℕ) → end ≡ a + k → count_by (λ t. eqb (mark t) n) (map (blank arenas) (range_with_len a k)) ≡ cond (ltb a n && leb n end) 1 0
count_range arenas n a zero end e = grind (arith, nat_tests)
count_range arenas n a (suc k) end e = let rest = count_range arenas n (a + 1) k end (omega arith) in let more = bit_more n (blank arenas a) (map (blank arenas) (range_with_len (a + 1) k)) in grind (arith, nat_tests)

-- arenas that own nothing agree with words that are all 0
blanks_agree : (arenas : ℕ) (words : List ℕ) → ((c : ℕ) → get_or words c 0 ≡ 0) → (ns : List ℕ) → All (Agrees arenas words) (map (blank arenas) ns)
blanks_agree arenas words zeros [] = All-nil (Agrees arenas words)
blanks_agree arenas words zeros (n ∷ ns) = All-cons (Agrees arenas words) (blank arenas n) (map (blank arenas) ns)
    record { of = refl; owner = λ chunk. let z = zeros chunk in grind (arith, nat_tests) } (blanks_agree arenas words zeros ns)

module _ {S : Type 0} (arenas : ℕ) where
  abbrev Kept : State S View → Type 0
  Kept = Rule arenas

  -- one view is replaced by another of the same arenas, and the words follow
  moved : (s : State S View) → Kept s → (id : ℕ) (v w : View) → get_elem? s.views id ≡ some v → (ws : List ℕ) → length ws ≡ 1048576 → ((c : ℕ) → get_or ws c 0 ≤ arenas) → ((n : ℕ) → marked n w ≡ marked n v)
      → All (Agrees arenas ws) w.shares → ((j : ℕ) (u : View) → j ≢ id → get_elem? s.views j ≡ some u → All (Agrees arenas ws) u.shares) → Kept record { words = ws; homes = s.homes; views = set s.views id w }
  moved s r id v w at ws size named same mine others = record {
    size = size;
    agrees = set_cases (λ (u : View). All (Agrees arenas ws) u.shares) s.views id w mine others;
    once = λ n. (let a = sum_set (marked n) s.views id v w at in let c = same n in let d : sum_by (marked n) (set s.views id w) ≡ sum_by (marked n) s.views = omega arith in d ∙ r.once n);
    named = named;
  }

  -- no arena has two seats
  at_most_one : (s : State S View) → Kept s → (n : ℕ) → sum_by (marked n) s.views ≤ 1
  at_most_one s r n = let a = r.once n in grind (arith, nat_tests)

  -- no other seat stands for the arena of this one
  others_unmarked : (s : State S View) → Kept s → (id : ℕ) (sh : Share) → get_elem? s.views id ≡ some (alone sh) → (j : ℕ) (u : View) → j ≢ id → get_elem? s.views j ≡ some u → All (λ t. mark t ≢ mark sh) u.shares
  others_unmarked s r id sh at j u other there =
      let two = sum_two (marked (mark sh)) s.views id j (alone sh) u (λ e. other (sym e)) at there in let most = at_most_one s r (mark sh) in
      let one = bit_own sh (mark sh) refl in let all = bit_more (mark sh) sh [] in let whole : marked (mark sh) (alone sh) ≡ 1 = omega arith in
      unmarked (mark sh) u.shares (omega arith)

  -- words that are set to a number that names an arena, or none, name no others
  named_set : (s : State S View) → Kept s → (c new : ℕ) → c < length s.words → new ≤ arenas → (k : ℕ) → get_or (set s.words c new) k 0 ≤ arenas
  named_set s r c new lt small k = let a = read_set s.words c k new lt in let b = r.named k in grind (arith, nat_tests)

  -- the arena of a seat is one of the table's
  own_named : (s : State S View) → Kept s → (id : ℕ) (sh : Share) → get_elem? s.views id ≡ some (alone sh) → mark sh ≤ arenas
  own_named s r id sh at =
      let one = bit_own sh (mark sh) refl in let all = bit_more (mark sh) sh [] in let least = sum_one (marked (mark sh)) s.views id (alone sh) at in let whole : 1 ≤ sum_by (marked (mark sh)) s.views = omega arith in
      let said = r.once (mark sh) in grind (arith, nat_tests)

  -- a share that a view has agrees with the words
  pub own_agrees : (s : State S View) → Kept s → (id : ℕ) (sh : Share) → get_elem? s.views id ≡ some (alone sh) → Agrees arenas s.words sh
  own_agrees s r id sh at = All-head (Agrees arenas s.words) sh [] (r.agrees id (alone sh) at)

  -- what a word tells of a share that agrees with the words
  shows : (s : State S View) → Kept s → (c : ℕ) (sh : Share) → Agrees arenas s.words sh → Shows c (get_or s.words c 0) sh
  shows s r c sh a = let named = r.named c in let of = a.of in (omega arith, a.owner c)

  -- a set of words is as long as before
  still : (s : State S View) → Kept s → (c new : ℕ) → length (set s.words c new) ≡ 1048576
  still s r c new = length-set s.words c new ∙ r.size

  -- the words stay, and a share that has the same chunks takes the place of another
  noted : (s : State S View) → Kept s → (c id : ℕ) (v w : View) → get_elem? s.views id ≡ some v → ((n : ℕ) → marked n w ≡ marked n v) → All (Agrees arenas s.words) w.shares → (mine : List (ℕ × S)) → Kept (stepped s c (get_or s.words c 0) id mine w keeps)
  noted s r c id v w at same agree mine = subst (λ (ws : List ℕ). Kept record { words = ws; homes = s.homes; views = set s.views id w }) (sym (set-get_or s.words c 0))
      (moved s r id v w at s.words r.size r.named same agree (λ j u _ there. r.agrees j u there))

  -- a claim of a chunk keeps the rule
  pub claims : (slots id : ℕ) (me : Me S View) (given : Share) (c m : ℕ) → c < 1048576 → me.0 ≡ alone given → m ≡ mark given
      → Allows Kept slots id me c (λ n. either (eqb n 0) m n) (claimed (step slots c 0 m none) me)
  claims slots id me given c m below one named_so s r long at small =
      let sh : Share = first_of me.0.shares in let same : sh ≡ given = ap (λ (v : View). first_of v.shares) one in let here = at ∙ ap some (one ∙ ap alone (sym same)) in let own : m ≡ mark sh = named_so ∙ ap mark (sym same) in let agree = own_agrees s r id sh here in
      let size = r.size in let lt : c < length s.words = omega arith in let found : ℕ = get_or s.words c 0 in
      exchanged found 0 m
      (λ x. (w : View) × (a : Act S) × Valid s.homes me.1 a × Kept (stepped s c x id me.1 w a) × claimed (step slots c 0 m none) me found (w, carried_after me.1 a))
      (λ free. (
        alone (with_owned c sh),
        keeps,
        tt,
        moved s r id (alone sh) (alone (with_owned c sh)) here (set s.words c m) (still s r c m) (named_set s r c m lt (let most = own_named s r id sh here in omega arith)) (λ n. refl)
            (All-cons (Agrees arenas (set s.words c m)) (with_owned c sh) [] (agrees_with arenas s.words c m lt sh own agree) (All-nil (Agrees arenas (set s.words c m))))
            (λ j u other there. all_else arenas s.words c m (mark sh) lt (λ t differs. ((λ e. omega arith), (λ e. differs (sym e ∙ own)))) u.shares (others_unmarked s r id sh here j u other there) (r.agrees j u there)),
        (ap (λ (b : Bool). (alone (cond b (with_owned c sh) (with_taken c found sh)), me.1)) (sym (eq-eqb found 0 free)), shows s r c sh agree),
      ))
      (λ taken. (
        alone (with_taken c found sh),
        keeps,
        tt,
        noted s r c id (alone sh) (alone (with_taken c found sh)) here (λ n. refl) (All-cons (Agrees arenas s.words) (with_taken c found sh) [] record { of = agree.of; owner = agree.owner } (All-nil (Agrees arenas s.words))) me.1,
        (ap (λ (b : Bool). (alone (cond b (with_owned c sh) (with_taken c found sh)), me.1)) (sym (ne_eqb found 0 taken)), shows s r c sh agree),
      ))

  -- a release of a chunk keeps the rule
  pub frees : (slots id : ℕ) (me : Me S View) (given : Share) (c : ℕ) → c < 1048576 → me.0 ≡ alone given → owns c given ≡ true
      → Allows Kept slots id me c (λ _. 0) (λ _. freed (step slots c 0 0 none) me 0)
  frees slots id me given c below one had s r long at small =
      let sh : Share = first_of me.0.shares in let same : sh ≡ given = ap (λ (v : View). first_of v.shares) one in let here = at ∙ ap some (one ∙ ap alone (sym same)) in let own : owns c sh ≡ true = ap (owns c) same ∙ had in let agree = own_agrees s r id sh here in
      let size = r.size in let lt : c < length s.words = omega arith in let found : get_or s.words c 0 ≡ mark sh = (let a = agree.owner c in grind (arith, nat_tests)) in (
        alone (with_freed c sh),
        keeps,
        tt,
        moved s r id (alone sh) (alone (with_freed c sh)) here (set s.words c 0) (still s r c 0) (named_set s r c 0 lt (omega arith)) (λ n. refl)
            (All-cons (Agrees arenas (set s.words c 0)) (with_freed c sh) [] (agrees_without arenas s.words c lt sh agree) (All-nil (Agrees arenas (set s.words c 0))))
            (λ j u other there. all_else arenas s.words c 0 (mark sh) lt (λ t differs. ((λ e. differs (sym e ∙ found)), (λ e. omega arith))) u.shares (others_unmarked s r id sh here j u other there) (r.agrees j u there)),
        refl,
      )

  -- a look that is noted keeps the rule
  pub notices : (slots id : ℕ) (me : Me S View) (given : Share) (c : ℕ) → me.0 ≡ alone given → Allows Kept slots id me c (λ n. n) (noticed (step slots c 0 0 none) me)
  notices slots id me given c one s r long at small =
      let sh : Share = first_of me.0.shares in let same : sh ≡ given = ap (λ (v : View). first_of v.shares) one in let here = at ∙ ap some (one ∙ ap alone (sym same)) in let agree = own_agrees s r id sh here in
      let found : ℕ = get_or s.words c 0 in (
        alone (with_looked c found sh),
        keeps,
        tt,
        noted s r c id (alone sh) (alone (with_looked c found sh)) here (λ n. refl) (All-cons (Agrees arenas s.words) (with_looked c found sh) [] record { of = agree.of; owner = agree.owner } (All-nil (Agrees arenas s.words))) me.1,
        (refl, shows s r c sh agree),
      )

  -- a look at a chunk keeps the rule
  pub looks : (slots id : ℕ) (me : Me S View) (c : ℕ) → Allows Kept slots id me c (λ n. n) (looked (step slots c 0 0 none) me)
  looks slots id me c s r long at small =
      let agree = r.agrees id me.0 at in (
        me.0,
        keeps,
        tt,
        noted s r c id me.0 me.0 at (λ n. refl) agree me.1,
        (
          refl,
          All-weaker (Agrees arenas s.words) (λ t. Shows c (get_or s.words c 0) t) (λ t a. shows s r c t a) me.0.shares agree,
          λ chunk. let few = few_own arenas s.words chunk me.0.shares agree in let one = sum_one (marked (get_or s.words chunk 0)) s.views id me.0 at in let most = at_most_one s r (get_or s.words chunk 0) in omega arith,
        ),
      )

  -- cutting a seat's view in two keeps the rule
  pub splits : (id : ℕ) (v : View) → Splits Kept id v (first_part v) (later_part v)
  splits id v s r at =
      let agree = r.agrees id v at in record {
        size = r.size;
        agrees = λ j u there. ⊎_elim
            (λ before. set_cases (λ (u : View). All (Agrees arenas s.words) u.shares) s.views id (first_part v) (All-take (Agrees arenas s.words) 1 v.shares agree) (λ j u _ e. r.agrees j u e) j u before)
            (λ is. subst (λ (u : View). All (Agrees arenas s.words) u.shares) is (All-drop (Agrees arenas s.words) 1 v.shares agree))
            (at_snoc (set s.views id (first_part v)) (later_part v) u j there);
        once = λ n.
            let a = sum_by_push (marked n) (set s.views id (first_part v)) (later_part v) in let b = sum_set (marked n) s.views id v (first_part v) at in let c = sum_by-take-drop (bit n) v.shares 1 in
            let same : sum_by (marked n) (set s.views id (first_part v) ++ later_part v ∷ []) ≡ sum_by (marked n) s.views = omega arith in same ∙ r.once n;
        named = r.named;
      }

  -- putting the shares of two seats together keeps the rule
  pub joins : (id : ℕ) (v : View) (other : ℕ) (w : View) → Joins Kept id v other w (both_views v w) spent
  joins id v other w s r at apart there =
      let P : View → Type 0 = λ u. All (Agrees arenas s.words) u.shares in
      let second = sym (set_else s.views id other (both_views v w) apart) ∙ there in
      let both = All-append (Agrees arenas s.words) w.shares v.shares (r.agrees other w second) (r.agrees id v at) in record {
        size = r.size;
        agrees = set_cases P (set s.views id (both_views v w)) other spent (All-nil (Agrees arenas s.words)) (λ j u _ e. set_cases P s.views id (both_views v w) both (λ j u _ e. r.agrees j u e) j u e);
        once = λ n.
            let a = sum_set (marked n) s.views id v (both_views v w) at in let b = sum_set (marked n) (set s.views id (both_views v w)) other w spent there in let c = sum_by-append (bit n) w.shares v.shares in
            let same : sum_by (marked n) (set (set s.views id (both_views v w)) other spent) ≡ sum_by (marked n) s.views = omega arith in same ∙ r.once n;
        named = r.named;
      }

  -- the rule holds at the start
  pub opens : (words : List ℕ) → length words ≡ 1048576 → ((c : ℕ) → get_or words c 0 ≡ 0) → Kept (opening words [] (opening_view arenas))
  opens words size zeros = record {
    size = size;
    agrees = at_only (λ (u : View). All (Agrees arenas words) u.shares) (opening_view arenas) (blanks_agree arenas words zeros (range_with_len 0 arenas));
    once = λ n. (let b : marked n (opening_view arenas) ≡ cond (ltb 0 n && leb n arenas) 1 0 = count_range arenas n 0 arenas arenas (omega arith) in omega arith);
    named = λ c. (let z = zeros c in omega arith);
  }
