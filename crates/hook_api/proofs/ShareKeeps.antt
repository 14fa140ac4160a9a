-- Each step on the locks of a shared shelf keeps the rule.
use Rattle.hook_api.proofs.Words.{◌≡◌, ℕ, ◌+◌, ◌<◌, ◌≤◌, ◌≢◌, zero, suc, true, false, cond, eqb, List, [], ◌∷◌, ◌++◌, map, length, get_or, set, take, drop, replicate, min, sym, refl, ap, ◌∙◌, subst, ⊎_elim, arith, length-set, Option, Some, None, none, some, some-injective, some-ne-none, dite, ℕ_discrete, get_elem?, set-get_or, either, nat_tests, get_or-set_other, get_or-set_same, length-append, length-replicate, sum_by-cons, sum_by-append, sum_by_push, sum_by-take-drop, sum_by, State, Me, Act, rest, Valid, carried_after, step, keeps, takes, gives, stepped, Allows, Splits, Joins, opening, set_else, set_here, set_again, at_snoc, some_there, exchanged, Tally, Taken, Sight, capped, BoxState, blank, opening_sight, refused_in, refused_by, clients_of, taken_is, takers, Covers, Rule, most, with_refusal, HasBox, came_home, counted, idle, having, took, waited, first_part, later_part, both_tallies, spent}
use Rattle.hook_api.proofs.SeatSums.{sum_set, sum_one, sum_two, sum_some, set_cases, at_only}

-- 0 where a word is 0, and else 1
abbrev bit : ℕ → ℕ
bit n = cond (eqb n 0) 0 1

-- what is taken is the box that it names
taken_own : (i : ℕ) (t : Taken) → t.box_no ≡ i → taken_is i (Some t) ≡ 1
taken_own i t is = grind (arith, nat_tests)

-- and no other
taken_else : (i : ℕ) (t : Taken) → i ≢ t.box_no → taken_is i (Some t) ≡ 0
taken_else i t other = grind (arith, nat_tests)

-- a seat that has the box i has taken one of that number
taken_some : (i : ℕ) (o : Option Taken) → 0 < taken_is i o → (t : Taken) × (o ≡ Some t) × (t.box_no ≡ i)
taken_some i None some_taken = absurd (omega arith)
taken_some i (Some t) some_taken = (t, refl, grind (arith, nat_tests))

-- what is taken, or else this
abbrev some_taken : Taken → Option Taken → Taken
some_taken t None = t
some_taken t (Some u) = u

-- a word counts one seat at most
bit_most : (n : ℕ) → bit n ≤ 1
bit_most n = grind (arith, nat_tests)

-- a word that isn't 0 counts one
bit_out : (n : ℕ) → n ≢ 0 → bit n ≡ 1
bit_out n out = grind (arith, nat_tests)

-- nothing isn't something
not_taken : (o : Option Taken) (t : Taken) → o ≡ None → o ≡ Some t → ⊥
not_taken o t none_is some_is = let a : 0 ≡ taken_is t.box_no (Some t) = ap (taken_is t.box_no) (sym none_is ∙ some_is) in let b = taken_own t.box_no t refl in omega arith

-- the first of some tallies and the later ones are all
length_parts : (l : List Tally) → length (take 1 l) + length (drop 1 l) ≡ length l
length_parts [] = refl
length_parts (x ∷ xs) = omega arith

-- no tally of no refusal has one
pub blank_refuses : (i n : ℕ) → get_or {A = ℕ} (replicate n 0) i 0 ≡ 0
blank_refuses i zero = refl
blank_refuses zero (suc n) = refl
blank_refuses (suc i) (suc n) = blank_refuses i n

-- nor have many
blanks_refuse : (i n : ℕ) → sum_by (refused_in i) (replicate n blank) ≡ 0
blanks_refuse i zero = refl
blanks_refuse i (suc n) = let a = sum_by-cons (refused_in i) blank (replicate n blank) in let b = blank_refuses i 32 in let c = blanks_refuse i n in omega arith

-- what is at home was given
at_of_some : (xs : List BoxState) (i : ℕ) (x : BoxState) → get_elem? (map some xs) i ≡ some (some x) → get_elem? xs i ≡ some x
at_of_some [] i x e = absurd (some-ne-none (some x) (sym e))
at_of_some (y ∷ ys) zero x e = some-injective (some y) (some x) e
at_of_some (y ∷ ys) (suc i) x e = at_of_some ys i x e

module _ (own : List ℕ) (clients : ℕ) where
  abbrev Kept : State BoxState Sight → Type 0
  Kept = Rule own clients

  -- one view is replaced by another, and one word and one slot with it
  changed : (s : State BoxState Sight) → Kept s → (id : ℕ) (v w : Sight) → get_elem? s.views id ≡ some v → (c new : ℕ) → c < 32
      → (homes : List (mathlib.Core.Option.Option BoxState)) → ((i : ℕ) → i ≢ c → get_elem? homes i ≡ get_elem? s.homes i)
      → clients_of w ≡ clients_of v
      → ((i : ℕ) → i ≢ c → (takers i w ≡ takers i v) × (refused_by i w ≡ refused_by i v))
      → takers c w + bit (get_or s.words c 0) ≡ takers c v + bit new
      → (new ≡ 0 → (x : BoxState) × (get_elem? homes c ≡ some (some x)) × Covers x.account.refusals (get_or own c 0) (sum_by (refused_by c) (set s.views id w)))
      → ((t : Taken) → w.taken ≡ Some t → (0 < clients_of w) × Covers t.own (get_or own t.box_no 0) (sum_by (refused_by t.box_no) (set s.views id w)))
      → ((j : ℕ) (u : Sight) (t : Taken) → j ≢ id → get_elem? s.views j ≡ some u → u.taken ≡ Some t → t.box_no ≡ c → Covers t.own (get_or own c 0) (sum_by (refused_by c) (set s.views id w)))
      → Kept record { words = set s.words c new; homes = homes; views = set s.views id w }
  changed s r id v w at c new lt homes homes_else same_clients same out_here home_here mine others =
      let size = r.size in let lt' : c < length s.words = omega arith in
      let total_else : (i : ℕ) → i ≢ c → sum_by (refused_by i) (set s.views id w) ≡ sum_by (refused_by i) s.views = λ i ne.
      (let a = sum_set (refused_by i) s.views id v w at in let b = (same i ne).1 in omega arith) in record {
        size = length-set s.words c new ∙ size;
        room = (let a = sum_set clients_of s.views id v w at in let b = r.room in omega arith);
        out = λ i. dite (ℕ_discrete i c)
            (λ is. subst (λ k. sum_by (takers k) (set s.views id w) ≡ bit (get_or (set s.words c new) k 0)) (sym is)
            (let a = sum_set (takers c) s.views id v w at in let b : sum_by (takers c) s.views ≡ bit (get_or s.words c 0) = r.out c in let d : bit (get_or (set s.words c new) c 0) ≡ bit new = ap bit (get_or-set_same s.words c new 0 lt') in omega arith))
            (λ ne. let a = sum_set (takers i) s.views id v w at in let b : sum_by (takers i) s.views ≡ bit (get_or s.words i 0) = r.out i in let d : bit (get_or (set s.words c new) i 0) ≡ bit (get_or s.words i 0) = ap bit (get_or-set_other s.words c i new 0 ne) in
            let e = (same i ne).0 in omega arith);
        home = λ i below zero_there. dite (ℕ_discrete i c)
            (λ is. subst (λ k. (x : BoxState) × (get_elem? homes k ≡ some (some x)) × Covers x.account.refusals (get_or own k 0) (sum_by (refused_by k) (set s.views id w))) (sym is)
            (home_here (sym (get_or-set_same s.words c new 0 lt') ∙ subst (λ k. get_or (set s.words c new) k 0 ≡ 0) is zero_there)))
            (λ ne. let h = r.home i below (sym (get_or-set_other s.words c i new 0 ne) ∙ zero_there) in (h.0, homes_else i ne ∙ h.1, subst (λ n. Covers h.0.account.refusals (get_or own i 0) n) (sym (total_else i ne)) h.2));
        away = λ j u t there taken.
            set_cases (λ (u : Sight). (t : Taken) → u.taken ≡ Some t → (0 < clients_of u) × Covers t.own (get_or own t.box_no 0) (sum_by (refused_by t.box_no) (set s.views id w))) s.views id w mine
            (λ j u other there t taken. let was = r.away j u t there taken in dite (ℕ_discrete t.box_no c)
            (λ is. (was.0, subst (λ k. Covers t.own (get_or own k 0) (sum_by (refused_by k) (set s.views id w))) (sym is) (others j u t other there taken is)))
            (λ ne. (was.0, subst (λ n. Covers t.own (get_or own t.box_no 0) n) (sym (total_else t.box_no ne)) was.1)))
            j u there t taken;
      }

  -- nothing changes
  still : (s : State BoxState Sight) → Kept s → (c id : ℕ) (v : Sight) → get_elem? s.views id ≡ some v → (mine : List (ℕ × BoxState)) → Kept (stepped s c (get_or s.words c 0) id mine v keeps)
  still s r c id v at mine = subst (λ (ws : List ℕ). Kept record { words = ws; homes = s.homes; views = set s.views id v }) (sym (set-get_or s.words c 0))
      (subst (λ (vs : List Sight). Kept record { words = s.words; homes = s.homes; views = vs }) (sym (set_again s.views id v at)) r)

  -- nobody has a box whose word is 0
  none_has : (s : State BoxState Sight) → Kept s → (c : ℕ) → get_or s.words c 0 ≡ 0 → (j : ℕ) (u : Sight) (t : Taken) → get_elem? s.views j ≡ some u → u.taken ≡ Some t → t.box_no ≡ c → ⊥
  none_has s r c free j u t there taken is =
      let one = sum_one (takers c) s.views j u there in let mine : takers c u ≡ 1 = ap (taken_is c) taken ∙ taken_own c t is in
      let zero : sum_by (takers c) s.views ≡ 0 = r.out c ∙ ap bit free in omega arith

  -- taking a box that is at home keeps the rule
  pub takes_box : (slots id : ℕ) (me : Me BoxState Sight) (c k : ℕ) → c < 32 → 0 < k → me.0.taken ≡ None → 0 < clients_of me.0
      → Allows Kept slots id me c (λ n. either (eqb n 0) k n) (took (step slots c 0 k none) me)
  takes_box slots id me c k below positive idle_now some_client s r long at small =
      let found : ℕ = get_or s.words c 0 in
      exchanged found 0 k
      (λ x. (w : Sight) × (a : Act BoxState) × Valid s.homes me.1 a × Kept (stepped s c x id me.1 w a) × took (step slots c 0 k none) me found (w, carried_after me.1 a))
      (λ free.
      let h = r.home c below free in let x : BoxState = h.0 in let w : Sight = having c x.account.refusals me.0.tallies in
      let total : sum_by (refused_by c) (set s.views id w) ≡ sum_by (refused_by c) s.views = (let a = sum_set (refused_by c) s.views id me.0 w at in let b : refused_by c w ≡ refused_by c me.0 = refl in omega arith) in
      let taken : Taken = record { box_no = c; own = x.account.refusals } in (
        w,
        takes c x,
        h.1,
        changed s r id me.0 w at c k below (set s.homes c none) (λ i ne. set_else s.homes c i none ne) refl (λ i ne. (taken_else i taken ne ∙ sym (ap (taken_is i) idle_now), refl))
            (let a = taken_own c taken refl in let b : takers c me.0 ≡ 0 = ap (taken_is c) idle_now in let d : bit found ≡ 0 = ap bit free in let e : bit k ≡ 1 = grind (arith, nat_tests) in omega arith)
            (λ zero. absurd (omega arith))
            (λ t is. subst (λ (t : Taken). (0 < clients_of w) × Covers t.own (get_or own t.box_no 0) (sum_by (refused_by t.box_no) (set s.views id w))) (ap (some_taken taken) is) (some_client, subst (λ n. Covers x.account.refusals (get_or own c 0) n) (sym total) h.2))
            (λ j u t other there taken is. absurd (none_has s r c free j u t there taken is)),
        ((λ ne. absurd (ne free)), λ _. (x, refl)),
      ))
      (λ out. (me.0, keeps, tt, still s r c id me.0 at me.1, ((λ _. refl), λ free. absurd (out free))))

  -- a note that somebody waits keeps the rule
  pub waits_for : (slots id : ℕ) (me : Me BoxState Sight) (c old new : ℕ) → c < 32 → 0 < old → 0 < new
      → Allows Kept slots id me c (λ n. either (eqb n old) new n) (waited (step slots c old new none) me)
  waits_for slots id me c old new below positive_old positive s r long at small =
      let found : ℕ = get_or s.words c 0 in let v : Sight = me.0 in
      let total : (i : ℕ) → sum_by (refused_by i) (set s.views id v) ≡ sum_by (refused_by i) s.views = λ i. ap (sum_by (refused_by i)) (set_again s.views id v at) in
      exchanged found old new
      (λ x. (w : Sight) × (a : Act BoxState) × Valid s.homes me.1 a × Kept (stepped s c x id me.1 w a) × waited (step slots c old new none) me found (w, carried_after me.1 a))
      (λ hit. (
        v,
        keeps,
        tt,
        changed s r id v v at c new below s.homes (λ i ne. refl) refl (λ i ne. (refl, refl))
            (let a : bit found ≡ 1 = grind (arith, nat_tests) in let b : bit new ≡ 1 = grind (arith, nat_tests) in omega arith)
            (λ zero. absurd (omega arith))
            (λ t is. let was = r.away id v t at is in (was.0, subst (λ n. Covers t.own (get_or own t.box_no 0) n) (sym (total t.box_no)) was.1))
            (λ j u t other there taken is. let was = r.away j u t there taken in subst (λ k. Covers t.own (get_or own k 0) (sum_by (refused_by k) (set s.views id v))) is (subst (λ n. Covers t.own (get_or own t.box_no 0) n) (sym (total t.box_no)) was.1)),
        refl,
      ))
      (λ miss. (v, keeps, tt, still s r c id v at me.1, refl))

  -- giving a box back keeps the rule, where the box counted the refusal that the tally has more
  pub gives_box : (slots id : ℕ) (me : Me BoxState Sight) (c was : ℕ) (t more : Tally) (x : BoxState) (k : ℕ) (then : ℕ → Me BoxState Sight → Type 0) → c < 32 → slots ≡ 32
      → me ≡ (having c was (t ∷ []), (c, x) ∷ []) → refused_in c more ≤ refused_in c t + k → ((i : ℕ) → i ≢ c → refused_in i more ≡ refused_in i t)
      → capped (was + k) ≤ x.account.refusals → ((found : ℕ) → then found (idle (more ∷ []), [])) → Allows Kept slots id me c (λ _. 0) then
  gives_box slots id me c was t more x k then below all is counts else_same covered told s r long at small =
      let v : Sight = having c was (t ∷ []) in let w : Sight = idle (more ∷ []) in let here : get_elem? s.views id ≡ some v = at ∙ ap (λ (m : Me BoxState Sight). some m.0) is in
      let taken : Taken = record { box_no = c; own = was } in
      let one : takers c v ≡ 1 = taken_own c taken refl in let least = sum_one (takers c) s.views id v here in let out : sum_by (takers c) s.views ≡ bit (get_or s.words c 0) = r.out c in
      let out_one : bit (get_or s.words c 0) ≡ 1 = (let a = bit_most (get_or s.words c 0) in omega arith) in
      let parts : (i : ℕ) (u : Tally) → sum_by (refused_in i) (u ∷ []) ≡ refused_in i u = λ i u. (let a = sum_by-cons (refused_in i) u [] in omega arith) in (
        w,
        gives,
        tt,
        subst (λ (m : Me BoxState Sight). Kept (stepped s c 0 id m.1 w gives)) (sym is)
            (changed s r id v w here c 0 below (set s.homes c (some x)) (λ i ne. set_else s.homes c i (some x) ne) refl
            (λ i ne. (sym (taken_else i taken ne), parts i more ∙ (else_same i ne ∙ sym (parts i t))))
            (let a : bit 0 ≡ 0 = refl in omega arith)
            (λ _. (
              x,
              set_here s.homes c (some x) (omega arith),
              (let a = sum_set (refused_by c) s.views id v w here in let b = parts c more in let d = parts c t in let e : Covers was (get_or own c 0) (sum_by (refused_by c) s.views) = (r.away id v taken here refl).1 in
                  let f : refused_by c v ≡ refused_in c t = d in let g : refused_by c w ≡ refused_in c more = b in omega arith),
            ))
            (λ u none_is. let a : 0 ≡ taken_is u.box_no (Some u) = ap (taken_is u.box_no) none_is in let b = taken_own u.box_no u refl in absurd (omega arith))
            (λ j u o other there is_taken at_c. let two = sum_two (takers c) s.views id j v u (λ e. other (sym e)) here there in let b : takers c u ≡ 1 = ap (taken_is c) is_taken ∙ taken_own c o at_c in absurd (omega arith))),
        subst (λ (m : Me BoxState Sight). then (get_or s.words c 0) (w, carried_after m.1 gives)) (sym is) (told (get_or s.words c 0)),
      )

  -- parting the first tally of a seat that has no box keeps the rule
  pub splits : (id : ℕ) (v : Sight) → v.taken ≡ None → Splits Kept id v (first_part v) (later_part v)
  splits id v idle_now s r at =
      let views : List Sight = set s.views id (first_part v) ++ later_part v ∷ [] in
      let total : (f : Sight → ℕ) → f (first_part v) + f (later_part v) ≡ f v → sum_by f views ≡ sum_by f s.views = λ f parts.
      (let a = sum_by_push f (set s.views id (first_part v)) (later_part v) in let b = sum_set f s.views id v (first_part v) at in omega arith) in
      let refused : (i : ℕ) → sum_by (refused_by i) views ≡ sum_by (refused_by i) s.views = λ i. total (refused_by i) (let c = sum_by-take-drop (refused_in i) v.tallies 1 in omega arith) in record {
        size = r.size;
        room = total clients_of (length_parts v.tallies) ∙ r.room;
        out = λ i. total (takers i) (omega arith) ∙ r.out i;
        home = λ i below free. let h = r.home i below free in (h.0, h.1, subst (λ n. Covers h.0.account.refusals (get_or own i 0) n) (sym (refused i)) h.2);
        away = λ j u t there taken.
            let P : Sight → Type 0 = λ u. u.taken ≡ Some t → (0 < clients_of u) × Covers t.own (get_or own t.box_no 0) (sum_by (refused_by t.box_no) views) in
            ⊎_elim
            (λ before. set_cases P s.views id (first_part v) (λ is. absurd (not_taken v.taken t idle_now is))
            (λ j u _ e is. let was = r.away j u t e is in (was.0, subst (λ n. Covers t.own (get_or own t.box_no 0) n) (sym (refused t.box_no)) was.1)) j u before)
            (λ is. subst P is (λ none_is. absurd (not_taken None t refl none_is)))
            (at_snoc (set s.views id (first_part v)) (later_part v) u j there) taken;
      }

  -- putting the tallies of two seats together, neither of which has a box, keeps the rule
  pub joins : (id : ℕ) (v : Sight) (other : ℕ) (w : Sight) → v.taken ≡ None → w.taken ≡ None → Joins Kept id v other w (both_tallies v w) spent
  joins id v other w idle_now idle_too s r at apart there =
      let views : List Sight = set (set s.views id (both_tallies v w)) other spent in
      let total : (f : Sight → ℕ) → f (both_tallies v w) + f spent ≡ f v + f w → sum_by f views ≡ sum_by f s.views = λ f parts.
      (let a = sum_set f s.views id v (both_tallies v w) at in let b = sum_set f (set s.views id (both_tallies v w)) other w spent there in omega arith) in
      let refused : (i : ℕ) → sum_by (refused_by i) views ≡ sum_by (refused_by i) s.views = λ i. total (refused_by i) (let c = sum_by-append (refused_in i) w.tallies v.tallies in omega arith) in
      let nobody : (i : ℕ) → taken_is i w.taken ≡ 0 = λ i. ap (taken_is i) idle_too in record {
        size = r.size;
        room = total clients_of (omega (arith, length-append w.tallies v.tallies)) ∙ r.room;
        out = λ i. total (takers i) (let a = nobody i in omega arith) ∙ r.out i;
        home = λ i below free. let h = r.home i below free in (h.0, h.1, subst (λ n. Covers h.0.account.refusals (get_or own i 0) n) (sym (refused i)) h.2);
        away = λ j u t is_there taken.
            let P : Sight → Type 0 = λ u. u.taken ≡ Some t → (0 < clients_of u) × Covers t.own (get_or own t.box_no 0) (sum_by (refused_by t.box_no) views) in
            set_cases P (set s.views id (both_tallies v w)) other spent (λ none_is. absurd (not_taken None t refl none_is))
            (λ j u _ e. set_cases P s.views id (both_tallies v w) (λ is. absurd (not_taken v.taken t idle_now is))
            (λ j u _ e is. let was = r.away j u t e is in (was.0, subst (λ n. Covers t.own (get_or own t.box_no 0) n) (sym (refused t.box_no)) was.1)) j u e) j u is_there taken;
      }

  -- the rule holds at the start
  pub opens : (words : List ℕ) (xs : List BoxState) → length words ≡ 32 → ((i : ℕ) → get_or words i 0 ≡ 0) → ((i : ℕ) (x : BoxState) → get_elem? xs i ≡ some x → get_or own i 0 ≡ x.account.refusals) → length xs ≡ 32
      → Kept (opening words xs (opening_sight clients))
  opens words xs size zeros began all =
      let v : Sight = opening_sight clients in let alone : (f : Sight → ℕ) → sum_by f (v ∷ []) ≡ f v = λ f. (let a = sum_by-cons f v [] in omega arith) in record {
        size = size;
        room = alone clients_of ∙ length-replicate clients blank;
        out = λ i. alone (takers i) ∙ sym (ap bit (zeros i));
        home = λ i below free. let there = some_there xs i (omega arith) in let x : BoxState = there.0 in let is = began i x (at_of_some xs i x there.1) in
            let none_refused : sum_by (refused_by i) (v ∷ []) ≡ 0 = alone (refused_by i) ∙ blanks_refuse i clients in (x, there.1, omega arith);
        away = λ j u t there taken. at_only (λ (u : Sight). (t : Taken) → u.taken ≡ Some t → (0 < clients_of u) × Covers t.own (get_or own t.box_no 0) (sum_by (refused_by t.box_no) (v ∷ []))) v (λ t is. absurd (not_taken None t refl is)) j u there t taken;
      }

  -- a seat that stands for all clients, and has no box: each box is at home, and covers what the seat's tallies have
  pub settled : (s : State BoxState Sight) → Kept s → (id : ℕ) (v : Sight) → get_elem? s.views id ≡ some v → v.taken ≡ None → clients_of v ≡ clients → (i : ℕ) → i < 32
      → (x : BoxState) × (get_elem? s.homes i ≡ some (some x)) × Covers x.account.refusals (get_or own i 0) (refused_by i v)
  settled s r id v at idle_now all i below = dite (ℕ_discrete (get_or s.words i 0) 0)
      (λ free. let h = r.home i below free in let one = sum_one (refused_by i) s.views id v at in let covers = h.2 in (h.0, h.1, omega arith))
      (λ out.
      let some_taker : sum_by (takers i) s.views ≡ 1 = r.out i ∙ bit_out (get_or s.words i 0) out in
      let found = sum_some (takers i) s.views (omega arith) in let j = found.0 in let u = found.1 in let taken = taken_some i u.taken found.3 in
      let client = (r.away j u taken.0 found.2 taken.1).0 in let room = r.room in let nobody : takers i v ≡ 0 = ap (taken_is i) idle_now in
      let apart : id ≢ j = λ e. (let same : v ≡ u = some-injective v u (sym at ∙ (ap (get_elem? s.views) e ∙ found.2)) in let counts : takers i v ≡ takers i u = ap (takers i) same in let here = found.3 in omega arith) in
      let two = sum_two clients_of s.views id j v u apart at found.2 in absurd (omega arith))

-- what is read where a number was set is that number, or nothing is there
set_least : (l : List ℕ) (i n : ℕ) → get_or (set l i n) i 0 ≤ n
set_least [] i n = omega arith
set_least (x ∷ xs) zero n = omega arith
set_least (x ∷ xs) (suc i) n = set_least xs i n

-- a tally with one more refusal of a box has at most one more of it
pub refusal_here : (i : ℕ) (t : Tally) → refused_in i (with_refusal i t) ≤ refused_in i t + 1
refusal_here i t = let a = set_least t.refused i (min (refused_in i t + 1) most) in omega arith

-- and as many of any other
pub refusal_else : (c : ℕ) (t : Tally) (i : ℕ) → i ≢ c → refused_in i (with_refusal c t) ≡ refused_in i t
refusal_else c t i ne = get_or-set_other t.refused c i (min (refused_in c t + 1) most) 0 ne

-- giving a box back after an ask that it didn't refuse keeps the rule
pub gives_kept : (own : List ℕ) (clients slots id : ℕ) (me : Me BoxState Sight) (c : ℕ) → c < 32 → slots ≡ 32 → HasBox c false me → Allows (Rule own clients) slots id me c (λ _. 0) (came_home (step slots c 0 0 none) me)
gives_kept own clients slots id me c below all has = gives_box own clients slots id me c has.0 has.1 has.1 has.2 0 (came_home (step slots c 0 0 none) me) below all has.3 (omega arith) (λ i ne. refl) has.4
    (λ found. ap {B = Me BoxState Sight} (λ (m : Me BoxState Sight). (idle m.0.tallies, rest m.1)) (sym has.3))

-- so does it with one more refusal, after an ask that it refused
pub gives_counted : (own : List ℕ) (clients slots id : ℕ) (me : Me BoxState Sight) (c : ℕ) → c < 32 → slots ≡ 32 → HasBox c true me → Allows (Rule own clients) slots id me c (λ _. 0) (counted (step slots c 0 0 none) me)
gives_counted own clients slots id me c below all has = gives_box own clients slots id me c has.0 has.1 (with_refusal c has.1) has.2 1 (counted (step slots c 0 0 none) me) below all has.3 (refusal_here c has.1) (refusal_else c has.1) has.4
    (λ found. ap {B = Me BoxState Sight} (λ (m : Me BoxState Sight). (idle (map (with_refusal c) m.0.tallies), rest m.1)) (sym has.3))
