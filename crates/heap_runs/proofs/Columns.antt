-- A column of passes grows, and the locks of a heap are closed.
use Rattle.std.proofs.Common.{◌≡◌, ◌≢◌, ℕ, ◌+◌, ◌<◌, ◌≤◌, ◌⊎◌, inl, inr, suc, zero, List, [], ◌∷◌, ◌++◌, Option, Some, length, sym, refl, ap, ◌∙◌, subst, arith, All, get_or, length-append, take}
use Rattle.std.specs.Prelude.{slice_get, slice_set}
use Rattle.std.specs.List.{sum_by}
use Rattle.std.proofs.lemmas.List.{length-set}
use Rattle.std.proofs.lemmas.List.Elements.{All-head, All-tail}
use Rattle.std.proofs.lemmas.List.Sums.{sum_by-cons}
use Rattle.std.proofs.lemmas.Option.{get_or_from_slice_get, slice_get_within, slice_get-get_or}
use mathlib.Core.Logic.{dite}
use native.Mathlib.Decide.{ℕ_discrete}
use Rattle.turn_lock.specs.declared.machine.Machine.{Ghosts}
use Rattle.turn_lock.specs.declared.lock.TurnLock.{TurnLock}
use Rattle.turn_lock.specs.declared.lock.Pass.{Pass}
use Rattle.turn_lock.specs.History.{entries_by, replay_turns}
use Rattle.turn_lock.specs.Locks.{first, held, number, seen, spare, HasMade, IsPassOf, IsWhole}
use Rattle.heap_runs.specs.declared.heaps.Ctx.{Ctx}
use Rattle.heap_runs.specs.Closes.{AreLeft, IsLeft}
use Rattle.heap_runs.specs.Columns.{ColumnTo, IsColumn}
use Rattle.std.specs.declared.snapshot.Snapshot.{Snapshot}
use Rattle.chunk_table.specs.declared.table.ChunkTable.{ChunkTable}
use Rattle.deeds.specs.declared.deeds.Deed.{Deed}
use Rattle.deeds.specs.declared.deeds.Doing.{Doing}
use Rattle.deeds.specs.declared.deeds.Told.{Told}
use Rattle.heap_shared.specs.Shared.{Facts, Owned, after_entry, opening_facts}
use Rattle.heap_runs.specs.Ways.{turns_in}
use Rattle.heap_runs.proofs.Histories.{told_longer}
use Rattle.heap_runs.proofs.Passing.{get_other, get_same}

-- an element after a list is the one added, or one of the list
pub get_more : {X : Type 0} (xs : List X) (x : X) (k : ℕ) (y : X) → slice_get (xs ++ x ∷ []) k ≡ Some y → ((k ≡ length xs) × (x ≡ y)) ⊎ (slice_get xs k ≡ Some y)
get_more [] x zero y is = inl (refl, some_is x y is)
  where
    some_is : {X : Type 0} (x y : X) → Some x ≡ Some y → x ≡ y
    some_is x y e = cc
get_more [] x (suc k) y is = absurd (cc)
get_more (z ∷ zs) x zero y is = inr is
get_more (z ∷ zs) x (suc k) y is =
    elim (get_more zs x k y is) [
      | inl last ↦ inl (omega (arith, last.0), last.1)
      | inr within ↦ inr within
    ]

module _ {P : Type 0} (pass_at : Ctx → ℕ → Option P) where
  -- the pass of the next context comes to it
  pub column_more : (olds : List Ctx) (n j : ℕ) (news : List Ctx) (column : List P) (old new : Ctx) (pass : P) → ColumnTo pass_at olds n j news column → slice_get news j ≡ Some old → j < length news
      → pass_at old n ≡ Some pass → IsLeft old n new → ColumnTo pass_at olds n (j + 1) (slice_set news j new) (column ++ pass ∷ [])
  column_more olds n j news column old new pass to at within its left =
      let was : slice_get olds j ≡ Some old = sym (to.kept j (omega arith)) ∙ at in record {
        all = length-set news j new ∙ to.all;
        count = length-append column (pass ∷ []) ∙ (let c = to.count in omega (arith, c));
        taken = λ k o m low ok mk. dite (ℕ_discrete k j)
            (λ same.
            let is_old : old ≡ o = one old o (sym was ∙ subst (λ i. slice_get olds i ≡ Some o) same ok) in
            let is_new : new ≡ m = one new m (sym (get_same news j new within) ∙ subst (λ i. slice_get (slice_set news j new) i ≡ Some m) same mk) in
            subst (λ x. IsLeft x n m) is_old (subst (λ x. IsLeft old n x) is_new left))
            (λ far. to.taken k o m (omega (arith, low, far)) ok (sym (get_other news j k new far) ∙ mk));
        kept = λ k high. get_other news j k new (λ e. omega (arith, e, high)) ∙ to.kept k (omega (arith, high));
        each = λ k ctx p ck pk. elim (get_more column pass k p pk) [
          | inl last ↦ subst (λ x. pass_at x n ≡ Some p) (one old ctx (sym was ∙ subst (λ i. slice_get olds i ≡ Some ctx) (last.0 ∙ to.count) ck)) (its ∙ ap Some last.1)
          | inr inside ↦ to.each k ctx p ck inside
        ];
      }
    where
      one : {X : Type 0} (x y : X) → Some x ≡ Some y → x ≡ y
      one x y e = cc

-- there is an element at an index below the length
pub get_some : {X : Type 0} (xs : List X) (i : ℕ) → i < length xs → (x : X) × (slice_get xs i ≡ Some x)
get_some [] i within = absurd (omega (arith, within))
get_some (x ∷ xs) zero within = (x, refl)
get_some (x ∷ xs) (suc i) within = get_some xs i (omega (arith, within))

-- what is so of the element at each index is so of all
pub all_at : {X : Type 0} (P : X → Type 0) (xs : List X) → ((i : ℕ) (x : X) → slice_get xs i ≡ Some x → P x) → All P xs
all_at P xs each = λ i d low. each i (get_or xs i d) (slice_get-get_or xs i d low)

-- so many ones
sum_ones : {X : Type 0} (f : X → ℕ) (xs : List X) → All (λ x. f x ≡ 1) xs → sum_by f xs ≡ length xs
sum_ones f [] ones = refl
sum_ones f (x ∷ xs) ones =
    let one = All-head (λ y. f y ≡ 1) x xs ones in
    let rest = sum_ones f xs (All-tail (λ y. f y ≡ 1) x xs ones) in
    omega (arith, one, rest, sum_by-cons f x xs)

module _ {M : Type 0} {g : Ghosts M Facts Doing (Snapshot Deed) Told Owned} (pass_at : Ctx → ℕ → Option (Pass M Facts Doing (Snapshot Deed) Told Owned g)) (given : List Ctx) (n : ℕ) (lock : TurnLock M Facts Doing (Snapshot Deed) Told Owned) (column : List (Pass M Facts Doing (Snapshot Deed) Told Owned g))
    (is : IsColumn pass_at given n column) (own : (j : ℕ) (ctx : Ctx) (p : Pass M Facts Doing (Snapshot Deed) Told Owned g) → slice_get given j ≡ Some ctx → pass_at ctx n ≡ Some p → IsPassOf lock p × (number p ≡ ctx.client) × (spare p ≡ 0)) where
  -- the context of a pass of the column
  of_ctx : (j : ℕ) (p : Pass M Facts Doing (Snapshot Deed) Told Owned g) → slice_get column j ≡ Some p → (ctx : Ctx) × (slice_get given j ≡ Some ctx) × (pass_at ctx n ≡ Some p)
  of_ctx j p at =
      let within : j < length given = (let a = slice_get_within column j p at in let c = is.count in omega (arith, a, c)) in
      let some = get_some given j within in
      (some.0, some.1, is.each j some.0 p some.1 at)

  pub column_of : All (IsPassOf lock) column
  column_of = all_at (IsPassOf lock) column (λ j p at. let c = of_ctx j p at in (own j c.0 p c.1 c.2).0)

  pub column_sum : sum_by held column ≡ length given
  column_sum = sum_ones held column (all_at (λ p. held p ≡ 1) column (λ j p at. let c = of_ctx j p at in let none = (own j c.0 p c.1 c.2).2 in omega (arith, none))) ∙ is.count

  module _ (table : ChunkTable) (logs : Facts → ℕ → Doing → Snapshot Deed → Type 0) (kept : Facts → List (Snapshot Deed)) (start : Facts → Facts) (state : Facts) (begun : first lock ≡ opening_facts n table)
      (whole : IsWhole logs after_entry kept start {g = g} (first lock) column state) where
    -- a client was told in the whole history what its pass knew
    pub closed_own : (j : ℕ) (ctx : Ctx) → slice_get given j ≡ Some ctx → (p : Pass M Facts Doing (Snapshot Deed) Told Owned g) × (pass_at ctx n ≡ Some p) × (turns_in table ctx.client n whole.log ≡ turns_in table ctx.client n (seen p))
    closed_own j ctx at =
        let within : j < length column = (let a = slice_get_within given j ctx at in let c = is.count in omega (arith, a, c)) in
        let some = get_some column j within in
        let p : Pass M Facts Doing (Snapshot Deed) Told Owned g = some.0 in
        let here = is.each j ctx p at some.1 in
        let made : HasMade whole.log p = whole_at j p some.1 in (
          p,
          here,
          subst (λ c. turns_in table c n whole.log ≡ turns_in table c n (seen p)) (own j ctx p at here).1 (told_longer after_entry (number p) (opening_facts n table) (seen p) whole.log made.0 made.1),
        )
      where
        whole_at : (j : ℕ) (p : Pass M Facts Doing (Snapshot Deed) Told Owned g) → slice_get column j ≡ Some p → HasMade whole.log p
        whole_at j p at = subst (HasMade whole.log) (get_or_from_slice_get column j p p at) (whole.made j p (slice_get_within column j p at))

    pub closed_others : (m : ℕ) → ((j : ℕ) (ctx : Ctx) → slice_get given j ≡ Some ctx → ctx.client ≢ m) → entries_by m whole.log ≡ []
    closed_others m none = whole.others m (all_at (λ p. number p ≢ m) column (λ j p at. let c = of_ctx j p at in λ e. none j c.0 c.1 (sym (own j c.0 p c.1 c.2).1 ∙ e)))

    pub closed_replayed : state ≡ replay_turns after_entry (opening_facts n table) whole.log
    closed_replayed = subst (λ s. state ≡ replay_turns after_entry s whole.log) begun whole.replayed

-- ---- from one arena to the next

pub get_last : {X : Type 0} (xs : List X) (x : X) → slice_get (xs ++ x ∷ []) (length xs) ≡ Some x
get_last [] x = refl
get_last (y ∷ ys) x = get_last ys x

pub get_take : {X : Type 0} (xs : List X) (m i : ℕ) → i < m → slice_get (take m xs) i ≡ slice_get xs i
get_take [] zero i low = refl
get_take [] (suc m) i low = refl
get_take (x ∷ xs) zero i low = absurd (omega (arith, low))
get_take (x ∷ xs) (suc m) zero low = refl
get_take (x ∷ xs) (suc m) (suc i) low = get_take xs m i (omega (arith, low))

pub take_take : {X : Type 0} (xs : List X) (m n : ℕ) → n ≤ m → take n (take m xs) ≡ take n xs
take_take [] zero zero low = refl
take_take [] (suc m) zero low = refl
take_take [] zero (suc n) low = refl
take_take [] (suc m) (suc n) low = refl
take_take (x ∷ xs) zero zero low = refl
take_take (x ∷ xs) zero (suc n) low = absurd (omega (arith, low))
take_take (x ∷ xs) (suc m) zero low = refl
take_take (x ∷ xs) (suc m) (suc n) low = ap (λ l. x ∷ l) (take_take xs m n (omega (arith, low)))

pub take_front : {X : Type 0} (xs ys : List X) → take (length xs) (xs ++ ys) ≡ xs
take_front [] [] = refl
take_front [] (y ∷ ys) = refl
take_front (x ∷ xs) ys = ap (λ l. x ∷ l) (take_front xs ys)

-- the locks that are left, and the one that was taken out
pub lock_is : {X : Type 0} (all left rest : List X) (x : X) → left ≡ take (length left) all → left ≡ rest ++ x ∷ [] → (slice_get all (length rest) ≡ Some x) × (rest ≡ take (length rest) all)
lock_is all left rest x is out =
    let long : length left ≡ length rest + 1 = ap length out ∙ length-append rest (x ∷ []) in
    let here : take (length left) all ≡ rest ++ x ∷ [] = sym is ∙ out in (
      sym (get_take all (length left) (length rest) (omega (arith, long))) ∙ ap (λ l. slice_get l (length rest)) here ∙ get_last rest x,
      sym (take_front rest (x ∷ [])) ∙ ap (take (length rest)) (sym here) ∙ take_take all (length left) (length rest) (omega (arith, long)),
    )

-- contexts that are left of others that are left
pub left_more : (olds mids news : List Ctx) (m n : ℕ) → n < m → AreLeft olds m mids → AreLeft mids n news → AreLeft olds n news
left_more olds mids news m n low first later = record {
  count = later.count ∙ first.count;
  each = λ j old new ok nk.
      let within : j < length mids = (let a = slice_get_within olds j old ok in let c = first.count in omega (arith, a, c)) in
      let mid = get_some mids j within in
      let one = first.each j old mid.0 ok mid.1 in
      let two = later.each j mid.0 new mid.1 nk in record {
        count = two.count;
        passes = λ i less. two.passes i less ∙ one.passes i (omega (arith, less, low));
        seat = two.seat ∙ one.seat;
      };
}
