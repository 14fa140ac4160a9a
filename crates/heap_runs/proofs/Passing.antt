-- A turn of one of the passes of a context.
use Rattle.heap_runs.proofs.Words.{◌≡◌, ◌≢◌, ℕ, ◌<◌, Bool, cond, suc, zero, List, [], ◌∷◌, ◌++◌, Some, length, sym, refl, ap, ◌∙◌, subst, arith, append-nil, arc_value, get_or, slice_get, slice_set, option_map_or, Snapshot, eq-eqb, ne_eqb, length-set, slice_get-get_or, dite, ℕ_discrete, ChunkTable, Lock, Way, Turn, entries_by, replay_turns, turn_of, first, number, seen, spare, IsPassOf, Turned, Deed, Doing, Told, Facts, Logs, after_entry, opening_facts, owned_by, told_to, Took, seal, took_in, AreWays, seen_at, state_of, turns_in, Ctx, SharedHeap}
use Rattle.heap_runs.proofs.Histories.{told_turn}

-- the element at an index below the length, by itself
pub get_is : {X : Type 0} (xs : List X) (i : ℕ) (x : X) → i < length xs → x ≡ get_or xs i x → slice_get xs i ≡ Some x
get_is xs i x within is = slice_get-get_or xs i x within ∙ ap Some (sym is)

pub get_same : {X : Type 0} (xs : List X) (i : ℕ) (x : X) → i < length xs → slice_get (slice_set xs i x) i ≡ Some x
get_same [] i x within = absurd (omega (arith, within))
get_same (y ∷ ys) zero x within = refl
get_same (y ∷ ys) (suc i) x within = get_same ys i x (omega (arith, within))

pub get_other : {X : Type 0} (xs : List X) (i k : ℕ) (x : X) → k ≢ i → slice_get (slice_set xs i x) k ≡ slice_get xs k
get_other [] i k x differ = refl
get_other (y ∷ ys) zero zero x differ = absurd (differ refl)
get_other (y ∷ ys) zero (suc k) x differ = refl
get_other (y ∷ ys) (suc i) zero x differ = refl
get_other (y ∷ ys) (suc i) (suc k) x differ = get_other ys i k x (λ e. differ (ap suc e))

pub same_element : {X : Type 0} (x y : X) → Some x ≡ Some y → x ≡ y
same_element x y e = cc

-- A client has this pass of the arena with an index, whose lock is this one.
pub record IsWayOf (heap : SharedHeap) (ctx : Ctx) (a : ℕ) (lock : Lock) (old : Way) : Type 0 where
  pub ways : AreWays heap.locks.items ctx.client ctx.passes.items
  pub low : a < 32
  pub locked : slice_get heap.locks.items a ≡ Some lock
  pub passed : slice_get ctx.passes.items a ≡ Some old

pub lock_low : (heap : SharedHeap) (a : ℕ) → a < 32 → a < length heap.locks.items
lock_low heap a low = let all = heap.made.number in omega (arith, all, low)

pub pass_low : (heap : SharedHeap) (ctx : Ctx) (a : ℕ) → AreWays heap.locks.items ctx.client ctx.passes.items → a < 32 → a < length ctx.passes.items
pass_low heap ctx a ways low = let all = ways.full in omega (arith, all, low)

pub way_of : (heap : SharedHeap) (ctx : Ctx) (a : ℕ) (lock : Lock) (old : Way) → AreWays heap.locks.items ctx.client ctx.passes.items → a < 32 → lock ≡ get_or heap.locks.items a lock → old ≡ get_or ctx.passes.items a old → IsWayOf heap ctx a lock old
way_of heap ctx a lock old ways low lock_is old_is = record {
  ways = ways;
  low = low;
  locked = get_is heap.locks.items a lock (lock_low heap a low) lock_is;
  passed = get_is ctx.passes.items a old (pass_low heap ctx a ways low) old_is;
}

module _ (heap : SharedHeap) (ctx : Ctx) (a : ℕ) (lock : Lock) (old : Way) (is : IsWayOf heap ctx a lock old) where
  abbrev table : ChunkTable
  table = arc_value heap.table

  abbrev c : ℕ
  c = ctx.client

  abbrev passes : List Way
  passes = ctx.passes.items

  within : a < length passes
  within = pass_low heap ctx a is.ways is.low

  begun : first lock ≡ opening_facts a table
  begun = (heap.made.begun a lock is.locked).0

  pub its_pass : IsPassOf lock old
  its_pass = (is.ways.own a lock old is.locked is.passed).0

  mine : number old ≡ c
  mine = (is.ways.own a lock old is.locked is.passed).1

  seen_old : seen_at passes a ≡ seen old
  seen_old = ap (λ o. option_map_or (seen) o []) is.passed

  -- what it knows of its client
  pub knows : owned_by (replay_turns after_entry (first lock) (seen old)) (number old) ≡ owned_by (state_of table a (seen_at passes a)) c
  knows =
      ap (λ n. owned_by (replay_turns after_entry (first lock) (seen old)) n) mine
      ∙ ap (λ (s : Facts). owned_by (replay_turns after_entry s (seen old)) c) begun ∙ ap (λ log. owned_by (state_of table a log) c) (sym seen_old)

  module _ (new : Way) where
    abbrev later : List Way
    later = slice_set passes a new

    pub ways_turned : IsPassOf lock new → number new ≡ number old → spare new ≡ spare old → AreWays heap.locks.items c later
    ways_turned of same spares = record {
      few = is.ways.few;
      full = length-set passes a new ∙ is.ways.full;
      own = λ i l p el ep. dite (ℕ_discrete i a)
          (λ home.
          let here : slice_get later a ≡ Some p = subst (λ n. slice_get later n ≡ Some p) home ep in
          let pass : new ≡ p = same_element new p (sym (get_same passes a new within) ∙ here) in
          let of_lock : lock ≡ l = same_element lock l (sym is.locked ∙ subst (λ n. slice_get heap.locks.items n ≡ Some l) home el) in
          let had = is.ways.own a lock old is.locked is.passed in (
            subst (λ (x : Lock). IsPassOf x p) of_lock (subst (λ (x : Way). IsPassOf lock x) pass of),
            subst (λ (x : Way). number x ≡ c) pass (same ∙ had.1),
            subst (λ (x : Way). spare x ≡ 0) pass (spares ∙ had.2),
          ))
          (λ far. is.ways.own i l p el (sym (get_other passes a i new far) ∙ ep));
    }

    -- the histories of other arenas are as they were
    pub seen_else : (i : ℕ) → i ≢ a → seen_at later i ≡ seen_at passes i
    seen_else i far = ap (λ o. option_map_or (seen) o []) (get_other passes a i new far)

    seen_new : seen_at later a ≡ seen new
    seen_new = ap (λ o. option_map_or (seen) o []) (get_same passes a new within)

    module _ (doing : Doing) (told : Told) (same : number new ≡ number old) (t : Turned Logs after_entry owned_by lock old new doing told) where
      -- the turn is the client's next one there, and no turn of another arena
      pub turns_turned : (i : ℕ) → turns_in table c i (seen_at later i) ≡ turns_in table c i (seen_at passes i) ++ took_in i (Took a t.entry.value told ∷ [])
      turns_turned i = dite (ℕ_discrete i a)
          (λ home. subst (λ n. turns_in table c n (seen_at later n) ≡ turns_in table c n (seen_at passes n) ++ took_in n (Took a t.entry.value told ∷ [])) (sym home) here)
          (λ far.
          ap (turns_in table c i) (seen_else i far)
          ∙ sym (append-nil _) ∙ ap (λ (b : Bool). turns_in table c i (seen_at passes i) ++ (cond b ((seal t.entry.value, told) ∷ []) [] ++ [])) (sym (ne_eqb a i (λ e. far (sym e)))))
        where
          one : turns_in table c a (seen new) ≡ turns_in table c a (seen old) ++ (t.entry, told) ∷ []
          one =
              let turn = told_turn after_entry (number old) (first lock) (seen old) t.before (seen new) t.entry told t.begins (ap (λ n. entries_by n (seen new)) (sym same) ∙ t.made) t.ends t.reply in
              subst (λ n. told_to after_entry n (opening_facts a table) (seen new) ≡ told_to after_entry n (opening_facts a table) (seen old) ++ (t.entry, told) ∷ []) mine
              (subst (λ (s : Facts). told_to after_entry (number old) s (seen new) ≡ told_to after_entry (number old) s (seen old) ++ (t.entry, told) ∷ []) begun turn)

          here : turns_in table c a (seen_at later a) ≡ turns_in table c a (seen_at passes a) ++ took_in a (Took a t.entry.value told ∷ [])
          here =
              ap (turns_in table c a) seen_new ∙ one
              ∙ ap (λ (b : Bool). turns_in table c a (seen old) ++ (cond b ((seal t.entry.value, told) ∷ []) [] ++ [])) (sym (eq-eqb a a refl))
              ∙ ap (λ log. turns_in table c a log ++ took_in a (Took a t.entry.value told ∷ [])) (sym seen_old)

      -- the arena as the turn met it, and as it left it
      abbrev pub met : Facts
      met = replay_turns after_entry (first lock) t.before

      pub logged : Logs met c doing t.entry
      logged = subst (λ n. Logs met n doing t.entry) mine t.logged

      pub own_met : owned_by met c ≡ owned_by (state_of table a (seen_at passes a)) c
      own_met = ap (λ n. owned_by met n) (sym mine) ∙ t.met ∙ knows

      pub left_so : state_of table a (seen_at later a) ≡ (after_entry met t.entry).0
      left_so =
          ap (state_of table a) (seen_new ∙ t.ends) ∙ ap (λ (s : Facts). replay_turns after_entry s (t.before ++ turn_of (number old) t.entry ∷ [])) (sym begun)
          ∙ replay_more (first lock) t.before
        where
          replay_more : (s : Facts) (xs : List (Turn (Snapshot Deed))) → replay_turns after_entry s (xs ++ turn_of (number old) t.entry ∷ []) ≡ (after_entry (replay_turns after_entry s xs) t.entry).0
          replay_more s [] = refl
          replay_more s (x ∷ xs) = replay_more (after_entry s x.entry).0 xs

    -- a turn that found no memory leaves all as it was
    pub seen_same : seen new ≡ seen old → (i : ℕ) → seen_at later i ≡ seen_at passes i
    seen_same same i = dite (ℕ_discrete i a)
        (λ home. subst (λ n. seen_at later n ≡ seen_at passes n) (sym home) (seen_new ∙ same ∙ sym seen_old))
        (λ far. seen_else i far)
