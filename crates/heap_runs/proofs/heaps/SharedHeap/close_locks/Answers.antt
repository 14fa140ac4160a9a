use Rattle.std.proofs.Common.{◌≡◌, ◌∙◌, ◌+◌, ◌-◌, ◌<◌, ◌∷◌, ◌++◌, inl, inr, ℕ, [], List, Option, Some, sym, ap, subst, arith, length, length-append, take}
use Rattle.std.specs.Prelude.{slice_get}
use Rattle.std.specs.Option.{option_map_or}
use Rattle.std.proofs.lemmas.Option.{slice_get_within}
use Rattle.std.proofs.lemmas.List.Elements.{All-head, All-tail}
use Rattle.std.proofs.lemmas.List.Sums.{sum_by-cons}
use Rattle.turn_lock.specs.declared.lock.Pass.{Pass}
use Rattle.turn_lock.specs.declared.lock.TurnLock.{TurnLock}
use Rattle.turn_lock.specs.History.{IsLegal}
use Rattle.turn_lock.specs.Locks.{held, number, passes, seen, spare, IsPassOf}
use Rattle.heap_shared.specs.contracts.machine.ArenaTurnsMachine.TheImpl.{ghosts}
use Rattle.heap_runs.specs.declared.heaps.Ctx.{Ctx}
use Rattle.heap_shared.specs.declared.machine.ArenaTurns.{ArenaTurns}
use Rattle.deeds.specs.declared.deeds.Deed.{Deed}
use Rattle.deeds.specs.declared.deeds.Doing.{Doing}
use Rattle.deeds.specs.declared.deeds.Told.{Told}
use Rattle.heap_shared.specs.Shared.{Facts, Logs, Owned, after_entry}
use Rattle.std.specs.Arc.{arc_value}
use Rattle.std.specs.declared.snapshot.Snapshot.{Snapshot}
use Rattle.heap_runs.specs.Closes.{AreLeft, IsClosed}
use Rattle.heap_runs.specs.Columns.{IsColumn}
use Rattle.heap_runs.specs.Ways.{turns_in}
use Rattle.heap_runs.proofs.Columns.{closed_others, closed_own, closed_replayed, column_of, column_sum, get_more, get_some, left_more, lock_is}
use Rattle.heap_runs.proofs.heaps.SharedHeap.close_locks.Goals as goal
use Rattle.heap_runs.proofs.heaps.SharedHeap.close_locks.Goals.{In_ok-pass}

abbrev Way : Type 0
Way = Pass ArenaTurns Facts Doing (Snapshot Deed) Told Owned ghosts

abbrev Lock : Type 0
Lock = TurnLock ArenaTurns Facts Doing (Snapshot Deed) Told Owned

abbrev pass_at : Ctx → ℕ → Option Way
pass_at ctx i = slice_get ctx.passes.items i

-- the passes of contexts that are left of others are these others'
given_column : (given cur : List Ctx) (n : ℕ) (column : List Way) → IsColumn pass_at cur n column → AreLeft given (n + 1) cur → IsColumn pass_at given n column
given_column given cur n column is left = record {
  count = is.count ∙ left.count;
  each = λ j ctx p ck pk.
      let within : j < length cur = (let a = slice_get_within given j ctx ck in let c = left.count in omega (arith, a, c)) in
      let mid = get_some cur j within in
      sym ((left.each j ctx mid.0 ck mid.1).passes n (omega arith)) ∙ is.each j mid.0 p mid.1 pk;
}

-- which lock was taken out, and those that are left
module _ (all left rest : List Lock) (lock : Lock) (n len : ℕ) (is : left ≡ take (length left) all) (out : left ≡ rest ++ lock ∷ []) (told : n ≡ len) (counted : len ≡ length rest) where
  taken : slice_get all n ≡ Some lock
  taken = ap (slice_get all) (told ∙ counted) ∙ (lock_is all left rest lock is out).0

  more : length left ≡ n + 1
  more = let long = ap length out ∙ length-append rest (lock ∷ []) in omega (arith, long, told, counted)

pub column-requires-clause-full : goal.column-requires-clause-full
column-requires-clause-full c = λ j ctx is.
    let within : j < length c.args.ctxs.now.items = (let a = slice_get_within c.loop-lock.ctxs.items j ctx is in let b = c.loop-lock.invariant.left.count in omega (arith, a, b)) in
    let old = get_some c.args.ctxs.now.items j within in
    (c.loop-lock.invariant.left.each j old.0 ctx old.1 is).count ∙ more c.args.self.locks.items c.loop-lock.locks.items c.pop.new.self.items c.in-Some.lock c.len.result _ c.loop-lock.invariant.locks c.in-Some.ensures.items c.len.ensures c.pop.new.self.ok.0

module _ (c : In_ok-pass) where
  abbrev n : ℕ
  n = c.len.result

  abbrev column : List Way
  column = c.in_ok-pass.pass ∷ passes c.in_ok-pass.others

  lock_at : slice_get c.args.self.locks.items n ≡ Some c.in-Some.lock
  lock_at = taken c.args.self.locks.items c.loop-lock.locks.items c.pop.new.self.items c.in-Some.lock n _ c.loop-lock.invariant.locks c.in-Some.ensures.items c.len.ensures c.pop.new.self.ok.0

  counts : length c.loop-lock.locks.items ≡ n + 1
  counts = more c.args.self.locks.items c.loop-lock.locks.items c.pop.new.self.items c.in-Some.lock n _ c.loop-lock.invariant.locks c.in-Some.ensures.items c.len.ensures c.pop.new.self.ok.0

  is : IsColumn pass_at c.args.ctxs.now.items n column
  is = given_column c.args.ctxs.now.items c.loop-lock.ctxs.items n column c.in_ok-pass.ensures.column (subst (λ m. AreLeft c.args.ctxs.now.items m c.loop-lock.ctxs.items) counts c.loop-lock.invariant.left)

  own : (j : ℕ) (ctx : Ctx) (p : Way) → slice_get c.args.ctxs.now.items j ≡ Some ctx → pass_at ctx n ≡ Some p → IsPassOf c.in-Some.lock p × (number p ≡ ctx.client) × (spare p ≡ 0)
  own j ctx p ck pk = (c.requires.ctxs j ctx ck).own n c.in-Some.lock p lock_at pk

pub close-requires-clause-lock : goal.close-requires-clause-lock
close-requires-clause-lock c =
    let at = (goal.at.close-requires-clause-lock c).In_ok-pass in
    let all = column_of pass_at c.args.ctxs.now.items c.len.result c.in-Some.lock (column at) (is at) (own at) in
    (All-head (IsPassOf c.in-Some.lock) c.in_ok-pass.pass (passes c.in_ok-pass.others) all, All-tail (IsPassOf c.in-Some.lock) c.in_ok-pass.pass (passes c.in_ok-pass.others) all)

pub close-requires-clause-all : goal.close-requires-clause-all
close-requires-clause-all c =
    let at = (goal.at.close-requires-clause-all c).In_ok-pass in
    let sum = column_sum pass_at c.args.ctxs.now.items c.len.result c.in-Some.lock (column at) (is at) (own at) in
    let seats = (c.args.self.made.begun c.len.result c.in-Some.lock (lock_at at)).1 in
    let all = c.requires.all in
    let one = sum_by-cons held c.in_ok-pass.pass (passes c.in_ok-pass.others) in
    omega (arith, sum, seats, all, one)

pub loop-lock-preserved : goal.loop-lock-preserved
loop-lock-preserved c =
    let at = (goal.at.loop-lock-preserved c).In_ok-pass in
    let n = c.len.result in
    let given = c.args.ctxs.now.items in
    let begun = (c.args.self.made.begun n c.in-Some.lock (lock_at at)).0 in
    let whole = c.close.ensures in
    let told = c.len.ensures in
    let ok = c.pop.new.self.ok.0 in
    let here : n ≡ length c.pop.new.self.items = told ∙ ok in
    let count = c.loop-lock.invariant.count in
    let long = counts at in
    let room = c.loop-lock.invariant.room in
    let pushed = ap length c.push_reserved.ensures.items ∙ length-append c.loop-lock.states.items (c.close.result ∷ []) in
    let capacity = c.push_reserved.ensures.capacity in record {
      locks = (lock_is c.args.self.locks.items c.loop-lock.locks.items c.pop.new.self.items c.in-Some.lock c.loop-lock.invariant.locks c.in-Some.ensures.items).1;
      left = subst (λ m. AreLeft given m c.column.new.ctxs.items) here (left_more given c.loop-lock.ctxs.items c.column.new.ctxs.items (length c.loop-lock.locks.items) n (omega (arith, long)) c.loop-lock.invariant.left c.in_ok-pass.ensures.left);
      count = omega (arith, pushed, count, long, here);
      closed = λ k state sk. elim (get_more c.loop-lock.states.items c.close.result k state (sym (ap (λ l. slice_get l k) c.push_reserved.ensures.items) ∙ sk)) [
        | inl last ↦
            let place : n ≡ 31 - k = (let at = last.0 in omega (arith, at, count, long)) in
            subst (λ i. IsClosed c.args.self given i state) place (subst (IsClosed c.args.self given n) last.1 (record {
              log = whole.log;
              replayed = closed_replayed pass_at given n c.in-Some.lock (column at) (is at) (own at) (arc_value c.args.self.table) _ _ _ c.close.result begun whole;
              legal = subst (λ (f : Facts). IsLegal Logs after_entry f whole.log) begun whole.legal;
              kept = whole.keeps;
              own = λ j ctx ck.
                  let mine = closed_own pass_at given n c.in-Some.lock (column at) (is at) (own at) (arc_value c.args.self.table) _ _ _ c.close.result begun whole j ctx ck in
                  mine.2 ∙ ap (λ o. turns_in (arc_value c.args.self.table) ctx.client n (option_map_or seen o [])) (sym mine.1);
              others = closed_others pass_at given n c.in-Some.lock (column at) (is at) (own at) (arc_value c.args.self.table) _ _ _ c.close.result begun whole;
            }))
        | inr earlier ↦ c.loop-lock.invariant.closed k state earlier
      ];
      room = omega (arith, room, capacity);
    }
