use Rattle.hook_api.proofs.Words.{rules, ◌≡◌, ℕ, ◌+◌, ◌++◌, ◌∷◌, [], List, Bool, false, IsTrue, get_or, map, ap, sym, suc, subst, take, arith, ◌∙◌, dite, ℕ_discrete, get_elem?, get_or_default, AreInForce, Book, Orders, new_book, no_orders, map-append, get_or-set_other, slots_items, slots_filled, BoxState}
use Rattle.hook_api.proofs.ShareDeals.{set_false, take_more}
use Rattle.hook_api.proofs.InForce.{set_fits}
use Rattle.hook_api.proofs.unshare.empty.Goals as goal

pub loop-i-preserved : goal.loop-i-preserved
loop-i-preserved g c =
    let before = c.loop-i.invariant in let i : ℕ = c.loop-i.i in let others = c.take.ensures.others in let old : List Bool = slots_filled c.loop-i.closed.slots in
    let account = g.H.ExtentHooks.account in let next : i + 1 ≡ suc i = omega arith in
    let there : get_elem? (slots_items c.args.closed.slots) i ≡ mathlib.Core.Option.some c.take.result = sym (ap (λ l. get_elem? l i) before.slots.1) ∙ c.take.ensures.value in record {
      slots = (others.2 ∙ before.slots.0, others.0 ∙ before.slots.1);
      full = λ k above below. subst IsTrue (sym (ap (λ (l : List Bool). get_or l k false) others.1 ∙ get_or-set_other old i k false false (λ is. omega arith))) (before.full k (omega arith) below);
      emptied = λ k under. ap (λ (l : List Bool). get_or l k false) others.1 ∙ dite (ℕ_discrete k i)
          (λ is. subst (λ n. get_or (Rattle.std.proofs.Common.set old i false) n false ≡ false) (sym is) (set_false old i))
          (λ ne. get_or-set_other old i k false false ne ∙ before.emptied k (omega arith));
      boxes = ap (map account) c.push_reserved.ensures.items ∙ (map-append account c.loop-i.boxes.items (c.close-hooks.result.0 ∷ [])
          ∙ ((λ k. before.boxes k ++ c.close-hooks.ensures.account k ∷ []) ∙ sym (ap (λ n. take n (map (λ (d : BoxState). d.account) (slots_items c.args.closed.slots))) next
          ∙ take_more (λ (d : BoxState). d.account) (slots_items c.args.closed.slots) i c.take.result there)));
      room = search rules;
      books = search rules;
      in_force = λ k under. set_fits (λ (n : ℕ) (b : Book). AreInForce (get_or c.args.orders.now n no_orders) b.plans) c.loop-i.books i k c.close-hooks.result.1 new_book (omega arith) (subst (λ (o : Orders). AreInForce o c.close-hooks.result.1.plans) (get_or_default c.args.orders.now i _ no_orders (search rules)) c.close-hooks.ensures.in_force)
          (λ ne. before.in_force k (omega arith));
    }
