use Rattle.thread_cache.proofs.Words.{◌≡◌, ◌∙◌, ℕ, ◌+◌, ◌-◌, ◌<◌, List, Bool, true, false, ap, sym, subst, length, take, get_or, not, ◌==◌, arith, ◌≤◌, remove, nat_tests, get_or_append_left, length-take-le, get_or-take, Held, is_elsewhere}
use Rattle.thread_cache.proofs.Gone.{left_behind, one_goes, one_stays}
use Rattle.thread_cache.proofs.stacks.Stack.drop_first_of.Goals as goal

differs : (a b : ℕ) → (a ≡ b → ⊥) → (a == b) ≡ false
differs a b apart = grind (arith, nat_tests)

agrees : (a b : ℕ) → a ≡ b → (a == b) ≡ true
agrees a b is = grind (arith, nat_tests)

-- the region in front of those that were looked at
in_front : (p : Held → Bool) (xs items : List Held) (count place : ℕ) (d : Held) → items ≡ left_behind p place count xs → 0 < place → place ≤ count → count ≤ length xs →
    get_or items (place - 1) d ≡ get_or xs (place - 1) d
in_front p xs items count place d is some below within =
    let n = length-take-le place xs (omega (arith, below, within)) in
    ap (λ ys. get_or ys (place - 1) d) is
    ∙ get_or_append_left (take place xs) _ d (place - 1) (omega (arith, n, some))
    ∙ get_or-take place xs (place - 1) d (omega (arith, some))

pub loop-place-preserved : goal.loop-place-preserved
loop-place-preserved c =
    let xs = c.args.self.now.regions in
    let x = c.index.result.now in
    let p = c.loop-place.place - 1 in
    let is = is_elsewhere c.args.arena in
    let items = c.loop-place.self-inside.regions.items in
    let front : x ≡ get_or xs p x = c.index.ensures ∙ in_front is xs items c.args.count c.loop-place.place x c.loop-place.invariant.0 c.loop-place-test.true c.loop-place.auto.place c.requires in
    let passes : is (get_or xs p x) ≡ true = ap is (sym front) ∙ ap not (differs x.arena c.args.arena c.if-index-arena.false) in
    let next : c.loop-place.place ≡ p + 1 = omega (arith, c.loop-place-test.true) in
    let here : items ≡ left_behind is (p + 1) c.args.count xs = subst (λ n. items ≡ left_behind is n c.args.count xs) next c.loop-place.invariant.0 in (
      here ∙ one_stays is xs c.args.count p x (omega (arith, c.loop-place-test.true, c.loop-place.auto.place)) c.requires passes,
      c.loop-place.invariant.1,
      c.loop-place.invariant.2,
    )

pub loop-place-preserved-then-index-arena : goal.loop-place-preserved-then-index-arena
loop-place-preserved-then-index-arena c =
    let xs = c.args.self.now.regions in
    let x = c.index.result.now in
    let p = c.loop-place.place - 1 in
    let is = is_elsewhere c.args.arena in
    let items = c.loop-place.self-inside.regions.items in
    let front : x ≡ get_or xs p x = c.index.ensures ∙ in_front is xs items c.args.count c.loop-place.place x c.loop-place.invariant.0 c.loop-place-test.true c.loop-place.auto.place c.requires in
    let fails : is (get_or xs p x) ≡ false = ap is (sym front) ∙ ap not (agrees x.arena c.args.arena c.if-index-arena.true) in
    let next : c.loop-place.place ≡ p + 1 = omega (arith, c.loop-place-test.true) in
    let here : items ≡ left_behind is (p + 1) c.args.count xs = subst (λ n. items ≡ left_behind is n c.args.count xs) next c.loop-place.invariant.0 in (
      c.remove.ensures.items ∙ ap (λ ys. remove ys p) here ∙ one_goes is xs c.args.count p x (omega (arith, c.loop-place-test.true, c.loop-place.auto.place)) c.requires fails,
      c.loop-place.invariant.1,
      record {
        small = c.loop-place.invariant.2.small;
        within = omega (arith, c.loop-place.invariant.2.within, c.remove.ensures.len);
        room = omega (arith, c.loop-place.invariant.2.room, c.remove.ensures.capacity);
      },
    )
