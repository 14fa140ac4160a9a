use Rattle.part_book.proofs.Words.{◌≡◌, ℕ, ◌≤◌, Some, option_to_list, true, rules, not, not_from_false, eqb, eq-eqb, false_from_ne_true, List, [], ◌∷◌, ◌++◌, filter, filter-append, filter_all_of, count_by, count_some, bit, sum_by_push, refl, ap, ◌∙◌, arith}
use Rattle.std.proofs.lemmas.Fn.{filter_same}
use Rattle.std.proofs.Common.{append-nil}
use Rattle.part_book.proofs.changes.land.Goals as goal

-- without the last number, which is there once, the numbers are those before it
without_last : (front : List ℕ) (number : ℕ) → count_by (λ n. eqb n number) (front ++ number ∷ []) ≤ 1 → front ≡ filter (λ n. not (eqb n number)) (front ++ number ∷ [])
without_last front number once =
    let own : eqb number number ≡ true = eq-eqb number number refl in
    let sum = sum_by_push (λ n. bit (eqb n number)) front number in
    let none = ap bit own in
    let kept = filter_all_of (λ n. not (eqb n number)) front (λ n m. not_from_false (eqb n number) (false_from_ne_true (eqb n number) (λ t. let some = count_some (λ x. eqb x number) front n m t in omega arith))) in
    grind (arith, filter-append (λ n. not (eqb n number)) front (number ∷ []), kept, own, append-nil front)

pub returns-then-last-number-clause-numbers : goal.returns-then-last-number-clause-numbers
returns-then-last-number-clause-numbers c =
    let last = c.in-Some.ensures.item.3 in
    let popped : c.pop.result ≡ Some c.args.number = cc (c.pop.ensures.value c.args.number (omega (arith, last.0, c.deref.ensures.len)), last.1 c.args.number) in
    let items = c.pop.ensures.items ∙ ap (λ o. c.pop.new.self.items ++ option_to_list o) popped in
    rw items (without_last c.pop.new.self.items c.args.number (rw items at c.requires))

pub returns-in_default-clause-numbers : goal.returns-in_default-clause-numbers
returns-in_default-clause-numbers c = filter_same _ (λ n. not (eqb n c.args.number)) _ (λ x b f' k. search rules) _ _ c.retain.ensures.filtered
