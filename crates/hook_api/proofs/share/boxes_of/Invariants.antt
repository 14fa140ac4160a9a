use Rattle.hook_api.proofs.Words.{◌≡◌, ◌+◌, ◌≤◌, ◌++◌, List, map, vec_capacity, vec_len, into_iter_items, into_iter_len, Account, BoxState}
use Rattle.hook_api.proofs.share.boxes_of.Given as goal

abbrev pub invariant-loop-desk : goal.invariant-loop-desk
invariant-loop-desk g l = record {
  next : (goal.iterator-loop-desk g).can_next l.desk-iterator × (goal.iterator-loop-desk g).is_finite l.desk-iterator;
  moved : ◌≡◌ {A = List Account} (map g.H.ExtentHooks.account l.boxes.items ++ map (λ (d : BoxState). d.account) (into_iter_items l.desk-iterator)) (map (λ (d : BoxState). d.account) (into_iter_items l.initial.desk-iterator));
  room : vec_len l.boxes + into_iter_len l.desk-iterator ≤ vec_capacity l.boxes;
}
