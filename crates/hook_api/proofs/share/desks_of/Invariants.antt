use Rattle.hook_api.proofs.Words.{◌≡◌, ◌+◌, ◌≤◌, ◌++◌, List, map, vec_capacity, vec_len, into_iter_items, into_iter_len, Account, BoxState}
use Rattle.hook_api.proofs.share.desks_of.Given as goal

abbrev pub invariant-loop-hooks : goal.invariant-loop-hooks
invariant-loop-hooks g l = record {
  next : (goal.iterator-loop-hooks g).can_next l.hooks-iterator × (goal.iterator-loop-hooks g).is_finite l.hooks-iterator;
  moved : ◌≡◌ {A = List Account} (map (λ (d : BoxState). d.account) l.desks.items ++ map g.H.ExtentHooks.account (into_iter_items l.hooks-iterator)) (map g.H.ExtentHooks.account (into_iter_items l.initial.hooks-iterator));
  full : vec_len l.desks + into_iter_len l.hooks-iterator ≡ 32;
  room : 32 ≤ vec_capacity l.desks;
}
