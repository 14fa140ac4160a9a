use Rattle.thread_cache.proofs.Words.{arith, [], Option, None, Some, IfNone, set-get_or, regions_of}
use Rattle.thread_cache.proofs.ByClass.{by_class_kept, by_class_length, list_after, list_at, lists_after}
use Rattle.thread_cache.proofs.caches.Cache.take_cached.Goals as goal

-- what follows where there is none
none_then : {X : Type 0} {P Q : Type 0} (o : Option X) → IfNone o P → (P → Q) → IfNone o Q
none_then None p then_q = then_q p
none_then (Some x) p then_q = tt

pub invariant_of-self : goal.invariant_of-self
invariant_of-self c = by_class_kept c.self.inside.stacks.items c.args.class _ c.pop.new.self c.self.invariant c.index_mut.ensures.value c.pop.ensures.class

pub returns-clause-some : goal.returns-clause-some
returns-clause-some c =
    let n = by_class_length c.self.inside.stacks.items c.self.invariant in
    let before = list_at c.self.inside.stacks.items c.args.class _ (omega (arith, n, c.requires)) c.index_mut.ensures.value in
    let after = list_after c.self.inside.stacks.items c.args.class c.pop.new.self (omega (arith, n, c.requires)) in
    rw (← c.self.view_is, before, after) c.pop.ensures.some

pub returns-clause-others : goal.returns-clause-others
returns-clause-others c =
    let n = by_class_length c.self.inside.stacks.items c.self.invariant in
    let after = list_after c.self.inside.stacks.items c.args.class c.pop.new.self (omega (arith, n, c.requires)) in
    let lists = lists_after c.self.inside.stacks.items c.args.class c.pop.new.self in
    let view = c.self.view_is in
    cc

pub returns-clause-none : goal.returns-clause-none
returns-clause-none c =
    let n = by_class_length c.self.inside.stacks.items c.self.invariant in
    let before = list_at c.self.inside.stacks.items c.args.class _ (omega (arith, n, c.requires)) c.index_mut.ensures.value in
    let lists = lists_after c.self.inside.stacks.items c.args.class c.pop.new.self in
    let same = set-get_or (regions_of c.self.inside.stacks.items) c.args.class [] in
    let view = c.self.view_is in
    none_then c.pop.result c.pop.ensures.none (λ popped.
    let was = popped.0 in let is = popped.1 in
    (cc, cc))
