use Rattle.thread_cache.proofs.Words.{◌≡◌, ◌∙◌, ℕ, List, true, Option, IsSome, ap, sym, refl, subst, position, Listed, dropped, has_at, is_cached, regions_of}
use Rattle.thread_cache.proofs.ByClass.{any_has_place, by_class_kept, dropped_at, has_first, place_through}
use Rattle.thread_cache.proofs.caches.Cache.drop_cached.Goals as goal

-- the class that was found is that of the first list with the address
found : (stacks : List Listed) (addr : ℕ) (told : Option ℕ) → told ≡ position (λ (s : Listed). has_at addr s.regions) stacks → position (has_at addr) (regions_of stacks) ≡ told
found stacks addr told is = place_through (λ (s : Listed). s.regions) (has_at addr) stacks ∙ sym is

pub unwrap-class-requires : goal.unwrap-class-requires
unwrap-class-requires c =
    let cached : is_cached c.args.addr (regions_of c.self.inside.stacks.items) ≡ true = ap (is_cached c.args.addr) c.self.view_is ∙ c.requires in
    let is = found c.self.inside.stacks.items c.args.addr c.class_of.result (c.class_of.ensures ∙ ap (position (λ (s : Listed). has_at c.args.addr s.regions)) c.as_slice.ensures.value) in
    subst IsSome is (rw (any_has_place (has_at c.args.addr) (regions_of c.self.inside.stacks.items) cached) refl)

pub drop_at-requires : goal.drop_at-requires
drop_at-requires c =
    let is = found c.self.inside.stacks.items c.args.addr c.class_of.result (c.class_of.ensures ∙ ap (position (λ (s : Listed). has_at c.args.addr s.regions)) c.as_slice.ensures.value) in
    has_first c.self.inside.stacks.items c.args.addr c.unwrap-class.result _ (is ∙ c.unwrap-class.ensures) c.index_mut.ensures.value

pub invariant_of-self : goal.invariant_of-self
invariant_of-self c = by_class_kept c.self.inside.stacks.items c.unwrap-class.result _ c.drop_at.new.self c.self.invariant c.index_mut.ensures.value c.drop_at.ensures.class

pub returns : goal.returns
returns c =
    let is = found c.self.inside.stacks.items c.args.addr c.class_of.result (c.class_of.ensures ∙ ap (position (λ (s : Listed). has_at c.args.addr s.regions)) c.as_slice.ensures.value) in
    dropped_at c.self.inside.stacks.items c.args.addr c.unwrap-class.result _ c.drop_at.new.self (is ∙ c.unwrap-class.ensures) c.index_mut.ensures.value c.drop_at.ensures.regions
    ∙ ap (dropped c.args.addr) c.self.view_is
