use Rattle.bin_book.proofs.Words.{IsSome, length, vec_len, ◌≡◌, ◌<◌, ◌≤◌, ◌+◌, ◌^◌, ◌∷◌, ◌++◌, [], ltb, set, Contains, Key, IsMoved, bit, is_open, option_to_list, Some, refl, sym, ap, ◌∙◌, subst, arith, pages_at, regions_at, IsAscending, slab_with_out, with_slab, HasPage, IsSlabIn, bin_key, out_of_slabs, slabs_in}
use Rattle.bin_book.proofs.Adding.{chart_place, charted_added, codes_room, few_slabs, in_items, new_bin, new_room, new_in, new_key, new_slab, regions_added, slabs_added, table_added}
use Rattle.bin_book.proofs.Charting.{small_pages}
use Rattle.bin_book.proofs.table.Table.add.Goals as goal

pub overflow_add-self : goal.overflow_add-self
overflow_add-self c = let few = few_slabs c.args.self.now c.requires.table c.args.class c.requires.class in record { fits = omega arith }

-- the number was the last one of the free ones
free : (c : goal.After-insert-arg-1) → c.args.self.now.free.items ≡ c.pop.new.self.items ++ c.from.result ∷ []
free c = c.pop.ensures.items ∙ ap (λ o. c.pop.new.self.items ++ option_to_list o) (c.unwrap-number.ensures ∙ ap (λ n. Some n) (sym c.from.ensures))

new : (c : goal.After-insert-arg-1) → IsSlabIn c.with_out-bits.result c.args.first
new c =
    let e = c.with_out-bits.ensures.class in
    new_in c.with_out-bits.result c.args.first c.args.count (subst (λ n. n < 36) (sym e) c.requires.class) c.requires.some (subst (λ n. c.args.count ≤ regions_at n) (sym e) c.requires.most) c.with_out-bits.ensures.places c.with_out-bits.ensures.free (subst (λ n. c.args.first + pages_at n ≤ 2 ^ 32) (sym e) c.requires.inside)

pub insert-requires-clause-absent : goal.insert-requires-clause-absent
insert-requires-clause-absent c = new_key c.args.self.now c.requires.table c.args.class c.args.first c.from.result c.with_out-bits.result c.with_out-bits.ensures.class (new c) c.pop.new.self.items (free c) c.requires.apart

pub set_open-requires-clause-was : goal.set_open-requires-clause-was
set_open-requires-clause-was c =
    let b = c.before.before.before.before.before in
    (λ e. absurd (cc), λ m. absurd (new_bin c.args.self.now c.requires.table c.args.class c.args.first c.from.result c.with_out-bits.result c.with_out-bits.ensures.class (new b) c.pop.new.self.items (free b) c.requires.apart (subst (Contains c.args.self.now.bins.keys) c.bin_key.ensures m)))

pub set_open-requires-clause-room : goal.set_open-requires-clause-room
set_open-requires-clause-room c =
    let b = c.before.before.before.before.before in
    grind (arith, new_room c.args.self.now c.requires.table c.args.class c.args.first c.from.result c.with_out-bits.result c.with_out-bits.ensures.class (new b) c.pop.new.self.items (free b) c.requires.apart c.requires.room)

pub add-requires-clause-place : goal.add-requires-clause-place
add-requires-clause-place c =
    let b = c.before.before.before.before.before.before.before.before in
    chart_place c.args.self.now c.requires.table c.args.class c.args.first c.from.result c.with_out-bits.result c.with_out-bits.ensures.class (new b) c.pop.new.self.items (free b) c.requires.apart

pub index_mut-requires : goal.index_mut-requires
index_mut-requires c =
    let b = c.before.before.before.before.before.before.before.before.before.before in
    let low = in_items c.args.self.now c.requires.table c.args.class c.args.first c.from.result c.with_out-bits.result c.with_out-bits.ensures.class (new b) c.pop.new.self.items (free b) c.requires.apart in
    omega arith

pub returns-clause-table : goal.returns-clause-table
returns-clause-table c =
    let b = c.before.before.before.before.before.before.before.before.before.before.before.before.before.before.before.before in
    let t = c.args.self.now in
    let bits = c.with_out-bits.result in
    let class = c.with_out-bits.ensures.class in
    let len = subst (λ o. vec_len c.pop.new.self + length (option_to_list o) ≡ vec_len t.free) c.unwrap-number.ensures c.pop.ensures.len in
    let key = c.bin_key.ensures ∙ ap (λ n. bin_key n (record { major = c.args.first; minor = c.from.result })) (sym class) in
    let left : ltb 0 c.free_count-is_open.result ≡ is_open bits = ap (λ n. ltb 0 n) c.free_count-is_open.ensures in
    let moved = subst (λ (k : Key). IsMoved t.bins.keys c.set_open.new.bins.keys k (is_open bits)) key (subst (IsMoved t.bins.keys c.set_open.new.bins.keys c.bin_key.result) left c.set_open.ensures.keys) in
    let spare : c.set_open.new.bins.spare + bit (is_open bits) ≡ t.bins.spare = omega (arith, c.set_open.ensures.spare, ap bit left) in
    let charted = charted_added t c.requires.table c.args.class c.args.first c.from.result bits class (new b) c.pop.new.self.items (free b) c.requires.apart c.add.new.self c.add.ensures.firsts (rw c.class_pages.ensures.pages at c.add.ensures.only) in
    table_added t c.requires.table c.args.class c.args.first c.from.result bits class (new b) c.pop.new.self.items (free b) c.requires.apart c.requires.class _ c.insert.ensures.keys c.insert.ensures.spare c.insert.ensures.ascending
    (ap (λ n. set t.slots.items n bits) (sym c.from.ensures)) refl refl (omega arith) c.pop.ensures.capacity refl charted c.add.ensures.len moved spare c.give.ensures.len

pub returns-clause-slabs : goal.returns-clause-slabs
returns-clause-slabs c =
    let b = c.before.before.before.before.before.before.before.before.before.before.before.before.before.before.before.before in
    let t = c.args.self.now in
    let bits = c.with_out-bits.result in
    let class = c.with_out-bits.ensures.class in
    let is = new_slab bits c.args.first c.args.count (subst (λ n. c.args.count ≤ regions_at n) (sym class) c.requires.most) c.with_out-bits.ensures.free ∙ ap (λ n. slab_with_out n c.args.first c.args.count) class in
    slabs_added t c.requires.table c.args.class c.args.first c.from.result bits class (new b) c.pop.new.self.items (free b) c.requires.apart _ c.insert.ensures.keys (ap (λ n. set t.slots.items n bits) (sym c.from.ensures))
    ∙ ap (with_slab (slabs_in t)) is

pub returns-clause-charted : goal.returns-clause-charted
returns-clause-charted c page some low has =
    let few = small_pages c.args.class c.requires.class in
    let pages = c.class_pages.ensures.pages in
    subst IsSome (sym (c.add.ensures.each page some (omega arith) low (subst (λ n. HasPage c.args.first n page) (sym pages) has))) refl

pub give-requires-clause-inside : goal.give-requires-clause-inside
give-requires-clause-inside c =
    let b = c.before.before.before.before.before.before.before.before.before.before.before.before.before.before.before in
    codes_room c.args.self.now c.requires.table c.args.class c.args.first c.from.result c.with_out-bits.result c.with_out-bits.ensures.class (new b) c.pop.new.self.items (free b) c.requires.apart c.args.count c.requires.most

pub returns-clause-regions : goal.returns-clause-regions
returns-clause-regions c =
    let b = c.before.before.before.before.before.before.before.before.before.before.before.before.before.before.before.before in
    let t = c.args.self.now in
    let bits = c.with_out-bits.result in
    (λ x. out_of_slabs (set t.slots.items (sym c.from.ensures x) bits) c.give.new.self (c.insert.ensures.keys x))
    ∙ regions_added t c.requires.table c.args.class c.args.first c.from.result bits c.with_out-bits.ensures.class (new b) c.pop.new.self.items (free b) c.requires.apart c.args.client c.args.count c.requires.most c.with_out-bits.ensures.free
    (subst IsAscending c.insert.ensures.keys c.insert.ensures.ascending) c.give.new.self c.give.ensures.here c.give.ensures.others
