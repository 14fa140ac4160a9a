use Rattle.bin_book.proofs.Words.{◌≡◌, ◌+◌, ◌≤◌, false, ltb, arith, List, length, set, get_or, ◌-◌, Contains, refl, sym, ap, ◌∙◌, subst, vec_len, pages_at, Key, IsMoved, bin_key, bin_of, bit, bits_at, is_open}
use Rattle.bin_book.proofs.Adding.{charted_less, fewer_keys, slabs_less, some_count, table_less}
use Rattle.bin_book.proofs.Taking.{open_there}
use Rattle.bin_book.proofs.table.Table.take_off.Goals as goal

-- the key of the slab among those of its class
bin : (c : goal.After-bin_key) → c.bin_key.result ≡ bin_of c.args.self.now.slots.items c.args.slab
bin c = c.bin_key.ensures ∙ ap (λ n. bin_key n c.args.slab) (sym c.requires.class)

-- whether it has a free region
left : (c : goal.After-bin_key) → ltb 0 c.left-was_open.result ≡ is_open (bits_at c.args.self.now.slots.items c.args.slab.minor)
left c = ap (λ n. ltb 0 n) c.left-was_open.ensures

pub set_open-requires-clause-was : goal.set_open-requires-clause-was
set_open-requires-clause-was c =
    let stands = open_there c.args.self.now c.requires.table c.args.slab c.requires.there in
    (λ e. subst (Contains c.args.self.now.bins.keys) (sym (bin c)) (stands.0 (sym (left c) ∙ e)), λ m. left c ∙ stands.1 (subst (Contains c.args.self.now.bins.keys) (bin c) m))

pub overflow_sub-self : goal.overflow_sub-self
overflow_sub-self c = subst (λ n. 1 ≤ get_or c.args.self.now.counts n 0) c.requires.class (some_count c.args.self.now c.requires.table c.args.slab c.requires.there)

pub returns-clause-keys : goal.returns-clause-keys
returns-clause-keys c = ap (λ (ks : List Key). length ks + 1) c.remove.ensures.keys ∙ fewer_keys c.args.self.now c.requires.table c.args.slab c.requires.there

pub returns-clause-slabs : goal.returns-clause-slabs
returns-clause-slabs c = slabs_less c.args.self.now c.requires.table c.args.slab c.requires.there _ c.remove.ensures.keys refl

pub returns-clause-table : goal.returns-clause-table
returns-clause-table c =
    let t = c.args.self.now in
    let key = c.bin_key.ensures ∙ ap (λ n. bin_key n c.args.slab) (sym c.requires.class) in
    let moved = subst (λ (k : Key). IsMoved t.bins.keys c.set_open.new.bins.keys k false) key c.set_open.ensures.keys in
    let spare : c.set_open.new.bins.spare ≡ t.bins.spare + bit (is_open (bits_at t.slots.items c.args.slab.minor)) = omega (arith, c.set_open.ensures.spare, ap (λ n. bit (ltb 0 n)) c.left-was_open.ensures) in
    let pages = c.class_pages.ensures.pages ∙ ap pages_at (sym c.requires.class) in
    let charted = charted_less t c.requires.table c.args.slab c.requires.there c.remove-2.new.self c.remove-2.ensures.firsts (rw pages at c.remove-2.ensures.none) c.remove-2.ensures.only in
    table_less t c.requires.table c.args.slab c.requires.there _ c.remove.ensures.keys c.remove.ensures.spare c.remove.ensures.ascending refl
    (rw c.unwrap.ensures at c.push.ensures.items) (rw c.unwrap.ensures at c.push.ensures.len) c.push.ensures.capacity
    (ap (λ n. set t.counts n (get_or t.counts n 0 - 1)) (sym c.requires.class)) charted (ap (λ v. vec_len v) c.remove-2.ensures.firsts) moved spare refl
