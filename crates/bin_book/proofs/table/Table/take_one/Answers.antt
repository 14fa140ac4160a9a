use Rattle.bin_book.proofs.Words.{◌≡◌, ◌<◌, ◌+◌, ◌*◌, ◌^◌, ltb, false, set, position, Some, sym, ap, ◌∙◌, subst, arith, refl, Contains, IsSome, regions_at, size_at, Bits, Key, place, IsMoved, bin_key, bin_of, bits_at, bit, is_open, left_of, out_of_slabs}
use Rattle.bin_book.proofs.Places.{place_inside}
use Rattle.bin_book.proofs.Taking.{is_open_from, read_bits, some_position, table_changed, taken_bits, is_free, taken_in, taken_lowest, taken_slabs, with_bit, within}
use Rattle.bin_book.proofs.Handing.{region_taken}
use Rattle.bin_book.proofs.table.Table.take_one.Goals as goal

pub unwrap-region-requires : goal.unwrap-region-requires
unwrap-region-requires c =
    let t = c.args.self.now in
    let o = c.in_ok-slab.ensures.some in
    let is = read_bits t c.requires.table c.in_ok-slab.slab o.there _ c.index_mut-bits.ensures.value in
    subst IsSome (sym c.take_lowest.ensures.lowest) (some_position _ (subst (λ (b : Bits). 0 < left_of b) (sym is) o.some_free))

-- what was read and what is written
bits : (c : goal.After-bin_key) → let b = bits_at c.args.self.now.slots.items c.in_ok-slab.slab.minor in (position (λ b. b) b.free ≡ Some c.unwrap-region.result) × (c.unwrap-region.result < regions_at b.class) × (c.take_lowest.new.self ≡ with_bit b c.unwrap-region.result false)
bits c =
    let t = c.args.self.now in
    let o = c.in_ok-slab.ensures.some in
    let is = read_bits t c.requires.table c.in_ok-slab.slab o.there _ c.index_mut-bits.ensures.value in
    taken_bits (bits_at t.slots.items c.in_ok-slab.slab.minor) c.index_mut-bits.result.now c.take_lowest.new.self c.take_lowest.result c.unwrap-region.result is c.unwrap-region.ensures c.take_lowest.ensures.lowest c.take_lowest.ensures.inside c.take_lowest.ensures.taken

-- the key of the slab among those of its class
bin : (c : goal.After-bin_key) → c.bin_key.result ≡ bin_of c.args.self.now.slots.items c.in_ok-slab.slab
bin c = c.bin_key.ensures ∙ ap (λ n. bin_key n c.in_ok-slab.slab) (sym c.in_ok-slab.ensures.some.of_class)

-- whether it has still a free region
left : (c : goal.After-bin_key) → ltb 0 c.free_count-is_open.result ≡ is_open (with_bit (bits_at c.args.self.now.slots.items c.in_ok-slab.slab.minor) c.unwrap-region.result false)
left c = ap (λ n. ltb 0 n) (c.free_count-is_open.ensures ∙ ap left_of (bits c).2)

pub set_open-requires-clause-was : goal.set_open-requires-clause-was
set_open-requires-clause-was c =
    let o = c.in_ok-slab.ensures.some in
    (λ e. subst (Contains c.args.self.now.bins.keys) (sym (bin c)) (c.requires.table.binned.has c.in_ok-slab.slab o.there (is_open_from (bits_at c.args.self.now.slots.items c.in_ok-slab.slab.minor) o.some_free)), λ m. refl)

-- the address that is told is that of the region
addr : (c : goal.After-size_of) → 4096 * c.in_ok-slab.slab.major + c.from.result * c.size_of.result ≡ place (bits_at c.args.self.now.slots.items c.in_ok-slab.slab.minor).class c.in_ok-slab.slab.major c.unwrap-region.result
addr c =
    let o = c.in_ok-slab.ensures.some in
    let size = c.size_of.ensures.size ∙ ap size_at (sym o.of_class) in
    λ k. 4096 * c.in_ok-slab.slab.major + c.from.ensures k * size k

-- and it fits
fits : (c : goal.After-size_of) → 4096 * c.in_ok-slab.slab.major + c.from.result * c.size_of.result < 2 ^ 64
fits c =
    let t = c.args.self.now in
    let o = c.in_ok-slab.ensures.some in
    let is = c.requires.table.kept.slab c.in_ok-slab.slab o.there in
    let low = place_inside (bits_at t.slots.items c.in_ok-slab.slab.minor).class c.in_ok-slab.slab.major c.unwrap-region.result is.small (bits c.before.before.before.before.before.before).1 in
    omega (arith, addr c)

pub overflow_mul-result-2 : goal.overflow_mul-result-2
overflow_mul-result-2 c = record { fits = omega (arith, fits c) }

pub overflow_add-result : goal.overflow_add-result
overflow_add-result c = record { fits = omega (arith, fits c) }

pub returns : goal.returns
returns c =
    let t = c.args.self.now in
    let slab = c.in_ok-slab.slab in
    let o = c.in_ok-slab.ensures.some in
    let d = c.before.before.before.before.before.before in
    let b = bits d in
    let n = c.unwrap-region.result in
    let codes = c.set.new.self in
    let slots = ap (set t.slots.items slab.minor) b.2 in
    let is = taken_in t c.requires.table c.args.class slab o n b.0 b.1 in
    let moved = subst (λ (k : Key). IsMoved t.bins.keys c.set_open.new.bins.keys k (is_open (with_bit (bits_at t.slots.items slab.minor) n false))) (bin d) (subst (IsMoved t.bins.keys c.set_open.new.bins.keys c.bin_key.result) (left d) c.set_open.ensures.keys) in
    let was = is_open_from (bits_at t.slots.items slab.minor) o.some_free in
    let spare : c.set_open.new.bins.spare + bit (is_open (with_bit (bits_at t.slots.items slab.minor) n false)) ≡ t.bins.spare + bit (is_open (bits_at t.slots.items slab.minor)) = omega (arith, c.set_open.ensures.spare, ap bit (left d), ap bit was) in record {
      table = table_changed t c.requires.table slab o.there (with_bit (bits_at t.slots.items slab.minor) n false) refl is _ refl slots refl refl refl refl moved spare c.set.ensures.len;
      none = tt;
      unchanged = tt;
      held = tt;
      lowest = rw (addr c) (taken_lowest t c.requires.table c.args.class slab o n b.0 b.1 _ refl slots);
      slabs = rw (addr c) (taken_slabs t c.requires.table c.args.class slab o n b.0 b.1 _ refl slots);
      regions = rw (addr c) (ap (λ b. out_of_slabs (set t.slots.items slab.minor b) codes t.firsts.keys) b.2
          ∙ region_taken t c.requires.table slab o.there n b.1 c.args.client c.args.class o.of_class (within t c.requires.table c.args.class slab o n b.0 b.1) (is_free t c.requires.table c.args.class slab o n b.0 b.1) is codes c.set.ensures.here c.set.ensures.others);
      free = refl;
    }
