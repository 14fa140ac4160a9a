use Rattle.bin_book.proofs.Words.{◌≡◌, ◌+◌, ◌<◌, ltb, false, true, filter, get_or, not, set, sym, ap, ◌∙◌, subst, arith, refl, Contains, regions_at, Bits, Key, starts_at, place, IsMoved, bin_key, bin_of, bits_at, bit, is_open, left_of, regions_in, out_of_slabs}
use Rattle.bin_book.proofs.Taking.{is_open_from, open_room, open_there, read_bits, inside_regions, left_put, put_in, put_slabs, table_changed, with_bit, within_bits}
use Rattle.bin_book.proofs.Handing.{region_put}
use Rattle.bin_book.proofs.table.Table.put.Goals as goal

pub put-requires : goal.put-requires
put-requires c =
    let o = c.requires.out.out in
    let is = read_bits c.args.self.now c.requires.table c.args.slab c.requires.out.there _ c.index_mut-bits.ensures.value in
    record {
      inside = subst (λ (b : Bits). c.args.region < regions_at b.class) (sym is) (subst (λ n. c.args.region < regions_at n) (sym o.of_class) o.inside);
      out = subst (λ (b : Bits). get_or b.free c.args.region false ≡ false) (sym is) o.out;
    }

-- what is written
new : (c : goal.After-bin_key) → c.put.new.self ≡ with_bit (bits_at c.args.self.now.slots.items c.args.slab.minor) c.args.region true
new c =
    let is = read_bits c.args.self.now c.requires.table c.args.slab c.requires.out.there _ c.index_mut-bits.ensures.value in
    c.put.ensures ∙ ap (λ (b : Bits). with_bit b c.args.region true) is

-- the key of the slab among those of its class
bin : (c : goal.After-bin_key) → c.bin_key.result ≡ bin_of c.args.self.now.slots.items c.args.slab
bin c = c.bin_key.ensures ∙ ap (λ n. bin_key n c.args.slab) (sym c.requires.out.out.of_class)

-- whether it had a free region before
left : (c : goal.After-bin_key) → ltb 0 c.free_count-was_open.result ≡ is_open (bits_at c.args.self.now.slots.items c.args.slab.minor)
left c =
    let is = read_bits c.args.self.now c.requires.table c.args.slab c.requires.out.there _ c.index_mut-bits.ensures.value in
    ap (λ n. ltb 0 n) (c.free_count-was_open.ensures ∙ ap left_of is)

pub set_open-requires-clause-was : goal.set_open-requires-clause-was
set_open-requires-clause-was c =
    let stands = open_there c.args.self.now c.requires.table c.args.slab c.requires.out.there in
    (λ e. subst (Contains c.args.self.now.bins.keys) (sym (bin c)) (stands.0 (sym (left c) ∙ e)), λ m. left c ∙ stands.1 (subst (Contains c.args.self.now.bins.keys) (bin c) m))

pub set_open-requires-clause-room : goal.set_open-requires-clause-room
set_open-requires-clause-room c = omega (arith, open_room c.args.self.now c.requires.table c.args.slab c.requires.out.there, ap bit (left c))

pub returns : goal.returns
returns c =
    let t = c.args.self.now in
    let o = c.requires.out in
    let b = with_bit (bits_at t.slots.items c.args.slab.minor) c.args.region true in
    let free : is_open b ≡ true = is_open_from b (omega (arith, left_put t c.requires.table c.args.class _ c.args.slab c.args.region o)) in
    let moved = subst (λ (k : Key). IsMoved t.bins.keys c.set_open.new.bins.keys k (is_open b)) (bin c.before) (subst (IsMoved t.bins.keys c.set_open.new.bins.keys c.bin_key.result) (sym free) c.set_open.ensures.keys) in
    let spare : c.set_open.new.bins.spare + bit (is_open b) ≡ t.bins.spare + bit (is_open (bits_at t.slots.items c.args.slab.minor)) = omega (arith, c.set_open.ensures.spare, ap bit (left c.before), ap bit free) in
    let within = put_in t c.requires.table c.args.class _ c.args.slab c.args.region o c.requires.others in
    let slots = ap (set t.slots.items c.args.slab.minor) (new c.before) in record {
      table = table_changed t c.requires.table c.args.slab o.there b refl within _ refl slots refl refl refl refl moved spare refl;
      slabs = put_slabs t c.requires.table c.args.class _ c.args.slab c.args.region o _ refl slots;
      regions = ap (λ b. out_of_slabs (set t.slots.items c.args.slab.minor b) t.holders t.firsts.keys) (new c.before)
          ∙ region_put t c.requires.table c.args.slab o.there c.args.region (inside_regions t c.requires.table c.args.class _ c.args.slab c.args.region o) (within_bits t c.requires.table c.args.class _ c.args.slab c.args.region o) within
          ∙ ap (λ n. filter (λ r. not (starts_at (place n c.args.slab.major c.args.region) r)) (regions_in t)) o.out.of_class;
      free = refl;
    }
