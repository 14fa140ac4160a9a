-- A table that was given room keeps its extents.
use Rattle.part_book.proofs.Words.{◌≡◌, ℕ, ◌+◌, ◌<◌, ◌≤◌, eqb, ltb, count_by, vec_len, vec_capacity, sym, ap, ◌∙◌, subst, arith, refl, All, Table, ArePagesOf, AgesGrow, IsKeyed, first_key, part_at, size_key, HasRoomFor, IsRowTable, KeepsExtents, parts_of, rows_of, all_from, bit, nat_tests}
use Rattle.part_book.proofs.Indexes.{IsLeafed, in_slot, in_slots, keeps}
use Rattle.std.specs.FinMap as map_of

-- each index of the second table has the same
pub record IsSame (t u : Table) : Type 0 where
  pub order : AgesGrow t.order u.order
  pub dirty : AgesGrow t.dirty.ages u.dirty.ages
  pub muzzy : AgesGrow t.muzzy.ages u.muzzy.ages
  pub retained : AgesGrow t.retained.ages u.retained.ages
  pub dirty_pages : u.dirty.pages ≡ t.dirty.pages
  pub muzzy_pages : u.muzzy.pages ≡ t.muzzy.pages
  pub retained_pages : u.retained.pages ≡ t.retained.pages
  pub sums : u.sums ≡ t.sums
  pub sizes : u.sizes.keys ≡ t.sizes.keys
  pub firsts : u.firsts.keys ≡ t.firsts.keys
  pub numbers : u.edges.numbers ≡ t.edges.numbers
  pub chunks : u.edges.chunks ≡ t.edges.chunks

-- the second table has the slots of the first, and new ones that are free
pub record IsLonger (t u : Table) : Type 0 where
  pub flights : u.flights.items ≡ t.flights.items
  pub kept : (number : ℕ) → number < vec_len t.slots → part_at u.slots.items number ≡ part_at t.slots.items number
  pub free : (number : ℕ) → count_by (λ n. eqb n number) u.free.items + bit (ltb number (vec_len t.slots)) ≡ count_by (λ n. eqb n number) t.free.items + bit (ltb number (vec_len u.slots))
  pub places : vec_len u.free + vec_len t.slots ≡ vec_len t.free + vec_len u.slots
  pub small : vec_len u.slots < 4294967296
  pub room : vec_len u.slots ≤ vec_capacity u.free
  pub order : vec_len u.slots ≤ u.order.places
  pub dirty : vec_len u.slots ≤ u.dirty.ages.places
  pub muzzy : vec_len u.slots ≤ u.muzzy.ages.places
  pub retained : vec_len u.slots ≤ u.retained.ages.places

-- so the table keeps its extents
pub same_table : (t u : Table) → IsRowTable t (rows_of t) → IsSame t u → IsLonger t u → KeepsExtents u (parts_of t)
same_table t u i a b =
    let x = i.indexes in
    let l = x.lists in
    let rows = rows_of t in
    keeps u rows (record {
      indexes = record {
        apart = x.apart;
        order = a.order.numbers ∙ x.order;
        places = b.order;
        lists = record {
          dirty = record { numbers = a.dirty.numbers ∙ l.dirty.numbers; pages = a.dirty_pages ∙ l.dirty.pages; places = b.dirty };
          muzzy = record { numbers = a.muzzy.numbers ∙ l.muzzy.numbers; pages = a.muzzy_pages ∙ l.muzzy.pages; places = b.muzzy };
          retained = record { numbers = a.retained.numbers ∙ l.retained.numbers; pages = a.retained_pages ∙ l.retained.pages; places = b.retained };
          flights = b.flights ∙ l.flights;
          sums = subst (λ s. ArePagesOf s rows) (sym a.sums) l.sums;
          sizes = subst (IsKeyed size_key rows) (sym a.sizes) l.sizes;
        };
        firsts = subst (IsKeyed first_key rows) (sym a.firsts) x.firsts;
        edges = record { numbers = λ page. ap (λ m. map_of.get m page) a.numbers ∙ x.edges.numbers page; leaves = subst (λ chunks. All (IsLeafed chunks) rows) (sym a.chunks) x.edges.leaves };
        slots = all_from (λ r. part_at u.slots.items r.number ≡ r.part) rows (λ r m. b.kept r.number (in_slots t rows r i.slots m) ∙ in_slot t rows r x m);
      };
      slots = record { free = λ number. omega (arith, i.slots.free number, b.free number); places = omega (arith, i.slots.places, b.places); small = b.small; room = b.room };
    })

-- as long as the slots, the free numbers and the flights stay
pub grown : (t u : Table) → IsRowTable t (rows_of t) → u.slots ≡ t.slots → u.free ≡ t.free → u.flights ≡ t.flights → IsSame t u → KeepsExtents u (parts_of t)
grown t u i slots free flights a =
    let l = i.indexes.lists in
    let len = ap (λ v. vec_len v) slots in
    same_table t u i a (record {
      flights = ap (λ v. v.items) flights;
      kept = λ number l. ap (λ v. part_at v.items number) slots;
      free = λ number. rw (slots, free) refl;
      places = rw (slots, free) refl;
      small = omega arith;
      room = rw (slots, free) i.slots.room;
      order = omega (arith, i.indexes.places, a.order.places);
      dirty = omega (arith, l.dirty.places, a.dirty.places);
      muzzy = omega (arith, l.muzzy.places, a.muzzy.places);
      retained = omega (arith, l.retained.places, a.retained.places);
    })

-- room for some is room for fewer
pub room_less : (t : Table) (m n : ℕ) → HasRoomFor t m → n ≤ m → HasRoomFor t n
room_less t m n room le = grind (arith, nat_tests)
