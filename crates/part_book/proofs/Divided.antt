-- What two pieces of an extent make of the extents, where the low one comes last.
use Rattle.part_book.proofs.Words.{GainsLists, HasEdges, HaveRows, LosesLists, lists_of, ArePieces, Pages, length-set, without_edges, ◌≡◌, ◌≢◌, ℕ, ◌+◌, ◌<◌, ◌≤◌, false, not, eqb, nat_cmp, List, [], ◌∷◌, ◌++◌, append_assoc, length-append, map-append, filter, count_by, sum_by_push, bit, set_at, vec_len, vec_capacity, inl, inr, refl, sym, ap, ◌∙◌, subst, arith, nat_tests, All, All-push, All-weaker, Contains, Contains-append_left, Contains-push, Contains-push_cases, Some, Option, Key, Part, meets, begins_at, exchanged, Table, IsKeyed, IsRowTable, KeepsExtents, Row, first_key, keys_with, parts_of, rows_of, with_edges, IsPlaced, HasMore}
use Rattle.part_book.proofs.Additions.{IsFresh, IsUnused, count_fewer, edges_less, edges_more, fewer, fresh_again, lists_less, lists_more, numbers_more, one, order_less, parts_more, slots_less, slots_more, slotted}
use Rattle.part_book.proofs.Changed.{begins, fresh_for}
use Rattle.part_book.proofs.Indexes.{keeps, parts_in}
use Rattle.part_book.proofs.Keyed.{keyed_more, keyed_same}
use Rattle.part_book.proofs.Parts.{edge_has}
use Rattle.part_book.proofs.Rowed.{apart_less, other_row, others, page_meets}
use Rattle.std.specs.FinMap as map_of

-- what doesn't meet an extent meets none of its pieces
low_misses : (p low high x : Part) → ArePieces p low high → meets x.span p.span ≡ false → meets x.span low.span ≡ false
low_misses p low high x pieces f = let some = pieces.high in grind (arith, nat_tests, pieces.first, pieces.beside, pieces.last)

high_misses : (p low high x : Part) → ArePieces p low high → meets x.span p.span ≡ false → meets x.span high.span ≡ false
high_misses p low high x pieces f = let some = pieces.low in grind (arith, nat_tests, pieces.first, pieces.beside, pieces.last)

-- two extents that don't meet may get their numbers in either order
pub edges_swapped : (m n : map_of.FinMap nat_cmp ℕ) (a b : Part) (x y page : ℕ) → IsPlaced a.span → IsPlaced b.span → meets b.span a.span ≡ false →
    map_of.get n page ≡ map_of.get (with_edges m a.span x) page → map_of.get (with_edges n b.span y) page ≡ map_of.get (with_edges (with_edges m b.span y) a.span x) page
edges_swapped m n a b x y page of_a of_b apart same = grind (arith, nat_tests, edge_has, numbers_more, page_meets)

-- the keys of extents are the same in whatever order these are
keyed_turned : (rows : List Row) (a b : Row) (key_of : Row → Option Key) (keys : List Key) → IsKeyed key_of ((rows ++ a ∷ []) ++ b ∷ []) keys → IsKeyed key_of ((rows ++ b ∷ []) ++ a ∷ []) keys
keyed_turned rows a b key_of keys k = record {
  has = λ r key n e. k.has r key (turn b a r n) e;
  from = λ key n. (let p = k.from key n in (p.0, turn a b p.0 p.1, p.2));
}
  where
    turn : (x y r : Row) → Contains ((rows ++ x ∷ []) ++ y ∷ []) r → Contains ((rows ++ y ∷ []) ++ x ∷ []) r
    turn x y r n = grind (
      arith,
      Contains-push_cases (rows ++ x ∷ []) y r n,
      Contains-push_cases rows x r,
      Contains-append_left rows (y ∷ []) r,
      Contains-append_left (rows ++ y ∷ []) (x ∷ []) r,
      Contains-push rows y,
      Contains-push (rows ++ y ∷ []) x,
    )

module _ (t : Table) (row : Row) (i : IsRowTable t (rows_of t)) (m : Contains (rows_of t) row) (low high : Row) (same : low.number ≡ row.number)
    (pieces : ArePieces row.part low.part high.part) (apart : All (λ p. meets p.span row.part.span ≡ false) (filter (λ p. not (begins_at row.part.span.first p)) (parts_of t))) (unused : IsUnused t high.number) where
  abbrev rest : List Row
  rest = others row.number (rows_of t)

  -- the pieces are fresh, the high one first
  pub high_fresh : IsFresh (vec_len t.slots) rest high
  high_fresh =
      fresh_again t (rows_of t) row i m high pieces.high
      (subst (All (λ p. meets p.span high.part.span ≡ false)) (sym (begins t row i m)) (All-weaker (λ p. meets p.span row.part.span ≡ false) (λ p. meets p.span high.part.span ≡ false) (λ x f. high_misses row.part low.part high.part x pieces f) _ apart))
      unused.slot (λ r n. unused.number r (other_row row.number (rows_of t) r n).0)

  low_meets : meets high.part.span low.part.span ≡ false
  low_meets = let some = pieces.low in let more = pieces.high in grind (arith, nat_tests, pieces.beside)

  alone : IsFresh (vec_len t.slots) rest low
  alone = fresh_for t row i m low same pieces.low (All-weaker (λ p. meets p.span row.part.span ≡ false) (λ p. meets p.span low.part.span ≡ false) (λ x f. low_misses row.part low.part high.part x pieces f) _ apart)

  pub low_fresh : IsFresh (vec_len t.slots) (rest ++ high ∷ []) low
  low_fresh = record {
    placed = pieces.low;
    apart = subst (All (λ p. meets p.span low.part.span ≡ false)) (sym (map-append (λ r. r.part) rest (high ∷ []))) (All-push (λ p. meets p.span low.part.span ≡ false) (parts_in rest) high.part alone.apart low_meets);
    others = λ r n. elim (Contains-push_cases rest high r n) [
      | inl old ↦ alone.others r old
      | inr is ↦ subst (λ (x : Row). (x.number ≢ low.number) × (x.number < vec_len t.slots)) is (λ e. unused.number row m (sym same ∙ sym e), unused.slot)
    ];
    slot = alone.slot;
    small = alone.small;
    few = omega (arith, length-append rest (high ∷ []), fewer t (rows_of t) row i m, i.slots.places);
  }

  -- the lists have the others, and then the high one too
  pub high_rows : (w : Table) → LosesLists (lists_of t) (lists_of w) row → HaveRows (lists_of w) (vec_len t.slots) rest
  high_rows w lost = lists_less t (rows_of t) row i m (lists_of w) lost

  module _ (w : Table) (lost : LosesLists (lists_of t) (lists_of w) row) (u : Table) (gained : GainsLists (lists_of w) (lists_of u) high) where
    pub low_rows : HaveRows (lists_of u) (vec_len t.slots) (rest ++ high ∷ [])
    low_rows = lists_more rest high (vec_len t.slots) high_fresh (lists_of w) (lists_of u) (high_rows w lost) gained

    -- the table keeps the extents, and both pieces in place of the one
    pub table_divided : (e f : Pages) (v : Table) → GainsLists (lists_of u) (lists_of v) low → v.order.numbers ≡ (filter (λ n. not (eqb n row.number)) t.order.numbers ++ high.number ∷ []) ++ low.number ∷ [] → v.order.places ≡ t.order.places →
        ((page : ℕ) → map_of.get e.numbers page ≡ map_of.get (with_edges (without_edges t.edges.numbers row.part.span) low.part.span low.number) page) → HasMore t.edges.chunks e.chunks low.part.span →
        f.numbers ≡ with_edges e.numbers high.part.span high.number → HasMore e.chunks f.chunks high.part.span → v.edges ≡ f → v.slots.items ≡ set_at (set_at t.slots.items high.number high.part) low.number low.part → vec_len v.slots ≡ vec_len t.slots →
        v.firsts.keys ≡ keys_with t.firsts.keys (first_key high) → t.free.items ≡ v.free.items ++ high.number ∷ [] → vec_len v.free + 1 ≡ vec_len t.free → vec_capacity t.free ≤ vec_capacity v.free →
        KeepsExtents v (exchanged (begins_at row.part.span.first) (parts_of t) (high.part ∷ low.part ∷ []))
    table_divided e f v gains order places moved leaves set more edges slots slots_len firsts free free_len room =
        let rows = rows_of t in
        let x = i.indexes in
        let n = vec_len t.slots in
        let now = (rest ++ high ∷ []) ++ low ∷ [] in
        let a = high_fresh in
        let b = low_fresh in
        let few = apart_less row.number rows x.apart in
        let most = parts_more rest high n a few in
        let key : first_key row ≡ first_key low = λ k. Some (record { major = sym pieces.first k; minor = sym same k }) in
        let keyed = keyed_same first_key rows row t.firsts.keys x.firsts m (one t rows row i m) low key in
        let both = keyed_turned rest low high first_key (keys_with t.firsts.keys (first_key high)) (keyed_more first_key (rest ++ low ∷ []) high t.firsts.keys keyed) in
        let without : Pages = record t.edges { numbers = without_edges t.edges.numbers row.part.span } in
        let between : Pages = record f { numbers = with_edges without.numbers high.part.span high.number } in
        let first = edges_more rest high n a without between few (edges_less t rows row i m without refl refl) (λ page. refl) (record { kept = λ c h. more.kept c (leaves.kept c h); first = more.first; last = more.last }) in
        let last = edges_more (rest ++ high ∷ []) low n b between f most first (λ page. ap (λ n. map_of.get n page) set ∙ edges_swapped without.numbers e.numbers low.part high.part low.number high.number page pieces.low pieces.high low_meets (moved page))
        (record { kept = λ c h. h; first = more.kept _ leaves.first; last = more.kept _ leaves.last }) in
        let all = x.places in
        subst (KeepsExtents v) (map-append (λ r. r.part) (rest ++ high ∷ []) (low ∷ []) ∙ ap (λ ps. ps ++ low.part ∷ []) (map-append (λ r. r.part) rest (high ∷ []) ∙ ap (λ ps. ps ++ high.part ∷ []) (begins t row i m)) ∙ append_assoc _ (high.part ∷ []) (low.part ∷ []))
        (keeps v now (record {
          indexes = record {
            apart = parts_more (rest ++ high ∷ []) low n b most;
            order = order ∙ ap (λ ns. (ns ++ high.number ∷ []) ++ low.number ∷ []) (order_less t rows row i m _ refl) ∙ ap (λ ns. ns ++ low.number ∷ []) (sym (map-append (λ r. r.number) rest (high ∷ []))) ∙ sym (map-append (λ r. r.number) (rest ++ high ∷ []) (low ∷ []));
            places = omega arith;
            lists = subst (λ k. HaveRows (lists_of v) k now) (sym slots_len) (lists_more (rest ++ high ∷ []) low n b (lists_of u) (lists_of v) low_rows gains);
            firsts = subst (IsKeyed first_key now) (sym firsts) both;
            edges = subst (λ (p : Pages). HasEdges p now) (sym edges) last;
            slots = slots_more (rest ++ high ∷ []) low n b (set_at t.slots.items high.number high.part) v.slots.items (omega (arith, length-set t.slots.items high.number high.part, t.slots.ok.0)) slots
                (slots_more rest high n a t.slots.items _ (omega (arith, t.slots.ok.0)) refl (slots_less t rows row i m));
          };
          slots = slotted t v rows now i.slots slots_len (λ number.
              let of = ap (count_by (λ n. eqb n number)) free ∙ sum_by_push (λ n. bit (eqb n number)) v.free.items high.number in
              let first = sum_by_push (λ r. bit (eqb r.number number)) rest high in
              let last = sum_by_push (λ r. bit (eqb r.number number)) (rest ++ high ∷ []) low in
              let own = ap (λ n. bit (eqb n number)) same in
              omega (arith, count_fewer t rows row i m number))
              (omega (arith, length-append (rest ++ high ∷ []) (low ∷ []), length-append rest (high ∷ []), fewer t rows row i m)) (omega arith);
        }))
