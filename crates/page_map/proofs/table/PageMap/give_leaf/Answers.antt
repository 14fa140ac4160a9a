use Rattle.std.proofs.Common.{◌/◌, ◌≡◌, ◌-◌, ◌+◌, arith}
use Rattle.lane_scan.specs.Bits.{bits_of}
use Rattle.page_map.specs.Table.{number_at}
use Rattle.page_map.proofs.TableLemmas.{behind, given, marks_more, of_view, view_of}
use Rattle.page_map.proofs.table.PageMap.give_leaf.Goals as goal

pub lengthen-requires : goal.lengthen-requires
lengthen-requires c = let of = of_view _ c.self.invariant.table c.self.view_is in let root = c.self.invariant.root (omega (arith, of.left)) in omega arith

pub lengthen-requires-2 : goal.lengthen-requires-2
lengthen-requires-2 c = let of = of_view _ c.self.invariant.table c.self.view_is in omega (arith, of.left)

pub lengthen-requires-3 : goal.lengthen-requires-3
lengthen-requires-3 c = let of = of_view _ c.self.invariant.table c.self.view_is in omega (arith, of.left)

pub overflow_sub-self : goal.overflow_sub-self
overflow_sub-self c = let of = of_view _ c.self.invariant.table c.self.view_is in omega (arith, of.left)

pub invariant_of-self : goal.invariant_of-self
invariant_of-self c =
    let of = of_view _ c.self.invariant.table c.self.view_is in
    let words = c.self.inside.present in
    let numbers = c.self.inside.numbers in
    let root = c.self.inside.root in
    let filled : c.len-filled.result + 512 ≡ c.lengthen-2.new.list.len = omega (arith, c.lengthen-2.ensures.len) in
    let marked = c.self.invariant.marked in
    let now = given of (c.args.chunk + 1 - root.len) c.args.chunk (number_at (bits_of words.items) numbers.items) c.requires.bare (omega (arith, root.ok.0)) (λ k i. number_at (bits_of words.items) numbers.items k) (λ k ge. behind words.items numbers.items k (omega (arith, words.ok.0))) in
    record {
      table = rw (c.lengthen.ensures.items, ← filled, c.len-filled.ensures) now.table;
      marked = omega (arith, c.lengthen-2.ensures.len, c.lengthen-3.ensures.len);
      room = omega (arith, c.lengthen-2.ensures.len, c.lengthen-3.ensures.capacity, of.left);
      wide = omega (arith, c.lengthen-2.ensures.len, c.lengthen-2.ensures.capacity, of.left);
      root = λ more. let has = c.self.invariant.root (omega (arith, of.left)) in omega (arith, c.lengthen.ensures.capacity);
      short = omega (arith, c.lengthen.ensures.len);
    }

pub returns : goal.returns
returns c =
    let of = of_view _ c.self.invariant.table c.self.view_is in
    let words = c.self.inside.present in
    let numbers = c.self.inside.numbers in
    let root = c.self.inside.root in
    let marked = c.self.invariant.marked in
    let now = given of (c.args.chunk + 1 - root.len) c.args.chunk _ c.requires.bare (omega (arith, root.ok.0)) (marks_more words.items numbers.items ((numbers.len + 512) / 64 - words.len) (numbers.len + 512 - numbers.len)) (λ k ge. behind words.items numbers.items k (omega (arith, words.ok.0))) in
    rw (c.lengthen.ensures.items, c.lengthen-2.ensures.items, c.lengthen-3.ensures.items, c.len-filled.ensures) (view_of now)
