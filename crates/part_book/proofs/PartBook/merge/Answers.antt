use Rattle.part_book.proofs.Words.{nat_tests, ◌+◌, ◌*◌, ◌∙◌, List, [], ◌∷◌, ap, subst, sym, arith, Book, IsThere, Part, begins_at, begins_either, exchanged, joined, parts_of}
use Rattle.part_book.proofs.Changed.{join_parts, joined_apart, joined_leaves, joined_placed, still_there}
use Rattle.part_book.proofs.Chunks.{more_leaves}
use Rattle.part_book.proofs.Rooms.{room_less}
use Rattle.part_book.proofs.PartBook.merge.Goals as goal

pub number_of-number-requires-clause-there : goal.number_of-number-requires-clause-there
number_of-number-requires-clause-there c =
    let p : Part = c.args.low.now in
    let there = subst (λ (b : Book). IsThere b.parts p) (sym c.self.view_is) c.requires.low in
    subst (λ (ps : List Part). IsThere ps p) (sym c.take_off.ensures.kept.parts) (still_there (parts_of c.self.inside.table) p c.args.high.now c.self.invariant.table.indexes.apart there c.requires.beside)

pub exchange-requires-clause-placed : goal.exchange-requires-clause-placed
exchange-requires-clause-placed c = joined_placed c.args.low.now c.args.high.now c.number_of-number.ensures.placed c.take_off.ensures.placed c.requires.beside

pub exchange-requires-clause-apart : goal.exchange-requires-clause-apart
exchange-requires-clause-apart c =
    joined_apart (parts_of c.take_off.new.self) c.args.low.now.span.first c.args.low.now c.args.high.now c.take_off.ensures.kept.table.indexes.apart c.requires.beside c.number_of-number.ensures.apart c.take_off.ensures.apart

pub exchange-requires-clause-leaves : goal.exchange-requires-clause-leaves
exchange-requires-clause-leaves c = grind (arith, nat_tests, joined_leaves c.take_off.new.self.edges c.args.low.now c.args.high.now c.requires.beside c.number_of-number.ensures.leaves c.take_off.ensures.leaves)

pub invariant_of-self : goal.invariant_of-self
invariant_of-self c =
    let n = c.self.inside.spare in
    let t = c.take_off.new.self.edges in
    let none = joined_leaves t c.args.low.now c.args.high.now c.requires.beside c.number_of-number.ensures.leaves c.take_off.ensures.leaves in
    let left = more_leaves c.self.inside.table.edges t (2 * n) c.take_off.ensures.chunks (omega arith) c.self.invariant.leaves in
    let room = c.exchange.ensures.room (n + 1) (c.take_off.ensures.room n c.self.invariant.room) in
    record {
      table = c.exchange.ensures.kept.table;
      room = room_less c.exchange.new.self (n + 1) n room (omega arith);
      leaves = c.exchange.ensures.leaves (2 * n) (omega arith);
    }

pub returns-clause-parts : goal.returns-clause-parts
returns-clause-parts c =
    c.exchange.ensures.kept.parts
    ∙ ap (λ xs. exchanged (begins_at c.args.low.now.span.first) xs (joined c.args.low.now c.args.high.now ∷ [])) c.take_off.ensures.kept.parts
    ∙ join_parts (parts_of c.self.inside.table) c.args.low.now c.args.high.now
    ∙ ap (λ b. exchanged (begins_either c.args.low.now c.args.high.now) b.parts (joined c.args.low.now c.args.high.now ∷ [])) c.self.view_is
