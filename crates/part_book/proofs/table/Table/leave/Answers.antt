use Rattle.part_book.proofs.Words.{arith, is_in_flight, rows_of}
use Rattle.part_book.proofs.Additions.{can_lose, can_unlist, once, one_rest}
use Rattle.part_book.proofs.Rowed.{row_placed}
use Rattle.part_book.proofs.table.Table.leave.Goals as goal
use Rattle.space_model.specs.declared.Rest.TheVariants as rests

pub lose-requires-clause-all : goal.lose-requires-clause-all
lose-requires-clause-all c = (can_lose c.args.self.now (rows_of c.args.self.now) _ c.requires.table c.requires.there).0

pub lose-requires-clause-active : goal.lose-requires-clause-active
lose-requires-clause-active c = (can_lose c.args.self.now (rows_of c.args.self.now) _ c.requires.table c.requires.there).1

pub unlist-requires-clause-dirty : goal.unlist-requires-clause-dirty
unlist-requires-clause-dirty c = can_unlist c.args.self.now (rows_of c.args.self.now) _ c.requires.table c.requires.there rests.Dirty _ c.requires.table.indexes.lists.dirty

pub unlist-requires-clause-muzzy : goal.unlist-requires-clause-muzzy
unlist-requires-clause-muzzy c = can_unlist c.args.self.now (rows_of c.args.self.now) _ c.requires.table c.requires.there rests.Muzzy _ c.requires.table.indexes.lists.muzzy

pub unlist-requires-clause-retained : goal.unlist-requires-clause-retained
unlist-requires-clause-retained c = can_unlist c.args.self.now (rows_of c.args.self.now) _ c.requires.table c.requires.there rests.Retained _ c.requires.table.indexes.lists.retained

pub unlist-requires-clause-flights : goal.unlist-requires-clause-flights
unlist-requires-clause-flights c = rw c.requires.table.indexes.lists.flights (once c.args.self.now (rows_of c.args.self.now) _ c.requires.table c.requires.there (λ r. is_in_flight r.part.state))

pub size_key-requires : goal.size_key-requires
size_key-requires c = row_placed (rows_of c.args.self.now) _ c.requires.table.indexes.apart c.requires.there

pub returns-clause-room : goal.returns-clause-room
returns-clause-room c n room =
    let bound = one_rest (record { number = c.args.number; part = c.args.part.now }) in
    let spare = rw c.size_key.ensures at c.drop_key.ensures.spare in
    record {
      sizes = omega (arith, room.sizes, c.unlist.ensures.dirty.len, c.unlist.ensures.muzzy.len, c.unlist.ensures.retained.len);
      flights = omega (arith, room.flights);
    }
