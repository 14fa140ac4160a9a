use Rattle.std.proofs.Common.{arith, sym, ◌∙◌, ap}
use Rattle.region_table.specs.Slots.{filled_in}
use Rattle.region_table.proofs.table.RegionTable.reserve.Goals as goal

pub invariant_of-self : goal.invariant_of-self
invariant_of-self c =
    let i = c.self.invariant in
    let room = c.in-Ok.ensures in
    record {
      met = room.met;
      apart = rw room.items i.apart;
      filled = room.filled;
      slots = room.slots;
      places = omega (arith, room.places);
      spare = room.spare;
      empty = λ _. room.empty;
      enough = λ _. room.enough;
      long = omega (arith, room.enough);
    }

pub invariant_of-self-in-Err : goal.invariant_of-self-in-Err
invariant_of-self-in-Err c =
    let i = c.self.invariant in
    let room = c.in-Err.ensures in
    record {
      met = room.met;
      apart = rw room.items i.apart;
      filled = i.filled ∙ ap filled_in (sym room.err);
      slots = room.slots;
      places = omega (arith, room.len, i.places);
      spare = omega (arith, room.len, room.capacity, i.spare);
      empty = λ some. omega (arith, room.err_len, i.empty some);
      enough = λ some. omega (arith, room.len, room.err_len, i.enough some);
      long = omega (arith, room.len, room.err_len, i.long);
    }
