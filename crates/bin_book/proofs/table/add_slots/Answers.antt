use Rattle.bin_book.proofs.Words.{refl, arith}
use Rattle.bin_book.proofs.Growing.{bits_more, numbers_more}
use Rattle.bin_book.proofs.table.add_slots.Goals as goal

pub loop-number-preserved : goal.loop-number-preserved
loop-number-preserved c =
    let i = c.loop-number.invariant in
    let free = rw c.unwrap.ensures at c.push.ensures.items in
    let free_len = rw c.unwrap.ensures at c.push.ensures.len in
    let slots = rw c.unwrap-in-loop-number.ensures at c.push-in-loop-number.ensures.items in
    let slots_len = rw c.unwrap-in-loop-number.ensures at c.push-in-loop-number.ensures.len in
    record {
      len = omega arith;
      more = omega arith;
      kept = λ n l. bits_more c.args.slots.now.items c.loop-number.slots.items _ _ n c.loop-number.number (omega arith) (omega arith) slots (i.kept n l);
      free = numbers_more c.args.free.now.items c.loop-number.free.items _ _ c.loop-number.number _ i.more refl i.free free;
      places = omega arith;
      room = omega arith;
      wide = omega arith;
      slots_room = omega arith;
    }
