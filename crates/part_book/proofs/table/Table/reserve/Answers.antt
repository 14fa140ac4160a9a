use Rattle.part_book.proofs.Words.{nat_tests, rules, ap, arith, on_ok_weaker}
use Rattle.part_book.proofs.Chunks.{leaves_enough}
use Rattle.part_book.proofs.Rooms.{grown, same_table}
use Rattle.part_book.proofs.table.Table.reserve.Goals as goal

pub returns-in_err-reserve_rings-clause-kept : goal.returns-in_err-reserve_rings-clause-kept
returns-in_err-reserve_rings-clause-kept c = search (rules, arith, grown)

pub returns-in_err-reserve-clause-kept : goal.returns-in_err-reserve-clause-kept
returns-in_err-reserve-clause-kept c = search (rules, arith, grown)

pub returns-in_err-reserve-2-clause-kept : goal.returns-in_err-reserve-2-clause-kept
returns-in_err-reserve-2-clause-kept c = search (rules, arith, grown)

pub returns-in_err-reserve-3-clause-kept : goal.returns-in_err-reserve-3-clause-kept
returns-in_err-reserve-3-clause-kept c =
    let numbers = ap (λ p. p.numbers) c.in_err-reserve-3.ensures.err in
    let chunks = ap (λ p. p.chunks) c.in_err-reserve-3.ensures.err in
    search (rules, arith, grown, numbers, chunks)

pub returns-clause-kept : goal.returns-clause-kept
returns-clause-kept c =
    let numbers = c.reserve_numbers.ensures in
    let rings = c.in_ok-reserve_rings.ensures in
    let edges = c.in_ok-reserve-3.ensures.ok in
    same_table c.args.self.now _ c.requires (let numbers = ap (λ p. p.numbers) edges in let chunks = ap (λ p. p.chunks) edges in search (rules, arith, numbers, chunks))
    (record {
      flights = numbers.flights;
      kept = numbers.kept;
      free = numbers.free;
      places = numbers.places;
      small = omega (arith, numbers.small);
      room = numbers.room;
      order = omega (arith, numbers.most, rings.order.places, rings.ok_order);
      dirty = omega (arith, numbers.most, rings.dirty.places, rings.ok_dirty);
      muzzy = omega (arith, numbers.most, rings.muzzy.places, rings.ok_muzzy);
      retained = omega (arith, numbers.most, rings.retained.places, rings.ok_retained);
    })

pub returns-clause-ok_leaves : goal.returns-clause-ok_leaves
returns-clause-ok_leaves c = grind (arith, nat_tests, leaves_enough, on_ok_weaker)
