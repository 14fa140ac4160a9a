use Rattle.part_book.proofs.Words.{nat_tests, ◌<◌, length, get_or, Some, sym, ap, ◌∙◌, option_map, arith, is_flight, part_at}
use Rattle.part_book.proofs.Indexes.{flight_of, first_number, flights_in_slots, is_flown, no_number}
use Rattle.part_book.proofs.table.Table.next_flight.Goals as goal

pub part_at-part-requires : goal.part_at-part-requires
part_at-part-requires c = grind (arith, nat_tests, flights_in_slots)

pub returns-then-is_flight_of : goal.returns-then-is_flight_of
returns-then-is_flight_of c =
    let t = c.args.self.now in
    let i = c.loop-number.number-index in
    let e = c.deref-number-items.ensures.value in
    let part = c.part_at-part.ensures ∙ ap (λ ns. part_at t.slots.items (get_or ns i 0)) e in
    let own = ap (λ p. is_flight c.args.client p.state) (sym part) ∙ sym c.is_flight_of.ensures ∙ c.if-is_flight_of.true in
    let within : i < length t.flights.items = omega (arith, ap length e) in
    let first = first_number (is_flown t.slots.items c.args.client) t.flights.items i within c.loop-number.invariant own in
    ap (λ p. Some p.span) part ∙ sym (ap (option_map (λ p. p.span)) (flight_of t c.args.client c.requires.table ∙ ap (option_map (part_at t.slots.items)) first))

pub returns : goal.returns
returns c =
    let t = c.args.self.now in
    let len = ap length c.deref-number-items.ensures.value in
    let none = no_number (is_flown t.slots.items c.args.client) t.flights.items (λ k l. c.loop-number.invariant k (omega arith)) in
    sym (ap (option_map (λ p. p.span)) (flight_of t c.args.client c.requires.table ∙ ap (option_map (part_at t.slots.items)) none))
