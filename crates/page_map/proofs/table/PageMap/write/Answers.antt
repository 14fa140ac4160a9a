use Rattle.std.proofs.Common.{true, ap, sym, ◌∙◌, ◌/◌, ◌%◌, ◌+◌, ◌*◌, ◌<◌, false, arith, length, refl}
use Rattle.std.proofs.lemmas.List.{get_or-set_same, get_or-set_other, with_items_is}
use Rattle.std.proofs.lemmas.Grind.{common_steps}
use Rattle.lane_scan.specs.Bits.{bits_of}
use Rattle.lane_scan.proofs.BitLemmas.{length-bits_of}
use Rattle.page_map.proofs.TableLemmas.{of_view, view_of, written}
use Rattle.page_map.proofs.table.PageMap.write.Goals as goal

pub returns-in-Some-number : goal.returns-in-Some-number
returns-in-Some-number c =
    let of = of_view _ c.self.invariant.table c.self.view_is in
    let present = c.self.inside.present in
    let bits = bits_of present.items in
    let numbers = c.self.inside.numbers.items in
    let place = c.in-Some.leaf * 512 + c.args.page % 512 in
    let within = c.self.invariant.table.taken (c.args.page / 512) c.in-Some.leaf (cc) in
    let marks : place < length bits = omega (arith, length-bits_of present.items, present.ok.0, c.self.inside.numbers.ok.0, c.self.invariant.marked) in
    let ranks : place < length numbers = omega (arith, c.self.inside.numbers.ok.0) in
    let marked = rw (c.deref_mut.ensures.value, c.place_at.ensures) at c.set_bit.ensures in
    rw (with_items_is present c.set_bit.new.words (c.set_bit.auto.words ∙ ap length c.deref_mut.ensures.value ∙ sym present.ok.0), marked, c.place_at.ensures) (view_of (written of c.in-Some.leaf c.args.page c.args.number _ (cc)
    (rw (get_or-set_same bits place true false marks, get_or-set_same numbers place _ 0 ranks) (grind (arith, common_steps)))
    (λ k other. rw (get_or-set_other bits place k true false other, get_or-set_other numbers place k _ 0 other) refl)))

pub returns-in-None-number : goal.returns-in-None-number
returns-in-None-number c =
    let of = of_view _ c.self.invariant.table c.self.view_is in
    let present = c.self.inside.present in
    let bits = bits_of present.items in
    let place = c.in-Some.leaf * 512 + c.args.page % 512 in
    let within = c.self.invariant.table.taken (c.args.page / 512) c.in-Some.leaf (cc) in
    let marks : place < length bits = omega (arith, length-bits_of present.items, present.ok.0, c.self.inside.numbers.ok.0, c.self.invariant.marked) in
    let marked = rw (c.deref_mut-in-None-number.ensures.value, c.place_at.ensures) at c.clear_bit.ensures in
    rw (with_items_is present c.clear_bit.new.words (c.clear_bit.auto.words ∙ ap length c.deref_mut-in-None-number.ensures.value ∙ sym present.ok.0), marked) (view_of (written of c.in-Some.leaf c.args.page c.args.number _ (cc)
    (rw (get_or-set_same bits place false false marks) (grind (arith, common_steps)))
    (λ k other. rw (get_or-set_other bits place k false false other) refl)))

pub unreachable-requires : goal.unreachable-requires
unreachable-requires c = let of = of_view _ c.self.invariant.table c.self.view_is in grind arith
