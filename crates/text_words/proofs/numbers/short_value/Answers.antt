use Rattle.text_words.proofs.Names.{◌∙◌, get_or, true, sym, arith, digits_value_more, list_all_more}
use Rattle.text_words.proofs.Digits.{digit_in_below, room_behind}
use Rattle.text_words.proofs.numbers.short_value.Goals as goal

pub overflow_mul-value : goal.overflow_mul-value
overflow_mul-value c =
    let room = room_behind c.args.radix c.args.word.now c.loop-byte.byte-index c.loop-byte.value c.requires.radix (omega arith) c.requires.fits c.loop-byte.invariant.all c.loop-byte.invariant.value in
    omega (arith, room)

pub overflow_add-value : goal.overflow_add-value
overflow_add-value c =
    let room = room_behind c.args.radix c.args.word.now c.loop-byte.byte-index c.loop-byte.value c.requires.radix (omega arith) c.requires.fits c.loop-byte.invariant.all c.loop-byte.invariant.value in
    omega (arith, room, c.in_ok-value.ensures.1, digit_in_below c.args.radix (get_or c.args.word.now c.loop-byte.byte-index 0) c.requires.radix c.in_ok-value.ensures.0)

pub loop-byte-preserved : goal.loop-byte-preserved
loop-byte-preserved c = record {
  all = list_all_more _ c.args.word.now c.loop-byte.byte-index 0 (omega arith) ∙ rw (c.loop-byte.invariant.all, c.in_ok-value.ensures.0) (λ i. true);
  value = rw (c.loop-byte.invariant.value, c.in_ok-value.ensures.1) (sym (digits_value_more c.args.radix c.args.word.now c.loop-byte.byte-index (omega arith)));
}
