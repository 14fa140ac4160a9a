use Rattle.std.proofs.Common.{rules, arith, ◌≡◌, ◌<◌, true, sym}
use Rattle.region_table.specs.Slots.{is_filled, word_of}
use Rattle.region_table.proofs.Searches.{filled_more, meets_kept, met_there}
use Rattle.region_table.proofs.Words.{low_word}
use Rattle.region_table.proofs.table.lead.Goals as goal

pub returns-clause-filled : goal.returns-clause-filled
returns-clause-filled c =
    let words = c.args.words.now in
    let low : word_of c.args.addr c.args.place < 18446744073709551614 = low_word c.args.addr c.args.place c.requires.place in
    let filled : is_filled c.word_of.result ≡ true = grind (arith, low, c.word_of.ensures) in
    let more = filled_more words c.free_slot-slot.result c.word_of.result c.free_slot-slot.ensures.slot filled in
    search (rules, arith, more, c.requires.filled, c.from-more.ensures, c.free_slot-slot.ensures.free)

pub returns-clause-met : goal.returns-clause-met
returns-clause-met c =
    let found = c.free_slot-slot.ensures in
    rw (sym c.word_of.ensures) (met_there c.args.words.now c.free_slot-slot.result c.word_of.result found.slot found.passed.0 _ _ found.passed.2 found.passed.1)

pub returns-clause-kept : goal.returns-clause-kept
returns-clause-kept c = λ left first word low m.
    let words = c.args.words.now in
    let found = c.free_slot-slot.ensures in
    let own : word_of c.args.addr c.args.place < 18446744073709551614 = low_word c.args.addr c.args.place c.requires.place in
    let filled : is_filled c.word_of.result ≡ true = grind (arith, own, c.word_of.ensures) in
    meets_kept words c.free_slot-slot.result c.word_of.result word found.slot filled (λ same. omega (arith, same, low, found.free)) left first m
