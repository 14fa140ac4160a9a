use Rattle.std.proofs.Common.{rules, arith, ◌≡◌, ◌-◌, length, slice_index_or, Some, true, sym, ap, ◌∙◌}
use Rattle.std.proofs.lemmas.Option.{slice_get-get_or}
use Rattle.thread_cache.specs.declared.Held.{Held}
use Rattle.region_table.specs.Slots.{is_filled, word_of}
use Rattle.region_table.proofs.Words.{low_word}
use Rattle.region_table.proofs.Places.{own_place}
use Rattle.region_table.proofs.Leaving.{gone_filled, last_gone, last_moved, moved_filled}
use Rattle.region_table.proofs.table.leave.Goals as goal

abbrev none : Held
none = record { addr = 0; arena = 0; class = 0 }

pub unreachable-requires : goal.unreachable-requires
unreachable-requires c =
    let regions = c.args.regions.now in
    let at = slice_get-get_or regions (length regions - 1) none (omega (arith, c.requires.place)) in
    let here = own_place regions _ _ c.requires.apart at in
    search (rules, here, c.in_default.ensures.none)

pub returns-else-spot-last-clause-filled : goal.returns-else-spot-last-clause-filled
returns-else-spot-last-clause-filled c =
    gone_filled c.args.words.now c.args.regions.now c.args.spot.slot c.args.spot.place c.requires.places c.requires.met c.requires.slot c.requires.place c.requires.word

pub returns-else-spot-last-clause-met : goal.returns-else-spot-last-clause-met
returns-else-spot-last-clause-met c = λ gone.
    last_gone c.args.words.now c.args.regions.now c.args.spot.slot c.args.spot.place c.requires.places c.requires.met c.requires.slot c.requires.place c.requires.word
    (omega (arith, c.if-spot-last.false)) gone

pub returns-then-spot-last-clause-filled : goal.returns-then-spot-last-clause-filled
returns-then-spot-last-clause-filled c =
    let found = c.in-Some.ensures in
    let regions = c.args.regions.now in
    let low = low_word (slice_index_or regions (length regions - 1) none).addr c.args.spot.place (omega (arith, c.requires.place, c.requires.places)) in
    let filled : is_filled c.word_of.result ≡ true = grind (arith, c.word_of.ensures, low) in
    moved_filled c.args.words.now regions c.args.spot.slot c.args.spot.place c.requires.places c.requires.met c.requires.slot c.requires.place c.requires.word
    _ c.in-Some.end.slot c.word_of.result c.in-Some.end.place found.slot (omega (arith, found.within, c.requires.places)) found.word filled

pub returns-then-spot-last-clause-met : goal.returns-then-spot-last-clause-met
returns-then-spot-last-clause-met c = λ gone.
    let found = c.in-Some.ensures in
    let regions = c.args.regions.now in
    let at = slice_get-get_or regions (length regions - 1) none (omega (arith, c.requires.place)) in
    let place : Some (length regions - 1) ≡ Some c.in-Some.end.place = sym (own_place regions _ _ c.requires.apart at) ∙ found.place in
    let same : c.in-Some.end.place ≡ length regions - 1 = search (rules, place) in
    last_moved c.args.words.now regions c.args.spot.slot c.args.spot.place c.requires.places c.requires.met c.requires.slot c.requires.place c.requires.word
    _ at c.if-spot-last.true c.in-Some.end.slot found.passed.0 c.word_of.result found.slot found.passed.1 found.passed.2
    (found.word ∙ ap (word_of _) same) c.word_of.ensures gone
