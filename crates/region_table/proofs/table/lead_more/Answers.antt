use Rattle.std.proofs.Common.{arith, ◌<◌, length}
use Rattle.std.proofs.lemmas.Option.{slice_get_within}
use Rattle.region_table.proofs.Entries.{met_more}
use Rattle.region_table.proofs.Words.{low_word}
use Rattle.region_table.proofs.table.lead_more.Goals as goal

pub returns-clause-met : goal.returns-clause-met
returns-clause-met c = λ region same.
    let led = c.lead.ensures in
    let regions = c.args.regions.now in
    met_more c.lead.new.words regions region
    (λ place other at.
    let low : place < length regions = slice_get_within _ _ _ at in
    rw led.len (led.kept _ _ _ (low_word other.addr place (omega (arith, low, c.requires.places))) (c.requires.met place other at)))
    (rw (led.len, same) led.met)
