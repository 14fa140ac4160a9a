use Rattle.std.proofs.Common.{rules}
use Rattle.std.proofs.lemmas.Option.{slice_get-get_or}
use Rattle.region_table.proofs.Entries.{lookup_place}
use Rattle.region_table.proofs.table.RegionTable.get.Goals as goal

pub seek-requires-clause-apart : goal.seek-requires-clause-apart
seek-requires-clause-apart c = rw c.deref-2.ensures.value c.self.invariant.apart

pub returns-in_err-spot : goal.returns-in_err-spot
returns-in_err-spot c = search (rules, c, lookup_place c.args.addr c.self.inside.regions.items)

pub returns : goal.returns
returns c =
    let regions = c.self.inside.regions.items in
    search (rules, c, lookup_place c.args.addr regions, slice_get-get_or regions)
