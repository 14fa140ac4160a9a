use Rattle.std.proofs.Common.{rules, arith, ◌≤◌, ap, sym, ◌∙◌, nat_eq}
use Rattle.indexmap.specs.IndexMap.{insert_entry}
use Rattle.region_table.specs.Tables.{by_address, Regions}
use Rattle.region_table.proofs.Entries.{apart_more, apart_replaced, met_replaced, one_comes, one_replaces}
use Rattle.region_table.proofs.Places.{found_at}
use Rattle.region_table.proofs.table.RegionTable.put.Goals as goal

pub seek-requires-clause-apart : goal.seek-requires-clause-apart
seek-requires-clause-apart c = rw c.deref-2.ensures.value c.self.invariant.apart

pub invariant_of-self : goal.invariant_of-self
invariant_of-self c =
    let i = c.self.invariant in
    let regions = c.self.inside.regions.items in
    let place = rw c.deref-2.ensures.value at c.in-Some.ensures.place in
    let at = found_at regions c.args.region.addr c.in-Some.spot.place place in
    record {
      met = met_replaced c.self.inside.words.items regions c.args.region c.in-Some.spot.place at.0 at.1 at.2 i.met;
      apart = apart_replaced regions c.args.region c.in-Some.spot.place at.0 at.1 at.2 i.apart;
      filled = i.filled;
      slots = i.slots;
      places = search (rules, arith, i.places);
      spare = search (rules, arith, i.spare);
      empty = i.empty;
      enough = search (rules, arith, i.enough);
      long = search (rules, arith, i.long);
    }

pub invariant_of-self-in-None : goal.invariant_of-self-in-None
invariant_of-self-in-None c =
    let i = c.self.invariant in
    let regions = c.self.inside.regions.items in
    let none = rw c.deref-2.ensures.value at c.in-None.ensures.none in
    let more = c.add-self-inside.ensures in
    let room : 1 ≤ c.self.inside.room = rw (sym (ap (λ (t : Regions). t.room) c.self.view_is)) at c.requires in
    record {
      met = more.met;
      apart = rw more.items (apart_more regions c.args.region none i.apart);
      filled = more.filled;
      slots = omega (arith, more.len, i.slots);
      places = omega (arith, more.more, i.places, room);
      spare = omega (arith, more.more, more.capacity, i.spare, room);
      empty = λ some. omega (arith, more.len, more.few, i.empty (omega (arith, some)), some);
      enough = λ some. omega (arith, more.len, more.more, i.enough (omega (arith, some)), some);
      long = omega (arith, more.len, more.more, i.enough (omega (arith, room)));
    }

pub returns-in-Some-clause-held : goal.returns-in-Some-clause-held
returns-in-Some-clause-held c =
    let regions = c.self.inside.regions.items in
    let place = rw c.deref-2.ensures.value at c.in-Some.ensures.place in
    let held = ap (λ (t : Regions). t.held) c.self.view_is in
    sym (one_replaces c.args.region regions c.in-Some.spot.place place) ∙ ap (λ h. insert_entry nat_eq h c.args.region.addr c.args.region) held

pub returns-in-None-clause-held : goal.returns-in-None-clause-held
returns-in-None-clause-held c =
    let regions = c.self.inside.regions.items in
    let none = rw c.deref-2.ensures.value at c.in-None.ensures.none in
    let held = ap (λ (t : Regions). t.held) c.self.view_is in
    ap by_address c.add-self-inside.ensures.items ∙ (sym (one_comes c.args.region regions none) ∙ ap (λ h. insert_entry nat_eq h c.args.region.addr c.args.region) held)
