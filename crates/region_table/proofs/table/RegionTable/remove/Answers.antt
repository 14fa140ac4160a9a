use Rattle.std.proofs.Common.{rules, arith, ◌≡◌, ◌<◌, ap, subst, sym, ◌∙◌, nat_eq, Some, length}
use Rattle.indexmap.specs.IndexMap.{swap_remove_entry}
use Rattle.thread_cache.specs.declared.Held.{Held}
use Rattle.region_table.specs.Tables.{AreApart, by_address, Regions}
use Rattle.region_table.proofs.Entries.{apart_without, none_goes, one_goes}
use Rattle.region_table.proofs.Places.{found_at}
use Rattle.region_table.proofs.table.RegionTable.remove.Goals as goal

abbrev none : Held
none = record { addr = 0; arena = 0; class = 0 }

pub seek-requires-clause-apart : goal.seek-requires-clause-apart
seek-requires-clause-apart c = rw c.deref-2.ensures.value c.self.invariant.apart

pub take_out-requires-clause-apart : goal.take_out-requires-clause-apart
take_out-requires-clause-apart c = c.self.invariant.apart

pub take_out-requires-clause-word : goal.take_out-requires-clause-word
take_out-requires-clause-word c = λ region at.
    let regions = c.self.inside.regions.items in
    let found = found_at regions c.args.addr c.in-Some.spot.place (rw c.deref-2.ensures.value at c.in-Some.ensures.place) in
    let both : Some region ≡ Some found.0 = sym at ∙ found.1 in
    let same : region ≡ found.0 = search (rules, both) in
    let addr : region.addr ≡ c.args.addr = ap (λ (r : Held). r.addr) same ∙ found.2 in
    rw (addr, sym c.deref.ensures.value) c.in-Some.ensures.word

pub invariant_of-self : goal.invariant_of-self
invariant_of-self c =
    let i = c.self.invariant in
    let regions = c.self.inside.regions.items in
    let less = c.take_out.ensures in
    let within : c.in-Some.spot.place < length regions = rw c.deref-2.ensures.value at c.in-Some.ensures.within in
    record {
      met = less.met;
      apart = subst AreApart (sym (less.items none)) (apart_without regions c.in-Some.spot.place none within i.apart);
      filled = i.filled ∙ sym less.filled;
      slots = omega (arith, less.len, i.slots);
      places = omega (arith, less.fewer, i.places);
      spare = omega (arith, less.fewer, less.capacity, i.spare);
      empty = λ some. omega (arith, less.len, i.empty some);
      enough = λ some. omega (arith, less.len, less.fewer, i.enough some);
      long = omega (arith, less.len, less.fewer, i.long);
    }

pub returns-in-Some-clause-held : goal.returns-in-Some-clause-held
returns-in-Some-clause-held c =
    let regions = c.self.inside.regions.items in
    let found = rw c.deref-2.ensures.value at c.in-Some.ensures.place in
    let within : c.in-Some.spot.place < length regions = rw c.deref-2.ensures.value at c.in-Some.ensures.within in
    let held = ap (λ (t : Regions). t.held) c.self.view_is in
    ap by_address (c.take_out.ensures.items none) ∙ (sym (one_goes c.args.addr regions c.in-Some.spot.place none found within) ∙ ap (swap_remove_entry (nat_eq c.args.addr)) held)

pub returns-in_default-clause-held : goal.returns-in_default-clause-held
returns-in_default-clause-held c =
    let regions = c.self.inside.regions.items in
    let missing = rw c.deref-2.ensures.value at c.in_default.ensures.none in
    let held = ap (λ (t : Regions). t.held) c.self.view_is in
    sym held ∙ (sym (none_goes c.args.addr regions missing) ∙ ap (swap_remove_entry (nat_eq c.args.addr)) held)
