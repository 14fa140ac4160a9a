use Rattle.std.proofs.Common.{arith, ℕ, filter, sym, ◌∙◌, ap}
use Rattle.thread_cache.specs.declared.Held.{Held}
use Rattle.thread_cache.specs.Caches.{is_elsewhere}
use Rattle.region_table.specs.Tables.{by_address, Regions}
use Rattle.region_table.proofs.Entries.{apart_filtered, some_go}
use Rattle.region_table.proofs.table.RegionTable.discard.Goals as goal

pub invariant_of-self : goal.invariant_of-self
invariant_of-self c =
    let i = c.self.invariant in
    let less = c.take_out_of-self-inside.ensures in
    record {
      met = less.met;
      apart = rw less.items (apart_filtered c.self.inside.regions.items (is_elsewhere c.args.arena) i.apart);
      filled = less.filled;
      slots = omega (arith, less.len, i.slots);
      places = omega (arith, less.fewer, i.places);
      spare = omega (arith, less.fewer, less.capacity, i.spare);
      empty = λ some. omega (arith, less.len, less.few, less.fewer, i.enough some);
      enough = λ some. omega (arith, less.len, less.fewer, i.enough some);
      long = omega (arith, less.len, less.fewer, i.long);
    }

pub returns-clause-held : goal.returns-clause-held
returns-clause-held c =
    let held = ap (λ (t : Regions). t.held) c.self.view_is in
    ap by_address c.take_out_of-self-inside.ensures.items ∙ (sym (some_go c.args.arena c.self.inside.regions.items) ∙ ap (filter (λ (e : ℕ × Held). is_elsewhere c.args.arena e.1)) held)
