use Rattle.arena_core.proofs.Words.{◌≡◌, ◌+◌, ◌-◌, ◌*◌, not, ltb, arith, rules, is_active, is_listed, bytes_where, is_mapped, is_in_flight, region_bytes_where, space_of, both_bytes}
use Rattle.arena_core.proofs.Books.{slabs_counted}
use Rattle.arena_core.proofs.Totals.{summed}
use Rattle.arena_core.proofs.readers.counts.Goals as goal
use Rattle.space_model.specs.declared.Rest.TheVariants as rests

pub overflow_sub-result-2 : goal.overflow_sub-result-2
overflow_sub-result-2 c = omega (arith, c.bytes-allocated.ensures, c.small_bytes-small.ensures, both_bytes c.args.indexes.now.regions.regions)

pub returns : goal.returns
returns c =
    let sums = summed (space_of c.args.indexes.now) c.requires.sound in
    let parts = c.args.indexes.now.extents.parts in
    let regions = c.args.indexes.now.regions.regions in
    let allocated = c.bytes-allocated.ensures in
    let active : 4096 * c.active_pages-active.result ≡ bytes_where is_active parts = omega arith in
    let dirty : 4096 * c.pages-dirty.result ≡ bytes_where (is_listed rests.Dirty) parts = omega arith in
    let muzzy : 4096 * c.pages-muzzy.result ≡ bytes_where (is_listed rests.Muzzy) parts = omega arith in
    let retained : 4096 * c.pages-retained.result ≡ bytes_where (is_listed rests.Retained) parts = omega arith in
    let mapped : 4096 * c.all_pages.result - 4096 * c.pages-retained.result ≡ bytes_where is_mapped parts = omega arith in
    let flight : 4096 * c.all_pages.result - 4096 * c.pages-retained.result - (4096 * c.active_pages-active.result + 4096 * c.pages-dirty.result + 4096 * c.pages-muzzy.result) ≡ bytes_where is_in_flight parts = omega arith in
    let large : c.bytes-allocated.result - c.small_bytes-small.result ≡ region_bytes_where (λ class. not (ltb class 36)) regions =
    omega (arith, allocated, c.small_bytes-small.ensures, both_bytes regions) in
    λ i. record {
      allocated = allocated i;
      active = active i;
      dirty = dirty i;
      muzzy = muzzy i;
      retained = retained i;
      flight = flight i;
      mapped = mapped i;
      small = c.small_bytes-small.ensures i;
      large = large i;
      regs = c.small_numbers.ensures i;
      slabs = slabs_counted (space_of c.args.indexes.now) c.args.indexes.now.regions.slabs c.slabs.result c.requires.booked (search rules) c.slabs.ensures i;
      lextents = c.large_numbers.ensures i;
    }
