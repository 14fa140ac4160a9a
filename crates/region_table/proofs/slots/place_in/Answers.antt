use Rattle.std.proofs.Common.{arith, ◌≡◌, ◌<◌, ◌/◌, length, bit_and, slice_index_or, ap, ◌∙◌}
use Rattle.std.proofs.lemmas.Option.{slice_get_within, get_or_from_slice_get}
use Rattle.thread_cache.specs.declared.Held.{Held}
use Rattle.region_table.proofs.Words.{high_half, low_half}
use Rattle.region_table.proofs.slots.place_in.Goals.{else-word-addr-via-then-word-addr+then-place-regions+else-regions-place, else-word-addr-via-then-word-addr+else-place-regions, else-word-addr-via-else-word-addr}
use Rattle.region_table.proofs.slots.place_in.Goals as goal

pub returns-else-word-addr-clause-none : goal.returns-else-word-addr-clause-none
returns-else-word-addr-clause-none c = λ place region at same is.
    let regions = c.args.regions.now in
    let within : place < length regions = slice_get_within _ _ _ at in
    let few : place < 4294967296 = omega (arith, within, c.requires) in
    let low : bit_and c.args.word 4294967295 ≡ place = ap (λ w. bit_and w 4294967295) is ∙ low_half c.args.addr place few in
    let high : c.args.word / 4294967296 ≡ bit_and (c.args.addr / 8) 4294967295 = ap (λ w. w / 4294967296) is ∙ high_half c.args.addr place few in
    elim c.else-word-addr.branch [
      | else-word-addr-via-then-word-addr+then-place-regions+else-regions-place w ↦
          w.if-regions-place.false (ap (λ (r : Held). r.addr) (ap (λ k. slice_index_or regions k (record { addr = 0; arena = 0; class = 0 })) low ∙ get_or_from_slice_get regions place region (record { addr = 0; arena = 0; class = 0 }) at) ∙ same)
      | else-word-addr-via-then-word-addr+else-place-regions w ↦ omega (arith, w.if-place-regions.false, within, low)
      | else-word-addr-via-else-word-addr w ↦ w.if-word-addr.false high
    ]
