use Rattle.std.proofs.Common.{rules, arith, ◌≡◌, ◌≢◌, ◌<◌, ◌==◌, true, false, length, slice_index_or, sym, ap, ◌∙◌, refl}
use Rattle.std.proofs.lemmas.Option.{get_or_from_slice_get, slice_get_within}
use Rattle.region_table.specs.Slots.{home_of, meets, word_of}
use Rattle.region_table.proofs.Words.{low_word}
use Rattle.region_table.proofs.table.lead_all.Goals as goal

pub loop-place-preserved : goal.loop-place-preserved
loop-place-preserved c =
    let l = c.loop-place in
    let more = c.lead-filled.ensures in
    let regions = c.args.regions.now in
    record {
      len = more.len ∙ l.invariant.len;
      filled = more.filled;
      few = omega (arith, more.few, l.invariant.few);
      met = λ place region low at.
          rw (more.len) (elim (place == l.place) as (λ b. (place == l.place) ≡ b → meets c.lead-filled.new.words (length l.words) (home_of region.addr (length l.words)) (word_of region.addr place) ≡ true) [
            | true ↦ λ e.
                let here : place ≡ l.place = search (rules, e) in
                let same : slice_index_or regions l.place (record { addr = 0; arena = 0; class = 0 }) ≡ region = ap (λ k. slice_index_or regions k (record { addr = 0; arena = 0; class = 0 })) (sym here) ∙ get_or_from_slice_get regions place region (record { addr = 0; arena = 0; class = 0 }) at in
                rw (here, sym same) more.met
            | false ↦ λ e.
                let other : place ≢ l.place = search (rules, e) in
                let within : place < length regions = slice_get_within _ _ _ at in
                more.kept _ _ _ (low_word region.addr place (omega (arith, within, c.requires.places))) (l.invariant.met place region (omega (arith, low, other)) at)
          ] refl);
    }

pub returns-clause-met : goal.returns-clause-met
returns-clause-met c = λ place region at.
    let within : place < length c.args.regions.now = slice_get_within _ _ _ at in
    c.loop-place.invariant.met place region (omega (arith, within, c.loop-place-test.false)) at
