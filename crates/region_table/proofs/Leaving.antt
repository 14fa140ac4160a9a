-- A region goes, and the last one takes its place.
use Rattle.std.proofs.Common.{rules, arith, ◌≡◌, ℕ, ◌+◌, ◌-◌, ◌<◌, ◌≤◌, true, List, length, slice_get, slice_index_or, slice_set, Some, Bool, false, ◌==◌, refl, sym, ap, ◌∙◌, true≢false}
use Rattle.std.proofs.lemmas.Grind.{common_steps}
use Rattle.std.proofs.lemmas.List.{get_or-set_other, get_or-set_same, length-set}
use Rattle.std.proofs.lemmas.Option.{slice_get-get_or, slice_get_within}
use Rattle.std.specs.List.{swap_remove}
use Rattle.thread_cache.specs.declared.Held.{Held}
use Rattle.region_table.specs.Slots.{Passes, filled_in, home_of, is_filled, meets, word_at, word_of}
use Rattle.region_table.specs.Tables.{AreMet}
use Rattle.region_table.proofs.Places.{swapped}
use Rattle.region_table.proofs.Searches.{filled_more, meets_kept, met_there, passes_kept}
use Rattle.region_table.proofs.Words.{low_word, other_word}

-- what a slot has whose region is gone
abbrev gone_word : ℕ
gone_word = 18446744073709551614

module _ (words : List ℕ) (regions : List Held) (slot p : ℕ) (few : length regions < 2147483648) (met : AreMet words regions)
    (inside : slot < length words) (within : p < length regions) (own : (region : Held) → slice_get regions p ≡ Some region → word_at words slot ≡ word_of region.addr p) where
  -- the region at the place
  at_place : (region : Held) × (slice_get regions p ≡ Some region)
  at_place = (slice_index_or regions p (record { addr = 0; arena = 0; class = 0 }), slice_get-get_or regions p (record { addr = 0; arena = 0; class = 0 }) within)

  -- what its slot has is filled
  pub own_filled : is_filled (word_at words slot) ≡ true
  own_filled =
      let low = low_word at_place.0.addr p (omega (arith, within, few)) in
      grind (arith, own at_place.0 at_place.1, low)

  -- as many slots have been filled once the region is gone
  pub gone_filled : filled_in (slice_set words slot gone_word) ≡ filled_in words
  gone_filled = grind (arith, common_steps, filled_more words slot gone_word inside refl, own_filled)

  -- the others are met once it is gone
  pub others_met : (q : ℕ) (region : Held) → slice_get regions q ≡ Some region → (q ≡ p → ⊥) → (count : ℕ) → count ≡ length words
      → meets (slice_set words slot gone_word) count (home_of region.addr count) (word_of region.addr q) ≡ true
  others_met q region at other count all =
      let low : q < length regions = slice_get_within _ _ _ at in
      rw all (meets_kept words slot gone_word (word_of region.addr q) inside refl
      (λ same. other (sym (other_word at_place.0.addr p region.addr q (omega (arith, within, few)) (omega (arith, low, few)) (sym (own at_place.0 at_place.1) ∙ same))))
      (length words) (home_of region.addr (length words)) (met q region at))

  -- where it was the last one, all are met
  pub last_gone : length regions ≤ p + 1 → (d : Held) → AreMet (slice_set words slot gone_word) (swap_remove regions p d)
  last_gone last d q region at = swapped regions p d within q region at _
      (λ here low _. absurd (omega (arith, last, low)))
      (λ other low stays. others_met q region stays other _ (length-set words slot gone_word))

  -- where another one takes its place, all are met once that one's slot leads there
  pub last_moved : (moved : Held) → slice_get regions (length regions - 1) ≡ Some moved → p < length regions - 1 → (end past w : ℕ) → end < length words → past < length words
      → Passes words past (home_of moved.addr (length words)) end → word_at words end ≡ word_of moved.addr (length regions - 1) → w ≡ word_of moved.addr p
      → (d : Held) → AreMet (slice_set (slice_set words slot gone_word) end w) (swap_remove regions p d)
  last_moved moved lies before end past w ending few_past passes leads is d q region at =
      let new = slice_set words slot gone_word in
      let same_len : length new ≡ length words = length-set words slot gone_word in
      let len : length (slice_set new end w) ≡ length words = length-set new end w ∙ same_len in
      let low_w : word_of moved.addr p < 18446744073709551614 = low_word moved.addr p (omega (arith, within, few)) in
      let filled : is_filled w ≡ true = grind (arith, is, low_w) in
      let ending' : end < length new = omega (arith, ending, same_len) in
      swapped regions p d within q region at _
      (λ here low is_last.
      let same : region ≡ moved = search (rules, is_last, lies) in
      let kept = passes_kept words slot gone_word inside refl past _ end passes in
      rw (len, here, same, sym is) (met_there new end w ending' past (length words) (home_of moved.addr (length words)) kept few_past))
      (λ other low stays.
      let first = others_met q region stays other (length words) refl in
      let low_q : word_of region.addr q < 18446744073709551614 = low_word region.addr q (omega (arith, low, few)) in
      rw len (meets_kept new end w (word_of region.addr q) ending' filled
      (λ same. by_end q region low low_q (end == slot) refl same)
      (length words) (home_of region.addr (length words)) first))
    where
      by_end : (q : ℕ) (region : Held) → q < length regions - 1 → word_of region.addr q < 18446744073709551614 → (b : Bool) → (end == slot) ≡ b
          → word_at (slice_set words slot gone_word) end ≡ word_of region.addr q → ⊥
      by_end q region low low_q true e same =
          let here : end ≡ slot = search (rules, e) in
          let gone : word_at (slice_set words slot gone_word) end ≡ gone_word = search (rules, here, inside, get_or-set_same) in
          omega (arith, low_q, gone, same)
      by_end q region low low_q false e same =
          let elsewhere : end ≡ slot → ⊥ = λ here. true≢false (sym (search (rules, here)) ∙ e) in
          let old : word_at words end ≡ word_of region.addr q = sym (get_or-set_other words slot end gone_word 0 elsewhere) ∙ same in
          let places = other_word moved.addr (length regions - 1) region.addr q (omega (arith, few)) (omega (arith, low, few)) (sym leads ∙ old) in
          omega (arith, places, low)

  -- as many slots have been filled once another one leads to its place
  pub moved_filled : (addr end w place : ℕ) → end < length words → place < 2147483648 → word_at words end ≡ word_of addr place → is_filled w ≡ true
      → filled_in (slice_set (slice_set words slot gone_word) end w) ≡ filled_in words
  moved_filled addr end w place ending few_places leads filled =
      let new = slice_set words slot gone_word in
      let ending' : end < length new = omega (arith, ending, length-set words slot gone_word) in
      grind (arith, common_steps, filled_more new end w ending' filled, by (end == slot) refl, gone_filled)
    where
      by : (b : Bool) → (end == slot) ≡ b → is_filled (word_at (slice_set words slot gone_word) end) ≡ true
      by true e =
          let here : end ≡ slot = search (rules, e) in
          let gone : word_at (slice_set words slot gone_word) end ≡ gone_word = search (rules, here, inside, get_or-set_same) in
          ap is_filled gone
      by false e =
          let elsewhere : end ≡ slot → ⊥ = λ here. true≢false (sym (search (rules, here)) ∙ e) in
          let low = low_word addr place few_places in
          let old : word_at (slice_set words slot gone_word) end ≡ word_of addr place = get_or-set_other words slot end gone_word 0 elsewhere ∙ leads in
          grind (arith, old, low)
