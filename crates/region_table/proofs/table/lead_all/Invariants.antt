use Rattle.std.proofs.Common.{◌≡◌, ◌<◌, ◌≤◌, ℕ, length, slice_get, Some, true}
use Rattle.thread_cache.specs.declared.Held.{Held}
use Rattle.region_table.specs.Slots.{filled_in, home_of, meets, word_of}
use Rattle.region_table.proofs.table.lead_all.Given as goal

-- the slots lead to the regions so far
abbrev pub invariant-loop-place : goal.invariant-loop-place
invariant-loop-place l = record {
  len : length l.words ≡ length l.fn.words;
  filled : l.filled ≡ filled_in l.words;
  few : l.filled ≤ l.place;
  met : (place : ℕ) (region : Held) → place < l.place → slice_get l.regions place ≡ Some region
      → meets l.words (length l.words) (home_of region.addr (length l.words)) (word_of region.addr place) ≡ true;
}
