use Rattle.std.proofs.Common.{◌≡◌, ℕ, ◌-◌, ◌<◌, length, slice_get, Some, true}
use Rattle.thread_cache.specs.declared.Held.{Held}
use Rattle.region_table.specs.Slots.{Passes, home_of, meets, word_of}
use Rattle.region_table.proofs.slots.seek.Given as goal

-- all slots so far are filled, and what is searched is met behind them
abbrev pub invariant-loop-past : goal.invariant-loop-past
invariant-loop-past l = (0 < length l.words → l.at < length l.words) × (Passes l.words l._past (home_of l.addr (length l.words)) l.at
    × ((place : ℕ) (region : Held) → slice_get l.regions place ≡ Some region → region.addr ≡ l.addr
    → meets l.words (length l.words - l._past) l.at (word_of l.addr place) ≡ true))
