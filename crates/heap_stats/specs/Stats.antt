-- The counts of all arenas as they were at a moment, and one number of them.
use Rattle.std.specs.Prelude.{◌≡◌, ℕ, ◌/◌, ◌^◌, ◌≤◌, List, length, replicate, slice_get, slice_index, Option, None, Some}
use Rattle.std.specs.List.{All, sum_by}
use Rattle.std.specs.Option.{option_map_or}
use Rattle.space_model.specs.declared.Counts.{Counts}
use Rattle.space_model.specs.declared.Space.{Space}
use Rattle.space_model.specs.Counts.{counts_of}
use Rattle.space_model.specs.Sound.{Sound}
use Rattle.heap_stats.specs.declared.snapshots.Count.{Count}
use Rattle.heap_stats.specs.declared.snapshots.Count.TheVariants.{Allocated, Active, Retained, ActivePages, DirtyPages, MuzzyPages, Small, Large, Regions, Slabs, LargeRegions}
use Rattle.heap_stats.specs.declared.snapshots.Whose.{Whose}
use Rattle.heap_stats.specs.declared.snapshots.Whose.TheVariants.{Arena, All as OfAll, Destroyed}

-- the counts of an arena that isn't live
abbrev pub no_counts : Counts
no_counts = record {
  allocated = 0;
  active = 0;
  dirty = 0;
  muzzy = 0;
  retained = 0;
  flight = 0;
  mapped = 0;
  small = 0;
  large = 0;
  regs = replicate 36 0;
  slabs = replicate 36 0;
  lextents = replicate 85 0;
}

-- an arena's counts, or those of one that isn't live
abbrev pub counts_or_none : Option Counts → Counts
counts_or_none None = no_counts
counts_or_none (Some counts) = counts

-- no number of the counts is above 2 ^ 58
pub record AreSmall (c : Counts) : Type 0 where
  pub allocated : c.allocated ≤ 2 ^ 58
  pub active : c.active ≤ 2 ^ 58
  pub dirty : c.dirty ≤ 2 ^ 58
  pub muzzy : c.muzzy ≤ 2 ^ 58
  pub retained : c.retained ≤ 2 ^ 58
  pub flight : c.flight ≤ 2 ^ 58
  pub mapped : c.mapped ≤ 2 ^ 58
  pub small : c.small ≤ 2 ^ 58
  pub large : c.large ≤ 2 ^ 58
  pub regs : (class : ℕ) → slice_index c.regs class ≤ 2 ^ 58
  pub slabs : (class : ℕ) → slice_index c.slabs class ≤ 2 ^ 58
  pub lextents : (class : ℕ) → slice_index c.lextents class ≤ 2 ^ 58

-- so are those of every arena
abbrev pub CountsAreSmall : Type 0
CountsAreSmall = (s : Space) → Sound s → AreSmall (counts_of s)

-- no number is above 2 ^ 58, where the arena is live
abbrev pub AreSmallWhereLive : Option Counts → Type 0
AreSmallWhereLive counts = AreSmall (counts_or_none counts)

-- the counts of 32 arenas, none of which is above 2 ^ 58
pub record IsSnapshot (counts : List Counts) : Type 0 where
  pub arenas : length counts ≡ 32
  pub small : All AreSmall counts

-- one number of an arena's counts; a page has 4096 bytes
abbrev pub count_in : Count → Counts → ℕ
count_in Allocated c = c.allocated
count_in Active c = c.active
count_in Retained c = c.retained
count_in ActivePages c = c.active / 4096
count_in DirtyPages c = c.dirty / 4096
count_in MuzzyPages c = c.muzzy / 4096
count_in Small c = c.small
count_in Large c = c.large
count_in (Regions class) c = slice_index c.regs class
count_in (Slabs class) c = slice_index c.slabs class
count_in (LargeRegions class) c = slice_index c.lextents class

-- one number of one arena, the sum over all, or 0 of those that were destroyed
abbrev pub stat_of : Whose → Count → List Counts → ℕ
stat_of (Arena index) count counts = option_map_or (count_in count) (slice_get counts index) 0
stat_of OfAll count counts = sum_by (count_in count) counts
stat_of Destroyed count counts = 0
