-- The table of the names of controls.
use Rattle.std.specs.Prelude.{ℕ, ◌^◌, List, [], ◌∷◌, slice_index_or, codes}
use Rattle.std.specs.Borrow.{Bor}
use Rattle.heap_stats.specs.declared.Count.TheVariants as count
use Rattle.ctl_names.specs.declared.rows.Action.TheVariants as action
use Rattle.ctl_names.specs.declared.rows.ArenaReading.TheVariants as of_arena
use Rattle.ctl_names.specs.declared.rows.ClassCount.TheVariants as by_class
use Rattle.ctl_names.specs.declared.rows.ClassReading.TheVariants as of_class
use Rattle.ctl_names.specs.declared.rows.OnPlain.{OnPlain}
use Rattle.ctl_names.specs.declared.rows.OnPlain.TheVariants as plain
use Rattle.ctl_names.specs.declared.rows.OnWrite.{OnWrite}
use Rattle.ctl_names.specs.declared.rows.OnWrite.TheVariants as written
use Rattle.ctl_names.specs.declared.rows.Reading.TheVariants as reading

-- a row: the pattern of its names, whose parts are parted by dots as those of a name, and what comes of a plain line and
-- of a write of them
pub record RowFacts : Type 0 where
  pub pattern : List ℕ
  pub on_plain : OnPlain
  pub on_write : OnWrite

abbrev pub row : List ℕ → OnPlain → OnWrite → RowFacts
row pattern on_plain on_write = record { pattern = pattern; on_plain = on_plain; on_write = on_write }

-- the table
abbrev pub rows : List RowFacts
rows =
    row (codes "epoch") (plain.Reads reading.Refreshes) written.Refresh ∷
    row (codes "thread.arena") (plain.Reads reading.ThreadArena) written.Bind ∷
    row (codes "thread.tcache.enabled") (plain.Reads reading.CacheIsOn) written.Cache ∷
    row (codes "thread.tcache.flush") (plain.Acts action.Flush) written.Never ∷
    row (codes "tcache.create") (plain.Acts action.NewCache) written.Never ∷
    row (codes "tcache.flush") plain.Never written.FlushCache ∷
    row (codes "tcache.destroy") plain.Never written.EndCache ∷
    row (codes "arena.<arena>.initialized") (plain.ReadsArena of_arena.IsLive) written.Never ∷
    row (codes "arena.<arenas>.decay") (plain.Acts action.Decay) written.Never ∷
    row (codes "arena.<arenas>.purge") (plain.Acts action.Purge) written.Never ∷
    row (codes "arena.<arena>.reset") (plain.Acts action.Reset) written.Never ∷
    row (codes "arena.<arena>.destroy") (plain.Acts action.Destroy) written.Never ∷
    row (codes "arena.<arena>.dirty_decay_ms") (plain.ReadsArena of_arena.DirtyTime) written.DirtyTime ∷
    row (codes "arena.<arena>.muzzy_decay_ms") (plain.ReadsArena of_arena.MuzzyTime) written.MuzzyTime ∷
    row (codes "arena.<arena>.extent_hooks") (plain.ReadsArena of_arena.HookBox) written.HookBox ∷
    row (codes "arena.<arena>.retain_grow_limit") (plain.ReadsArena of_arena.GrowLimit) written.GrowLimit ∷
    row (codes "arenas.narenas") (plain.Reads reading.ArenaCount) written.Never ∷
    row (codes "arenas.dirty_decay_ms") (plain.Reads reading.NewDirtyTime) written.NewDirtyTime ∷
    row (codes "arenas.muzzy_decay_ms") (plain.Reads reading.NewMuzzyTime) written.NewMuzzyTime ∷
    row (codes "arenas.quantum") (plain.Number 16) written.Never ∷
    row (codes "arenas.page") (plain.Number 4096) written.Never ∷
    row (codes "arenas.tcache_max") (plain.Number 32768) written.Never ∷
    row (codes "arenas.nbins") (plain.Number 36) written.Never ∷
    row (codes "arenas.nhbins") (plain.Number 41) written.Never ∷
    row (codes "arenas.nlextents") (plain.Number 85) written.Never ∷
    row (codes "arenas.bin.<bin>.size") (plain.ReadsClass of_class.Size) written.Never ∷
    row (codes "arenas.bin.<bin>.nregs") (plain.ReadsClass of_class.Regions) written.Never ∷
    row (codes "arenas.bin.<bin>.slab_size") (plain.ReadsClass of_class.SlabSize) written.Never ∷
    row (codes "arenas.lextent.<large>.size") (plain.ReadsClass of_class.LargeSize) written.Never ∷
    row (codes "arenas.create") (plain.Acts action.Create) written.Create ∷
    row (codes "arenas.lookup") plain.Wanting written.Lookup ∷
    row (codes "stats.allocated") (plain.Total count.Allocated) written.Never ∷
    row (codes "stats.active") (plain.Total count.Active) written.Never ∷
    row (codes "stats.retained") (plain.Total count.Retained) written.Never ∷
    row (codes "stats.arenas.<counted>.pactive") (plain.Stat count.ActivePages) written.Never ∷
    row (codes "stats.arenas.<counted>.pdirty") (plain.Stat count.DirtyPages) written.Never ∷
    row (codes "stats.arenas.<counted>.pmuzzy") (plain.Stat count.MuzzyPages) written.Never ∷
    row (codes "stats.arenas.<counted>.retained") (plain.Stat count.Retained) written.Never ∷
    row (codes "stats.arenas.<counted>.small.allocated") (plain.Stat count.Small) written.Never ∷
    row (codes "stats.arenas.<counted>.large.allocated") (plain.Stat count.Large) written.Never ∷
    row (codes "stats.arenas.<counted>.bins.<bin>.curregs") (plain.ClassStat by_class.Regions) written.Never ∷
    row (codes "stats.arenas.<counted>.bins.<bin>.curslabs") (plain.ClassStat by_class.Slabs) written.Never ∷
    row (codes "stats.arenas.<counted>.lextents.<large>.curlextents") (plain.ClassStat by_class.LargeRegions) written.Never ∷
    []

-- a row of the code
abbrev pub shown : Bor (List ℕ) × OnPlain × OnWrite → RowFacts
shown r = row r.0.now r.1 r.2

-- the row with a number
abbrev pub row_at : ℕ → RowFacts
row_at number = slice_index_or rows number (row [] plain.Wanting written.Never)

-- below which number a name's class is, by what a plain line of it comes to: there are 36 small classes and 85 large ones
abbrev pub class_limit : OnPlain → ℕ
class_limit (plain.ReadsClass of_class.Size) = 36
class_limit (plain.ReadsClass of_class.Regions) = 36
class_limit (plain.ReadsClass of_class.SlabSize) = 36
class_limit (plain.ReadsClass of_class.LargeSize) = 85
class_limit (plain.ClassStat by_class.Regions) = 36
class_limit (plain.ClassStat by_class.Slabs) = 36
class_limit (plain.ClassStat by_class.LargeRegions) = 85
class_limit on_plain = 2 ^ 32
