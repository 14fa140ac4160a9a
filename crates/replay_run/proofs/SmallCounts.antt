-- The counts of all arenas are small enough for a snapshot.
use Rattle.std.proofs.Common.{Bool, true, false, List, None, Some, All, arith, if◌then◌else◌}
use Rattle.std.proofs.lemmas.List.Elements.{All-from_get_or, All-map}
use Rattle.space_model.specs.declared.Space.{Space}
use Rattle.space_model.specs.Counts.{counts_of}
use Rattle.space_model.specs.Sound.{Sound}
use Rattle.space_model.specs.Stepped.{is_live}
use Rattle.heap_core.specs.Arenas.{IsArenas, where_live}
use Rattle.sits.specs.Arenas.{no_record, record_at}
use Rattle.recorded_arena.specs.Records.{Record}
use Rattle.heap_core.proofs.Clients.{sound_at}
use Rattle.heap_stats.specs.Stats.{AreSmallWhereLive}
use Rattle.heap_stats.proofs.Small.{none_small}
use Rattle.heap_stats.proofs.Sums.{counts_small}
use Rattle.replay_run.specs.Counts.{all_counts}

-- those of an arena are
arena_small : (s : Space) → Sound s → AreSmallWhereLive (where_live counts_of s)
arena_small s sound = by (is_live s.life)
  where
    by : (b : Bool) → AreSmallWhereLive (if b then Some (counts_of s) else None)
    by true = counts_small s sound
    by false = none_small

-- and those of all
pub counts_are_small : (records : List Record) → IsArenas records → All AreSmallWhereLive (all_counts records)
counts_are_small records is =
    All-map AreSmallWhereLive (λ (r : Record). where_live counts_of r.space) records
    (All-from_get_or (λ (r : Record). AreSmallWhereLive (where_live counts_of r.space)) records no_record (λ i below. arena_small (record_at records i).space (sound_at records i is (omega (arith, below, is.number)))))
