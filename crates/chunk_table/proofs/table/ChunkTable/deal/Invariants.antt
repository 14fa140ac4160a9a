use Rattle.std.proofs.Common.{◌≡◌, ◌≤◌, ◌-◌, [], map, vec_capacity, vec_len}
use Rattle.std.specs.List.{All, range_with_len}
use Rattle.chunk_table.specs.Rule.{blank}
use Rattle.chunk_table.specs.Tables.{share_of, IsSeatOf}
use Rattle.chunk_table.proofs.table.ChunkTable.deal.Given as goal

abbrev pub invariant-loop-number : goal.invariant-loop-number
invariant-loop-number l = record {
  table : l.place.table_id ≡ l.self.table.shared.table_id;
  left : l.place.me ≡ (record { shares = map (blank l.initial.arenas) (range_with_len l.number (l.initial.arenas - l.number)) }, []);
  dealt : map share_of l.items.items ≡ map (blank l.initial.arenas) (range_with_len 0 l.number);
  ours : All (IsSeatOf l.self) l.items.items;
  room : (vec_len l.items ≡ l.number) × (l.initial.arenas ≤ vec_capacity l.items);
}
