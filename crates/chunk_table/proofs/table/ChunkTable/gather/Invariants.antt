use Rattle.std.proofs.Common.{◌≡◌, ◌++◌, [], map, vec_len}
use Rattle.std.specs.List.{All}
use Rattle.chunk_table.specs.Tables.{share_of, IsSeatOf}
use Rattle.chunk_table.proofs.table.ChunkTable.gather.Given as goal

abbrev pub invariant-loop-badge : goal.invariant-loop-badge
invariant-loop-badge l = record {
  table : l.place.table_id ≡ l.self.table.shared.table_id;
  home : l.place.me.1 ≡ [];
  shares : map share_of l.items.items ++ l.place.me.0.shares ≡ map share_of l.initial.items.items ++ l.initial.place.me.0.shares;
  ours : All (IsSeatOf l.self) l.items.items;
}

abbrev pub decreases-loop-badge : goal.decreases-loop-badge
decreases-loop-badge l = vec_len l.items
