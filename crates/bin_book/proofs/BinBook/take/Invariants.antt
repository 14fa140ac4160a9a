use Rattle.bin_book.proofs.Words.{◌≡◌, ◌+◌, ◌<◌, ◌≤◌, ◌++◌, length, map, take, vec_len, landing, region_of, free_of, with_regions_out, IsSlabTable, regions_in, slabs_in}
use Rattle.bin_book.proofs.BinBook.take.Given as goal

abbrev pub invariant-loop-turn : goal.invariant-loop-turn
invariant-loop-turn l = record {
  table : IsSlabTable l.self-inside.table;
  few : l._turn ≤ length (free_of l.class l.fn.self.slabs);
  rest : take l._turn (free_of l.class l.fn.self.slabs) ++ free_of l.class (slabs_in l.self-inside.table) ≡ free_of l.class l.fn.self.slabs;
  items : l.out.items ≡ l.fn.out.items ++ take l._turn (free_of l.class l.fn.self.slabs);
  room : l.out.room + l._turn ≡ l.fn.out.room;
  slabs : slabs_in l.self-inside.table ≡ map (with_regions_out (take l._turn (free_of l.class l.fn.self.slabs))) l.fn.self.slabs;
  regions : regions_in l.self-inside.table ≡ landing (map (region_of l.fn.self.client l.class) (take l._turn (free_of l.class l.fn.self.slabs))) l.fn.self.regions;
  spare : vec_len l.self-inside.table.free ≡ l.fn.self.spare;
  client : l.self-inside.client ≡ l.fn.self.client;
  few_clients : l.self-inside.client < 32;
}
