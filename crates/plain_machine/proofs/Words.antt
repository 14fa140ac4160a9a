-- The words of the proofs: lemmas and definitions of crates below, and the types.
pub use Rattle.space_model.proofs.Words.{All-filter, All-head, All-tail, IsMade, IsPlaced, Sound, bytes_of, bytes_where, cases_lt, count_by, cut_stands, div-le_self, fill_by_all, fill_by_more, find, flat_map, free_places, get_or_past, houses, is_flight_at, is_live, is_mapped, is_slab, land_stands, landing, large_home, limit_at, map-range_with_len_more, mul-le-mul, nat_tests, pages_end, position, position_or_len, range_with_len, region_bytes_where, region_of, regions_at, regions_by_class, regions_from, remove, rises_from, size_at, size_bounds, slab_filled, slabs_of, staying, sum_by, sum_by-cons, sum_by-le-sum_by, turned_in_order, weighed, with_regions}
pub use Rattle.space_model.specs.declared.asks.Answer.{Answer}
pub use Rattle.space_model.specs.declared.asks.Ask.TheVariants.{Split}
pub use Rattle.space_model.specs.declared.entries.Reply.TheVariants.{Counted}
pub use Rattle.space_model.specs.declared.parts.Part.{Part}
pub use Rattle.space_model.specs.declared.parts.Region.{Region}
pub use Rattle.space_model.specs.declared.parts.Span.{Span}
pub use Rattle.space_model.specs.declared.parts.State.{State}
pub use Rattle.space_model.specs.declared.spaces.Added.{Added}
pub use Rattle.space_model.specs.declared.spaces.Space.{Space}
