-- The words of the specs: definitions of std and of the crates below, each under one name.
pub use Rattle.std.specs.List.{flat_map, list_any}
pub use Rattle.arena_core.specs.Arenas.{entry_of, opens, room_of}
pub use Rattle.call_plan.specs.Calls.{CallFacts, moment_of}
pub use Rattle.call_plan.specs.Desks.{flushes}
pub use Rattle.call_plan.specs.Knows.{Idle, Knows}
pub use Rattle.call_plan.specs.Laws.{IsInRange, with_found}
pub use Rattle.call_plan.specs.Needs.{Goes}
pub use Rattle.call_plan.specs.Rooms.{flying, needed_at}
pub use Rattle.call_plan.specs.Runs.{Moment, after, begin}
pub use Rattle.call_plan.specs.Table.{WantAsk, WantTurn, is_marked, want}
pub use Rattle.call_plan.specs.Words.{AnswersTo, AskFacts, Asks, DeskFacts, Ends, Go, NotLive, Held, Item, Mine, NextBatch, Move, Next, Nowhere, Op, InArena, Point, Replied, Reply, SetBound, Setting, Starved, Tells, Told, Turns, Unbind, batch_of, cached_in, cached_of, going, mine, pages_at, slots_at}
pub use Rattle.call_plan.specs.declared.needs.Answered.TheVariants.{Ok}
pub use Rattle.call_plan.specs.declared.needs.Given.TheVariants.{Region}
pub use Rattle.call_plan.specs.declared.needs.Request.{Request}
pub use Rattle.call_plan.specs.declared.needs.Request.TheVariants.{Bind, Publish}
pub use Rattle.call_plan.specs.declared.points.AskPoint.{AskPoint}
pub use Rattle.call_plan.specs.declared.points.AskPoint.TheVariants.{Committing, Decommitting, PurgingLazily, Forcing, SplittingExact, Growing, Merging, GrowingExactly, SplittingGrown, Returning, Skipping, Trimming, Cutting, Extending, Sparing, Backing, Joining}
pub use Rattle.call_plan.specs.declared.points.Resize.{Resize}
pub use Rattle.call_plan.specs.declared.points.Change.{Change}
pub use Rattle.call_plan.specs.declared.points.Change.TheVariants.{Leaves, Stops, Visits}
pub use Rattle.call_plan.specs.declared.points.AfterFlight.{AfterFlight}
pub use Rattle.call_plan.specs.declared.points.AfterFlight.TheVariants.{Batches, Visiting, Moving}
pub use Rattle.call_plan.specs.declared.points.TurnPoint.{TurnPoint}
pub use Rattle.call_plan.specs.declared.points.TurnPoint.TheVariants.{Changing, Destroying, Filling, Finding, Giving, Landing, Looking, Offering, Publishing, Resetting, Owning, Widening, Narrowing}
pub use Rattle.hook_api.specs.Kept.{IsKept}
pub use Rattle.recorded_arena.specs.Records.{Record, opening_space, record_after}
pub use Rattle.space_model.specs.Sound.{Sound}
pub use Rattle.space_model.specs.Span.{has_page}
pub use Rattle.space_model.specs.Step.{reply_to, stands}
pub use Rattle.space_model.specs.declared.parts.Region.{Region as SpaceRegion}
pub use Rattle.cache_set.specs.Sets.{Place, explicit}
