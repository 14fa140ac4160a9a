-- The words of the specs: definitions of std and of the crates below, each under one name.
pub use Rattle.std.specs.List.{list_any, position, range_with_len, slice_get, sum_by}
pub use Rattle.std.specs.Option.{option_and_then, option_map}
pub use Rattle.arena_core.specs.Arenas.{all_rooms, entry_of, opens, room_of}
pub use Rattle.call_plan.specs.Calls.{CallFacts, HasRoomToHold, moment_at, moment_of, named_call, takes_memory}
pub use Rattle.call_plan.specs.Items.{lent}
pub use Rattle.call_plan.specs.Laws.{IsInRange}
pub use Rattle.call_plan.specs.Needs.{Goes, NeedIs}
pub use Rattle.call_plan.specs.Reads.{aimed, ended_by, heard_next, taken_next}
pub use Rattle.call_plan.specs.Runs.{Moment, after, begin}
pub use Rattle.call_plan.specs.Table.{Want, WantAsk, WantTurn, is_marked, op_at, step, want}
pub use Rattle.call_plan.specs.Words.{Alloc, Answer, AnswersTo, Ask, AskFacts, Asks, Dalloc, DeskFacts, Ends, Go, Held, Item, Mine, Next, Op, InArena, Placed, Point, Replied, Reply, Setting, Space, Span, Stage, Starved, Tells, Told, Turns, held_at, mine}
pub use Rattle.call_plan.specs.declared.needs.Answered.{Answered}
pub use Rattle.call_plan.specs.declared.needs.Answered.TheVariants.{NoMemory}
pub use Rattle.call_plan.specs.declared.needs.Need.{Need}
pub use Rattle.call_plan.specs.declared.needs.Request.{Request}
pub use Rattle.call_plan.specs.declared.needs.Request.TheVariants.{Flush, Free, FreeForeign}
pub use Rattle.call_plan.specs.declared.needs.Turn.{Turn}
pub use Rattle.call_plan.specs.declared.points.AskPoint.{AskPoint}
pub use Rattle.call_plan.specs.declared.points.AskPoint.TheVariants.{Skipping}
pub use Rattle.call_plan.specs.declared.points.Change.{Change}
pub use Rattle.call_plan.specs.declared.points.AfterFlight.{AfterFlight}
pub use Rattle.call_plan.specs.declared.points.TurnPoint.{TurnPoint}
pub use Rattle.call_plan.specs.declared.points.TurnPoint.TheVariants.{Destroying, Filling, Giving, Landing, Looking, Owning, Publishing, Resetting}
pub use Rattle.call_plan.specs.declared.points.Wish.{Wish}
pub use Rattle.hook_api.specs.Kept.{IsKept}
pub use Rattle.hook_api.specs.Shelf.{AskStep, Shelf}
pub use Rattle.hook_api.specs.declared.kept.Journal.{Journal}
pub use Rattle.recorded_arena.specs.Records.{IsReplayed, Record, most_room, opening_record}
pub use Rattle.sits.specs.Arenas.{record_at, records_turned, reply_in, room_in}
pub use Rattle.sits.specs.Clients.{IsIdle, Waits, WaitsNext}
pub use Rattle.sits.specs.Seats.{Seat, open_call, seat_of}
pub use Rattle.space_model.specs.Counts.{counts_of}
pub use Rattle.space_model.specs.Journal.{replay}
pub use Rattle.space_model.specs.Opening.{absent_space, first_space}
pub use Rattle.space_model.specs.Span.{chunk_span, chunks_of, has_page, meets}
pub use Rattle.space_model.specs.Step.{is_in_space, stands}
pub use Rattle.space_model.specs.Stepped.{is_live}
pub use Rattle.space_model.specs.declared.entries.Op.TheVariants.{GrowDone, OfferDone}
pub use Rattle.call_plan.specs.Clients.{not_holding}
