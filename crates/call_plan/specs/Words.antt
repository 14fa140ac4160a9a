-- The words in which calls are told: types, variants and definitions of this crate and of those below it, each under one name.
pub use Rattle.call_plan.specs.declared.needs.Request.{Request}
pub use Rattle.call_plan.specs.declared.needs.Request.TheVariants.{Malloc, Memalign, Free, FreeForeign, Publish, Take, Flush, Cache, Purge as PurgeAll, Decay, Time, Reset, Destroy, Create, Bind, HookBox, GrowLimit, Realloc, MallocIn, FreeIn, NewCache, FlushCache, EndCache}
pub use Rattle.call_plan.specs.Items.{Item, Replied, Told, Starved}
pub use Rattle.call_plan.specs.declared.needs.Given.{Given}
pub use Rattle.call_plan.specs.declared.needs.Given.TheVariants.{Region, Done as Finished, Arena, Limits, Cache as Slot}
pub use Rattle.call_plan.specs.declared.needs.Answered.{Answered}
pub use Rattle.call_plan.specs.declared.needs.Answered.TheVariants.{Ok, Refused, BadAnswer, TooLarge, BadAlign, NotHeld, NoArena as NoSuchArena, Busy, NoMemory, ArenasFull, Automatic, NoCache, CachesFull}
pub use Rattle.call_plan.specs.declared.points.Wish.{Wish}
pub use Rattle.call_plan.specs.declared.points.Resize.{Resize}
pub use Rattle.call_plan.specs.declared.points.Visit.{Visit}
pub use Rattle.call_plan.specs.declared.points.AfterFlight.{AfterFlight}
pub use Rattle.call_plan.specs.declared.points.AfterFlight.TheVariants.{Batches, Visiting, Moving}
pub use Rattle.call_plan.specs.declared.points.Change.{Change}
pub use Rattle.call_plan.specs.declared.points.Change.TheVariants.{Stops, Visits, Leaves}
pub use Rattle.call_plan.specs.declared.points.TurnPoint.{TurnPoint}
pub use Rattle.call_plan.specs.declared.points.TurnPoint.TheVariants.{Filling, Looking, Landing, Giving, Finding, Taking, Offering, Advancing, Changing, Making, Resetting, Destroying, Dooming, Publishing, Owning, Widening, Narrowing}
pub use Rattle.call_plan.specs.declared.points.AskPoint.{AskPoint}
pub use Rattle.call_plan.specs.declared.points.AskPoint.TheVariants.{Skipping, Trimming, Growing, SplittingGrown, GrowingExactly, SplittingExact, Committing, Merging, PurgingLazily, Returning, Decommitting, Forcing, Cutting, Extending, Sparing, Backing, Joining}
pub use Rattle.call_plan.specs.Stages.{Point, Turns, Asks, Tells, Next, Go, InArena, NextBatch, Move, NotLive, Ends, Nowhere, Stage}
pub use Rattle.space_model.specs.declared.Ask.{Ask}
pub use Rattle.space_model.specs.declared.Ask.TheVariants.{Alloc, Dalloc, Commit, Decommit, PurgeLazy, PurgeForced, Split, Merge}
pub use Rattle.space_model.specs.declared.Answer.{Answer}
pub use Rattle.space_model.specs.declared.Answer.TheVariants.{Placed, Done}
pub use Rattle.space_model.specs.declared.Op.{Op}
pub use Rattle.space_model.specs.declared.Reply.{Reply}
pub use Rattle.space_model.specs.declared.Reply.TheVariants.{NoArena, Nothing, Noted, Took, Grow, Cut, Whole, Bad, Grown, Landed, Next as NextFlight, Beside, Purge, Joined, Regions, Limits as LimitsAre, Taken, Lazy, Kept, Abandoned, Decommitted, Doomed, Owned}
pub use Rattle.space_model.specs.declared.Rest.{Rest}
pub use Rattle.space_model.specs.declared.Setting.{Setting}
pub use Rattle.space_model.specs.declared.Setting.TheVariants.{Unbind, DirtyMs, MuzzyMs, HookBox as SetBox, Bind as SetBound, GrowLimit as SetLimit, Live as MakeLive}
pub use Rattle.space_model.specs.declared.Space.{Space}
pub use Rattle.space_model.specs.declared.Part.{Part}
pub use Rattle.space_model.specs.declared.Span.{Span}
pub use Rattle.space_model.specs.declared.Why.{Why}
pub use Rattle.space_model.specs.Sound.{Sound}
pub use Rattle.space_model.specs.Own.{Mine, mine}
pub use Rattle.hook_api.specs.Asked.{AskFacts}
pub use Rattle.thread_cache.specs.declared.Held.{Held}
pub use Rattle.call_plan.specs.Clients.{DeskFacts, BatchFacts, batch_of, cached_of, caching, freeing, gain_held, gaining, going, going_with, held_at, hit, hitting, is_cacheable, reclassing, resizing}
pub use Rattle.hook_api.specs.Hooks.{Answers as AnswersTo}
pub use Rattle.size_classes.specs.Classes.{IsAlignment, align_at, aligned_for, class_for, pages_at, slots_at}
pub use Rattle.space_model.specs.Slabs.{most_regions, fill_at, land_at, lowest_free}
pub use Rattle.space_model.specs.Span.{end_of, max_series, same_span}
pub use Rattle.thread_cache.specs.Caches.{cached_in}
pub use Rattle.cache_set.specs.Sets.{Place, cache_at, explicit, free_slot}
