-- The types of the crate with their variants, each under the name that the definitions and the lemmas call it by.
pub use Rattle.space_model.specs.declared.parts.Offered.{Offered}
pub use Rattle.space_model.specs.declared.parts.Part.{Part}
pub use Rattle.space_model.specs.declared.parts.Region.{Region}
pub use Rattle.space_model.specs.declared.parts.Rest.{Rest}
pub use Rattle.space_model.specs.declared.parts.Span.{Span}
pub use Rattle.space_model.specs.declared.parts.State.{State}
pub use Rattle.space_model.specs.declared.parts.State.TheVariants.{Flight, Active, Dirty, Muzzy, Retained}
pub use Rattle.space_model.specs.declared.spaces.Added.{Added}
pub use Rattle.space_model.specs.declared.spaces.Life.{Life}
pub use Rattle.space_model.specs.declared.spaces.Life.TheVariants.{Live, Absent, Dying}
pub use Rattle.space_model.specs.declared.spaces.Pace.{Pace}
pub use Rattle.space_model.specs.declared.spaces.Space.{Space}
pub use Rattle.space_model.specs.declared.asks.Answer.{Answer}
pub use Rattle.space_model.specs.declared.asks.Answer.TheVariants.{Done, Placed}
pub use Rattle.space_model.specs.declared.asks.Ask.{Ask}
pub use Rattle.space_model.specs.declared.asks.Ask.TheVariants.{Split, Merge, Dalloc, Decommit, PurgeLazy, PurgeForced, Alloc, Commit}
pub use Rattle.space_model.specs.declared.asks.Heard.{Heard}
pub use Rattle.space_model.specs.declared.entries.Entry.{Entry}
pub use Rattle.space_model.specs.declared.entries.Op.{Op}
pub use Rattle.space_model.specs.declared.entries.Op.TheVariants.{Look, CutDone, GrowDone, CommitDone, Land, Back, PutLook, MergeDone, Fill, Advance, PurgeTake, LazyDone, Offer, OfferDone, DecommitDone, ForcedDone, Publish, TakeOver, Reset, Destroy, DestroyTake, Counts, Set, Widen, JoinDone, Trim, TrimDone}
pub use Rattle.space_model.specs.declared.entries.Reply.{Reply}
pub use Rattle.space_model.specs.declared.entries.Reply.TheVariants.{Noted, Nothing, Purge, Busy, Abandoned, Kept, Landed, NoArena, Whole, Refused, Bad, Counted, Doomed, Took, Cut, Grown, Next, Beside, Joined, Taken, Owned, Grow, Regions, Limits, Lazy, Decommitted}
pub use Rattle.space_model.specs.declared.entries.Setting.{Setting}
pub use Rattle.space_model.specs.declared.entries.Setting.TheVariants.{DirtyMs, MuzzyMs, HookBox, Bind, Unbind, GrowLimit, Live as MakeLive}
pub use Rattle.space_model.specs.declared.entries.Why.{Why}
pub use Rattle.space_model.specs.declared.entries.Why.TheVariants.{OffSpace, Unaligned, Meets}
