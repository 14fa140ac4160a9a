-- What entries of a journal did, in few small numbers.
use Rattle.std.specs.Prelude.{ℕ, ◌+◌, ◌*◌, ◌^◌, Bool, true, false, [], ◌∷◌, None}
use Rattle.space_model.specs.declared.entries.Op.{Op}
use Rattle.space_model.specs.declared.entries.Op.TheVariants.{Look, CutDone, GrowDone, CommitDone, Land, Back, PutLook, MergeDone, Fill, PurgeTake, LazyDone, Offer, OfferDone, DecommitDone, ForcedDone, Publish, TakeOver, Counts}
use Rattle.space_model.specs.declared.parts.Rest.TheVariants.{Dirty, Muzzy}
use Rattle.hook_api.specs.Briefs.{range_of}
use Rattle.hook_api.specs.Deeds.{nothing}
use Rattle.hook_api.specs.declared.narrow_deeds.NarrowShape.{NarrowShape}
use Rattle.hook_api.specs.declared.narrow_deeds.NarrowShape.TheVariants.{Looks, CutsLow, CutsHigh, Grows, Commits, Lands, GivesOne, Seeks, MergesLow, MergesHigh, Fills, TakesDirty, TakesMuzzy, PurgesLazily, Offers, Returns, Decommits, PurgesForcibly, Publishes, TakesOver, Elsewhere}
use Rattle.hook_api.specs.declared.narrow_deeds.NarrowDeed.{NarrowDeed}

-- the number of a low and a high half of 32 bits
abbrev pub of_halves : ℕ → ℕ → ℕ
of_halves low high = low + high * 2 ^ 32

-- the operation of a shape, by a mark and as many numbers as it has, with nothing for an ask; of an entry that stands elsewhere
-- it doesn't matter
abbrev pub op_by : NarrowShape → ℕ → ℕ → ℕ → ℕ → Op
op_by Looks mark a b c = Look a b
op_by CutsLow mark a b c = CutDone nothing true
op_by CutsHigh mark a b c = CutDone nothing false
op_by Grows mark a b c = GrowDone nothing None
op_by Commits mark a b c = CommitDone nothing
op_by Lands mark a b c = Land (range_of a b) mark c
op_by GivesOne mark a b c = Back (of_halves a b ∷ [])
op_by Seeks mark a b c = PutLook (range_of a b) mark
op_by MergesLow mark a b c = MergeDone nothing true
op_by MergesHigh mark a b c = MergeDone nothing false
op_by Fills mark a b c = Fill mark c
op_by TakesDirty mark a b c = PurgeTake Dirty (of_halves a b)
op_by TakesMuzzy mark a b c = PurgeTake Muzzy (of_halves a b)
op_by PurgesLazily mark a b c = LazyDone nothing
op_by Offers mark a b c = Offer (range_of a b)
op_by Returns mark a b c = OfferDone nothing None
op_by Decommits mark a b c = DecommitDone nothing
op_by PurgesForcibly mark a b c = ForcedDone nothing
op_by Publishes mark a b c = Publish (of_halves a b)
op_by TakesOver mark a b c = TakeOver (of_halves a b)
op_by Elsewhere mark a b c = Counts

-- whether a shape says that the entry stands elsewhere
abbrev pub says_elsewhere : NarrowShape → Bool
says_elsewhere Elsewhere = true
says_elsewhere shape = false

-- the operation that few small numbers tell, with nothing for an ask
abbrev pub op_of : NarrowDeed → Op
op_of n = op_by n.shape n.mark n.a n.b n.c
