-- Entries of a journal, each with the ask that it carries.
use Rattle.std.specs.Prelude.{◌≡◌, Option, Some, None, IfSome, IsSomeAnd}
use Rattle.space_model.specs.declared.Entry.{Entry}
use Rattle.space_model.specs.declared.Heard.{Heard}
use Rattle.space_model.specs.declared.Op.{Op}
use Rattle.space_model.specs.declared.Op.TheVariants.{CutDone, GrowDone, CommitDone, MergeDone, LazyDone, OfferDone, DecommitDone, ForcedDone, JoinDone, TrimDone}
use Rattle.hook_api.specs.Asked.{AskFacts, heard_in}

-- the ask and answer that an operation carries, if it carries one
abbrev pub heard_of : Op → Option Heard
heard_of (CutDone heard keep_low) = Some heard
heard_of (GrowDone heard found) = Some heard
heard_of (CommitDone heard) = Some heard
heard_of (MergeDone heard own_low) = Some heard
heard_of (LazyDone heard) = Some heard
heard_of (OfferDone heard found) = Some heard
heard_of (DecommitDone heard) = Some heard
heard_of (ForcedDone heard) = Some heard
heard_of (JoinDone heard class) = Some heard
heard_of (TrimDone heard class) = Some heard
heard_of _ = None

-- an entry, and the ask that was made for it
pub record KeptFacts : Type 0 where
  pub entry : Entry
  pub asked : Option AskFacts

-- an entry that carries an ask and its answer stands beside an ask with just those
abbrev pub IsKept : Entry → Option AskFacts → Type 0
IsKept entry asked = IfSome (heard_of entry.op) (λ heard. IsSomeAnd asked (λ made. heard_in made ≡ heard))
