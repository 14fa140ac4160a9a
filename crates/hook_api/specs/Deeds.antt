-- Entries of a journal apart from the asks that they carry.
use Rattle.std.specs.Prelude.{ℕ, Bool, Option, None, Some}
use Rattle.space_model.specs.declared.asks.Ask.TheVariants.{Commit}
use Rattle.space_model.specs.declared.asks.Answer.TheVariants.{Done}
use Rattle.space_model.specs.declared.asks.Heard.{Heard}
use Rattle.space_model.specs.declared.entries.Op.{Op}
use Rattle.space_model.specs.declared.entries.Op.TheVariants.{CutDone, GrowDone, CommitDone, MergeDone, LazyDone, OfferDone, DecommitDone, ForcedDone, JoinDone, TrimDone}
use Rattle.hook_api.specs.Asked.{AskFacts, heard_in}

-- what stands for an ask that is kept elsewhere
abbrev pub nothing : Heard
nothing = record { ask = Commit (record { first = 0; pages = 0 }); answer = Done }

-- what a journal's ask heard; where there is none it doesn't matter
abbrev pub carried : Option AskFacts → Heard
carried (Some asked) = heard_in asked
carried None = nothing

-- the operation with that ask in place of the one that it carries, if it carries one
abbrev pub with_heard : Op → Heard → Op
with_heard (CutDone past keep_low) heard = CutDone heard keep_low
with_heard (GrowDone past found) heard = GrowDone heard found
with_heard (CommitDone past) heard = CommitDone heard
with_heard (MergeDone past own_low) heard = MergeDone heard own_low
with_heard (LazyDone past) heard = LazyDone heard
with_heard (OfferDone past found) heard = OfferDone heard found
with_heard (DecommitDone past) heard = DecommitDone heard
with_heard (ForcedDone past) heard = ForcedDone heard
with_heard (JoinDone past class) heard = JoinDone heard class
with_heard (TrimDone past class) heard = TrimDone heard class
with_heard op heard = op

-- An entry apart from its ask: its operation, with nothing in place of the ask that this carries, its client, and whether it
-- has an ask.
pub record Bare : Type 0 where
  pub op : Op
  pub client : ℕ
  pub asks : Bool

-- the entry of a client's operation, apart from its ask
abbrev pub bare_of : ℕ → Op → Bool → Bare
bare_of client op asks = record { op = with_heard op nothing; client = client; asks = asks }
