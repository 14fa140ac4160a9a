-- What a run does that prints journals or asks, and what is so of the text.
use Rattle.std.specs.Prelude.{◌≡◌, ◌≢◌, ◌⊎◌, ℕ, Bool, List, Option, None}
use Rattle.edge_io.specs.Bytes.{Appends, AppendsPrefix}
use Rattle.hook_api.specs.Asked.{AskFacts}
use Rattle.hook_api.specs.Shelf.{Shelf}
use Rattle.hook_api.specs.declared.kept.Journal.{Journal}
use Rattle.journal.specs.Texts.{journals_text}
use Rattle.journal_check.specs.Printed.{IsAcceptedText}
use Rattle.replay_run.specs.declared.replays.Closing.TheVariants.{Lines}
use Rattle.replay_run.specs.Replays.{DoesNothing, HandsOut, ReplayOf}
use Rattle.journals.specs.Asks.{asks_text}
use Rattle.journals.specs.declared.words.Printed.{Printed}
use Rattle.journals.specs.declared.words.Printed.TheVariants.{Report, Journals, Asks}

-- The lines of the source are replayed, and the report goes nowhere.
pub record ReplaysQuietly (replayed : ℕ) (handed : List Journal) (heard : List AskFacts) (shelf : Shelf) (met : Bool) (left left' : Option (List ℕ)) : Type 0 where
  pub made : List Journal
  pub shelf' : Shelf
  pub replay : ReplayOf Lines replayed made heard shelf shelf' met left left' None None
  pub hands_out : HandsOut made handed (DoesNothing replayed heard shelf shelf' left left' None None)

-- a text is printed whole, and the status is the replay's; or a beginning of it is, and the status is 5 or 6
abbrev pub PrintsText : ℕ → ℕ → Option (List ℕ) → Option (List ℕ) → List ℕ → Type 0
PrintsText status replayed held held' text =
    ((status ≡ replayed) × Appends held held' text) ⊎ (((status ≡ 5) ⊎ (status ≡ 6)) × AppendsPrefix held held' text)

-- The journals that a replay hands out are printed. At every other status than 5 and 6 they are accepted.
pub record PrintsJournals (status : ℕ) (shelf : Shelf) (met : Bool) (left left' held held' : Option (List ℕ)) : Type 0 where
  pub replayed : ℕ
  pub handed : List Journal
  pub heard : List AskFacts
  pub replays : ReplaysQuietly replayed handed heard shelf met left left'
  pub prints : PrintsText status replayed held held' (journals_text handed)
  pub accepted : status ≢ 5 → status ≢ 6 → IsAcceptedText (journals_text handed)

-- The asks that a replay heard are printed.
pub record PrintsAsks (status : ℕ) (shelf : Shelf) (met : Bool) (left left' held held' : Option (List ℕ)) : Type 0 where
  pub replayed : ℕ
  pub handed : List Journal
  pub heard : List AskFacts
  pub replays : ReplaysQuietly replayed handed heard shelf met left left'
  pub prints : PrintsText status replayed held held' (asks_text heard)

-- The lines of the source are replayed, and the report is what is printed.
pub record PrintsReport (status : ℕ) (shelf : Shelf) (met : Bool) (left left' held held' : Option (List ℕ)) : Type 0 where
  pub made : List Journal
  pub handed : List Journal
  pub heard : List AskFacts
  pub shelf' : Shelf
  pub replay : ReplayOf Lines status made heard shelf shelf' met left left' held held'
  pub hands_out : HandsOut made handed (DoesNothing status heard shelf shelf' left left' held held')

-- what is printed of a run is what was asked for: its report, its journals or its asks
abbrev pub PrintsRun : Printed → ℕ → Shelf → Bool → Option (List ℕ) → Option (List ℕ) → Option (List ℕ) → Option (List ℕ) → Type 0
PrintsRun Report status shelf met left left' held held' = PrintsReport status shelf met left left' held held'
PrintsRun Journals status shelf met left left' held held' = PrintsJournals status shelf met left left' held held'
PrintsRun Asks status shelf met left left' held held' = PrintsAsks status shelf met left left' held held'
