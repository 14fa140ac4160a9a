-- The journals that a replay hands out are accepted.
use Rattle.std.proofs.Common.{◌≢◌, Bool, inl, inr, ℕ, List, Option, sym, subst}
use Rattle.std.specs.List.{AllByRecursion}
use Rattle.hook_api.specs.Asked.{AskFacts}
use Rattle.hook_api.specs.Shelf.{Shelf}
use Rattle.hook_api.specs.declared.kept.Journal.{Journal}
use Rattle.journal.specs.Texts.{AreReadAgain, journals_text}
use Rattle.journal_check.specs.Printed.{IsAcceptedText}
use Rattle.replay_run.specs.Plays.{HasSoundHeap, WorldEvent, world_after}
use Rattle.replay_run.specs.Replays.{DoesNothing, HandsOut, RunOf}
use Rattle.replay_run.specs.World.{opening_world}
use Rattle.replay_run.proofs.Plays.{last_world}
use Rattle.journals.specs.Runs.{PrintsText, ReplaysQuietly}
use Rattle.journals.proofs.Arenas.{arenas_accepted}

-- those of a run are
run_accepted : (made : List Journal) (heard : List AskFacts) (before after : Shelf) (events : List WorldEvent) → RunOf made heard before after events → AllByRecursion AreReadAgain made → IsAcceptedText (journals_text made)
run_accepted made heard before after events ran again =
    let sound = last_world HasSoundHeap opening_world events ran.sound in
    subst (λ (journals : List Journal). AllByRecursion AreReadAgain journals → IsAcceptedText (journals_text journals)) ran.in_journals
    (arenas_accepted (world_after opening_world events).heap.records sound.arenas) again

-- and what is handed out are those, or the status is 6
handed_accepted : (status : ℕ) (made handed : List Journal) (heard : List AskFacts) (before after : Shelf) (left left' held held' : Option (List ℕ)) (events : List WorldEvent) → RunOf made heard before after events →
    HandsOut made handed (DoesNothing status heard before after left left' held held') → status ≢ 6 → AllByRecursion AreReadAgain handed → IsAcceptedText (journals_text handed)
handed_accepted status made handed heard before after left left' held held' events ran (inl same) some again =
    subst (λ (journals : List Journal). IsAcceptedText (journals_text journals)) (sym same) (run_accepted made heard before after events ran (subst (AllByRecursion AreReadAgain) same again))
handed_accepted status made handed heard before after left left' held held' events ran (inr nothing) some again = absurd (some nothing.1.memory)

-- so are those that are printed, unless the status is 5 or 6
pub quiet_accepted : {status replayed : ℕ} {handed : List Journal} {heard : List AskFacts} {shelf : Shelf} {met : Bool} {left left' : Option (List ℕ)} → (held held' : Option (List ℕ)) (text : List ℕ) →
    ReplaysQuietly replayed handed heard shelf met left left' → AllByRecursion AreReadAgain handed → PrintsText status replayed held held' text → status ≢ 5 → status ≢ 6 → IsAcceptedText (journals_text handed)
quiet_accepted {replayed = replayed} {handed = handed} {heard = heard} held held' text quiet again (inl whole) sunk wanted =
    handed_accepted replayed quiet.made handed heard _ _ _ _ _ _ quiet.replay.events quiet.replay.ran quiet.hands_out (subst (λ (s : ℕ). s ≢ 6) whole.0 wanted) again
quiet_accepted held held' text quiet again (inr (inl five, _)) sunk wanted = absurd (sunk five)
quiet_accepted held held' text quiet again (inr (inr six, _)) sunk wanted = absurd (wanted six)
