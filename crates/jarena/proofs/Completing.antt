-- Runs at which nothing failed.
use Rattle.std.proofs.Common.{◌≡◌, ◌≢◌, ◌⊎◌, ℕ, Bool, List, Option, inl, inr}
use Rattle.hook_api.specs.Asked.{AskFacts}
use Rattle.hook_api.specs.Shelf.{Shelf}
use Rattle.hook_api.specs.declared.kept.Journal.{Journal}
use Rattle.report_text.specs.declared.causes.Cause.{Cause}
use Rattle.replay_run.specs.declared.replays.Closing.{Closing}
use Rattle.replay_run.specs.Replays.{Bad, ReplayOf}
use Rattle.replay_run.specs.Soaks.{IsSoakStatus}
use Rattle.replay_run.specs.Stops.{IsReplayStatus}

-- a replay at which nothing failed and no line is bad goes on to its end, but for want of memory
pub replay_completes : {R W : Type 0} {form : Closing} {status : ℕ} {journals : List Journal} {heard : List AskFacts} {shelf_before shelf_after : Shelf} {met : Bool} {left_before left before after : Option (List ℕ)} →
    (replay : ReplayOf form status journals heard shelf_before shelf_after met left_before left before after) → IsReplayStatus status → (status ≡ 4 → R) → (status ≡ 5 → W) →
    ((cause : Cause) → replay.ending ≢ Bad cause) → (R → ⊥) → (W → ⊥) → (status ≡ 0) ⊎ (status ≡ 6)
replay_completes replay (inl zero) read write good no_read no_write = inl zero
replay_completes replay (inr (inl three)) read write good no_read no_write = let bad = replay.prints.refused three in absurd (good bad.0 bad.1)
replay_completes replay (inr (inr (inl four))) read write good no_read no_write = absurd (no_read (read four))
replay_completes replay (inr (inr (inr (inl five)))) read write good no_read no_write = absurd (no_write (write five))
replay_completes replay (inr (inr (inr (inr (inl six))))) read write good no_read no_write = inr six
replay_completes replay (inr (inr (inr (inr (inr seven))))) read write good no_read no_write = let bad = replay.prints.limited seven in absurd (good bad.0 bad.1)

-- and so does a soak
pub soak_completes : {W : Type 0} (status : ℕ) → IsSoakStatus status → (status ≡ 5 → W) → (W → ⊥) → (status ≡ 0) ⊎ (status ≡ 6)
soak_completes status (inl zero) write no_write = inl zero
soak_completes status (inr (inl five)) write no_write = absurd (no_write (write five))
soak_completes status (inr (inr six)) write no_write = inr six
