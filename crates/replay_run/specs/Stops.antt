-- Why a replay stops.
use Rattle.std.specs.Prelude.{◌≡◌, ◌⊎◌, ℕ, Result, Ok, Err}
use Rattle.edge_io.specs.Bytes.{Rose}
use Rattle.replay_run.specs.declared.input.Stop.{Stop}
use Rattle.replay_run.specs.declared.input.Stop.TheVariants.{ReadFault, WriteFault, NoMemory}

-- a read failed, and the source's count of faults rose; or a write failed, and the sink's did; or memory was wanting
abbrev pub HasStopCause : Stop → ℕ → ℕ → ℕ → ℕ → Type 0
HasStopCause ReadFault source source_after sink sink_after = Rose source source_after
HasStopCause WriteFault source source_after sink sink_after = Rose sink sink_after
HasStopCause NoMemory source source_after sink sink_after = Unit {0}

-- the status that a stop gives
abbrev pub status_for : Stop → ℕ
status_for ReadFault = 4
status_for WriteFault = 5
status_for NoMemory = 6

-- the status of a replay that went on to its end, or stopped
abbrev pub status_in : Result ℕ Stop → ℕ
status_in (Ok status) = status
status_in (Err stop) = status_for stop

-- the statuses of a replay that stopped at nothing: the whole report was printed, up to the counts or the bad line
abbrev pub IsWholeStatus : ℕ → Type 0
IsWholeStatus status = (status ≡ 0) ⊎ (status ≡ 3) ⊎ (status ≡ 7)

-- the statuses with which a replay ends
abbrev pub IsReplayStatus : ℕ → Type 0
IsReplayStatus status = (status ≡ 0) ⊎ (status ≡ 3) ⊎ (status ≡ 4) ⊎ (status ≡ 5) ⊎ (status ≡ 6) ⊎ (status ≡ 7)
