-- Threads may share a history, which has no bytes.
use denote.Param.Send.{IsSend, IsSync, part_keyless, sendable}
use Rattle.decay_curve.specs.contracts.history.History.{the_row}

send : IsSend the_row
send = search sendable depth 20

pub sync : IsSync the_row
sync = record { shared = λ d b o κ q. part_keyless the_row send q d b o }
