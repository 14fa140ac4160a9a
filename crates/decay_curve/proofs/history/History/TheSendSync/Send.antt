-- A history has no bytes, so it may go to another thread.
use denote.Param.Send.{IsSend, sendable}
use Rattle.decay_curve.specs.contracts.history.History.{the_row}

pub send : IsSend the_row
send = search sendable depth 20
