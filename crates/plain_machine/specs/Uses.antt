-- What the bytes of an extent count as.
use Rattle.std.specs.Prelude.{Bool}
use Rattle.space_model.specs.declared.parts.State.{State}
use Rattle.space_model.specs.Part.{is_active, is_in_flight, is_listed}
use Rattle.plain_machine.specs.declared.sums.Use.{Use}
use Rattle.plain_machine.specs.declared.sums.Use.TheVariants.{Active, Listed, Flight}

-- the states that count as one use
abbrev pub is_of : Use → State → Bool
is_of Active = is_active
is_of (Listed rest) = is_listed rest
is_of Flight = is_in_flight
