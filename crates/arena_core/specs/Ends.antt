-- How an arena is emptied.
use Rattle.std.specs.Prelude.{Bool, not}
use Rattle.space_model.specs.declared.parts.Rest.{Rest}
use Rattle.space_model.specs.declared.parts.Rest.TheVariants.{Dirty}
use Rattle.space_model.specs.declared.parts.State.{State}
use Rattle.space_model.specs.Part.{is_active, is_listed}

-- whether an extent in a state goes to a list when an arena is emptied into it: to the dirty ones what serves regions, to
-- another list whatever isn't there
abbrev pub goes_to : Rest → State → Bool
goes_to Dirty state = is_active state
goes_to rest state = not (is_listed rest state)
