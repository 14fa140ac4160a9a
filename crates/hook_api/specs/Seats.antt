-- What a clause says of the seats at a shared shelf.
use Rattle.std.specs.Prelude.{ℕ, List, map, slice_index}
use Rattle.hook_api.specs.declared.seat.AskSeat.{AskSeat}
use Rattle.hook_api.specs.declared.sights.Tally.{Tally}

-- the place of a seat's next ask of a box number
abbrev pub place_at : AskSeat → ℕ → ℕ
place_at seat n = slice_index seat.places n

-- how many of its asks the box refused, planned refusals aside
abbrev pub refused_at : AskSeat → ℕ → ℕ
refused_at seat n = slice_index seat.refused n

-- what seats have counted, each in a tally
abbrev pub tallies_of : List AskSeat → List Tally
tallies_of seats = map (λ (seat : AskSeat). record { refused = seat.refused }) seats
