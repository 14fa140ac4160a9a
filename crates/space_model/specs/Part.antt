-- The extents of an arena: their states, their pages, and the one form in which they change.
use Rattle.std.specs.Prelude.{ℕ, Bool, true, false, ◌==◌, ◌&&◌, not, nat_lt, List, [], ◌++◌, fold, find, count_by, Option, if◌then◌else◌}
use Rattle.std.specs.List.{filter, insert, position_or_len, sum_by}
use Rattle.std.specs.Option.{option_map}
use Rattle.space_model.specs.Types.{Span, Part, Rest, State, Active, Dirty, Muzzy, Retained, Flight}
use Rattle.space_model.specs.Span.{has_page, same_span}
use Rattle.space_model.specs.declared.parts.Rest.TheVariants as rests

-- whether the state is that of an extent which serves regions
abbrev pub is_active : State → Bool
is_active Active = true
is_active state = false

-- whether an extent in the state is listed among those of a rest
abbrev pub is_listed : Rest → State → Bool
is_listed rests.Dirty Dirty = true
is_listed rests.Muzzy Muzzy = true
is_listed rests.Retained Retained = true
is_listed rest state = false

-- whether an extent in the state is in one of the three lists
abbrev pub is_unused : State → Bool
is_unused Active = false
is_unused (Flight c rest) = false
is_unused state = true

-- whether an extent in the state is out of its list
abbrev pub is_in_flight : State → Bool
is_in_flight (Flight c rest) = true
is_in_flight state = false

-- whether the client has an extent in the state out of its list
abbrev pub is_flight : ℕ → State → Bool
is_flight client (Flight c rest) = c == client
is_flight client state = false

-- where an extent in the state belongs when it is put down
abbrev pub rest_of : State → Rest
rest_of Active = rests.Dirty
rest_of Dirty = rests.Dirty
rest_of Muzzy = rests.Muzzy
rest_of Retained = rests.Retained
rest_of (Flight c rest) = rest

-- the state of an extent that is listed among those of a rest
abbrev pub listed : Rest → State
listed rests.Dirty = Dirty
listed rests.Muzzy = Muzzy
listed rests.Retained = Retained

-- whether extents that belong there are committed, always
abbrev pub is_backed : Rest → Bool
is_backed rests.Retained = false
is_backed rest = true

-- an extent that the client takes out of its list
abbrev pub taken_out : ℕ → Part → Part
taken_out client p = record p { state = Flight client (rest_of p.state) }

-- an extent that is put down: it goes where it belongs
abbrev pub put_down : Part → Part
put_down p = record p { state = listed (rest_of p.state) }

-- an extent that goes to the list of a rest
abbrev pub moved_to : Rest → Part → Part
moved_to rest p = record p { state = listed rest }

-- whether the extent begins at the page
abbrev pub begins_at : ℕ → Part → Bool
begins_at page p = p.span.first == page

-- whether it is the client's extent in flight with just this span
abbrev pub is_flight_at : ℕ → Span → Part → Bool
is_flight_at client span p = is_flight client p.state && same_span p.span span

-- how many extents have the page
abbrev pub holders : ℕ → List Part → ℕ
holders page parts = count_by (λ p. has_page page p.span) parts

-- the pages of the extents that are listed among those of a rest
abbrev pub pages_listed : Rest → List Part → ℕ
pages_listed rest parts = sum_by (λ p. if is_listed rest p.state then p.span.pages else 0) parts

-- The one form in which extents change: those that pass a test go, and pieces come last.
abbrev pub exchanged : (Part → Bool) → List Part → List Part → List Part
exchanged gone parts pieces = filter (λ p. not (gone p)) parts ++ pieces

-- the extents with one more, which stands before the first at a higher page
abbrev pub placed : Part → List Part → List Part
placed p parts = insert parts (position_or_len (λ q. nat_lt p.span.first q.span.first) parts) p

-- the extents as each of them changes, in order of address
abbrev pub turned_in_order : (Part → Part) → List Part → List Part
turned_in_order turn parts = fold (λ turned p. placed (turn p) turned) [] parts

-- the extents after all that pass a test have changed, which come last in order of address
abbrev pub turned : (Part → Bool) → (Part → Part) → List Part → List Part
turned test turn parts = exchanged test parts (turned_in_order turn (filter test parts))

-- the first extent that the client has in flight
abbrev pub next_flight : ℕ → List Part → Option Span
next_flight c parts = option_map (λ p. p.span) (find (λ p. is_flight c p.state) parts)
