-- The names of controls: a name is of the row whose pattern it matches, part by part.
use Rattle.std.specs.Prelude.{◌≡◌, ◌==◌, ℕ, ◌+◌, ◌<◌, Bool, true, false, ◌||◌, List, [], ◌∷◌, nat_lt, Option, None, Some, option_map, option_and_then, if◌then◌else◌, codes}
use Rattle.std.specs.Option.{option_or}
use Rattle.std.specs.Str.{bytes_eq}
use Rattle.text_words.specs.Numbers.{numeral_of}
use Rattle.text_words.specs.Words.{words_of}
use Rattle.ctl_names.specs.declared.names.CtlName.{CtlName}
use Rattle.ctl_names.specs.declared.names.Marker.{Marker}
use Rattle.ctl_names.specs.declared.names.Marker.TheVariants.{Arena, Arenas, Counted, Bin, Large}
use Rattle.ctl_names.specs.Rows.{RowFacts, class_limit, row_at, rows}

-- which numbers a part of a pattern stands for, if it stands for any
abbrev pub marker_of : List ℕ → Option Marker
marker_of part =
    if bytes_eq part (codes "<arena>") then Some Arena
    else (if bytes_eq part (codes "<arenas>") then Some Arenas
    else (if bytes_eq part (codes "<counted>") then Some Counted
    else (if bytes_eq part (codes "<bin>") then Some Bin
    else (if bytes_eq part (codes "<large>") then Some Large
    else None))))

-- whether a number is one of those
abbrev pub may_be : Marker → ℕ → Bool
may_be Arena n = nat_lt n 32
may_be Arenas n = nat_lt n 32 || n == 4096
may_be Counted n = nat_lt n 32 || n == 4096 || n == 4097
may_be Bin n = nat_lt n 36
may_be Large n = nat_lt n 85

-- whether they are numbers of classes
abbrev pub is_class : Marker → Bool
is_class Arena = false
is_class Arenas = false
is_class Counted = false
is_class Bin = true
is_class Large = true

-- the number that a word is, where it is one of those
abbrev pub index_of : Marker → List ℕ → Option ℕ
index_of marker word = option_and_then (λ n. if may_be marker n then Some n else None) (numeral_of word)

-- a name of a row, with no index yet
abbrev pub unindexed : ℕ → CtlName
unindexed number = record { row = number; i = 0; j = 0 }

-- the name with an index more
abbrev pub with_index : CtlName → Marker → ℕ → CtlName
with_index found marker n = if is_class marker then record found { j = n } else record found { i = n }

-- the name with an index, where the part of the pattern stands for numbers, and the same name where word and part are one
abbrev pub part_with : CtlName → Option Marker → List ℕ → List ℕ → Option CtlName
part_with found (Some marker) part word = option_map (with_index found marker) (index_of marker word)
part_with found None part word = if bytes_eq part word then Some found else None

-- the name with what a word is, by the part of the pattern
unfoldable pub with_part : CtlName → List ℕ → List ℕ → Option CtlName
with_part found part word = part_with found (marker_of part) part word

-- the name with what its words are, where they match a pattern part by part
abbrev pub match_parts : CtlName → List (List ℕ) → List (List ℕ) → Option CtlName
match_parts found [] [] = Some found
match_parts found (p ∷ ps) (w ∷ ws) = option_and_then (λ more. match_parts more ps ws) (with_part found p w)
match_parts found ps ws = None

-- what a name is by the pattern of a row
abbrev pub matched : ℕ → RowFacts → List ℕ → Option CtlName
matched number r name = match_parts (unindexed number) (words_of 46 r.pattern) (words_of 46 name)

-- what a name is by the first row whose pattern it matches, of rows that are numbered from a number on
abbrev pub first_row : ℕ → List RowFacts → List ℕ → Option CtlName
first_row number [] name = None
first_row number (r ∷ rs) name = option_or (matched number r name) (first_row (number + 1) rs name)

-- what a name is, if it is any
unfoldable pub name_of : List ℕ → Option CtlName
name_of name = first_row 0 rows name

-- the name matches the pattern of its row, with just these indexes
abbrev pub IsOfRow : List ℕ → CtlName → Type 0
IsOfRow name found = matched found.row (row_at found.row) name ≡ Some found

-- a name of one of the 43 rows, whose class is one that its row is about
pub record IsName (name : CtlName) : Type 0 where
  pub row : name.row < 43
  pub class : name.j < class_limit (row_at name.row).on_plain
