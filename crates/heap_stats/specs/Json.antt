-- The counts of arenas as JSON.
use Rattle.std.specs.Prelude.{ℕ, ◌+◌, List, [], ◌∷◌, Option, None, Some, codes}
use Rattle.serde_json.specs.Data.{Data, number, unsigned, array, object, member, no_members}
use Rattle.serde_json.specs.View.{items_of}
use Rattle.serde_json.specs.Written.{compact_text}
use Rattle.space_model.specs.declared.Counts.{Counts}

-- the object of an arena, its members in order of their keys
abbrev pub arena_data : ℕ → Counts → Data
arena_data index c =
    object (member (codes "active") (number (unsigned c.active))
    (member (codes "allocated") (number (unsigned c.allocated))
    (member (codes "dirty") (number (unsigned c.dirty))
    (member (codes "flight") (number (unsigned c.flight))
    (member (codes "index") (number (unsigned index))
    (member (codes "mapped") (number (unsigned c.mapped))
    (member (codes "muzzy") (number (unsigned c.muzzy))
    (member (codes "retained") (number (unsigned c.retained)) no_members))))))))

-- the objects of the live arenas, by index from an index on
abbrev pub arenas_from : ℕ → List (Option Counts) → List Data
arenas_from index [] = []
arenas_from index (None ∷ counts) = arenas_from (index + 1) counts
arenas_from index (Some c ∷ counts) = arena_data index c ∷ arenas_from (index + 1) counts

-- an object with the key `arenas`
abbrev pub report_data : List (Option Counts) → Data
report_data counts = object (member (codes "arenas") (array (items_of (arenas_from 0 counts))) no_members)

-- its text, without blanks
abbrev pub json_text : List (Option Counts) → List ℕ
json_text counts = compact_text (report_data counts)
