-- The view of a seat that stands for one arena.
use Rattle.std.specs.Prelude.{◌≡◌, List, [], ◌∷◌}
use Rattle.chunk_table.specs.declared.view.Share.{Share}
use Rattle.chunk_table.specs.declared.view.View.{View}
use Rattle.chunk_table.specs.Steps.{alone, first_of}

-- the shares of the first of some views
abbrev pub shares_of : List View → List Share
shares_of [] = []
shares_of (v ∷ vs) = v.shares

-- the share of a seat that stands for one arena
abbrev pub only_share : List View → Share
only_share views = first_of (shares_of views)

-- some views are one view, which has one share
abbrev pub IsOne : List View → Type 0
IsOne views = views ≡ alone (only_share views) ∷ []
