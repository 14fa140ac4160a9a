-- Journals by index.
use Rattle.std.specs.Prelude.{◌≡◌, ◌⊎◌, List, [], map}
use Rattle.std.specs.List.{range_with_len}
use Rattle.hook_api.specs.declared.kept.Journal.{Journal}

-- no journals, or those of the arenas 0 to 31 in order
abbrev pub IsByIndex : List Journal → Type 0
IsByIndex journals = (journals ≡ []) ⊎ (map (λ (j : Journal). j.index) journals ≡ range_with_len 0 32)
