-- No float is in the JSON of counts.
use Rattle.std.proofs.Common.{◌≡◌, ℕ, ◌+◌, false, List, [], ◌∷◌, Option, None, Some, refl}
use Rattle.serde_json.specs.Written.{has_float, items_have_float}
use Rattle.serde_json.specs.View.{items_of}
use Rattle.space_model.specs.declared.Counts.{Counts}
use Rattle.heap_stats.specs.Json.{arenas_from, report_data}

items : (index : ℕ) (counts : List (Option Counts)) → items_have_float (items_of (arenas_from index counts)) ≡ false
items index [] = refl
items index (None ∷ counts) = items (index + 1) counts
items index (Some c ∷ counts) = items (index + 1) counts

pub no_float : (counts : List (Option Counts)) → has_float (report_data counts) ≡ false
no_float counts = rw (items 0 counts) refl
