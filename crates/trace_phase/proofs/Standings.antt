-- How a name that has a place among the names comes to stand otherwise.
use Rattle.std.proofs.Common.{◌≡◌, ℕ, List, Some, sym}
use Rattle.std.specs.Str.{bytes_eq}
use Rattle.indexmap.specs.Layout.{set_value_at}
use Rattle.indexmap.proofs.MapLemmas.{Found-position, insert_entry-first}
use Rattle.trace_phase.specs.Names.{place_of, with_standing}
use Rattle.trace_phase.specs.declared.names.Standing.{Standing}

-- it keeps its place
pub standing_there : (names : List (List ℕ × Standing)) (name : List ℕ) (place : ℕ) (standing : Standing) → place_of names name ≡ Some place
    → set_value_at names place standing ≡ with_standing names name standing
standing_there names name place standing is = sym (insert_entry-first bytes_eq name standing names place (Found-position (bytes_eq name) names place is).first)
