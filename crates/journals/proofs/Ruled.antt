-- The rules that words give, one behind the other.
use Rattle.std.proofs.Common.{◌≡◌, ℕ, ◌+◌, ◌<◌, List, length, get_or, drop, map, Option, refl, string_bytes, String, Global, slice_set}
use Rattle.std.specs.Prelude.{option_and_then, slice_index_or}
use Rattle.std.proofs.lemmas.List.{drop_more}
use Rattle.ruled_hooks.specs.declared.rules.Rule.{Rule}
use Rattle.ruled_hooks.specs.declared.rules.Rules.{Rules}
use Rattle.ruled_hooks.specs.Rules.{no_rules, with_rule}
use Rattle.ruled_hooks.specs.Words.{rule_of}
use Rattle.journals.specs.Wanted.{ruled_by}

-- the rules with that of the next word, where it is one
abbrev pub next_rule : List Rules → List (List ℕ) → ℕ × Rule → Option (List Rules)
next_rule rules words read = ruled_by (slice_set rules read.0 (with_rule (slice_index_or rules read.0 no_rules) read.1)) words

-- a word that is read is the first of those that are left
pub ruled_next : (words : List (String Global)) (i : ℕ) (word : String Global) (rules : List Rules) (read : Option (ℕ × Rule)) → i < length words → word ≡ get_or words i word → read ≡ rule_of (string_bytes word)
    → ruled_by rules (map string_bytes (drop i words)) ≡ option_and_then (next_rule rules (map string_bytes (drop (i + 1) words))) read
ruled_next words i word rules read lt is reads = rw (drop_more words i word lt, ← is, reads) refl
