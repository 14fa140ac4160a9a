-- What a rule's text reads as.
use Rattle.std.specs.Prelude.{ℕ, List, [], ◌∷◌, Option, None, Some, option_and_then, option_map, if◌then◌else◌, codes}
use Rattle.std.specs.Str.{bytes_eq}
use Rattle.text_words.specs.Numbers.{numeral_below, numeral_of}
use Rattle.text_words.specs.Words.{words_of}
use Rattle.hook_api.specs.declared.plans.Kind.{Kind}
use Rattle.hook_api.specs.declared.plans.Kind.TheVariants as kinds
use Rattle.ruled_hooks.specs.declared.rules.Rule.{Rule}
use Rattle.ruled_hooks.specs.declared.rules.Rule.TheVariants as rule

-- the kind of asks that a word names
unfoldable pub kind_named : List ℕ → Option Kind
kind_named word =
    if bytes_eq word (codes "alloc") then Some kinds.Alloc
    else if bytes_eq word (codes "dalloc") then Some kinds.Dalloc
    else if bytes_eq word (codes "commit") then Some kinds.Commit
    else if bytes_eq word (codes "decommit") then Some kinds.Decommit
    else if bytes_eq word (codes "purge_lazy") then Some kinds.PurgeLazy
    else if bytes_eq word (codes "purge_forced") then Some kinds.PurgeForced
    else if bytes_eq word (codes "split") then Some kinds.Split
    else if bytes_eq word (codes "merge") then Some kinds.Merge
    else None

-- the number of the only part
abbrev pub only_number : List (List ℕ) → Option ℕ
only_number [] = None
only_number (part ∷ []) = numeral_of part
only_number (part ∷ (other ∷ parts)) = None

-- a rule without numbers has no further part
abbrev pub if_ended : Rule → List (List ℕ) → Option Rule
if_ended rule [] = Some rule
if_ended rule (part ∷ parts) = None

-- the kind of asks that is refused, and how manieth of them
abbrev pub refusal_of : List (List ℕ) → Option Rule
refusal_of [] = None
refusal_of (part ∷ parts) = option_and_then (λ kind. option_map (rule.Refuse kind) (only_number parts)) (kind_named part)

-- which alloc is answered wrongly, and the page of its answer
abbrev pub wrong_of : List (List ℕ) → Option Rule
wrong_of [] = None
wrong_of (part ∷ parts) = option_and_then (λ nth. option_map (rule.Wrong nth) (only_number parts)) (numeral_of part)

-- the rule with these parts: its name, and what stands behind it
unfoldable pub named_rule : List ℕ → List (List ℕ) → Option Rule
named_rule name parts =
    if bytes_eq name (codes "pool") then option_map rule.Pool (only_number parts)
    else if bytes_eq name (codes "refuse") then refusal_of parts
    else if bytes_eq name (codes "uncommitted") then if_ended rule.Uncommitted parts
    else if bytes_eq name (codes "border") then option_map rule.Border (only_number parts)
    else if bytes_eq name (codes "wrong") then wrong_of parts
    else None

abbrev pub rule_of_parts : List (List ℕ) → Option Rule
rule_of_parts [] = None
rule_of_parts (name ∷ parts) = named_rule name parts

-- the number of a box, below 32, and a rule of it
abbrev pub box_rule_of : List (List ℕ) → Option (ℕ × Rule)
box_rule_of [] = None
box_rule_of (part ∷ parts) = option_and_then (λ box. option_map (λ rule. (box, rule)) (rule_of_parts parts)) (numeral_below 32 part)

-- what a word says of a box, whose parts stand between colons
abbrev pub rule_of : List ℕ → Option (ℕ × Rule)
rule_of word = box_rule_of (words_of 58 word)
