-- What the words that the program is given ask for.
use Rattle.std.specs.Prelude.{ℕ, List, [], ◌∷◌, Option, None, Some, option_and_then, option_map, if◌then◌else◌, codes, replicate, slice_index_or, slice_set}
use Rattle.std.specs.Str.{bytes_eq}
use Rattle.ruled_hooks.specs.declared.rules.Rules.{Rules}
use Rattle.ruled_hooks.specs.Rules.{no_rules, with_rule}
use Rattle.ruled_hooks.specs.Words.{rule_of}
use Rattle.journals.specs.declared.words.Printed.{Printed}
use Rattle.journals.specs.declared.words.Printed.TheVariants as printed
use Rattle.journals.specs.declared.words.Wanted.{Wanted}

-- what the first word asks for
unfoldable pub printed_by : List ℕ → Option Printed
printed_by word =
    if bytes_eq word (codes "replay") then Some printed.Report
    else if bytes_eq word (codes "journals") then Some printed.Journals
    else if bytes_eq word (codes "asks") then Some printed.Asks
    else None

-- 32 boxes without rules
abbrev pub unruled : List Rules
unruled = replicate 32 no_rules

-- the rules of the boxes with those of the words, one behind the other, if each word is a rule of a box
abbrev pub ruled_by : List Rules → List (List ℕ) → Option (List Rules)
ruled_by rules [] = Some rules
ruled_by rules (word ∷ words) =
    option_and_then (λ read. ruled_by (slice_set rules read.0 (with_rule (slice_index_or rules read.0 no_rules) read.1)) words) (rule_of word)

-- what the words ask for: the journals over boxes without rules, if there is none, and else what the first one says, over boxes
-- with the rules that the others are
abbrev pub wanted_of : List (List ℕ) → Option Wanted
wanted_of [] = Some (record { printed = printed.Journals; rules = unruled })
wanted_of (first ∷ others) =
    option_and_then (λ what. option_map (λ rules. record { printed = what; rules = rules }) (ruled_by unruled others)) (printed_by first)
