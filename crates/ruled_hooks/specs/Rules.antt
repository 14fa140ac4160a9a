-- The rules that a box may follow.
use Rattle.std.specs.Prelude.{ℕ, ◌==◌, ◌-◌, ◌^◌, ◌%◌, Bool, false, true, not, ◌&&◌, ◌||◌, replicate, slice_index_or, slice_set}
use Rattle.hook_api.specs.declared.plans.Kind.{Kind}
use Rattle.hook_api.specs.declared.plans.Kind.TheVariants as kinds
use Rattle.ruled_hooks.specs.declared.rules.Rule.{Rule}
use Rattle.ruled_hooks.specs.declared.rules.Rule.TheVariants as rule
use Rattle.ruled_hooks.specs.declared.rules.Rules.{Rules}

-- the number of a kind
abbrev pub place_of : Kind → ℕ
place_of kinds.Alloc = 0
place_of kinds.Dalloc = 1
place_of kinds.Commit = 2
place_of kinds.Decommit = 3
place_of kinds.PurgeLazy = 4
place_of kinds.PurgeForced = 5
place_of kinds.Split = 6
place_of kinds.Merge = 7

-- no rule: all pages may be out, and nothing else is refused, changed or answered wrongly
abbrev pub no_rules : Rules
no_rules = record { pool = 2 ^ 64 - 1; every = replicate 8 0; uncommitted = false; border = 0; wrong = 0; wrong_first = 0 }

-- the rules with one more, which takes the place of an earlier one of its kind
abbrev pub with_rule : Rules → Rule → Rules
with_rule rules (rule.Pool pages) = record rules { pool = pages }
with_rule rules (rule.Refuse kind nth) = record rules { every = slice_set rules.every (place_of kind) nth }
with_rule rules rule.Uncommitted = record rules { uncommitted = true }
with_rule rules (rule.Border pages) = record rules { border = pages }
with_rule rules (rule.Wrong nth first) = record rules { wrong = nth; wrong_first = first }

-- of the asks of a kind, how manieth is refused; none where it is 0
abbrev pub every_of : Rules → Kind → ℕ
every_of rules kind = slice_index_or rules.every (place_of kind) 0

-- whether the so-manieth ask of a kind is refused
abbrev pub refuses : Rules → Kind → ℕ → Bool
refuses rules kind count = not (every_of rules kind == 0) && count % every_of rules kind == 0

-- whether two ranges that meet at a page may be one
abbrev pub may_merge_at : Rules → ℕ → Bool
may_merge_at rules page = (rules.border == 0) || not (page % rules.border == 0)
