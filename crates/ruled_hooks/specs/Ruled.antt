-- What contracts see of a box behind rules.
use Rattle.std.specs.Prelude.{ℕ, ◌+◌, ◌^◌, ◌%◌, Bool, List, None, slice_index_or}
use Rattle.hook_api.specs.Hooks.{Account}
use Rattle.hook_api.specs.declared.plans.Kind.{Kind}
use Rattle.ruled_hooks.specs.declared.rules.Rules.{Rules}
use Rattle.ruled_hooks.specs.Rules.{place_of, refuses}

-- the box tells nothing, and counts what it refused
abbrev pub ruled_account : ℕ → Account
ruled_account refusals = record { told = None; refusals = refusals }

-- the number of the next ask of a kind, where so many of each came before
abbrev pub next_ask : List ℕ → Kind → ℕ
next_ask asks kind = (slice_index_or asks (place_of kind) 0 + 1) % 2 ^ 64

-- whether a rule refuses the next ask of a kind
abbrev pub is_due : Rules → List ℕ → Kind → Bool
is_due rules asks kind = refuses rules kind (next_ask asks kind)
