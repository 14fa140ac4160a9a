-- The names of a trace, each with the address that it is bound to, in the order in which they were first bound.
use Rattle.std.specs.Prelude.{ℕ, List}
use Rattle.std.specs.Map.{lookup}
use Rattle.std.specs.Option.{unwrap_or}
use Rattle.std.specs.Str.{bytes_eq}
use Rattle.indexmap.specs.IndexMap.{insert_entry}
use Rattle.trace_text.specs.declared.lines.Ptr.{Ptr}
use Rattle.trace_text.specs.declared.lines.Ptr.TheVariants.{Name, At}

-- the address that the name is bound to, or 0 where it is bound to none
abbrev pub address_in : List (List ℕ × ℕ) → List ℕ → ℕ
address_in entries name = unwrap_or (lookup (bytes_eq name) entries) 0

-- the names with this one bound to the address: in its place where it was bound before, and else at the end
abbrev pub named : List (List ℕ × ℕ) → List ℕ → ℕ → List (List ℕ × ℕ)
named entries name addr = insert_entry bytes_eq entries name addr

-- the address that a pointer in a line stands for
abbrev pub address_at : List (List ℕ × ℕ) → Ptr → ℕ
address_at entries (Name name) = address_in entries name
address_at entries (At addr) = addr
