-- The names of a trace: which client may say what of a name in a phase, by how the lines before left it.
use Rattle.std.specs.Prelude.{ℕ, ◌==◌, Bool, true, false, not, nat_lt, ◌||◌, List, Option, None, Some}
use Rattle.std.specs.List.{position}
use Rattle.std.specs.Map.{keys_of, lookup}
use Rattle.std.specs.Str.{bytes_eq}
use Rattle.indexmap.specs.IndexMap.{insert_entry}
use Rattle.trace_phase.specs.declared.names.Standing.{Standing}
use Rattle.trace_phase.specs.declared.names.Standing.TheVariants.{Owned, Freed, Published}
use Rattle.trace_phase.specs.declared.parts.PhaseCall.{PhaseCall}
use Rattle.trace_phase.specs.declared.parts.PhaseCall.TheVariants.{Malloc, Memalign, Free, Publish, Take}

-- how a name stands, if a line has named it
abbrev pub standing_of : List (List ℕ × Standing) → List ℕ → Option Standing
standing_of names name = lookup (bytes_eq name) names

-- the place of a name among the names, if a line has named it
abbrev pub place_of : List (List ℕ × Standing) → List ℕ → Option ℕ
place_of names name = position (bytes_eq name) (keys_of names)

-- the names where this one stands so
abbrev pub with_standing : List (List ℕ × Standing) → List ℕ → Standing → List (List ℕ × Standing)
with_standing names name standing = insert_entry bytes_eq names name standing

-- A client may get a region in a phase and give it the name: a new one; one that it owns; one that is freed, but not by
-- another client in the same phase. A published one it may not.
abbrev pub may_bind : ℕ → ℕ → Option Standing → Bool
may_bind phase client None = true
may_bind phase client (Some (Owned owner)) = owner == client
may_bind phase client (Some (Freed owner freed)) = owner == client || not (freed == phase)
may_bind phase client (Some (Published published)) = false

-- the client owns the name
abbrev pub is_owner : ℕ → Option Standing → Bool
is_owner client (Some (Owned owner)) = owner == client
is_owner client standing = false

-- the name was published in an earlier phase, and waits to be taken
abbrev pub may_take : ℕ → Option Standing → Bool
may_take phase (Some (Published published)) = nat_lt published phase
may_take phase standing = false

-- a call of a client may stand in the phase at this place, as the names stand
abbrev pub call_stands : ℕ → ℕ → List (List ℕ × Standing) → PhaseCall → Bool
call_stands phase client names (Malloc name size) = may_bind phase client (standing_of names name)
call_stands phase client names (Memalign name align size) = may_bind phase client (standing_of names name)
call_stands phase client names (Free name) = is_owner client (standing_of names name)
call_stands phase client names (Publish name) = is_owner client (standing_of names name)
call_stands phase client names (Take name) = may_take phase (standing_of names name)
call_stands phase client names call = true

-- the names behind such a call
abbrev pub names_after : ℕ → ℕ → List (List ℕ × Standing) → PhaseCall → List (List ℕ × Standing)
names_after phase client names (Malloc name size) = with_standing names name (Owned client)
names_after phase client names (Memalign name align size) = with_standing names name (Owned client)
names_after phase client names (Free name) = with_standing names name (Freed client phase)
names_after phase client names (Publish name) = with_standing names name (Published phase)
names_after phase client names (Take name) = with_standing names name (Owned client)
names_after phase client names call = names
