-- The entries of one number in a history, or of one client in a journal, each with what its turn told.
use Rattle.std.specs.Prelude.{ℕ, ◌==◌, List, [], ◌∷◌, if◌then◌else◌}
use Rattle.turn_lock.specs.declared.view.Turn.{Turn}

module _ {S E R : Type 0} (after : S → E → S × R) where
  -- the entries of a number in a history that began with a state, each with what its turn told
  abbrev pub told_to : ℕ → S → List (Turn E) → List (E × R)
  told_to n s [] = []
  told_to n s (t ∷ ts) = if t.number == n then (t.entry, (after s t.entry).1) ∷ told_to n (after s t.entry).0 ts else told_to n (after s t.entry).0 ts

  -- the entries of a client in a journal that began with a state, each with what its turn told
  abbrev pub told_in : (E → ℕ) → ℕ → S → List E → List (E × R)
  told_in client n s [] = []
  told_in client n s (e ∷ es) = if client e == n then (e, (after s e).1) ∷ told_in client n (after s e).0 es else told_in client n (after s e).0 es
