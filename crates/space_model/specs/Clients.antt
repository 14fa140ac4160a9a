-- Lists of clients: who is in one, and how one comes and goes.
use Rattle.std.specs.Prelude.{ℕ, Bool, ◌≡◌, ◌<◌, nat_eq, true, ◌==◌, not, List, [], ◌∷◌, ◌++◌, filter, if◌then◌else◌}
use Rattle.std.specs.List.{list_any, IsDistinct}

-- whether the client is in the list
abbrev pub is_in : ℕ → List ℕ → Bool
is_in c clients = list_any (λ b. b == c) clients

-- the clients with one more, if it isn't there
abbrev pub with_client : ℕ → List ℕ → List ℕ
with_client c clients = if is_in c clients then clients else clients ++ c ∷ []

-- the clients without one
abbrev pub without_client : ℕ → List ℕ → List ℕ
without_client c clients = filter (λ b. not (b == c)) clients

-- Each client is in the list once, and its number is below 32.
pub record IsRoster (clients : List ℕ) : Type 0 where
  pub once : IsDistinct nat_eq clients
  pub below : (c : ℕ) → list_any (nat_eq c) clients ≡ true → c < 32
