-- The rows of the code are those of the table.
use Rattle.std.proofs.Common.{◌≡◌, ℕ, ◌<◌, List, length, map, get_or, sym, ap, ◌∙◌, arith}
use Rattle.std.proofs.lemmas.List.{get_or-map, length-map}
use Rattle.std.specs.Borrow.{Bor}
use Rattle.ctl_names.specs.declared.rows.OnPlain.{OnPlain}
use Rattle.ctl_names.specs.declared.rows.OnWrite.{OnWrite}
use Rattle.ctl_names.specs.Rows.{RowFacts, rows, shown}

-- a row of the code is the row of the table at its place
pub row_same : (table : List (Bor (List ℕ) × OnPlain × OnWrite)) (i : ℕ) (d : Bor (List ℕ) × OnPlain × OnWrite) (e : RowFacts) → i < 43 → map shown table ≡ rows → shown (get_or table i d) ≡ get_or rows i e
row_same table i d e lt same = sym (get_or-map shown table i d e (within (length table) (sym (length-map table shown) ∙ ap length same))) ∙ ap (λ (rs : List RowFacts). get_or rs i e) same
  where
    within : (n : ℕ) → n ≡ 43 → i < n
    within n is = omega (arith, is, lt)
