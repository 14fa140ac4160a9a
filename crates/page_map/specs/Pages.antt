-- What callers see of a page map.
use Rattle.std.specs.Prelude.{ℕ, ◌-◌, Option, Some, None, refl}
use Rattle.std.specs.Ordering.{nat_cmp}
use Rattle.std.specs.Coded.{Coded, code_by, coded×, coded_ℕ}
use Rattle.std.specs.FinMap as map
use Rattle.std.specs.FinSet as set

-- the number of each page that has one, the chunks that have a leaf, and how many leaves are spare
pub record Pages : Type 0 where
  pub numbers : map.FinMap nat_cmp ℕ
  pub chunks : set.FinSet nat_cmp
  pub spare : ℕ

-- no page has a number, no chunk has a leaf, and no leaf is spare
abbrev pub no_pages : Pages
no_pages = record { numbers = map.empty; chunks = set.empty; spare = 0 }

-- the pages where a chunk has a spare leaf
abbrev pub with_leaf : Pages → ℕ → Pages
with_leaf pages chunk = record pages {
  chunks = set.insert pages.chunks chunk;
  spare = pages.spare - 1;
}

-- the numbers with this one, or none, at a page
abbrev pub put : map.FinMap nat_cmp ℕ → ℕ → Option ℕ → map.FinMap nat_cmp ℕ
put numbers page None = map.remove numbers page
put numbers page (Some number) = map.insert numbers page number

-- pages are stored as the three of their fields
abbrev pub pages_code : Coded Pages
pages_code =
    code_by (map.FinMap nat_cmp ℕ × (set.FinSet nat_cmp × ℕ)) (coded× (map.code coded_ℕ coded_ℕ) (coded× (set.code coded_ℕ) coded_ℕ))
    (λ p. (p.numbers, (p.chunks, p.spare))) (λ p. record { numbers = p.0; chunks = p.1.0; spare = p.1.1 }) (λ _. refl)
