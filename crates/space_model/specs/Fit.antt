-- Which unused extent serves a request: first fit among the smallest, dirty before muzzy before retained.
use Rattle.std.specs.Prelude.{ℕ, Bool, ◌==◌, ◌&&◌, ◌||◌, not, List, nat_lt, Option, find}
use Rattle.std.specs.List.{list_any}
use Rattle.std.specs.Option.{option_or}
use Rattle.space_model.specs.Types.{Part, Rest}
use Rattle.space_model.specs.Span.{holds_run}
use Rattle.space_model.specs.Part.{is_listed}
use Rattle.space_model.specs.declared.parts.Rest.TheVariants as rests

-- whether the extent is listed among those of the rest and holds the run
abbrev pub is_candidate : Rest → ℕ → ℕ → Part → Bool
is_candidate rest pages align p = is_listed rest p.state && holds_run pages align p.span

-- whether the first extent is smaller, or as small and at a lower page
abbrev pub is_better : Part → Part → Bool
is_better p q =
    nat_lt p.span.pages q.span.pages || (p.span.pages == q.span.pages && nat_lt p.span.first q.span.first)

-- whether the extent is a candidate, and no candidate is better
abbrev pub is_best : Rest → ℕ → ℕ → List Part → Part → Bool
is_best rest pages align parts p =
    is_candidate rest pages align p && not (list_any (λ q. is_candidate rest pages align q && is_better q p) parts)

-- the best candidate among the extents of one rest
abbrev pub fit_of : Rest → ℕ → ℕ → List Part → Option Part
fit_of rest pages align parts = find (is_best rest pages align parts) parts

-- the extent that serves the request: a dirty one if any fits, else a muzzy one, else a retained one
abbrev pub fit : ℕ → ℕ → List Part → Option Part
fit pages align parts =
    option_or (fit_of rests.Dirty pages align parts) (option_or (fit_of rests.Muzzy pages align parts) (fit_of rests.Retained pages align parts))
