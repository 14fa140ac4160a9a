-- The calls of a client among the works of a phase, and the live arenas.
use Rattle.std.proofs.Common.{◌≡◌, ◌≢◌, ◌∙◌, ℕ, zero, suc, ◌+◌, ◌<◌, ◌≤◌, Bool, true, false, List, [], ◌∷◌, ◌++◌, None, Some, refl, sym, ap, arith, filter, get_or, length, zero-add}
use Rattle.std.specs.Prelude.{slice_index_or, if◌then◌else◌}
use Rattle.std.specs.List.{position, position_or_len, range_with_len, remove}
use Rattle.std.proofs.lemmas.Bool.{eqb-true, ne_eqb}
use Rattle.std.proofs.lemmas.Grind.{common_steps}
use Rattle.std.proofs.lemmas.List.{map-id}
use Rattle.std.proofs.lemmas.List.FromFn.{filter_of_map_range_with_len_more, length-range_with_len}
use Rattle.std.proofs.lemmas.List.Quantifiers.{position-Some}
use Rattle.std.proofs.lemmas.List.Sums.{count_by-le-length, fails_before_first, length-filter}
use Rattle.trace_phase.specs.declared.parts.PhaseCall.{PhaseCall}
use Rattle.trace_phase.specs.declared.parts.Work.{Work}
use Rattle.phase_run.specs.Stands.{calls_by, is_of}

-- ---- the first work of a client

first_calls : (c : ℕ) (works : List Work) (i : ℕ) (d : Work) → i < length works → is_of c (get_or works i d) ≡ true → ((k : ℕ) → k < i → is_of c (get_or works k d) ≡ false) → calls_by c works ≡ (get_or works i d).calls
first_calls c [] i d low is before = absurd (omega (arith, low))
first_calls c (w ∷ works) zero d low is before = ap (λ (b : Bool). if b then w.calls else calls_by c works) is
first_calls c (w ∷ works) (suc i) d low is before =
    ap (λ (b : Bool). if b then w.calls else calls_by c works) (before 0 (omega arith)) ∙ first_calls c works i d (omega (arith, low)) is (λ k less. before (suc k) (omega (arith, less)))

others_stay : (c other : ℕ) (works : List Work) (i : ℕ) (d : Work) → other ≢ c → i < length works → is_of c (get_or works i d) ≡ true → calls_by other (remove works i) ≡ calls_by other works
others_stay c other [] i d differ low is = absurd (omega (arith, low))
others_stay c other (w ∷ works) zero d differ low is =
    sym (ap (λ (b : Bool). if b then w.calls else calls_by other works) (ne_eqb w.client other (λ same. differ (sym same ∙ eqb-true w.client c is))))
others_stay c other (w ∷ works) (suc i) d differ low is = ap (λ (calls : List PhaseCall). if is_of other w then w.calls else calls) (others_stay c other works i d differ (omega (arith, low)) is)

none_by : (c : ℕ) (works : List Work) → ((k : ℕ) (d : Work) → k < length works → is_of c (get_or works k d) ≡ false) → calls_by c works ≡ []
none_by c [] none = refl
none_by c (w ∷ works) none = ap (λ (b : Bool). if b then w.calls else calls_by c works) (none 0 w (omega arith)) ∙ none_by c works (λ k d low. none (suc k) d (omega (arith, low)))

-- what stands at the place of a client's work are its calls
pub calls_there : (c : ℕ) (works : List Work) (i : ℕ) (d : Work) → position (is_of c) works ≡ Some i → calls_by c works ≡ (get_or works i d).calls
calls_there c works i d at = let found = position-Some (is_of c) works i d at in first_calls c works i d found.0 found.1 found.2

-- and without it the calls of the others are as they were
pub calls_of_others : (c other : ℕ) (works : List Work) (i : ℕ) (d : Work) → other ≢ c → position (is_of c) works ≡ Some i → calls_by other (remove works i) ≡ calls_by other works
calls_of_others c other works i d differ at = let found = position-Some (is_of c) works i d at in others_stay c other works i d differ found.0 found.1

-- a client without a work has no calls
pub calls_nowhere : (c : ℕ) (works : List Work) → position (is_of c) works ≡ None → calls_by c works ≡ []
calls_nowhere c works none =
    let past : length works ≤ position_or_len (is_of c) works = grind (arith, common_steps) in
    none_by c works (λ k d low. fails_before_first (is_of c) works k d (omega (arith, past, low)))

-- ---- live arenas

abbrev pub live_below : List Bool → ℕ → List ℕ
live_below live n = filter (λ i. slice_index_or live i false) (range_with_len 0 n)

-- an arena more comes next where it is live
pub live_more : (live : List Bool) (i : ℕ) → live_below live (i + 1) ≡ live_below live i ++ (if slice_index_or live i false then i ∷ [] else [])
live_more live i =
    let is_live = λ (k : ℕ). slice_index_or live k false in
    ap (filter is_live) (sym (map-id (range_with_len 0 (i + 1)))) ∙ filter_of_map_range_with_len_more is_live (λ k. k) 0 i i (zero-add i)
    ∙ ap (λ l. filter is_live l ++ (if is_live i then i ∷ [] else [])) (map-id (range_with_len 0 i))

-- and there are as many as arenas at most
pub few_live : (live : List Bool) (n : ℕ) → length (live_below live n) ≤ n
few_live live n =
    let is_live = λ (k : ℕ). slice_index_or live k false in
    let some = length-filter is_live (range_with_len 0 n) in
    let most = count_by-le-length is_live (range_with_len 0 n) in
    let all = length-range_with_len 0 n in
    omega (arith, some, most, all)
