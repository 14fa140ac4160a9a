-- Lists of one length, place by place, and lists that are joined.
use Rattle.std.proofs.Common.{◌≡◌, ◌∙◌, ℕ, suc, arith, length, Some, IfOk, List, [], ◌∷◌, ◌++◌, Result, Ok, Err, refl, sym, ap, subst, append_assoc, append-nil}
use Rattle.std.specs.Prelude.{slice_get}
use Rattle.std.specs.List.{All, flat_map}
use Rattle.std.proofs.lemmas.List.Elements.{All-cons, All-head, All-nil, All-tail}
use Rattle.phase_run.specs.Crowds.{AreJoined, Pairwise}

-- pairs behind pairs
pub pairs_append : {X Y : Type 0} (P : X → Y → Type 0) (xs : List X) (ys : List Y) (more : List X) (others : List Y) → Pairwise P xs ys → Pairwise P more others → Pairwise P (xs ++ more) (ys ++ others)
pairs_append P [] [] more others all rest = rest
pairs_append P [] (b ∷ ys) more others all rest = absurd all
pairs_append P (a ∷ xs) [] more others all rest = absurd all
pairs_append P (a ∷ xs) (b ∷ ys) more others all rest = (all.0, pairs_append P xs ys more others all.1 rest)

-- what is so of all in a list is so of all in its beginning
pub all_first : {X : Type 0} (P : X → Type 0) (xs ys : List X) → All P (xs ++ ys) → All P xs
all_first P [] ys all = All-nil P
all_first P (x ∷ xs) ys all = All-cons P x xs (All-head P x (xs ++ ys) all) (all_first P xs ys (All-tail P x (xs ++ ys) all))

pub all_rest : {X : Type 0} (P : X → Type 0) (xs ys : List X) → All P (xs ++ ys) → All P ys
all_rest P [] ys all = all
all_rest P (x ∷ xs) ys all = all_rest P xs ys (All-tail P x (xs ++ ys) all)

-- what is so of all in some groups is so in each
pub all_in : {G X : Type 0} (items : G → List X) (P : X → Type 0) (groups : List G) → All P (flat_map items groups) → All (λ g. All P (items g)) groups
all_in items P [] all = All-nil (λ g. All P (items g))
all_in items P (g ∷ groups) all = All-cons (λ g. All P (items g)) g groups (all_first P (items g) (flat_map items groups) all) (all_in items P groups (all_rest P (items g) (flat_map items groups) all))

-- where a group was given, its pairs are so
abbrev pub AreGiven : {G V E X Y : Type 0} → (X → Y → Type 0) → (G → List X) → (V → List Y) → G → Result V E → Type 0
AreGiven P items given g (Ok v) = Pairwise P (items g) (given v)
AreGiven P items given g (Err e) = Unit {0}

-- groups whose pairs are so, one behind the other
pub pairs_joined : {G V E X Y : Type 0} (P : X → Y → Type 0) (items : G → List X) (given : V → List Y) (groups : List G) (results : List (Result V E)) (all : List Y)
    → Pairwise (λ g (r : Result V E). AreGiven P items given g r) groups results → AreJoined given results all → Pairwise P (flat_map items groups) all
pairs_joined P items given [] [] all pairs joined = subst (Pairwise P []) (sym joined) tt
pairs_joined P items given [] (r ∷ results) all pairs joined = absurd pairs
pairs_joined P items given (g ∷ groups) [] all pairs joined = absurd pairs
pairs_joined P items given (g ∷ groups) (Err e ∷ results) all pairs joined = absurd joined
pairs_joined P items given (g ∷ groups) (Ok v ∷ results) all pairs joined =
    subst (Pairwise P (items g ++ flat_map items groups)) (sym joined.2) (pairs_append P (items g) (given v) (flat_map items groups) joined.0 pairs.0 (pairs_joined P items given groups results joined.0 pairs.1 joined.1))

-- ---- what is left leads on to where all lead

pub pairs_lead : {X Y : Type 0} (P : X → Y → Type 0) (all : List X) (front : List Y) (x : X) (rest : List X) (y : Y) → ((more : List Y) → Pairwise P (x ∷ rest) more → Pairwise P all (front ++ more)) → P x y
    → (more : List Y) → Pairwise P rest more → Pairwise P all ((front ++ y ∷ []) ++ more)
pairs_lead P all front x rest y leads one more pairs = subst (Pairwise P all) (sym (append_assoc front (y ∷ []) more)) (leads (y ∷ more) (one, pairs))

pub pairs_led : {X Y : Type 0} (P : X → Y → Type 0) (all : List X) (front : List Y) → ((more : List Y) → Pairwise P [] more → Pairwise P all (front ++ more)) → Pairwise P all front
pairs_led P all front leads = subst (Pairwise P all) (append-nil front) (leads [] tt)

pub joined_lead : {V E X : Type 0} (items : V → List X) (all : List (Result V E)) (front : List X) (v : V) (rest : List (Result V E)) → ((more : List X) → AreJoined items (Ok v ∷ rest) more → AreJoined items all (front ++ more))
    → (more : List X) → AreJoined items rest more → AreJoined items all ((front ++ items v) ++ more)
joined_lead items all front v rest leads more joined = subst (AreJoined items all) (sym (append_assoc front (items v) more)) (leads (items v ++ more) (more, joined, refl))

pub joined_led : {V E X : Type 0} (items : V → List X) (all : List (Result V E)) (front : List X) → ((more : List X) → AreJoined {E = E} items [] more → AreJoined items all (front ++ more)) → AreJoined items all front
joined_led items all front leads = subst (AreJoined items all) (append-nil front) (leads [] refl)

-- ---- one step of a loop, and its end

pub pairs_step : {X Y : Type 0} (P : X → Y → Type 0) (all old rest : List X) (x : X) (front front' : List Y) (y : Y) → old ≡ x ∷ rest → front' ≡ front ++ y ∷ [] → ((more : List Y) → Pairwise P old more → Pairwise P all (front ++ more)) → P x y
    → (more : List Y) → Pairwise P rest more → Pairwise P all (front' ++ more)
pairs_step {X} {Y} P all old rest x front front' y was pushed leads one more pairs =
    subst (λ (f : List Y). Pairwise P all (f ++ more)) (sym pushed) (pairs_lead P all front x rest y (λ m p. leads m (subst (λ (l : List X). Pairwise P l m) (sym was) p)) one more pairs)

pub pairs_end : {X Y : Type 0} (P : X → Y → Type 0) (all old : List X) (front : List Y) → old ≡ [] → ((more : List Y) → Pairwise P old more → Pairwise P all (front ++ more)) → Pairwise P all front
pairs_end {X} {Y} P all old front none leads = pairs_led P all front (λ m p. leads m (subst (λ (l : List X). Pairwise P l m) (sym none) p))

pub joined_step : {V E X : Type 0} (items : V → List X) (all old rest : List (Result V E)) (r : Result V E) (v : V) (front front' : List X) → old ≡ r ∷ rest → r ≡ Ok v → front' ≡ front ++ items v → ((more : List X) → AreJoined items old more → AreJoined items all (front ++ more))
    → (more : List X) → AreJoined items rest more → AreJoined items all (front' ++ more)
joined_step {V} {E} {X} items all old rest r v front front' was ok appended leads more joined =
    subst (λ (f : List X). AreJoined items all (f ++ more)) (sym appended) (joined_lead items all front v rest (λ m j. leads m (subst (λ (l : List (Result V E)). AreJoined items l m) (sym (was ∙ ap (λ (x : Result V E). x ∷ rest) ok)) j)) more joined)

pub joined_end : {V E X : Type 0} (items : V → List X) (all old : List (Result V E)) (front : List X) → old ≡ [] → ((more : List X) → AreJoined items old more → AreJoined items all (front ++ more)) → AreJoined items all front
joined_end {V} {E} {X} items all old front none leads = joined_led items all front (λ m j. leads m (subst (λ (l : List (Result V E)). AreJoined items l m) (sym none) j))

pub all_next : {X : Type 0} (P : X → Type 0) (old rest : List X) (x : X) → old ≡ x ∷ rest → All P old → All P rest
all_next P old rest x was all = All-tail P x rest (subst (All P) was all)

-- what is so at each place
pub pairs_from : {X Y : Type 0} (P : X → Y → Type 0) (xs : List X) (ys : List Y) → length ys ≡ length xs → ((i : ℕ) (x : X) (y : Y) → slice_get xs i ≡ Some x → slice_get ys i ≡ Some y → P x y) → Pairwise P xs ys
pairs_from P [] [] count each = tt
pairs_from P [] (y ∷ ys) count each = absurd (omega (arith, count))
pairs_from P (x ∷ xs) [] count each = absurd (omega (arith, count))
pairs_from P (x ∷ xs) (y ∷ ys) count each = (each 0 x y refl refl, pairs_from P xs ys (omega (arith, count)) (λ i a b at here. each (suc i) a b at here))

pub given_by : {G V E X Y : Type 0} (P : X → Y → Type 0) (items : G → List X) (given : V → List Y) (g : G) (r : Result V E) → IfOk r (λ v. Pairwise P (items g) (given v)) → AreGiven P items given g r
given_by P items given g (Ok v) is = is
given_by P items given g (Err e) is = tt
