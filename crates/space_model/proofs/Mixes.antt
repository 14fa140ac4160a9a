-- Two lists mixed into one, each in its own order: what a list keeps beside what it loses, or what it kept beside what came.
use Rattle.std.proofs.Common.{◌≡◌, ℕ, ◌+◌, Bool, true, false, not, cond, List, [], ◌∷◌, ◌++◌, take, drop, refl, subst, arith, All, filter, insert}
use Rattle.space_model.proofs.Words.{sum_by, count_by, take-append-drop, sum_by-cons, All-nil, All-cons, All-head, All-tail}

-- The third list has the elements of the first two, and those of each in their order.
pub data Mix (X : Type 0) : List X → List X → List X → Type 0 where
  Nothing : Mix X [] [] []
  First : (x : X) {xs ys zs : List X} → Mix X xs ys zs → Mix X (x ∷ xs) ys (x ∷ zs)
  Second : (x : X) {xs ys zs : List X} → Mix X xs ys zs → Mix X xs (x ∷ ys) (x ∷ zs)

-- a sum over it is that over both
pub mix_sum : {X : Type 0} (f : X → ℕ) {xs ys zs : List X} → Mix X xs ys zs → sum_by f zs ≡ sum_by f xs + sum_by f ys
mix_sum f Nothing = refl
mix_sum f (First x {xs} {ys} {zs} m) = omega (arith, sum_by-cons f x xs, sum_by-cons f x zs, mix_sum f m)
mix_sum f (Second x {xs} {ys} {zs} m) = omega (arith, sum_by-cons f x ys, sum_by-cons f x zs, mix_sum f m)

-- what is true of each element of both is true of each of its own
pub mix_all : {X : Type 0} (P : X → Type 0) {xs ys zs : List X} → Mix X xs ys zs → All P xs → All P ys → All P zs
mix_all P Nothing old new = All-nil P
mix_all P (First x {xs} {ys} {zs} m) old new = All-cons P x zs (All-head P x xs old) (mix_all P m (All-tail P x xs old) new)
mix_all P (Second x {xs} {ys} {zs} m) old new = All-cons P x zs (All-head P x ys new) (mix_all P m old (All-tail P x ys new))

-- and the other way round
pub mix_first : {X : Type 0} (P : X → Type 0) {xs ys zs : List X} → Mix X xs ys zs → All P zs → All P xs
mix_first P Nothing all = All-nil P
mix_first P (First x {xs} {ys} {zs} m) all = All-cons P x xs (All-head P x zs all) (mix_first P m (All-tail P x zs all))
mix_first P (Second x {xs} {ys} {zs} m) all = mix_first P m (All-tail P x zs all)

pub mix_second : {X : Type 0} (P : X → Type 0) {xs ys zs : List X} → Mix X xs ys zs → All P zs → All P ys
mix_second P Nothing all = All-nil P
mix_second P (First x {xs} {ys} {zs} m) all = mix_second P m (All-tail P x zs all)
mix_second P (Second x {xs} {ys} {zs} m) all = All-cons P x ys (All-head P x zs all) (mix_second P m (All-tail P x zs all))

-- a filter that keeps nothing of the second list keeps what it keeps of the first
pub mix_filter : {X : Type 0} (f : X → Bool) {xs ys zs : List X} → Mix X xs ys zs → count_by f ys ≡ 0 → filter f zs ≡ filter f xs
mix_filter f Nothing none = refl
mix_filter f (First x {xs} {ys} {zs} m) none = grind (arith, mix_filter f m none)
mix_filter f (Second x {xs} {ys} {zs} m) none = grind (arith, sum_by-cons (λ y. cond (f y) 1 0) x ys, mix_filter f m)

-- ---- lists that are mixed

-- nothing beside a list
pub mixed_first : {X : Type 0} (xs : List X) → Mix X xs [] xs
mixed_first [] = Nothing
mixed_first (x ∷ xs) = First x (mixed_first xs)

pub mixed_second : {X : Type 0} (ys : List X) → Mix X [] ys ys
mixed_second [] = Nothing
mixed_second (y ∷ ys) = Second y (mixed_second ys)

-- one list behind the other
pub mixed_append : {X : Type 0} (xs ys : List X) → Mix X xs ys (xs ++ ys)
mixed_append [] ys = mixed_second ys
mixed_append (x ∷ xs) ys = First x (mixed_append xs ys)

-- what fails a test and what passes it
pub mixed_filter : {X : Type 0} (gone : X → Bool) (xs : List X) → Mix X (filter (λ x. not (gone x)) xs) (filter gone xs) xs
mixed_filter gone [] = Nothing
mixed_filter {X} gone (x ∷ xs) =
    let rest = mixed_filter gone xs in
    elim (gone x) as (λ b. Mix X (cond (not b) (x ∷ filter (λ y. not (gone y)) xs) (filter (λ y. not (gone y)) xs)) (cond b (x ∷ filter gone xs) (filter gone xs)) (x ∷ xs))
    [ true ↦ Second x rest | false ↦ First x rest ]

-- a front that both have
pub mix_behind : {X : Type 0} (front : List X) {xs ys zs : List X} → Mix X xs ys zs → Mix X (front ++ xs) ys (front ++ zs)
mix_behind [] m = m
mix_behind (x ∷ front) m = First x (mix_behind front m)

-- an element that is inserted
pub mixed_insert : {X : Type 0} (xs : List X) (i : ℕ) (x : X) → Mix X xs (x ∷ []) (insert xs i x)
mixed_insert {X} xs i x =
    subst (λ front. Mix X front (x ∷ []) (insert xs i x)) (take-append-drop i xs) (mix_behind (take i xs) (Second x (mixed_first (drop i xs))))

-- the first list may stand for the second
pub mix_turned : {X : Type 0} {xs ys zs : List X} → Mix X xs ys zs → Mix X ys xs zs
mix_turned Nothing = Nothing
mix_turned (First x m) = Second x (mix_turned m)
mix_turned (Second x m) = First x (mix_turned m)
