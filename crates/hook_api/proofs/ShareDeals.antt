-- How seats are dealt and gathered, and what boxes come back with.
use Rattle.hook_api.proofs.Words.{◌≡◌, ℕ, ◌-◌, ◌<◌, zero, suc, Bool, false, set, List, [], ◌∷◌, ◌++◌, map, length, get_or, take, replicate, sym, refl, ap, ◌∙◌, subst, arith, append_assoc, Some, some, some-injective, some-ne-none, get_elem?, All, sum_by, map-append, All-pop, sum_by-cons, State, AskSeat, Sight, BoxState, no_account, no_box, refused_at, tallies_of, Covers, Rule, blank, clients_of, refused_by, refused_in, first_part, idle, both_tallies, later_part, spent}
use Rattle.hook_api.proofs.SeatSums.{at_within}
use Rattle.hook_api.proofs.ShareKeeps.{settled}

-- the first of some blank tallies, and the later ones
pub parted : (n : ℕ) → 0 < n → (first_part (idle (replicate n blank)) ≡ idle (blank ∷ [])) × (later_part (idle (replicate n blank)) ≡ idle (replicate (n - 1) blank))
parted zero some_tally = absurd (omega arith)
parted (suc n) some_tally = (refl, ap (λ k. idle (replicate k blank)) (omega arith))

-- the first of some views
abbrev first_view : List Sight → Sight
first_view [] = spent
first_view (v ∷ vs) = v

-- the one view of a seat has its tally alone
pub view_of_seat : (seat : AskSeat) (v : Sight) → seat.badge.views ≡ v ∷ [] → v ≡ idle (record { refused = seat.refused } ∷ [])
view_of_seat seat v is = ap first_view (sym is ∙ seat.idle)

-- a fact of all seats is one of the last, and of those before it
pub last_and_others : (P : AskSeat → Type 0) (before rest : List AskSeat) (seat : AskSeat) → before ≡ rest ++ seat ∷ [] → All P before → P seat × All P rest
last_and_others P before rest seat is all = let parts = All-pop P before rest (Some seat) is all in (parts.1, parts.0)

-- the tally of the last seat moves to those that were joined
pub gathered : (before rest : List AskSeat) (seat : AskSeat) (v w : Sight) → before ≡ rest ++ seat ∷ [] → w ≡ idle (record { refused = seat.refused } ∷ [])
    → tallies_of rest ++ (both_tallies v w).tallies ≡ tallies_of before ++ v.tallies
gathered before rest seat v w is one =
    ap (λ u. tallies_of rest ++ (both_tallies v u).tallies) one
    ∙ sym (ap (λ l. tallies_of l ++ v.tallies) is ∙ (ap (λ l. l ++ v.tallies) (map-append (λ (s : AskSeat). record { refused = s.refused }) rest (seat ∷ [])) ∙ append_assoc (tallies_of rest) (record { refused = seat.refused } ∷ []) v.tallies))

-- what the tallies of seats have is what the seats counted
tallies_count : (n : ℕ) (seats : List AskSeat) → sum_by (refused_in n) (tallies_of seats) ≡ sum_by (λ (seat : AskSeat). refused_at seat n) seats
tallies_count n [] = refl
tallies_count n (s ∷ ss) = let a = sum_by-cons (refused_in n) (record { refused = s.refused }) (tallies_of ss) in let b = sum_by-cons (λ (seat : AskSeat). refused_at seat n) s ss in let c = tallies_count n ss in omega arith

-- each has one tally
tallies_each : (seats : List AskSeat) → length (tallies_of seats) ≡ length seats
tallies_each [] = refl
tallies_each (s ∷ ss) = ap suc (tallies_each ss)

-- the boxes that come back cover what the seats of all clients counted
pub covered : (own : List ℕ) (clients id : ℕ) (v : Sight) (seats : List AskSeat) (xs : List BoxState) (s : State BoxState Sight) → Rule own clients s → get_elem? s.views id ≡ some v
    → ((k : ℕ) (y : BoxState) → get_elem? s.homes k ≡ some (some y) → get_elem? xs k ≡ some y) → v ≡ idle (tallies_of seats) → length seats ≡ clients
    → (n : ℕ) → n < 32 → Covers (get_or xs n no_box).account.refusals (get_or own n 0) (sum_by (λ (seat : AskSeat). refused_at seat n) seats)
covered own clients id v seats xs s r at values is all n below =
    let h = settled own clients s r id v at (ap (λ (w : Sight). w.taken) is) (ap clients_of is ∙ (tallies_each seats ∙ all)) n below in
    let there : get_or xs n no_box ≡ h.0 = (at_within xs n h.0 no_box (values n h.0 h.1)).1 in
    let count : refused_by n v ≡ sum_by (λ (seat : AskSeat). refused_at seat n) seats = ap (refused_by n) is ∙ tallies_count n seats in
    subst (λ (x : BoxState). Covers x.account.refusals (get_or own n 0) (sum_by (λ (seat : AskSeat). refused_at seat n) seats)) (sym there) (subst (Covers h.0.account.refusals (get_or own n 0)) count h.2)

-- the account of a box of a list is that of the list of accounts
pub account_at : (xs : List BoxState) (n : ℕ) → get_or (map (λ (d : BoxState). d.account) xs) n no_account ≡ (get_or xs n no_box).account
account_at [] n = refl
account_at (x ∷ xs) zero = refl
account_at (x ∷ xs) (suc n) = account_at xs n

-- one box more is taken out
pub take_more : {A B : Type 0} (f : A → B) (xs : List A) (i : ℕ) (x : A) → get_elem? xs i ≡ some x → take (suc i) (map f xs) ≡ take i (map f xs) ++ f x ∷ []
take_more f [] i x e = absurd (some-ne-none x (sym e))
take_more f (y ∷ ys) zero x e = ap (λ z. f z ∷ []) (some-injective y x e)
take_more f (y ∷ ys) (suc i) x e = ap (λ l. f y ∷ l) (take_more f ys i x e)

-- what is read where false was set is false
pub set_false : (l : List Bool) (i : ℕ) → get_or (set l i false) i false ≡ false
set_false [] i = refl
set_false (x ∷ xs) zero = refl
set_false (x ∷ xs) (suc i) = set_false xs i
