-- What each step on the locks of a shared shelf tells.
use Rattle.std.specs.Prelude.{ℕ, ◌≡◌, ◌≢◌, ◌+◌, ◌≤◌, ◌^◌, Bool, if◌then◌else◌, List, [], ◌∷◌, ◌++◌, map, min, take, drop, slice_index, slice_set, Some, None}
use Rattle.atomic_table.specs.Table.{Me, Step, rest}
use Rattle.hook_api.specs.declared.sights.Tally.{Tally}
use Rattle.hook_api.specs.declared.sights.Sight.{Sight}
use Rattle.hook_api.specs.Counts.{capped}
use Rattle.hook_api.specs.Shelf.{BoxState}

-- the most that a seat's number of refusals comes to
abbrev pub most : ℕ
most = 2 ^ 58

-- one more refusal of a box, among the numbers of all
abbrev pub one_more : ℕ → List ℕ → List ℕ
one_more i refused = slice_set refused i (min (slice_index refused i + 1) most)

-- a tally with one more refusal of a box
abbrev pub with_refusal : ℕ → Tally → Tally
with_refusal i t = record { refused = one_more i t.refused }

-- a view that has no box
abbrev pub idle : List Tally → Sight
idle tallies = record { taken = None; tallies = tallies }

-- a view that has the box i, whose own count is this
abbrev pub having : ℕ → ℕ → List Tally → Sight
having i own tallies = record { taken = Some record { box_no = i; own = own }; tallies = tallies }

-- the box was at home, and the seat has it; or nothing changed
abbrev pub took : Step BoxState → Me BoxState Sight → ℕ → Me BoxState Sight → Type 0
took st m found n =
    (found ≢ 0 → n ≡ m)
    × (found ≡ 0 → (x : BoxState) × (n ≡ (having st.word x.account.refusals m.0.tallies, (st.word, x) ∷ m.1)))

-- a seat that had no box has the box i now
abbrev pub Took : ℕ → Me BoxState Sight → Me BoxState Sight → Type 0
Took i m n = (x : BoxState) × (n ≡ (having i x.account.refusals m.0.tallies, (i, x) ∷ []))

-- a seat of one client has the box i, which counted a refusal since it was taken if it refused
abbrev pub HasBox : ℕ → Bool → Me BoxState Sight → Type 0
HasBox i refused m =
    (was : ℕ) × (t : Tally) × (x : BoxState) × (m ≡ (having i was (t ∷ []), (i, x) ∷ []))
    × (capped (was + (if refused then 1 else 0)) ≤ x.account.refusals)

-- the tallies after an ask of the box i
abbrev pub after_ask : ℕ → Bool → List Tally → List Tally
after_ask i refused tallies = if refused then map (with_refusal i) tallies else tallies

module _ {S : Type 0} where
  -- nothing changed for the seat
  abbrev pub waited : Step S → Me S Sight → ℕ → Me S Sight → Type 0
  waited st m found n = n ≡ m

  -- the box is at home again
  abbrev pub came_home : Step S → Me S Sight → ℕ → Me S Sight → Type 0
  came_home st m found n = n ≡ (idle m.0.tallies, rest m.1)

  -- the box is at home again, and one more refusal was counted
  abbrev pub counted : Step S → Me S Sight → ℕ → Me S Sight → Type 0
  counted st m found n = n ≡ (idle (map (with_refusal st.word) m.0.tallies), rest m.1)

-- the first tally alone
abbrev pub first_part : Sight → Sight
first_part v = record { taken = v.taken; tallies = take 1 v.tallies }

-- the tallies after the first
abbrev pub later_part : Sight → Sight
later_part v = idle (drop 1 v.tallies)

-- the tallies of both, those of the second first
abbrev pub both_tallies : Sight → Sight → Sight
both_tallies v w = record { taken = v.taken; tallies = w.tallies ++ v.tallies }

-- a view that was joined to another has nothing
abbrev pub spent : Sight
spent = idle []
