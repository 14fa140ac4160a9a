-- The laws of arenas and journals.
use Rattle.std.proofs.Common.{◌≡◌, ◌≢◌, ℕ, rules, inl, inr, ◌/◌, ◌<◌, ◌≤◌, Bool, true, false, cond, IsTrue, List, [], ◌∷◌, ◌++◌, length, get_or, take, refl, sym, ◌∙◌, ap, subst, arith, Any, append-nil, append_assoc}
use Rattle.space_model.proofs.Words.{count_by, cases_lt, get_or-take, length-take, sum_by_more_le, get_or-le-sum_by, sum_by-le-sum_by, All-weaker, All-head, All-tail, nat_tests, Entry, Reply, Part, Region, size_at, size_bounds, has_page, holders, is_active, covers, lies_in, houses, homes, space_after, reply_to, stands, Good, replay, all_stand, turns_of, granted, first_space, absent_space, FirstReplaysAreGood, AbsentReplaysAreGood, ReplaysKeepGood, ReplaysKeepOthers, PartsAreApart, RegionsAreApart, RegionsRise, RegionsHaveHomes, RegionsAreGranted, Any-from_list_any}
use Rattle.space_model.proofs.Exchange.{share}
use Rattle.space_model.proofs.Settled.{serves}
use Rattle.space_model.proofs.Pieces.{both_true}
use Rattle.space_model.proofs.Settled.{serves-le-share}
use Rattle.space_model.proofs.Steps.{entry_keeps, Good-step}
use Rattle.space_model.proofs.Lists.{counted_any}

-- ---- journals

pub replays_keep_good : ReplaysKeepGood
replays_keep_good turns s [] good h = subst (λ (ts : List (Entry × Reply)). Good ts s) (sym (append-nil turns)) good
replays_keep_good turns s (e ∷ es) good h =
    let both = both_true (stands s e) (all_stand (space_after s e) es) h in
    subst (λ (ts : List (Entry × Reply)). Good ts (replay (space_after s e) es)) (append_assoc turns ((e, reply_to s e) ∷ []) (turns_of (space_after s e) es))
    (replays_keep_good (turns ++ (e, reply_to s e) ∷ []) (space_after s e) es (Good-step turns s e good both.0) both.1)

pub replays_keep_others : ReplaysKeepOthers
replays_keep_others s [] client sound h other = refl
replays_keep_others s (e ∷ es) client sound h other =
    let both = both_true (stands s e) (all_stand (space_after s e) es) h in
    let keeps = entry_keeps s e sound both.0 in
    replays_keep_others (space_after s e) es client keeps.sound both.1 (All-tail (λ e. client ≢ e.client) e es other)
    ∙ keeps.others client (All-head (λ e. client ≢ e.client) e es other)

-- where there is no extent and no region
first_good : Good [] first_space
first_good = search rules

absent_good : Good [] absent_space
absent_good = search rules

pub first_replays_are_good : FirstReplaysAreGood
first_replays_are_good entries h = replays_keep_good [] first_space entries first_good h

pub absent_replays_are_good : AbsentReplaysAreGood
absent_replays_are_good entries h = replays_keep_good [] absent_space entries absent_good h

-- ---- nothing is shared

-- where at most one element passes, no two do
one_passes : {X : Type 0} (test : X → Bool) (xs : List X) → count_by test xs ≤ 1 → (i j : ℕ) (d : X) → i < j → j < length xs →
    ¬ (IsTrue (test (get_or xs i d)) × IsTrue (test (get_or xs j d)))
one_passes test xs most i j d lower within both =
    let one : Bool → ℕ = λ b. cond b 1 0 in
    let front : i < length (take j xs) = omega (arith, length-take j xs) in
    let same : one (test (get_or (take j xs) i d)) ≡ one (test (get_or xs i d)) = ap (λ x. one (test x)) (get_or-take j xs i d lower) in
    omega (
      arith,
      same,
      ap one both.0,
      ap one both.1,
      get_or-le-sum_by (λ x. cond (test x) 1 0) (take j xs) i d front,
      sum_by_more_le (λ x. cond (test x) 1 0) xs j d within,
    )

pub parts_are_apart : PartsAreApart
parts_are_apart s sound = λ i j d lower within page. one_passes (λ (p : Part). has_page page p.span) s.parts (sound.owners page) i j d lower within

pub regions_are_apart : RegionsAreApart
regions_are_apart s sound = λ i j d lower within byte. one_passes (covers byte) s.regions (sound.apart byte) i j d lower within

-- two regions at one address would share its byte
rise_of : (q r : Region) → (8 ≤ size_at q.class) → (8 ≤ size_at r.class) → ((byte : ℕ) → ¬ (IsTrue (covers byte q) × IsTrue (covers byte r))) →
    q.addr ≤ r.addr → q.addr < r.addr
rise_of q r more many apart low =
    elim (cases_lt q.addr r.addr) [
      | inl below ↦ below
      | inr above ↦ absurd (apart r.addr (grind (arith, nat_tests), grind (arith, nat_tests)))
    ]

-- regions rise by address
pub regions_rise : RegionsRise
regions_rise s sound i j d lt within =
    rise_of (get_or s.regions i d) (get_or s.regions j d)
    (size_bounds _ (sound.classes i d (omega arith))).0 (size_bounds _ (sound.classes j d within)).0
    (regions_are_apart s sound i j d lt within) (sound.ordered i j d lt within)

-- ---- regions

pub regions_have_homes : RegionsHaveHomes
regions_have_homes s sound =
    All-weaker (λ r. homes r s.parts ≡ 1) (λ r. Any (λ p. IsTrue (is_active p.state) × IsTrue p.committed × IsTrue (lies_in p.span r)) s.parts)
    (λ r home.
    let there = Any-from_list_any (λ (p : Part). houses p r) s.parts (counted_any (λ p. houses p r) s.parts (omega (arith, home))) in
    let p : Part = there.1 in
    let passes = there.4 in
    (there.0, p, there.2, there.3, (grind (arith, passes), grind (arith, passes), grind (arith, passes))))
    s.regions sound.homes

pub regions_are_granted : RegionsAreGranted
regions_are_granted turns s good =
    All-weaker (λ r. homes r s.parts ≡ 1) (λ r. (byte : ℕ) → IsTrue (covers byte r) → IsTrue (granted (byte / 4096) turns))
    (λ r home byte has.
    let within : homes r s.parts ≤ holders (byte / 4096) s.parts = sum_by-le-sum_by (serves r) (share (byte / 4096)) s.parts (λ p. serves-le-share byte r p has) in
    elim (granted (byte / 4096) turns) as (λ b. holders (byte / 4096) s.parts ≡ cond b 1 0 → IsTrue b)
    [ true ↦ λ h. refl | false ↦ λ h. absurd (omega arith) ] (good.pages (byte / 4096)))
    s.regions good.sound.homes
