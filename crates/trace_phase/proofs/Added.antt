-- Where a client's calls stand among those of all clients.
use Rattle.std.proofs.Common.{◌≡◌, ℕ, zero, suc, ◌<◌, ◌≤◌, Bool, true, false, eqb, ltb, List, [], ◌∷◌, ◌++◌, length, get_or, None, Some, refl, ap, arith}
use Rattle.std.proofs.Math.ListN.{set}
use Rattle.std.proofs.lemmas.Bool.{ltb-false}
use Rattle.std.proofs.lemmas.List.Quantifiers.{position-Some}
use Rattle.std.specs.List.{position, position_or_len}
use Rattle.trace_phase.specs.Parts.{first_work, with_call, with_more}
use Rattle.trace_phase.specs.declared.parts.PhaseCall.{PhaseCall}
use Rattle.trace_phase.specs.declared.parts.Work.{Work}

abbrev is_of : ℕ → Work → Bool
is_of client work = eqb work.client client

at : (client : ℕ) (call : PhaseCall) (works : List Work) (i : ℕ) (d : Work) → i < length works → is_of client (get_or works i d) ≡ true
    → ((k : ℕ) → k < i → is_of client (get_or works k d) ≡ false) → set works i (with_more (get_or works i d) call) ≡ with_call client call works
at client call [] i d lt is before = absurd (omega (arith, lt))
at client call (w ∷ ws) zero d lt is before = rw is refl
at client call (w ∷ ws) (suc i) d lt is before =
    rw (before 0 (omega arith)) (ap (λ l. w ∷ l) (at client call ws i d (omega (arith, lt)) is (λ k h. before (suc k) (omega (arith, h)))))

-- a client that has calls gets one more where these stand
pub with_call_at : (client : ℕ) (call : PhaseCall) (works : List Work) (i : ℕ) (d : Work) → position (λ w. eqb w.client client) works ≡ Some i
    → set works i (with_more (get_or works i d) call) ≡ with_call client call works
with_call_at client call works i d found = let is = position-Some (is_of client) works i d found in at client call works i d is.0 is.1 is.2

none : (client : ℕ) (call : PhaseCall) (works : List Work) → length works ≤ position_or_len (is_of client) works → works ++ first_work client call ∷ [] ≡ with_call client call works
none client call [] le = refl
none client call (w ∷ ws) le = by (is_of client w) refl (λ h. ap (λ l. w ∷ l) (none client call ws h))
  where
    by : (b : Bool) → is_of client w ≡ b → (length ws ≤ position_or_len (is_of client) ws → w ∷ (ws ++ first_work client call ∷ []) ≡ w ∷ with_call client call ws)
        → (w ∷ ws) ++ first_work client call ∷ [] ≡ with_call client call (w ∷ ws)
    by true is later = let far = rw is at le in absurd (omega (arith, far))
    by false is later = let far = rw is at le in rw is (later (omega (arith, far)))

-- and another one comes last
pub with_call_new : (client : ℕ) (call : PhaseCall) (works : List Work) → position (λ w. eqb w.client client) works ≡ None
    → works ++ first_work client call ∷ [] ≡ with_call client call works
with_call_new client call works gone = by (ltb (position_or_len (is_of client) works) (length works)) refl
  where
    by : (b : Bool) → ltb (position_or_len (is_of client) works) (length works) ≡ b → works ++ first_work client call ∷ [] ≡ with_call client call works
    by true is = let none_is : Some (position_or_len (is_of client) works) ≡ None = rw is at gone in absurd cc
    by false is = none client call works (ltb-false (position_or_len (is_of client) works) (length works) is)
