-- What is so of a sound heap: a new one is sound, and where a client's call stands.
use Rattle.replay_run.proofs.Words.{◌≡◌, ℕ, ◌<◌, true, Option, None, Some, is_some, refl, sym, subst, get_or-replicate, Shelf, Point, Next, Go, CallFacts, want, Stepped, HeapFacts, IsStepFor, IsStep, WantedAt, opening_records, opening_heap, first_seat, seat_at, SeatSound, IsSeated, SitsAt, opening-sits, opening_is, IsSound}

-- the arenas and the clients of a new heap are as they have to be
pub opening_sound : IsSound opening_heap
opening_sound = record {
  arenas = opening_is;
  seats = λ c few. subst (SeatSound opening_records c) (sym (get_or-replicate 32 c first_seat first_seat few)) (opening-sits c few);
}

-- what is so of a client whose call waits at a point
pub sits_there : (h : HeapFacts) (c : ℕ) (call : CallFacts) (point : Point) → IsSound h → c < 32 → (seat_at h.seats c).call ≡ Some call → call.stage.next ≡ Go point →
    SitsAt h.records c (seat_at h.seats c).desk call (Go point)
sits_there h c call point sound below is at =
    let seated : IsSeated h.records c (seat_at h.seats c).desk (Some call) = rw is at (sound.seats c below) in rw at at seated.1

-- an open call that makes a step waits at a point
pub step_made : (h : HeapFacts) (shelf : Shelf) (c : ℕ) (call : Option CallFacts) (told : Stepped) (new : HeapFacts) (shelf' : Shelf) → is_some call ≡ true → IsStep h shelf c call told new shelf' →
    (own : CallFacts) × (point : Point) × (call ≡ Some own) × (own.stage.next ≡ Go point) × IsStepFor h shelf c own (want point) told new shelf'
step_made h shelf c None told new shelf' some step = absurd (cc (some))
step_made h shelf c (Some call) told new shelf' some step = let placed = by call.stage.next step in (call, placed.0, refl, placed.1, placed.2)
  where
    by : (next : Next) → WantedAt next (λ wanted. IsStepFor h shelf c call wanted told new shelf') → (point : Point) × (next ≡ Go point) × IsStepFor h shelf c call (want point) told new shelf'
    by (Go point) made = (point, refl, made)
    by next made = absurd made
