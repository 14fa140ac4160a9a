-- Each step that doesn't end for want of memory adds an entry to a journal, or an ask.
use Rattle.replay_run.proofs.Words.{arith, length, length-append, All, ◌+◌, ◌^◌, ◌≤◌, ◌≡◌, ◌≢◌, ◌<◌, inl, inr, ℕ, true, List, [], ◌∷◌, Option, None, Some, is_some, refl, ap, sum_by, get_or_default, position-Some, sum_by-le, sum_by-set, Op, Publish, AskFacts, Shelf, Held, held_at, CallFacts, taken_next, Want, WantAsk, WantTurn, want, Stepped, no_record, record_after, record_at, Record, HeapFacts, IsStepFor, IsStep, holding_client, holder_for, op_for, region_in_seat, turned_for, Seat, first_seat, seat_at, HoldersPublish, IsSound, entry_count, step_limit, steps_of, has_open_call, records_turned}
use Rattle.call_plan.specs.declared.needs.Answered.TheVariants.{NoMemory}
use Rattle.replay_run.proofs.NewHeaps.{sits_there, step_made}

-- a turn in an arena adds an entry to its journal
turn_longer : (records : List Record) (arena c : ℕ) (op : Op) (asked : Option AskFacts) → arena < length records →
    sum_by entry_count (records_turned records arena c op asked) ≡ sum_by entry_count records + 1
turn_longer records arena c op asked there =
    let r : Record = record_at records arena in
    let after : Record = record_after r c op asked in
    let one : entry_count after ≡ entry_count r + 1 = length-append r.kept (_ ∷ []) in
    omega (arith, one, sum_by-set entry_count records arena after no_record there)

-- the region that a holder publishes is there, and so is its arena
pub holder_region : HoldersPublish → (h : HeapFacts) (call : CallFacts) (holder : ℕ) (addr : Option ℕ) → IsSound h → length h.seats ≡ 32 → holding_client h.seats addr ≡ Some holder →
    (region : Held) × (region_in_seat h.seats addr holder ≡ Some region) × (region.arena < length h.records)
holder_region law h call holder None sound number is = absurd (cc (is))
holder_region law h call holder (Some addr) sound number is =
    let found = position-Some (λ (seat : Seat). is_some (held_at addr seat.desk)) h.seats holder first_seat is in
    let there : holder < 32 = omega (arith, found.0, number) in
    elim (held_at addr (seat_at h.seats holder).desk) as (λ r. held_at addr (seat_at h.seats holder).desk ≡ r →
    (region : Held) × (region_in_seat h.seats (Some addr) holder ≡ Some region) × (region.arena < length h.records)) [
      | None ↦ λ none. absurd (cc (found.1, ap is_some none))
      | Some region ↦ λ has. (region, has, omega (arith, (law h.records holder addr (seat_at h.seats holder) region sound.arenas there (sound.seats holder there) has).1, sound.arenas.number))
    ] refl

turned_longer : HoldersPublish → (h : HeapFacts) (c : ℕ) (call : CallFacts) (op : Op) (asked : Option AskFacts) (holder : Option ℕ) → IsSound h → length h.seats ≡ 32 →
    call.stage.arena < length h.records → holder_for h call ≡ holder → steps_of h < steps_of (turned_for h c call op asked holder)
turned_longer law h c call op asked None sound number there is =
    omega (arith, turn_longer h.records call.stage.arena c (op_for h call op) asked there)
turned_longer law h c call op asked (Some holder) sound number there is =
    let found = holder_region law h call holder (taken_next call.stage.next) sound number is in
    rw found.1 (omega (arith, turn_longer h.records found.0.arena holder (Publish found.0.addr) None found.2))

made_longer : HoldersPublish → (h : HeapFacts) (shelf : Shelf) (c : ℕ) (call : CallFacts) (wanted : Want) (told : Stepped) (new : HeapFacts) (shelf' : Shelf) → IsSound h → length h.seats ≡ 32 →
    call.stage.arena < length h.records → told.ended ≢ Some NoMemory → IsStepFor h shelf c call wanted told new shelf' → steps_of h < steps_of new
made_longer law h shelf c call (WantTurn op asked) told new shelf' sound number there memory (did, same, inl made) =
    rw made.0 (turned_longer law h c call op asked (holder_for h call) sound number there refl)
made_longer law h shelf c call (WantTurn op asked) told new shelf' sound number there memory (did, same, inr starved) = absurd (memory starved.1)
made_longer law h shelf c call (WantAsk ask) told new shelf' sound number there memory made =
    rw made.5 (omega (arith, length-append h.heard (made.0 ∷ [])))

-- a step that doesn't end for want of memory
pub step_longer : HoldersPublish → (h : HeapFacts) (shelf : Shelf) (c : ℕ) (told : Stepped) (new : HeapFacts) (shelf' : Shelf) → IsSound h → length h.seats ≡ 32 → c < 32 →
    has_open_call h c ≡ true → told.ended ≢ Some NoMemory → IsStep h shelf c (seat_at h.seats c).call told new shelf' → steps_of h < steps_of new
step_longer law h shelf c told new shelf' sound number below some memory step =
    let (call, point, open_call, at, made) = step_made h shelf c (seat_at h.seats c).call told new shelf' some step in
    let sits = sits_there h c call point sound below open_call at in
    made_longer law h shelf c call (want point) told new shelf' sound number (omega (arith, sits.waits.there, sound.arenas.number)) memory made

-- ---- how many steps there can be

-- a heap has fewer steps behind it than its lists can have members
pub steps_few : (h : HeapFacts) → length h.records ≡ 32 → ((i : ℕ) → i < 32 → length (record_at h.records i).kept < 2 ^ 64) → length h.heard < 2 ^ 64 → steps_of h < step_limit
steps_few h number few asks =
    let each : All (λ (r : Record). entry_count r ≤ 2 ^ 64) h.records =
    λ i d there. rw (get_or_default h.records i d no_record there) (omega (arith, few i (omega (arith, there, number)))) in
    omega (arith, sum_by-le entry_count (2 ^ 64) h.records each, number, asks)
