-- The arenas as a context knows them.
use Rattle.heap_runs.proofs.Words.{◌≡◌, ℕ, ◌<◌, true, false, inl, inr, List, length, sym, ap, ◌∙◌, subst, arith, get_or-map-range_with_len, length-map-range_with_len, cases_lt, Record, no_record, record_at, mine, room_of, Sound, past, Seat, Turn, Snapshot, ChunkTable, Deed, AreArenas, SeatSound, own-sits, known, state_of}

-- what is known of each arena
abbrev pub Known : Type 0
Known = ℕ → List (Turn (Snapshot Deed))

-- an arena as it is known
pub known_at : (table : ChunkTable) (logs : Known) (i : ℕ) → i < 32 → record_at (known table logs) i ≡ (state_of table i (logs i)).arena
known_at table logs i few = get_or-map-range_with_len (λ j. (state_of table j (logs j)).arena) 0 32 i i no_record few (omega arith)

pub known_all : (table : ChunkTable) (logs : Known) → length (known table logs) ≡ 32
known_all table logs = length-map-range_with_len (λ j. (state_of table j (logs j)).arena) 0 32

-- nothing is said of all arenas at one moment
pub not_together : {A : Type 0} → false ≡ true → A
not_together e = absurd (cc)

-- lists of 32 arenas that are the same at each index
module _ (rs rs' : List Record) (all : length rs ≡ 32) (all' : length rs' ≡ 32) (same : (i : ℕ) → i < 32 → record_at rs' i ≡ record_at rs i) where
  pub same_at : (i : ℕ) → record_at rs' i ≡ record_at rs i
  same_at i =
      elim (cases_lt i 32) [
        | inl few ↦ same i few
        | inr far ↦ past rs' i no_record (omega (arith, far, all')) ∙ sym (past rs i no_record (omega (arith, far, all)))
      ]

  pub same_arenas : AreArenas false rs → AreArenas false rs'
  same_arenas is = record {
    number = all';
    sound = λ i few. subst (λ (r : Record). Sound r.space) (sym (same i few)) (is.sound i few);
    clients = λ i few. ap (λ (r : Record). length r.rooms) (same i few) ∙ is.clients i few;
    apart = not_together;
  }

  pub same_seat : (c : ℕ) (seat : Seat) → SeatSound false rs c seat → SeatSound false rs' c seat
  same_seat c seat sound =
      own-sits false rs rs' c seat (λ i. ap (λ (r : Record). mine c r.space) (same_at i)) (λ i. let room = ap (λ (r : Record). room_of c r.rooms) (same_at i) in omega (arith, room)) sound
