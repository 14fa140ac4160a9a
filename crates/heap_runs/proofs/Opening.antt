-- Before any turn, the arenas are as they begin, and each client rests.
use Rattle.std.proofs.Common.{◌≡◌, ◌==◌, ◌<◌, ◌≤◌, ◌+◌, ℕ, true, false, cond, inl, inr, length, List, [], None, get_or, replicate, All, refl, sym, ap, ◌∙◌, subst, arith, suc, zero}
use Rattle.std.specs.List.{range_with_len}
use Rattle.std.proofs.lemmas.Bool.{cases_lt}
use Rattle.std.proofs.lemmas.Bool.Decides.{nat_tests}
use Rattle.std.proofs.lemmas.List.Elements.{All-nil}
use Rattle.space_model.specs.Opening.{absent_space, first_space}
use Rattle.space_model.specs.Own.{Mine, mine}
use Rattle.space_model.specs.Clients.{is_in}
use Rattle.space_model.specs.Sound.{Sound}
use Rattle.thread_cache.specs.declared.Held.{Held}
use Rattle.chunk_table.specs.declared.table.ChunkTable.{ChunkTable}
use Rattle.recorded_arena.specs.Records.{Record, opening_record, opening_space}
use Rattle.sits.specs.Arenas.{AreArenas, no_record, record_at}
use Rattle.sits.specs.Clients.{mine_in}
use Rattle.sits.specs.Sitting.{IsAtRest, IsInClasses}
use Rattle.sits.proofs.Indexes.{past}
use Rattle.recorded_arena.proofs.Turning.{replayed_sound}
use Rattle.heap_runs.specs.Ways.{known, state_of}
use Rattle.heap_runs.proofs.Knowing.{Known, known_all, known_at, not_together}

-- Nothing of an arena is a client's but that it may be bound.
record IsEmpty (m : Mine) : Type 0 where
  flights : m.flights ≡ []
  offers : m.offers ≡ []
  trims : m.trims ≡ false
  regions : m.regions ≡ []

is_among : (low n c : ℕ) → low ≤ c → c < low + n → is_in c (range_with_len low n) ≡ true
is_among low zero c least most = absurd (omega (arith, least, most))
is_among low (suc n) c least most = grind (arith, nat_tests, is_among (low + 1) n c)

none_cached : (n k : ℕ) → get_or (replicate n (let none : List Held = [] in none)) k [] ≡ []
none_cached zero k = refl
none_cached (suc n) zero = refl
none_cached (suc n) (suc k) = none_cached n k

module _ (table : ChunkTable) (logs : Known) (none : (i : ℕ) → logs i ≡ []) where
  at_start : (i : ℕ) → i < 32 → record_at (known table logs) i ≡ opening_record i
  at_start i few = known_at table logs i few ∙ ap (λ l. (state_of table i l).arena) (none i)

  pub begin_arenas : AreArenas false (known table logs)
  begin_arenas = record {
    number = known_all table logs;
    sound = λ i few. subst (λ (r : Record). Sound r.space) (sym (at_start i few)) (replayed_sound i [] (opening_space i) (record { stand = refl; space = refl }));
    clients = λ i few. ap (λ (r : Record). length r.rooms) (at_start i few);
    apart = not_together;
  }

  empty : (c i : ℕ) → IsEmpty (mine_in (known table logs) c i)
  empty c i =
      elim (cases_lt i 32) [
        | inl low ↦ subst (λ (r : Record). IsEmpty (mine c r.space)) (sym (at_start i low)) (at i)
        | inr far ↦ subst (λ (r : Record). IsEmpty (mine c r.space)) (sym (past (known table logs) i no_record (let all = known_all table logs in omega (arith, far, all)))) (at 32)
      ]
    where
      at : (j : ℕ) → IsEmpty (mine c (opening_space j))
      at j = elim (j == 0) as (λ v. IsEmpty (mine c (cond v first_space absent_space))) [ true ↦ record { flights = refl; offers = refl; trims = refl; regions = refl } | false ↦ record { flights = refl; offers = refl; trims = refl; regions = refl } ]

  pub begin_rests : (c : ℕ) → c < 32 → IsAtRest false (known table logs) c (record { arena = 0; caches = false; cached = replicate 41 []; held = []; hand = None; gained = None; set = []; swapped = None })
  begin_rests c few = record {
    has = record {
      hands = λ i a k. record { within = omega arith; all = not_together };
      keyed = All-nil (λ (e : ℕ × Held). e.0 ≡ e.1.addr);
      lists = refl;
      classed = λ k. subst (All (λ (r : Held). r.class ≡ k)) (sym (none_cached 41 k)) (All-nil (λ (r : Held). r.class ≡ k));
      places = All-nil IsInClasses;
      arena = omega arith;
      bound = ap (λ (r : Record). (mine c r.space).bound) (at_start 0 (omega arith)) ∙ is_among 0 32 c (omega arith) (omega (arith, few));
    };
    idle = λ i. record { flights = (empty c i).flights; calm = ((empty c i).offers, (empty c i).trims) };
    empty = refl;
    gained = refl;
    own = refl;
  }
