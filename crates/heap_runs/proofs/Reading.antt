-- A turn by which the counts of an arena are read.
use Rattle.heap_runs.proofs.Words.{◌≡◌, ◌≢◌, ◌<◌, ◌≤◌, ◌&&◌, ℕ, Bool, true, false, cond, IsTrue, List, [], ◌∷◌, ◌++◌, None, length, refl, sym, ◌∙◌, ap, subst, arith, lt-ltb, append-nil, arc_value, get_or, slice_set, length-set, get_or-set_same, Record, no_record, record_at, record_after, room_in, mine, mine_in, room_of, entry_of, ChunkTable, Lock, Way, replay_turns, first, number, seen, spare, IsPassOf, Turned, Deed, Told, Facts, Logs, MayStand, Owned, after_deed, after_entry, owned_by, AreArenas, AreWays, Did, IsAtRest, Took, known, seen_at, state_of, own-sits, replayed_sound, at_or_else, Sound, Space, Ctx, SharedHeap, MayCall, TableId, deed_of, past, cases_lt, inl, inr, nat_tests, turns_in, took_in, reply_to}
use Rattle.arena_core.specs.Arenas.{room_after}
use Rattle.space_model.specs.Step.{space_after}
use Rattle.space_model.specs.Stepped.{is_live, stays}
use Rattle.space_model.specs.Counts.{counts_of}
use Rattle.space_model.specs.declared.counts.Counts.{Counts as CountsTold}
use Rattle.space_model.specs.declared.entries.Op.TheVariants.{Counts}
use Rattle.space_model.specs.declared.entries.Reply.TheVariants.{Counted, NoArena as IsNoArena}
use Rattle.heap_runs.specs.Settings.{reading}
use Rattle.heap_runs.proofs.Knowing.{known_all, known_at, not_together, same_arenas, same_at}
use Rattle.heap_runs.proofs.Passing.{IsWayOf, its_pass, left_so, logged, own_met, seen_else, seen_same, turns_turned, way_of, ways_turned}

-- it leaves the arena as it is
reads : (s : Space) (c : ℕ) → space_after s (entry_of c Counts) ≡ s
reads s c = by (is_live s.life)
  where
    by : (b : Bool) → (cond b (stays s (Counted (counts_of s))) (stays s IsNoArena)).after ≡ s
    by true = refl
    by false = refl

-- it may stand whatever its client owns
pub reading_may : (w : Owned) → w.client < 32 → MayStand w reading
reading_may w few = ((λ none. absurd (cc)), (λ s sound same. subst (λ b. IsTrue (b && true)) (sym (lt-ltb w.client 32 few)) refl), tt)

-- What it leaves of a context: its client rests still, and the passes gained this alone.
pub record Rested (heap : SharedHeap) (ctx : Ctx) (dids : List Did) (later : List Way) : Type 0 where
  pub ways : AreWays heap.locks.items ctx.client later
  pub arenas : AreArenas false (known (arc_value heap.table) (seen_at later))
  pub rests : IsAtRest false (known (arc_value heap.table) (seen_at later)) ctx.client ctx.desk.facts
  pub turns : (i : ℕ) → turns_in (arc_value heap.table) ctx.client i (seen_at later i) ≡ turns_in (arc_value heap.table) ctx.client i (seen_at ctx.passes.items i) ++ took_in i dids

module _ (shelf : TableId) (heap : SharedHeap) (ctx : Ctx) (may : MayCall shelf heap ctx) (a : ℕ) (low : a < 32) (lock : Lock) (lock_is : lock ≡ get_or heap.locks.items a lock) (old : Way) (old_is : old ≡ get_or ctx.passes.items a old) where
  abbrev table : ChunkTable
  table = arc_value heap.table

  abbrev c : ℕ
  c = ctx.client

  abbrev passes : List Way
  passes = ctx.passes.items

  abbrev was : List Record
  was = known table (seen_at passes)

  way : IsWayOf heap ctx a lock old
  way = way_of heap ctx a lock old may.is.ways low lock_is old_is

  pub of_lock : IsPassOf lock old
  of_lock = its_pass heap ctx a lock old way

  pub may_read : MayStand (owned_by (replay_turns after_entry (first lock) (seen old)) (number old)) reading
  may_read = reading_may (owned_by (replay_turns after_entry (first lock) (seen old)) (number old)) (let own = (may.is.ways.own a lock old way.locked way.passed).1 in let few = may.is.ways.few in omega (arith, own, few))

  module _ (new : Way) (of : IsPassOf lock new) (same : number new ≡ number old) (spares : spare new ≡ spare old) where
    abbrev later : List Way
    later = slice_set passes a new

    abbrev is : List Record
    is = known table (seen_at later)

    -- a client that owns what it did, and has as much room, rests
    still : ((i : ℕ) → mine_in is c i ≡ mine_in was c i) → ((i : ℕ) → room_in was i c ≤ room_in is i c) → IsAtRest false is c ctx.desk.facts
    still mines rooms = own-sits false was is c (record { desk = ctx.desk.facts; call = None }) mines rooms may.rests

    module _ (told : Told) (t : Turned Logs after_entry owned_by lock old new reading told) where
      abbrev met : Facts
      met = replay_turns after_entry (first lock) t.before

      log : Logs met c reading t.entry
      log = logged heap ctx a lock old way new reading told same t

      own : owned_by met c ≡ owned_by (state_of table a (seen_at passes a)) c
      own = own_met heap ctx a lock old way new reading told same t

      here : record_at is a ≡ record_after met.arena c Counts None
      here = known_at table (seen_at later) a low ∙ ap (λ (s : Facts). s.arena) (left_so heap ctx a lock old way new reading told same t) ∙ ap (λ (d : Deed). (after_deed met d).0.arena) log.is

      elsewhere : (i : ℕ) → i < 32 → i ≢ a → record_at is i ≡ record_at was i
      elsewhere i few far = known_at table (seen_at later) i few ∙ ap (λ l. (state_of table i l).arena) (seen_else heap ctx a lock old way new i far) ∙ sym (known_at table (seen_at passes) i few)

      rooms_set : length met.arena.rooms ≡ 32
      rooms_set = log.clients

      read_arenas : AreArenas false is
      read_arenas = record {
        number = known_all table (seen_at later);
        sound = λ i few. at_or_else (λ j. Sound (record_at is j).space) i a
            (λ home. subst (λ (r : Record). Sound r.space) (sym here) (subst Sound (sym (reads met.arena.space c)) (replayed_sound met.arena.index met.arena.kept met.arena.space log.replayed)))
            (λ far. subst (λ (r : Record). Sound r.space) (sym (elsewhere i few far)) (may.is.arenas.sound i few));
        clients = λ i few. at_or_else (λ j. length (record_at is j).rooms ≡ 32) i a
            (λ home. ap (λ (r : Record). length r.rooms) here ∙ length-set met.arena.rooms c _ ∙ rooms_set)
            (λ far. ap (λ (r : Record). length r.rooms) (elsewhere i few far) ∙ may.is.arenas.clients i few);
        apart = not_together;
      }

      past_all : (P : ℕ → Type 0) → ((i : ℕ) → i < 32 → P i) → ((i : ℕ) → 32 ≤ i → P i) → (i : ℕ) → P i
      past_all P few many i = elim (cases_lt i 32) [ inl low ↦ few i low | inr far ↦ many i (omega (arith, far)) ]

      beyond : (i : ℕ) → 32 ≤ i → record_at is i ≡ record_at was i
      beyond i far = past is i no_record (omega (arith, far, known_all table (seen_at later))) ∙ sym (past was i no_record (omega (arith, far, known_all table (seen_at passes))))

      mines_read : (i : ℕ) → mine_in is c i ≡ mine_in was c i
      mines_read = past_all (λ i. mine_in is c i ≡ mine_in was c i)
          (λ i few. at_or_else (λ j. mine_in is c j ≡ mine_in was c j) i a
          (λ home. ap (λ (r : Record). mine c r.space) here ∙ ap (mine c) (reads met.arena.space c) ∙ ap (λ (w : Owned). w.has) own ∙ ap (λ (r : Record). mine c r.space) (sym (known_at table (seen_at passes) a low)))
          (λ far. ap (λ (r : Record). mine c r.space) (elsewhere i few far)))
          (λ i far. ap (λ (r : Record). mine c r.space) (beyond i far))

      rooms_read : (i : ℕ) → room_in was i c ≤ room_in is i c
      rooms_read = past_all (λ i. room_in was i c ≤ room_in is i c)
          (λ i few. at_or_else (λ j. room_in was j c ≤ room_in is j c) i a
          (λ home.
          let was_room : room_of c met.arena.rooms ≡ room_in was a c = ap (λ (w : Owned). w.room) own ∙ ap (λ (r : Record). room_of c r.rooms) (sym (known_at table (seen_at passes) a low)) in
          let now_room : room_in is a c ≡ room_after met.arena.space (room_of c met.arena.rooms) c Counts =
          ap (λ (r : Record). room_of c r.rooms) here ∙ get_or-set_same met.arena.rooms c _ 0 (let few-c = may.is.ways.few in omega (arith, few-c, rooms_set)) in
          let more = grows (room_of c met.arena.rooms) met.arena.space in
          omega (arith, was_room, now_room, more))
          (λ far. let same = ap (λ (r : Record). room_of c r.rooms) (elsewhere i few far) in omega (arith, same)))
          (λ i far. let same = ap (λ (r : Record). room_of c r.rooms) (beyond i far) in omega (arith, same))
        where
          grows : (room : ℕ) (s : Space) → room ≤ room_after s room c Counts
          grows room s = grind (arith, nat_tests)

      pub read_rested : Rested heap ctx (Took a (deed_of c reading None) told ∷ []) later
      read_rested = record {
        ways = ways_turned heap ctx a lock old way new of same spares;
        arenas = read_arenas;
        rests = still mines_read rooms_read;
        turns = λ i. subst (λ d. turns_in table c i (seen_at later i) ≡ turns_in table c i (seen_at passes i) ++ took_in i (Took a d told ∷ [])) log.is (turns_turned heap ctx a lock old way new reading told same t i);
      }

      -- it tells the counts, or that the arena isn't live
      told_is : told.reply ≡ reply_to met.arena.space (entry_of c Counts)
      told_is = ap (λ (x : Told). x.reply) t.reply ∙ ap (λ (d : Deed). reply_to met.arena.space (entry_of d.client d.op)) log.is

      pub tells_counts : ((counts : CountsTold) → told.reply ≡ Counted counts → ⊥) → told.reply ≡ IsNoArena
      tells_counts none = by (is_live met.arena.space.life) told_is
        where
          by : (b : Bool) → told.reply ≡ (cond b (stays met.arena.space (Counted (counts_of met.arena.space))) (stays met.arena.space IsNoArena)).reply → told.reply ≡ IsNoArena
          by true e = absurd (none (counts_of met.arena.space) e)
          by false e = e

    -- ---- where memory was wanting

    module _ (kept : seen new ≡ seen old) where
      as_was : (i : ℕ) → seen_at later i ≡ seen_at passes i
      as_was = seen_same heap ctx a lock old way new kept

      same_record : (i : ℕ) → record_at is i ≡ record_at was i
      same_record = same_at was is (known_all table (seen_at passes)) (known_all table (seen_at later))
          (λ i few. known_at table (seen_at later) i few ∙ ap (λ l. (state_of table i l).arena) (as_was i) ∙ sym (known_at table (seen_at passes) i few))

      pub unread_rested : Rested heap ctx [] later
      unread_rested = record {
        ways = ways_turned heap ctx a lock old way new of same spares;
        arenas = same_arenas was is (known_all table (seen_at passes)) (known_all table (seen_at later)) (λ i few. same_record i) may.is.arenas;
        rests = still (λ i. ap (λ (r : Record). mine c r.space) (same_record i)) (λ i. let same-i = ap (λ (r : Record). room_of c r.rooms) (same_record i) in omega (arith, same-i));
        turns = λ i. ap (turns_in table c i) (as_was i) ∙ sym (append-nil _);
      }
