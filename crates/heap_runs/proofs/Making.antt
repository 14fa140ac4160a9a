-- A turn that a call needs, of one of its context's passes.
use Rattle.heap_runs.proofs.Words.{◌≡◌, ℕ, ◌<◌, true, false, Bool, List, Option, Some, Result, Err, IsOk, length, refl, sym, ◌∙◌, ap, subst, arith, get_or, slice_set, arc_value, Record, record_at, room_in, mine, mine_in, room_of, opens, Replied, Starved, Point, Go, AskFacts, DeskFacts, CallFacts, moment_at, named_call, after, want, WantTurn, is_marked, Op, seat_of, ChunkTable, Lock, Way, replay_turns, first, number, seen, spare, IsPassOf, Turned, Doing, Told, Facts, Logs, MayStand, after_entry, owned_by, AreArenas, Comes, Sits, starves-sit, IsWanted, IsWantedAt, Lacked, Took, known, seen_at, state_of, turns_in, NeedIs, NeedsTurn, NeededTurn, heard_next, HasBox, box_after, box_lacked, append-nil, Ctx, SharedHeap, IsCtxOf, Stands, TableId}
use Rattle.heap_runs.proofs.Knowing.{known_all, known_at, same_arenas, same_seat}
use Rattle.heap_runs.proofs.Needing.{may_stand, named_hears, sits_of, turn_needed}
use Rattle.heap_runs.proofs.Leaving.{Leaves}
use Rattle.heap_runs.proofs.Passing.{IsWayOf, its_pass, knows, left_so, lock_low, logged, own_met, pass_low, seen_else, seen_same, turns_turned, way_of, ways_turned}
use Rattle.heap_runs.proofs.Turning.{turn_leaves, turn_met}
use Rattle.heap_runs.specs.Meets.{Meets, TurnMeets}

-- what opens a unit of a call may find no memory
opens_marked : (point : Point) (op : Op) (asked : Option AskFacts) → want point ≡ WantTurn op asked → opens op ≡ true → is_marked op ≡ true
opens_marked point op asked wants is = grind arith

never : false ≡ true → ⊥
never e = cc

-- a turn that found no memory opens a unit
surely : {A E : Type 0} (r : Result A E) (error : E) (b : Bool) → r ≡ Err error → (b ≡ false → IsOk r) → b ≡ true
surely r error true is sure = refl
surely r error false is sure = absurd (never (subst IsOk is (sure refl)))

module _ (shelf : TableId) (heap : SharedHeap) (ctx : Ctx) (is : IsCtxOf shelf heap ctx) (open_call : CallFacts) (stands : Stands heap ctx open_call)
    (turn : NeededTurn) (needs : NeedIs open_call.client open_call.stage.arena (named_call ctx.desk.facts open_call).stage.next (NeedsTurn turn)) (asked : Option AskFacts) (heard_so : asked ≡ heard_next open_call.stage.next) where
  abbrev table : ChunkTable
  table = arc_value heap.table

  abbrev c : ℕ
  c = ctx.client

  abbrev passes : List Way
  passes = ctx.passes.items

  abbrev desk : DeskFacts
  desk = ctx.desk.facts

  abbrev call : CallFacts
  call = named_call desk open_call

  arenas : AreArenas false (known table (seen_at passes))
  arenas = is.arenas

  heard : asked ≡ heard_next call.stage.next
  heard = heard_so ∙ sym (named_hears desk open_call)

  abbrev rs : List Record
  rs = known table (seen_at passes)

  abbrev a : ℕ
  a = turn.arena

  abbrev doing : Doing
  doing = record { op = turn.op; asked = asked }

  need : (point : Point) × (call.stage.next ≡ Go point) × (want point ≡ WantTurn turn.op (heard_next call.stage.next)) × (turn.arena ≡ call.stage.arena)
  need = turn_needed call.client call.stage.arena call.stage.next turn needs

  abbrev point : Point
  point = need.0

  goes : call.stage.next ≡ Go point
  goes = need.1

  wants : want point ≡ WantTurn turn.op asked
  wants = need.2 ∙ ap (WantTurn turn.op) (sym heard)

  home : a ≡ call.stage.arena
  home = need.3

  sits : Sits false rs c desk call.request call.stage.arena point
  sits = sits_of rs c (moment_at open_call desk) point goes stands.comes.1

  low : a < 32
  low = let there = sits.waits.there in omega (arith, there, home)

  pub lock_within : a < length heap.locks.items
  lock_within = lock_low heap a low

  pub pass_within : a < length passes
  pass_within = pass_low heap ctx a is.ways low

  module _ (lock : Lock) (lock_is : lock ≡ get_or heap.locks.items a lock) (old : Way) (old_is : old ≡ get_or passes a old) where
    way : IsWayOf heap ctx a lock old
    way = way_of heap ctx a lock old is.ways low lock_is old_is

    pub of_lock : IsPassOf lock old
    of_lock = its_pass heap ctx a lock old way

    -- what the pass knows of its client
    own_is : owned_by (replay_turns after_entry (first lock) (seen old)) (number old) ≡ record { client = c; has = mine_in rs c call.stage.arena; room = room_in rs call.stage.arena c }
    own_is =
        knows heap ctx a lock old way ∙ ap (λ n. owned_by (state_of table n (seen_at passes n)) c) home
        ∙ ap (λ (r : Record). record { client = c; has = mine c r.space; room = room_of c r.rooms }) (sym (known_at table (seen_at passes) call.stage.arena sits.waits.there))

    pub may : MayStand (owned_by (replay_turns after_entry (first lock) (seen old)) (number old)) doing
    may = may_stand rs c call.stage.arena point turn.op asked _ arenas is.ways.few desk call.request sits wants own_is

    module _ (new : Way) (of : IsPassOf lock new) (same : number new ≡ number old) (spares : spare new ≡ spare old) where
      abbrev later : List Way
      later = slice_set passes a new

      module _ (told : Told) (t : Turned Logs after_entry owned_by lock old new doing told) where
        abbrev met : Facts
        met = replay_turns after_entry (first lock) t.before

        log : Logs met c doing t.entry
        log = logged heap ctx a lock old way new doing told same t

        turned : AreArenas false (known table (seen_at later)) × (told.box_no < 32) × Comes false (known table (seen_at later)) c (after (moment_at open_call desk) (Replied told.reply))
        turned = turn_leaves table c (seen_at passes) (seen_at later) desk call point turn.op asked arenas is.ways.few goes sits wants met t.entry log
            (subst (λ n. owned_by met c ≡ owned_by (state_of table n (seen_at passes n)) c) home (own_met heap ctx a lock old way new doing told same t))
            (subst (λ n. state_of table n (seen_at later n) ≡ (after_entry met t.entry).0) home (left_so heap ctx a lock old way new doing told same t))
            (λ i far. seen_else heap ctx a lock old way new i (λ e. far (e ∙ home))) told t.reply

        -- what the turn met
        met_so : Meets c call.stage.next (Took a t.entry.value told)
        met_so = subst (λ n. Meets c n (Took a t.entry.value told)) (sym goes) (subst (λ n. TurnMeets c n (Go point) t.entry.value told) (sym home)
            (turn_met table c (seen_at passes) (seen_at later) desk call point turn.op asked arenas is.ways.few goes sits wants met t.entry log
            (subst (λ n. owned_by met c ≡ owned_by (state_of table n (seen_at passes n)) c) home (own_met heap ctx a lock old way new doing told same t))
            (subst (λ n. state_of table n (seen_at later n) ≡ (after_entry met t.entry).0) home (left_so heap ctx a lock old way new doing told same t))
            (λ i far. seen_else heap ctx a lock old way new i (λ e. far (e ∙ home))) told t.reply))

        -- the box that it told is one of the shelf
        pub ok_box : told.box_no < 32
        ok_box = turned.1

        pub ok_leaves : Leaves heap ctx open_call (Took a t.entry.value told) later
        ok_leaves = record {
          ways = ways_turned heap ctx a lock old way new of same spares;
          arenas = turned.0;
          comes = turned.2;
          wanted = subst (λ n. IsWantedAt c call.stage.arena n (Took a t.entry.value told)) (sym goes) (subst (λ w. IsWanted c call.stage.arena w (Took a t.entry.value told)) (sym wants) (home, (log.chunk, log.is)));
          met = met_so;
          box = λ last box_no its. subst (λ n. HasBox (after (moment_at open_call desk) (Replied told.reply)).stage (Some (n, told.box_no)) box_no) (sym home)
              (subst (λ b. HasBox (after (moment_at open_call desk) (Replied told.reply)).stage (Some (call.stage.arena, told.box_no)) b) (sym its) (box_after (moment_at open_call desk) (Replied told.reply) told.box_no));
          turns = turns_turned heap ctx a lock old way new doing told same t;
        }

      -- ---- where memory was wanting

      module _ {A E : Type 0} (r : Result A E) (error : E) (failed : r ≡ Err error) (sure : opens turn.op ≡ false → IsOk r) (kept : seen new ≡ seen old) where
        marked : is_marked turn.op ≡ true
        marked = opens_marked point turn.op asked wants (surely r error (opens turn.op) failed sure)

        as_was : (i : ℕ) → seen_at later i ≡ seen_at passes i
        as_was = seen_same heap ctx a lock old way new kept

        kept_at : (i : ℕ) → i < 32 → record_at (known table (seen_at later)) i ≡ record_at rs i
        kept_at i few = known_at table (seen_at later) i few ∙ ap (λ l. (state_of table i l).arena) (as_was i) ∙ sym (known_at table (seen_at passes) i few)

        pub err_leaves : Leaves heap ctx open_call Lacked later
        err_leaves =
            let came = starves-sit false rs c desk call point turn.op asked arenas is.ways.few goes sits wants marked in record {
              ways = ways_turned heap ctx a lock old way new of same spares;
              arenas = same_arenas rs (known table (seen_at later)) (known_all table (seen_at passes)) (known_all table (seen_at later)) kept_at arenas;
              comes = (came.0, same_seat rs (known table (seen_at later)) (known_all table (seen_at passes)) (known_all table (seen_at later)) kept_at c (seat_of c (after (moment_at open_call desk) Starved)) came.1);
              wanted = subst (λ n. IsWantedAt c call.stage.arena n Lacked) (sym goes) (subst (λ w. IsWanted c call.stage.arena w Lacked) (sym wants) marked);
              met = tt;
              box = λ last box_no its. box_lacked (moment_at open_call desk) point last box_no goes;
              turns = λ i. ap (turns_in table c i) (as_was i) ∙ sym (append-nil _);
            }
