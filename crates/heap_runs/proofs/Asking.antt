-- An ask that a call needs, and want of memory to name what goes back.
use Rattle.heap_runs.proofs.Words.{◌≡◌, ℕ, ◌+◌, true, false, IsTrue, List, [], ◌∷◌, Option, Some, refl, sym, ◌∙◌, ap, subst, append-nil, arc_value, Record, Point, Go, Ask, Op, AskFacts, DeskFacts, CallFacts, moment_at, named_call, want, WantTurn, WantAsk, is_marked, AnswersTo, All-cons, All-nil, slice_index, slice_set, All, capped, kind_of, IsByPlanOf, plan_of_kind, SharedShelf, TableId, asks-sit, starves-sit, Asked, Lacked, HaveNext, IsWanted, IsWantedAt, HasBox, IsAsPlanned, asks_next, asks_there, IsGiving, NeedIs, NeedsAsk, box_asked, box_lacked, known, log_of, IsCtxOf, Stands, Ctx, SharedHeap, by_box, counted_by, one_more, if◌then◌else◌}
use Rattle.heap_runs.proofs.Leaving.{Leaves}
use Rattle.heap_runs.proofs.Needing.{ask_needed, giving_at, sits_of}

module _ (shelf : TableId) (heap : SharedHeap) (ctx : Ctx) (is : IsCtxOf shelf heap ctx) (open_call : CallFacts) (stands : Stands heap ctx open_call) where
  abbrev rs : List Record
  rs = known (arc_value heap.table) (log_of ctx)

  abbrev c : ℕ
  c = ctx.client

  abbrev desk : DeskFacts
  desk = ctx.desk.facts

  abbrev call : CallFacts
  call = named_call desk open_call

  module _ (b : ℕ) (ask : Ask) (needs : NeedIs call.client call.stage.arena call.stage.next (NeedsAsk b ask)) (asked : AskFacts) (of_ask : asked.ask ≡ ask) (answers : AnswersTo asked.ask asked.answer) where
    need : (point : Point) × (call.stage.next ≡ Go point) × (want point ≡ WantAsk ask)
    need = ask_needed call.client call.stage.arena b call.stage.next ask needs

    pub asked_leaves : Leaves heap ctx open_call (Asked call.stage.arena asked) ctx.passes.items
    asked_leaves = record {
      ways = is.ways;
      arenas = is.arenas;
      comes = asks-sit false rs c desk call need.0 asked is.arenas is.ways.few need.1 (sits_of rs c (moment_at open_call desk) need.0 need.1 stands.comes.1) (need.2 ∙ ap WantAsk (sym of_ask)) answers;
      wanted = subst (λ n. IsWantedAt c call.stage.arena n (Asked call.stage.arena asked)) (sym need.1) (subst (λ w. IsWanted c call.stage.arena w (Asked call.stage.arena asked)) (sym need.2) (refl, of_ask));
      met = answers;
      box = λ last box_no its. box_asked (moment_at open_call desk) need.0 ask asked last box_no need.1 need.2;
      turns = λ i. sym (append-nil _);
    }

    -- it is of the box that the last turn told
    pub asked_box : (last : Option (ℕ × ℕ)) (box_no : ℕ) → asked.box_no ≡ box_no → HasBox call.stage last box_no → last ≡ Some (call.stage.arena, asked.box_no)
    asked_box last box_no of_box has = has (ap asks_next need.1 ∙ asks_there need.0 ask need.2) ∙ ap (λ n. Some (call.stage.arena, n)) (sym of_box)

  module _ (gives : IsGiving call.stage.next) where
    at : (point : Point) × (op : Op) × (asked : Option AskFacts) × (call.stage.next ≡ Go point) × (want point ≡ WantTurn op asked) × (is_marked op ≡ true)
    at = giving_at call.stage.next gives

    pub lacked_leaves : Leaves heap ctx open_call Lacked ctx.passes.items
    lacked_leaves = record {
      ways = is.ways;
      arenas = is.arenas;
      comes = starves-sit false rs c desk call at.0 at.1 at.2 is.arenas is.ways.few at.3 (sits_of rs c (moment_at open_call desk) at.0 at.3 stands.comes.1) at.4 at.5;
      wanted = subst (λ n. IsWantedAt c call.stage.arena n Lacked) (sym at.3) (subst (λ w. IsWanted c call.stage.arena w Lacked) (sym at.4) at.5);
      met = tt;
      box = λ last box_no its. box_lacked (moment_at open_call desk) at.0 last box_no at.3;
      turns = λ i. sym (append-nil _);
    }

-- an ask has the seat's next place
pub next_place : (old new : List ℕ) (asked : AskFacts) (box_no : ℕ) → asked.box_no ≡ box_no → asked.place ≡ slice_index old box_no → new ≡ slice_set old box_no (capped (slice_index old box_no + 1)) → HaveNext old (asked ∷ []) new
next_place old new asked box_no is place places =
    subst (λ n. (asked.place ≡ slice_index old n) × (new ≡ slice_set old n (capped (slice_index old n + 1)))) (sym is) (place, places)

-- and is counted where its box refused it by itself
pub next_count : (old new : List ℕ) (asked : AskFacts) (box_no : ℕ) → asked.box_no ≡ box_no → new ≡ (if by_box asked then one_more box_no old else old) → new ≡ counted_by old (asked ∷ [])
next_count old new asked box_no is counts = subst (λ n. new ≡ (if by_box asked then one_more n old else old)) (sym is) counts

-- and is refused as planned just where the plan says so
pub one_plan : {H : Type 0} (shelf : SharedShelf H) (asked : AskFacts) (box_no : ℕ) (ask : Ask) → asked.box_no ≡ box_no → asked.ask ≡ ask → IsByPlanOf (plan_of_kind shelf box_no (kind_of ask)) asked.planned → All (IsAsPlanned shelf) (asked ∷ [])
one_plan shelf asked box_no ask of_box of_ask plan = All-cons (IsAsPlanned shelf) asked [] (subst (λ n. IsByPlanOf (plan_of_kind shelf n (kind_of asked.ask)) asked.planned) (sym of_box) (subst (λ a. IsByPlanOf (plan_of_kind shelf box_no (kind_of a)) asked.planned) (sym of_ask) plan)) (All-nil (IsAsPlanned shelf))
