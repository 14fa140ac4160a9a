-- Where an open realloc stands, and what its client has beside what it holds, doesn't depend on what it holds.
use Rattle.replay_run.proofs.Words.{◌≡◌, ◌^◌, cond, ℕ, Bool, true, false, List, [], ◌∷◌, Option, None, Some, refl, sym, ◌∙◌, ap, subst, arith, nat_lt, nat_tests, Held, DeskFacts, held_at, not_holding, Item, Request, TurnPoint, Point, Next, Go, NextBatch, Ends, Reply, Moment, after, begin, settle, step_next, desk_fed, batch_goes, batch_of, going}
use Rattle.std.specs.Prelude.{nat_eq}
use Rattle.std.specs.Map.{lookup}
use Rattle.indexmap.specs.IndexMap.{insert_entry}
use Rattle.size_classes.specs.Classes.{class_for}
use Rattle.call_plan.specs.declared.needs.Answered.TheVariants.{TooLarge}
use Rattle.call_plan.specs.declared.needs.Request.TheVariants.{Realloc}
use Rattle.call_plan.specs.Clients.{caching, hit, reclassing, resizing}
use Rattle.call_plan.specs.Desks.{desk_closed, desk_turned, held_region, sharing}
use Rattle.call_plan.specs.Runs.{all_goes, begin_realloc, begin_resize, closed, desk_led, desk_moved, desk_realloced, desk_resized, move_stage, stage}
use Rattle.call_plan.specs.Stages.{Move, Stage}
use Rattle.replay_run.proofs.Holding.{insert_found, insert_removed}
use Rattle.replay_run.proofs.Ways.{Leads, TurnResizes}

-- a client that holds these regions instead
abbrev pub with_held : List (ℕ × Held) → DeskFacts → DeskFacts
with_held held desk = record desk { held = held }

-- it takes no notice of what is held, and leaves that as it is
abbrev Apart : (DeskFacts → DeskFacts) → Type 0
Apart f = (held : List (ℕ × Held)) (desk : DeskFacts) → f (with_held held desk) ≡ with_held held (f desk)

caching_apart : (region : Held) → Apart (caching region)
caching_apart region held desk = grind (arith, nat_tests)

sharing_apart : (arena class : ℕ) (addrs : List ℕ) → Apart (sharing arena class addrs)
sharing_apart arena class [] held desk = refl
sharing_apart arena class (addr ∷ addrs) held desk = ap (caching (held_region arena class addr)) (sharing_apart arena class addrs held desk) ∙ caching_apart (held_region arena class addr) held (sharing arena class addrs desk)

reclassing_apart : (class : ℕ) → Apart (reclassing class)
reclassing_apart class held desk = grind (arith, nat_tests)

turned_apart : (arena : ℕ) (point : TurnPoint) (reply : Reply) → TurnResizes point → Apart (λ desk. desk_turned desk arena point reply)
turned_apart arena point reply resizes held desk = grind (arith, nat_tests, sharing_apart)

fed_apart : (addr size arena : ℕ) (next : Next) (item : Item) → Leads (Realloc addr size) next → Apart (λ desk. desk_fed desk arena next item)
fed_apart addr size arena next item resizes held desk = grind (arith, turned_apart)

moved_apart : (class : ℕ) (found : Option Held) → Apart (desk_moved class found)
moved_apart class found held desk = grind (arith, nat_tests)

led_apart : (next : Next) → Apart (λ desk. desk_led desk next)
led_apart next held desk = grind (arith, moved_apart)

going_apart : (held : List (ℕ × Held)) (desk : DeskFacts) → going false (with_held held desk) ≡ going false desk
going_apart held desk = grind (arith, nat_tests)

module _ (addr size : ℕ) where
  goes_apart : (arena : ℕ) (held : List (ℕ × Held)) (desk : DeskFacts) → all_goes (Realloc addr size) (with_held held desk) arena ≡ all_goes (Realloc addr size) desk arena
  goes_apart arena held desk = ap (λ list. batch_goes arena desk.gained (batch_of list)) (going_apart held desk)

  move_apart : (arena class : ℕ) (found : Option Held) (held : List (ℕ × Held)) (desk : DeskFacts) → move_stage (Realloc addr size) arena class found (with_held held desk) ≡ move_stage (Realloc addr size) arena class found desk
  move_apart arena class None held desk = refl
  move_apart arena class (Some region) held desk =
      ap (λ (d : DeskFacts). all_goes (Realloc addr size) d arena) (moved_apart class (Some region) held desk) ∙ goes_apart arena held (desk_moved class (Some region) desk)

  settle_apart : (arena : ℕ) (next : Next) (held : List (ℕ × Held)) (desk : DeskFacts) → settle (Realloc addr size) (with_held held desk) arena next ≡ settle (Realloc addr size) desk arena next
  settle_apart arena NextBatch held desk = goes_apart arena held desk
  settle_apart arena (Move class) held desk = move_apart arena class (hit class desk) held desk
  settle_apart arena next held desk = refl

resized_apart : (class : ℕ) (region : Held) → Apart (desk_resized class region)
resized_apart class region held desk = grind (arith, reclassing_apart, moved_apart)

begins_apart : (addr size class : ℕ) (region : Held) (held : List (ℕ × Held)) (desk : DeskFacts) → begin_resize (Realloc addr size) class region (with_held held desk) ≡ begin_resize (Realloc addr size) class region desk
begins_apart addr size class region held desk = grind (arith, move_apart)

-- where the call goes on nothing is closed
open_desk : (request : Request) (arena : ℕ) (next : Next) (point : Point) (desk : DeskFacts) → next ≡ Go point → desk_closed request arena next desk ≡ desk
open_desk request arena next point desk is = ap (λ n. desk_closed request arena n desk) is

-- so it is where a call goes on
closes_apart : (request : Request) (at other : Stage) (point : Point) (desk now : DeskFacts) (held : List (ℕ × Held)) → other ≡ at → now ≡ with_held held desk → at.next ≡ Go point →
    closed request now other ≡ record { request = request; desk = with_held held (closed request desk at).desk; stage = at }
closes_apart request at other point desk now held there is goes =
    (λ j. closed request (is j) (there j))
    ∙ ap (λ (d : DeskFacts). record { request = request; desk = d; stage = at }) (open_desk request at.arena at.next point (with_held held desk) goes ∙ ap (with_held held) (sym (open_desk request at.arena at.next point desk goes)))

module _ (addr size : ℕ) where
  -- where it goes on from a point
  pub after_apart : (at : Stage) (desk : DeskFacts) (item : Item) (point : Point) → Leads (Realloc addr size) at.next → let one : Moment = after (record { request = Realloc addr size; desk = desk; stage = at }) item in
      one.stage.next ≡ Go point →
      (one.desk.held ≡ desk.held) × ((held : List (ℕ × Held)) → after (record { request = Realloc addr size; desk = with_held held desk; stage = at }) item ≡ record { request = Realloc addr size; desk = with_held held one.desk; stage = one.stage })
  after_apart at desk item point leads goes =
      let next : Next = step_next at.next item in
      let fed : DeskFacts → DeskFacts = λ d. desk_fed d at.arena at.next item in
      let apart : Apart (λ d. desk_led (fed d) next) = λ held d. ap (λ (x : DeskFacts). desk_led x next) (fed_apart addr size at.arena at.next item leads held d) ∙ led_apart next held (fed d) in
      let to : Stage = settle (Realloc addr size) (fed desk) at.arena next in (
        ap (λ (d : DeskFacts). d.held) (open_desk (Realloc addr size) to.arena to.next point (desk_led (fed desk) next) goes ∙ apart desk.held desk),
        λ held. closes_apart (Realloc addr size) to (settle (Realloc addr size) (fed (with_held held desk)) at.arena next) point (desk_led (fed desk) next) (desk_led (fed (with_held held desk)) next) held
            (ap (λ (d : DeskFacts). settle (Realloc addr size) d at.arena next) (fed_apart addr size at.arena at.next item leads held desk) ∙ settle_apart addr size at.arena next held (fed desk)) (apart held desk) goes,
      )

  -- where it begins, of a client that holds other regions and this one
  pub begin_apart : (old : Held) (had : DeskFacts) (point : Point) → held_at addr had ≡ Some old → (begin (Realloc addr size) had).stage.next ≡ Go point →
      ((begin (Realloc addr size) had).desk.held ≡ (not_holding addr had).held) × ((held : List (ℕ × Held)) → lookup (nat_eq addr) held ≡ None →
      begin (Realloc addr size) (with_held (insert_entry nat_eq held addr old) had) ≡ record { request = Realloc addr size; desk = with_held held (begin (Realloc addr size) had).desk; stage = (begin (Realloc addr size) had).stage })
  begin_apart old had point found goes =
      let at : Option Held → DeskFacts → Moment = λ o d. closed (Realloc addr size) (desk_realloced addr size o d) (begin_realloc addr size o d) in
      let here : begin (Realloc addr size) had ≡ at (Some old) had = ap (λ o. at o had) found in
      let open_there = begun (nat_lt (2 ^ 35) size) (subst (λ (m : Moment). m.stage.next ≡ Go point) here goes) in (
        ap (λ (m : Moment). m.desk.held) here ∙ open_there.0,
        λ held none. ap (λ o. at o (with_held (insert_entry nat_eq held addr old) had)) (insert_found addr old held)
            ∙ open_there.1 held none ∙ (λ j. record { request = Realloc addr size; desk = with_held held (sym here j).desk; stage = (sym here j).stage }),
      )
    where
      -- whether too many bytes are wanted or not
      begun : (v : Bool) → let one : Moment = closed (Realloc addr size) (cond v had (desk_resized (class_for size) old (resizing addr old had))) (cond v (stage had.arena (Ends TooLarge)) (begin_resize (Realloc addr size) (class_for size) old (resizing addr old had))) in
          one.stage.next ≡ Go point → (one.desk.held ≡ (not_holding addr had).held) × ((held : List (ℕ × Held)) → lookup (nat_eq addr) held ≡ None → let now : DeskFacts = with_held (insert_entry nat_eq held addr old) had in
          closed (Realloc addr size) (cond v now (desk_resized (class_for size) old (resizing addr old now))) (cond v (stage now.arena (Ends TooLarge)) (begin_resize (Realloc addr size) (class_for size) old (resizing addr old now)))
          ≡ record { request = Realloc addr size; desk = with_held held one.desk; stage = one.stage })
      begun true goes = absurd (cc)
      begun false goes =
          let first : DeskFacts = resizing addr old had in
          let to : Stage = begin_resize (Realloc addr size) (class_for size) old first in (
            ap (λ (d : DeskFacts). d.held) (open_desk (Realloc addr size) to.arena to.next point (desk_resized (class_for size) old first) goes ∙ resized_apart (class_for size) old first.held first),
            λ held none.
                let now : DeskFacts = resizing addr old (with_held (insert_entry nat_eq held addr old) had) in
                let same : now ≡ with_held held first = ap (λ l. with_held l first) (insert_removed addr old held none) in
                closes_apart (Realloc addr size) to (begin_resize (Realloc addr size) (class_for size) old now) point (desk_resized (class_for size) old first) (desk_resized (class_for size) old now) held
                (ap (begin_resize (Realloc addr size) (class_for size) old) same ∙ begins_apart addr size (class_for size) old held first)
                (ap (desk_resized (class_for size) old) same ∙ resized_apart (class_for size) old held first) goes,
          )
