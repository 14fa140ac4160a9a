-- The walk, from what each client did and what its heap left.
use Rattle.std.proofs.Common.{◌≡◌, ◌∙◌, ◌<◌, ◌++◌, ◌∷◌, [], ℕ, List, map, sym, refl, ap, subst, append_assoc}
use Rattle.std.specs.Arc.{arc_value}
use Rattle.std.proofs.lemmas.List.{map-append}
use Rattle.call_plan.specs.Clients.{DeskFacts}
use Rattle.call_plan.specs.declared.needs.Request.{Request}
use Rattle.hook_api.specs.declared.shared.SharedShelf.{SharedShelf}
use Rattle.heap_shared.specs.Shared.{Facts, snap}
use Rattle.heap_runs.specs.Ways.{told_of, took_in}
use Rattle.heap_runs.proofs.Journals.{tells, tells_none}
use Rattle.heap_runs.specs.declared.heaps.Ctx.{Ctx}
use Rattle.heap_runs.specs.declared.heaps.SharedHeap.{SharedHeap}
use Rattle.heap_runs.specs.Closes.{IsClosed}
use Rattle.heap_runs.specs.Heaps.{Gains}
use Rattle.heap_runs.specs.Legal.{AreClients, Client, HadNone, IsClient, JournalsAreLegal, Legal, PhasesAddUp}
use Rattle.heap_runs.specs.Walks.{Done, Walk, Worked, dids_of}
use Rattle.heap_runs.proofs.Leading.{gains_more}

-- ---- one phase after another

dids_append : (calls later : List Done) → dids_of (calls ++ later) ≡ dids_of calls ++ dids_of later
dids_append [] later = refl
dids_append (d ∷ calls) later = ap (λ l. d.dids ++ l) (dids_append calls later) ∙ sym (append_assoc d.dids (dids_of calls) (dids_of later))

walk_on : (c : ℕ) (had : DeskFacts) (calls : List Done) (mid : DeskFacts) (later : List Done) (has : DeskFacts) → Walk c had calls mid → Walk c mid later has → Walk c had (calls ++ later) has
walk_on c had [] mid later has walk more = subst (λ d. Walk c d later has) walk more
walk_on c had (d ∷ calls) mid later has walk more = (walk.0, walk.1, walk_on c walk.0 calls mid later has walk.2 more)

pub worked_on : {H : Type 0} (shelf : SharedShelf H) (heap : SharedHeap) (old mid new : Ctx) (first later : List Request) → Worked shelf heap old first mid → Worked shelf heap mid later new → Worked shelf heap old (first ++ later) new
worked_on shelf heap old mid new first later one two = record {
  calls = one.calls ++ two.calls;
  asked = map-append (λ (d : Done). d.request) one.calls two.calls ∙ ap (λ l. l ++ map (λ (d : Done). d.request) two.calls) one.asked ∙ ap (λ l. first ++ l) two.asked;
  walk = walk_on new.client old.desk.facts one.calls mid.desk.facts two.calls new.desk.facts (subst (λ c. Walk c old.desk.facts one.calls mid.desk.facts) (sym two.gains.client) one.walk) two.walk;
  gains = subst (Gains shelf heap old new) (sym (dids_append one.calls two.calls)) (gains_more shelf heap old mid new (dids_of one.calls) (dids_of two.calls) one.gains two.gains);
  may = two.may;
}

-- ---- all of them, once the heap is closed

module _ {H : Type 0} (shelf : SharedShelf H) (heap : SharedHeap) (olds news : List Ctx) (clients : List Client) (i : ℕ) (state : Facts) where
  walks_at : (j : ℕ) (one : Client) → IsClient shelf heap olds news j one → Walk one.client one.had one.calls one.has
  walks_at j one is = subst (λ (o : Client). Walk o.client o.had o.calls o.has) (sym is.same) is.work.walk

  turns_at : i < 32 → HadNone heap olds i → (closed : IsClosed heap news i state) (j : ℕ) (one : Client) → IsClient shelf heap olds news j one
      → told_of (arc_value heap.table) one.client i (map snap state.arena.kept) ≡ took_in i (dids_of one.calls)
  turns_at low fresh closed j one is =
      let table = arc_value heap.table in
      subst (λ (o : Client). told_of table o.client i (map snap state.arena.kept) ≡ took_in i (dids_of o.calls)) (sym is.same)
      (ap (told_of table is.new.client i) closed.kept ∙ sym (tells table i is.new.client closed.log closed.legal) ∙ closed.own j is.new is.is ∙ is.work.gains.turns i low
      ∙ ap (λ l. l ++ took_in i (dids_of is.work.calls)) (fresh j is.old is.was))

  -- the walk reads nothing but the journals, the requests and the table of calls
  pub legal : i < 32 → HadNone heap olds i → IsClosed heap news i state → AreClients shelf heap olds news clients → Legal (arc_value heap.table) clients i (map snap state.arena.kept)
  legal low fresh closed are = record {
    walks = λ j one at. walks_at j one (are.each j one at);
    turns = λ j one at. turns_at low fresh closed j one (are.each j one at);
    others = λ n none.
        let table = arc_value heap.table in
        let nobody = closed.others n (λ j ctx at same. let one = are.all j ctx at in none j one.0 one.1 (one.2 ∙ same)) in
        ap (told_of table n i) closed.kept ∙ sym (tells table i n closed.log closed.legal) ∙ tells_none table i n closed.log nobody;
  }

pub journals-legal : {H : Type 0} → JournalsAreLegal H
journals-legal shelf heap olds news clients book i journal low none has are =
    subst (λ kept. Legal (arc_value heap.table) clients i (map snap kept)) (sym has.kept) (legal shelf heap olds news clients i has.state low none has.closed are)

pub phases-add : {H : Type 0} → PhasesAddUp H
phases-add shelf heap old mid new first later one two = worked_on shelf heap old mid new first later one two
