-- The calls of a client, one more.
use Rattle.std.proofs.Common.{◌≡◌, ◌⊎◌, inl, inr, ℕ, List, [], ◌∷◌, ◌++◌, sym, refl, ap, ◌∙◌, subst, append_assoc, append-nil, arith, length, All, Result, Ok, Err, IfOk}
use Rattle.std.proofs.lemmas.List.{map-append}
use Rattle.std.proofs.lemmas.Option.{slice_get_within}
use Rattle.call_plan.specs.Clients.{DeskFacts}
use Rattle.call_plan.specs.declared.needs.Answered.{Answered}
use Rattle.call_plan.specs.declared.needs.Request.{Request}
use Rattle.hook_api.specs.declared.shared.SharedShelf.{SharedShelf}
use Rattle.heap_runs.specs.declared.heaps.Ctx.{Ctx}
use Rattle.heap_runs.specs.declared.heaps.SharedHeap.{SharedHeap}
use Rattle.deeds.specs.Dids.{Did}
use Rattle.heap_runs.specs.Heaps.{Called, Gains, MayCall, Refrained, shelf_id}
use Rattle.heap_runs.specs.Walks.{AllWorked, Done, IsDone, Walk, Worked, dids_of}
use Rattle.heap_runs.specs.declared.phases.Job.{Job}
use Rattle.heap_runs.proofs.Columns.{all_at, get_some}
use Rattle.heap_runs.proofs.Leading.{gains_more, gains_none}

walk_more : (c : ℕ) (had : DeskFacts) (calls : List Done) (mid : DeskFacts) (done : Done) (has : DeskFacts) → Walk c had calls mid → IsDone c mid done has → Walk c had (calls ++ done ∷ []) has
walk_more c had [] mid done has walk is = (has, subst (λ d. IsDone c d done has) walk is, refl)
walk_more c had (d ∷ calls) mid done has walk is = (walk.0, walk.1, walk_more c walk.0 calls mid done has walk.2 is)

dids_more : (calls : List Done) (done : Done) → dids_of (calls ++ done ∷ []) ≡ dids_of calls ++ done.dids
dids_more [] done = append-nil done.dids
dids_more (d ∷ calls) done = ap (λ l. d.dids ++ l) (dids_more calls done) ∙ sym (append_assoc d.dids (dids_of calls) done.dids)

-- a context that worked may call
pub all_may : {H : Type 0} (shelf : SharedShelf H) (heap : SharedHeap) (jobs : List Job) (ctxs : List Ctx) → length ctxs ≡ length jobs → AllWorked shelf heap jobs ctxs → All (MayCall (shelf_id shelf) heap) ctxs
all_may shelf heap jobs ctxs count worked = all_at (MayCall (shelf_id shelf) heap) ctxs (λ i ctx at.
    let job = get_some jobs i (let low = slice_get_within ctxs i ctx at in omega (arith, low, count)) in
    (worked i job.0 ctx job.1 at).may)

-- what is so of a result by itself
pub if_both : {A E : Type 0} {P Q R : A → Type 0} (r : Result A E) → ((a : A) → P a → Q a → R a) → IfOk r P → IfOk r Q → IfOk r R
if_both (Ok a) more p q = more a p q
if_both (Err e) more p q = p

-- nothing was asked for yet
pub worked_none : {H : Type 0} (shelf : SharedShelf H) (heap : SharedHeap) (ctx : Ctx) → MayCall (shelf_id shelf) heap ctx → Worked shelf heap ctx [] ctx
worked_none shelf heap ctx may = record { calls = []; asked = refl; walk = refl; gains = gains_none shelf heap ctx; may = may }

one_more : {H : Type 0} (shelf : SharedShelf H) (heap : SharedHeap) (old mid new : Ctx) (requests : List Request) (request : Request) (answer : Answered) (dids : List Did) → Worked shelf heap old requests mid → MayCall (shelf_id shelf) heap new
    → Gains shelf heap mid new dids → IsDone new.client mid.desk.facts (record { request = request; dids = dids; answer = answer }) new.desk.facts → Worked shelf heap old (requests ++ request ∷ []) new
one_more shelf heap old mid new requests request answer dids worked may gains is =
    let done : Done = record { request = request; dids = dids; answer = answer } in record {
      calls = worked.calls ++ done ∷ [];
      asked = map-append (λ (d : Done). d.request) worked.calls (done ∷ []) ∙ ap (λ l. l ++ request ∷ []) worked.asked;
      walk = walk_more new.client old.desk.facts worked.calls mid.desk.facts done new.desk.facts (subst (λ c. Walk c old.desk.facts worked.calls mid.desk.facts) (sym gains.client) worked.walk) is;
      gains = subst (Gains shelf heap old new) (sym (dids_more worked.calls done)) (gains_more shelf heap old mid new (dids_of worked.calls) dids worked.gains gains);
      may = may;
    }

pub worked_more : {H : Type 0} (shelf : SharedShelf H) (heap : SharedHeap) (old mid new : Ctx) (requests : List Request) (request : Request) (answer : Answered) → Worked shelf heap old requests mid → MayCall (shelf_id shelf) heap new
    → Called shelf heap mid new request answer ⊎ Refrained shelf heap mid new answer → Worked shelf heap old (requests ++ request ∷ []) new
worked_more shelf heap old mid new requests request answer worked may (inl called) = one_more shelf heap old mid new requests request answer called.dids worked may called.gains (inl (called.call, called.met))
worked_more shelf heap old mid new requests request answer worked may (inr none) = one_more shelf heap old mid new requests request answer [] worked may none.gains (inr (refl, none.told, none.desk))
