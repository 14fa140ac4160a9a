-- A phase: from its workers and what they leave to what its part comes to.
use Rattle.std.proofs.Common.{◌≡◌, ◌∙◌, ℕ, zero, suc, ◌+◌, ◌<◌, ◌≤◌, Bool, List, [], ◌∷◌, ◌++◌, Some, refl, sym, ap, subst, append_assoc, append-nil, arith, length, map}
use Rattle.std.specs.Prelude.{slice_get, slice_index_or}
use Rattle.std.specs.List.{All}
use Rattle.std.proofs.lemmas.List.Elements.{All-cons, All-nil}
use Rattle.heap_runs.proofs.Passing.{same_element}
use Rattle.heap_runs.specs.Heaps.{Gains, MayCall, shelf_id}
use Rattle.heap_runs.specs.Walks.{Done, dids_of}
use Rattle.heap_runs.specs.declared.heaps.Ctx.{Ctx}
use Rattle.heap_runs.specs.declared.heaps.SharedHeap.{SharedHeap}
use Rattle.hook_api.specs.Shared.{orders_of}
use Rattle.hook_api.specs.declared.shared.SharedShelf.{SharedShelf}
use Rattle.call_plan.specs.Clients.{DeskFacts}
use Rattle.atomic_table.specs.Seated.{TableId}
use Rattle.trace_phase.specs.declared.parts.Part.TheVariants as part
use Rattle.trace_phase.specs.declared.parts.Phase.{Phase}
use Rattle.trace_phase.specs.declared.parts.PhaseCall.{PhaseCall}
use Rattle.phase_run.specs.Crews.{AreFrom, AreWith, Carried, HasGained, HaveGained, IsReady, IsWith, IsWorker, desk_of, stand_of}
use Rattle.phase_run.specs.Crowds.{HaveWorked, Pairwise}
use Rattle.phase_run.specs.Names.{known_to, merged}
use Rattle.phase_run.specs.Shifts.{HasWorked, MakesLines, MayWork, answer_to, background, calls_of}
use Rattle.phase_run.specs.Stands.{AreByPlan, Stand, WalkClients, all_merged, all_tallied, calls_by, calls_in, live_in, rounds_by}
use Rattle.phase_run.specs.Tally.{IsCapped, added, no_answers, tally_with}
use Rattle.phase_run.specs.declared.crews.Crew.{Crew}
use Rattle.phase_run.specs.declared.names.Place.{Place}
use Rattle.phase_run.specs.declared.tally.Tally.{Tally}
use Rattle.phase_run.specs.declared.workers.Shift.{Shift}
use Rattle.phase_run.specs.declared.workers.Worker.{Worker}
use Rattle.phase_run.proofs.Tallies.{added_none, added_with, capped_added}

abbrev pub ctx_of : Shift → Ctx
ctx_of shift = shift.ctx

abbrev pub names_of : Shift → List (List ℕ × Place)
names_of shift = shift.names

-- what a worker counted is the tally of its calls alone
abbrev pub CountsOwn : List Done → Shift → Type 0
CountsOwn dones shift = shift.tally ≡ tally_with no_answers (map answer_to dones)

module _ {H : Type 0} (shelf : SharedShelf H) (heap : SharedHeap) (s : Stand) (phase : Phase) where
  -- ---- one client

  walk_one : (c : ℕ) (ctx : Ctx) (worker : Worker) (shift : Shift) → ctx.client ≡ c → IsWorker s.names s.live phase ctx worker → (has : HasWorked shelf heap worker shift)
      → MakesLines c phase.moment (known_to s.names (calls_by c phase.works)) (desk_of ctx) (calls_in s.live phase c) has.dones (desk_of shift.ctx) shift.names
  walk_one c ctx worker shift client is has =
      let behind = desk_of shift.ctx in
      subst (λ k. MakesLines k phase.moment (known_to s.names (calls_by k phase.works)) (desk_of ctx) (calls_in s.live phase k) has.dones behind shift.names) client
      (subst (λ (x : Ctx). MakesLines x.client phase.moment (known_to s.names (calls_by ctx.client phase.works)) (desk_of x) (calls_in s.live phase ctx.client) has.dones behind shift.names) is.same
      (subst (λ m. MakesLines worker.ctx.client m (known_to s.names (calls_by ctx.client phase.works)) (desk_of worker.ctx) (calls_in s.live phase ctx.client) has.dones behind shift.names) is.moment
      (subst (λ (ns : List (List ℕ × Place)). MakesLines worker.ctx.client worker.job.moment ns (desk_of worker.ctx) (calls_in s.live phase ctx.client) has.dones behind shift.names) is.names
      (subst (λ (cs : List PhaseCall). MakesLines worker.ctx.client worker.job.moment worker.job.names (desk_of worker.ctx) cs has.dones behind shift.names) is.calls has.makes))))

  gained_one : (ctx : Ctx) (worker : Worker) (shift : Shift) → IsWorker s.names s.live phase ctx worker → (has : HasWorked shelf heap worker shift) → Gains shelf heap ctx shift.ctx (dids_of has.dones)
  gained_one ctx worker shift is has = subst (λ (x : Ctx). Gains shelf heap x shift.ctx (dids_of has.dones)) is.same has.gains

  -- ---- all clients

  -- What clients did in the phase, from one on.
  pub record HaveDone (c : ℕ) (ctxs : List Ctx) (shifts : List Shift) : Type 0 where
    pub dones : List (List Done)
    pub walk : WalkClients c s phase (map desk_of ctxs) dones (map desk_of (map ctx_of shifts)) (map names_of shifts)
    pub gained : HaveGained heap ctxs dones (map ctx_of shifts)
    pub planned : All (AreByPlan (orders_of shelf)) dones
    pub counts : Pairwise CountsOwn dones shifts
    pub clients : AreFrom c (map ctx_of shifts)
    pub may : All (MayCall (shelf_id shelf) heap) (map ctx_of shifts)
    pub count : length (map ctx_of shifts) ≡ length ctxs

  pub have_done : (c : ℕ) (ctxs : List Ctx) (workers : List Worker) (shifts : List Shift) → AreFrom c ctxs → Pairwise (IsWorker s.names s.live phase) ctxs workers → HaveWorked shelf heap workers shifts → HaveDone c ctxs shifts
  have_done c [] [] [] from are have = record {
    dones = [];
    walk = tt;
    gained = λ k old new at here. absurd cc;
    planned = All-nil (AreByPlan (orders_of shelf));
    counts = tt;
    clients = tt;
    may = All-nil (MayCall (shelf_id shelf) heap);
    count = refl;
  }
  have_done c [] [] (shift ∷ shifts) from are have = absurd have
  have_done c [] (worker ∷ workers) shifts from are have = absurd are
  have_done c (ctx ∷ ctxs) [] shifts from are have = absurd are
  have_done c (ctx ∷ ctxs) (worker ∷ workers) [] from are have = absurd have
  have_done c (ctx ∷ ctxs) (worker ∷ workers) (shift ∷ shifts) from are have =
      let rest = have_done (c + 1) ctxs workers shifts from.1 are.1 have.1 in
      let gains = gained_one ctx worker shift are.0 have.0 in record {
        dones = have.0.dones ∷ rest.dones;
        walk = (walk_one c ctx worker shift from.0 are.0 have.0, rest.walk);
        gained = gained_all ctx shift have.0.dones ctxs (map ctx_of shifts) rest.dones gains rest.gained;
        planned = All-cons (AreByPlan (orders_of shelf)) have.0.dones rest.dones gains.planned rest.planned;
        counts = (have.0.tally, rest.counts);
        clients = (gains.client ∙ from.0, rest.clients);
        may = All-cons (MayCall (shelf_id shelf) heap) shift.ctx (map ctx_of shifts) have.0.may rest.may;
        count = ap (λ n. suc n) rest.count;
      }
    where
      gained_all : (ctx : Ctx) (shift : Shift) (dones : List Done) (ctxs news : List Ctx) (others : List (List Done)) → Gains shelf heap ctx shift.ctx (dids_of dones) → HaveGained heap ctxs others news → HaveGained heap (ctx ∷ ctxs) (dones ∷ others) (shift.ctx ∷ news)
      gained_all ctx shift dones ctxs news others gains all zero old new at here =
          subst (λ (x : Ctx). HasGained heap x (dids_of dones) new) (same_element ctx old at)
          (subst (λ (x : Ctx). HasGained heap ctx (dids_of dones) x) (same_element shift.ctx new here) (record { client = gains.client; turns = gains.turns; asks = gains.asks; refused = gains.refused }))
      gained_all ctx shift dones ctxs news others gains all (suc k) old new at here = all k old new at here

-- ---- a crew that took all back in

pub with_ctxs : (old : Crew) (shifts : List Shift) (new : Crew) → AreWith old shifts new → new.ctxs.items ≡ old.ctxs.items ++ map ctx_of shifts
with_ctxs old [] new are = ap (λ (x : Crew). x.ctxs.items) are ∙ sym (append-nil old.ctxs.items)
with_ctxs old (shift ∷ shifts) new are = with_ctxs are.0 shifts new are.2 ∙ ap (λ l. l ++ map ctx_of shifts) are.1.ctxs ∙ append_assoc old.ctxs.items (shift.ctx ∷ []) (map ctx_of shifts)

pub with_names : (old : Crew) (shifts : List Shift) (new : Crew) → AreWith old shifts new → new.names ≡ all_merged old.names (map names_of shifts)
with_names old [] new are = ap (λ (x : Crew). x.names) are
with_names old (shift ∷ shifts) new are = with_names are.0 shifts new are.2 ∙ ap (λ (ns : List (List ℕ × Place)). all_merged ns (map names_of shifts)) are.1.names

pub with_live : (old : Crew) (shifts : List Shift) (new : Crew) → AreWith old shifts new → new.live ≡ old.live
with_live old [] new are = ap (λ (x : Crew). x.live) are
with_live old (shift ∷ shifts) new are = with_live are.0 shifts new are.2 ∙ are.1.live

pub with_tally : (old : Crew) (shifts : List Shift) (new : Crew) (dones : List (List Done)) → IsCapped old.tally → Pairwise CountsOwn dones shifts → AreWith old shifts new → new.tally ≡ all_tallied old.tally dones
with_tally old [] new [] capped counts are = ap (λ (x : Crew). x.tally) are
with_tally old [] new (d ∷ dones) capped counts are = absurd counts
with_tally old (shift ∷ shifts) new [] capped counts are = absurd counts
with_tally old (shift ∷ shifts) new (d ∷ dones) capped counts are =
    let mid : Crew = are.0 in
    let first : mid.tally ≡ tally_with old.tally (map answer_to d) =
    are.1.tally ∙ ap (added old.tally) counts.0 ∙ added_with old.tally no_answers (map answer_to d) ∙ ap (λ t. tally_with t (map answer_to d)) (added_none old.tally capped) in
    let low : IsCapped mid.tally = subst IsCapped (sym are.1.tally) (capped_added old.tally shift.tally) in
    with_tally mid shifts new dones low counts.1 are.2 ∙ ap (λ t. all_tallied t dones) first

-- ---- the workers

pub worker_is : (names : List (List ℕ × Place)) (live : List Bool) (phase : Phase) (ctx : Ctx) (worker : Worker) (taken : List PhaseCall) → worker.ctx ≡ ctx → worker.job.moment ≡ phase.moment → worker.job.names ≡ known_to names taken
    → worker.job.calls ≡ taken → worker.rounds ≡ rounds_by ctx.client phase.rounds → worker.arenas.items ≡ live_in live → taken ≡ calls_by ctx.client phase.works → IsWorker names live phase ctx worker
worker_is names live phase ctx worker taken ctxs moment known calls rounds arenas is = record {
  same = ctxs;
  moment = moment;
  names = known ∙ ap (known_to names) is;
  calls = ap (λ cs. cs ++ background worker.arenas.items worker.rounds) (calls ∙ is) ∙ ap (λ l. calls_by ctx.client phase.works ++ background l worker.rounds) arenas ∙ ap (λ n. calls_by ctx.client phase.works ++ background (live_in live) n) rounds;
}

-- a worker whose context may call, and whose rounds are over live arenas, may work
pub worker_may : (shelf : TableId) (heap : SharedHeap) (ctx : Ctx) (worker : Worker) → worker.ctx ≡ ctx → length worker.arenas.items ≤ 32 → MayCall shelf heap ctx → MayWork shelf heap worker
worker_may shelf heap ctx worker is few may = record { may = subst (MayCall shelf heap) (sym is) may; few = few }

-- ---- the phase

module _ {H : Type 0} (shelf : SharedShelf H) (heap : SharedHeap) where
  pub phase_carried : (old inner new : Crew) (phase : Phase) (workers : List Worker) (shifts : List Shift) → IsReady (shelf_id shelf) heap old → IsCapped old.tally
      → inner.ctxs.items ≡ [] → inner.names ≡ old.names → inner.live ≡ old.live → inner.tally ≡ old.tally
      → Pairwise (IsWorker old.names old.live phase) old.ctxs.items workers → HaveWorked shelf heap workers shifts → AreWith inner shifts new → Carried shelf heap old (part.Phase phase) shelf new
  phase_carried old inner new phase workers shifts ready capped none names live tally are have back =
      let s : Stand = stand_of (orders_of shelf) old in
      let done = have_done shelf heap s phase 0 old.ctxs.items workers shifts ready.clients are have in
      let ctxs : new.ctxs.items ≡ map ctx_of shifts = with_ctxs inner shifts new back ∙ ap (λ l. l ++ map ctx_of shifts) none in
      let known : new.names ≡ all_merged old.names (map names_of shifts) = with_names inner shifts new back ∙ ap (λ (ns : List (List ℕ × Place)). all_merged ns (map names_of shifts)) names in
      let lives : new.live ≡ old.live = with_live inner shifts new back ∙ live in
      let tallies : new.tally ≡ all_tallied old.tally done.dones = with_tally inner shifts new done.dones (subst IsCapped (sym tally) capped) done.counts back ∙ ap (λ t. all_tallied t done.dones) tally in record {
        dones = done.dones;
        walks = (
          map names_of shifts,
          subst (λ (l : List Ctx). WalkClients 0 s phase s.desks done.dones (map desk_of l) (map names_of shifts)) (sym ctxs) done.walk,
          done.planned,
          λ i. record { desks = map desk_of new.ctxs.items; names = known i; live = lives i; orders = orders_of shelf; tally = tallies i },
        );
        gained = subst (HaveGained heap old.ctxs.items done.dones) (sym ctxs) done.gained;
        ready = record {
          clients = subst (AreFrom 0) (sym ctxs) done.clients;
          count = ap length ctxs ∙ done.count ∙ ready.count;
          may = subst (All (MayCall (shelf_id shelf) heap)) (sym ctxs) done.may;
        };
        locks = refl;
      }
