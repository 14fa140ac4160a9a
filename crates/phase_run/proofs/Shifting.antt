-- A worker's calls, one behind the other.
use Rattle.std.proofs.Common.{◌≡◌, ◌≢◌, ◌∙◌, inl, inr, ℕ, true, List, Result, Ok, Err, IfOk, [], ◌∷◌, ◌++◌, refl, sym, ap, subst, append_assoc, append-nil, arith, map, length}
use Rattle.std.specs.List.{All}
use Rattle.std.specs.Prelude.{OnOk}
use Rattle.std.proofs.lemmas.List.{length-map, map-append}
use Rattle.std.proofs.lemmas.List.Elements.{All-head, All-tail}
use Rattle.back_purge.proofs.Making.{dids_append}
use Rattle.back_purge.specs.Rounds.{Made, WentWell, decays, is_ok, one_round}
use Rattle.call_plan.specs.declared.needs.Answered.TheVariants.{NoMemory}
use Rattle.call_plan.specs.declared.needs.Request.TheVariants.{Decay as Decays}
use Rattle.call_plan.specs.declared.needs.Answered.{Answered}
use Rattle.hook_api.specs.declared.shared.SharedShelf.{SharedShelf}
use Rattle.heap_runs.proofs.Leading.{gains_more, gains_none}
use Rattle.heap_runs.specs.Heaps.{CallDid, Gains, MayCall, shelf_id}
use Rattle.heap_runs.specs.Meets.{AllMeet}
use Rattle.heap_runs.specs.Walks.{Done, IsDone, Walk, dids_of, requests_of}
use Rattle.heap_runs.specs.declared.heaps.SharedHeap.{SharedHeap}
use Rattle.call_plan.specs.Runs.{begin}
use Rattle.deeds.specs.Dids.{IsCall}
use Rattle.call_plan.specs.Clients.{DeskFacts}
use Rattle.trace_phase.specs.Expanded.{rounds_over}
use Rattle.trace_phase.specs.declared.parts.PhaseCall.{PhaseCall}
use Rattle.trace_phase.specs.declared.parts.PhaseCall.TheVariants.{Decay}
use Rattle.phase_run.specs.Requests.{names_after, request_of}
use Rattle.phase_run.specs.Shifts.{Carries, IsMade, MakesLines, Shifted, answer_to, asked_for, background}
use Rattle.phase_run.specs.Tally.{IsCapped, added, tallied, tally_with}
use Rattle.phase_run.proofs.Tallies.{tally_well}
use Rattle.phase_run.specs.declared.names.Place.{Place}
use Rattle.phase_run.specs.declared.tally.Tally.{Tally}
use Rattle.phase_run.specs.declared.workers.Shift.{Shift}

-- ---- lists of calls

pub tally_more : (tally : Tally) (some more : List Answered) → tally_with tally (some ++ more) ≡ tally_with (tally_with tally some) more
tally_more tally [] more = refl
tally_more tally (a ∷ some) more = tally_more (tallied tally a) some more

pub makes_on : (c now : ℕ) (names : List (List ℕ × Place)) (had : DeskFacts) (calls : List PhaseCall) (dones : List Done) (mid : DeskFacts) (names' : List (List ℕ × Place)) (later : List PhaseCall) (more : List Done) (has : DeskFacts) (names'' : List (List ℕ × Place))
    → MakesLines c now names had calls dones mid names' → MakesLines c now names' mid later more has names'' → MakesLines c now names had (calls ++ later) (dones ++ more) has names''
makes_on c now names had [] [] mid names' later more has names'' one two = subst (λ d. MakesLines c now names d later more has names'') one.0 (subst (λ ns. MakesLines c now ns mid later more has names'') one.1 two)
makes_on c now names had [] (d ∷ dones) mid names' later more has names'' one two = absurd one
makes_on c now names had (call ∷ calls) [] mid names' later more has names'' one two = absurd one
makes_on c now names had (call ∷ calls) (d ∷ dones) mid names' later more has names'' one two =
    (one.0, one.1, one.2, makes_on c now (names_after names call d.answer one.0) one.0 calls dones mid names' later more has names'' one.3 two)

-- ---- shifts

module _ {H : Type 0} (shelf : SharedShelf H) (heap : SharedHeap) (now : ℕ) where
  -- Some calls of all were carried out, and the others lead on to where all lead.
  pub record SoFar (calls rest : List PhaseCall) (old new : Shift) : Type 0 where
    pub dones : List Done
    pub leads : (more : List Done) (has : DeskFacts) (names' : List (List ℕ × Place)) → MakesLines old.ctx.client now new.names new.ctx.desk.facts rest more has names' → MakesLines old.ctx.client now old.names old.ctx.desk.facts calls (dones ++ more) has names'
    pub tally : new.tally ≡ tally_with old.tally (map answer_to dones)
    pub gains : Gains shelf heap old.ctx new.ctx (dids_of dones)
    pub may : MayCall (shelf_id shelf) heap new.ctx

  pub none_yet : (calls : List PhaseCall) (shift : Shift) → MayCall (shelf_id shelf) heap shift.ctx → SoFar calls calls shift shift
  none_yet calls shift may = record { dones = []; leads = λ more has names' makes. makes; tally = refl; gains = gains_none shelf heap shift.ctx; may = may }

  pub one_more : (calls rest : List PhaseCall) (call : PhaseCall) (old mid new : Shift) → SoFar calls (call ∷ rest) old mid → Carries shelf heap now call mid new → SoFar calls rest old new
  one_more calls rest call old mid new so one =
      let client = so.gains.client in record {
        dones = so.dones ++ one.done ∷ [];
        leads = λ more has names' makes.
            subst (λ l. MakesLines old.ctx.client now old.names old.ctx.desk.facts calls l has names') (sym (append_assoc so.dones (one.done ∷ []) more))
            (so.leads (one.done ∷ more) has names' (new.ctx.desk.facts, one.asked, subst (λ c. IsMade c mid.ctx.desk.facts one.done new.ctx.desk.facts) client one.made, subst (λ ns. MakesLines old.ctx.client now ns new.ctx.desk.facts rest more has names') one.names makes));
        tally = one.tally ∙ ap (λ t. tallied t one.done.answer) so.tally ∙ sym (tally_more old.tally (map answer_to so.dones) (one.done.answer ∷ [])) ∙ ap (tally_with old.tally) (sym (map-append answer_to so.dones (one.done ∷ [])));
        gains = subst (Gains shelf heap old.ctx new.ctx) (sym (dids_append so.dones (one.done ∷ []) ∙ ap (λ l. dids_of so.dones ++ l) (append-nil one.done.dids))) (gains_more shelf heap old.ctx mid.ctx new.ctx (dids_of so.dones) one.done.dids so.gains one.gains);
        may = one.may;
      }

  pub all_done : (calls : List PhaseCall) (old new : Shift) → SoFar calls [] old new → Shifted shelf heap now calls old new
  all_done calls old new so = record {
    dones = so.dones;
    makes = subst (λ l. MakesLines old.ctx.client now old.names old.ctx.desk.facts calls l new.ctx.desk.facts new.names) (append-nil so.dones) (so.leads [] new.ctx.desk.facts new.names (refl, refl));
    tally = so.tally;
    gains = so.gains;
    may = so.may;
  }

  -- calls that were carried out behind others
  pub shifted_on : (calls later : List PhaseCall) (old mid new : Shift) → Shifted shelf heap now calls old mid → Shifted shelf heap now later mid new → Shifted shelf heap now (calls ++ later) old new
  shifted_on calls later old mid new one two = record {
    dones = one.dones ++ two.dones;
    makes = makes_on old.ctx.client now old.names old.ctx.desk.facts calls one.dones mid.ctx.desk.facts mid.names later two.dones new.ctx.desk.facts new.names one.makes (subst (λ c. MakesLines c now mid.names mid.ctx.desk.facts later two.dones new.ctx.desk.facts new.names) one.gains.client two.makes);
    tally = two.tally ∙ ap (λ t. tally_with t (map answer_to two.dones)) one.tally ∙ sym (tally_more old.tally (map answer_to one.dones) (map answer_to two.dones)) ∙ ap (tally_with old.tally) (sym (map-append answer_to one.dones two.dones));
    gains = subst (Gains shelf heap old.ctx new.ctx) (sym (dids_append one.dones two.dones)) (gains_more shelf heap old.ctx mid.ctx new.ctx (dids_of one.dones) (dids_of two.dones) one.gains two.gains);
    may = two.may;
  }

  -- ---- one call

  pub carries_by : (call : PhaseCall) (old new : Shift) (answer : Answered) (facts : DeskFacts) → CallDid shelf heap old.ctx new.ctx (request_of now old.names call) answer → answer ≢ NoMemory → facts ≡ new.ctx.desk.facts
      → new.names ≡ names_after old.names call answer facts → new.tally ≡ tallied old.tally answer → MayCall (shelf_id shelf) heap new.ctx → Carries shelf heap now call old new
  carries_by call old new answer facts (inl called) fine same names tally may = record {
    done = record { request = request_of now old.names call; dids = called.dids; answer = answer };
    asked = refl;
    made = (subst (λ c. IsCall c old.ctx.desk.facts (request_of now old.names call) called.dids answer new.ctx.desk.facts) called.gains.client called.call, fine, subst (λ c. AllMeet c (begin (request_of now old.names call) old.ctx.desk.facts) called.dids) called.gains.client called.met);
    names = names ∙ ap (names_after old.names call answer) same;
    tally = tally;
    gains = called.gains;
    may = may;
  }
  carries_by call old new answer facts (inr nothing) fine same names tally may = absurd (fine nothing.told)

  -- ---- rounds

  made_well : (c : ℕ) (had : DeskFacts) (done : Done) (has : DeskFacts) → IsDone c had done has → is_ok done.answer ≡ true → IsMade c had done has
  made_well c had done has (inl call) ok = (call.0, λ lacks. absurd (let bad : is_ok NoMemory ≡ true = subst (λ a. is_ok a ≡ true) lacks ok in cc), call.1)
  made_well c had done has (inr nothing) ok = absurd (let bad : is_ok NoMemory ≡ true = subst (λ a. is_ok a ≡ true) nothing.1 ok in cc)

  makes_decays : (c : ℕ) (names : List (List ℕ × Place)) (had : DeskFacts) (arenas : List ℕ) (dones : List Done) (has : DeskFacts) → requests_of dones ≡ one_round now arenas → Walk c had dones has → All WentWell dones
      → MakesLines c now names had (map (λ i. Decay i) arenas) dones has names
  makes_decays c names had [] [] has asked walk well = (walk, refl)
  makes_decays c names had [] (d ∷ dones) has asked walk well = absurd cc
  makes_decays c names had (i ∷ arenas) [] has asked walk well = absurd cc
  makes_decays c names had (i ∷ arenas) (d ∷ dones) has asked walk well =
      let head : d.request ≡ Decays i now = cc in
      let tail : requests_of dones ≡ one_round now arenas = cc in
      (walk.0, head, made_well c had d walk.0 walk.1 (All-head WentWell d dones well), makes_decays c names walk.0 arenas dones has tail walk.2 (All-tail WentWell d dones well))

  pub rounds_shifted : (arenas : List ℕ) (count calls : ℕ) (old new : Shift) → Made shelf heap old.ctx (decays now arenas count) new.ctx → calls ≡ length (decays now arenas count) → IsCapped old.tally
      → new.names ≡ old.names → new.tally ≡ added old.tally (record { calls = calls; failed = 0 }) → Shifted shelf heap now (background arenas count) old new
  rounds_shifted arenas count calls old new made number capped names tally =
      let dones = made.worked.calls in
      let many : length dones ≡ calls = sym (length-map dones asked_for) ∙ ap length made.worked.asked ∙ sym number in record {
        dones = dones;
        makes = subst (λ (ns : List (List ℕ × Place)). MakesLines old.ctx.client now old.names old.ctx.desk.facts (background arenas count) dones new.ctx.desk.facts ns) (sym names)
            (makes_decays old.ctx.client old.names old.ctx.desk.facts (rounds_over arenas count) dones new.ctx.desk.facts made.worked.asked (subst (λ c. Walk c old.ctx.desk.facts dones new.ctx.desk.facts) made.worked.gains.client made.worked.walk) made.well);
        tally = tally ∙ ap (λ n. added old.tally (record { calls = n; failed = 0 })) (sym many) ∙ sym (tally_well old.tally dones capped made.well);
        gains = made.worked.gains;
        may = made.worked.may;
      }

-- what is so behind a call that succeeds, by itself
pub if_on : {A E P : Type 0} {Q : A → Type 0} (r : Result A E) → (P → (a : A) → Q a) → OnOk r P → IfOk r Q
if_on (Ok a) so on = so on a
if_on (Err e) so on = tt
