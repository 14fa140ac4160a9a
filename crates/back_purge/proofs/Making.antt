-- Rounds of decays, one decay more.
use Rattle.std.proofs.Common.{◌≡◌, ◌∙◌, ◌⊎◌, inl, inr, ℕ, zero, suc, ◌+◌, ◌-◌, ◌*◌, ◌<◌, ◌++◌, ◌∷◌, [], List, true, false, refl, sym, ap, subst, append_assoc, append-nil, arith, map, length, length-append, take, drop, get_or}
use Rattle.std.specs.List.{All}
use Rattle.std.proofs.lemmas.List.{length-map, map-append, take_more, take-append-drop}
use native.Mathlib.Nat.{suc-mul}
use Rattle.std.proofs.lemmas.List.Elements.{All-append, All-cons, All-nil}
use Rattle.call_plan.specs.declared.needs.Answered.{Answered}
use Rattle.call_plan.specs.declared.needs.Answered.TheVariants.{NoMemory, Ok as Fine}
use Rattle.call_plan.specs.declared.needs.Given.{Given}
use Rattle.call_plan.specs.declared.needs.Request.{Request}
use Rattle.call_plan.specs.declared.needs.Request.TheVariants.{Decay}
use Rattle.hook_api.specs.declared.shared.SharedShelf.{SharedShelf}
use Rattle.heap_runs.proofs.Leading.{gains_more, gains_none}
use Rattle.heap_runs.specs.Heaps.{CallDid, Gains, MayCall, shelf_id}
use Rattle.heap_runs.specs.Walks.{Done, Walk, Worked, dids_of, requests_of}
use Rattle.call_plan.specs.Clients.{DeskFacts}
use Rattle.heap_runs.specs.declared.heaps.Ctx.{Ctx}
use Rattle.heap_runs.specs.declared.heaps.SharedHeap.{SharedHeap}
use Rattle.trace_phase.specs.Expanded.{rounds_over}
use Rattle.back_purge.specs.Rounds.{Made, Stops, WentWell, decays, is_ok, one_round}

-- ---- calls one behind the other

walk_on : (c : ℕ) (had : DeskFacts) (calls : List Done) (mid : DeskFacts) (later : List Done) (has : DeskFacts) → Walk c had calls mid → Walk c mid later has → Walk c had (calls ++ later) has
walk_on c had [] mid later has walk more = subst (λ d. Walk c d later has) walk more
walk_on c had (d ∷ calls) mid later has walk more = (walk.0, walk.1, walk_on c walk.0 calls mid later has walk.2 more)

pub dids_append : (calls later : List Done) → dids_of (calls ++ later) ≡ dids_of calls ++ dids_of later
dids_append [] later = refl
dids_append (d ∷ calls) later = ap (λ l. d.dids ++ l) (dids_append calls later) ∙ sym (append_assoc d.dids (dids_of calls) (dids_of later))

-- an answer that isn't Ok
pub bad_is : (answer : Answered) → ((given : Given) → answer ≡ Fine given → ⊥) → is_ok answer ≡ false
bad_is (Fine given) never = absurd (never given refl)
bad_is answer never = refl

module _ {H : Type 0} (shelf : SharedShelf H) (heap : SharedHeap) where
  -- ---- one call

  pub made_one : (old new : Ctx) (request : Request) (answer : Answered) → MayCall (shelf_id shelf) heap new → CallDid shelf heap old new request answer → is_ok answer ≡ true → Made shelf heap old (request ∷ []) new
  made_one old new request answer may (inl called) ok =
      let done : Done = record { request = request; dids = called.dids; answer = answer } in record {
        worked = record { calls = done ∷ []; asked = refl; walk = (new.desk.facts, inl (called.call, called.met), refl); gains = subst (Gains shelf heap old new) (sym (append-nil called.dids)) called.gains; may = may };
        well = All-cons WentWell done [] ok (All-nil WentWell);
      }
  made_one old new request answer may (inr none) ok = absurd (let bad : is_ok NoMemory ≡ true = subst (λ a. is_ok a ≡ true) none.told ok in cc)

  pub stops_one : (old new : Ctx) (request : Request) (answer : Answered) → MayCall (shelf_id shelf) heap new → CallDid shelf heap old new request answer → is_ok answer ≡ false → Stops shelf heap old (request ∷ []) answer new
  stops_one old new request answer may (inl called) bad =
      let done : Done = record { request = request; dids = called.dids; answer = answer } in record {
        first = [];
        last = request;
        later = [];
        beginning = refl;
        worked = record { calls = done ∷ []; asked = refl; walk = (new.desk.facts, inl (called.call, called.met), refl); gains = subst (Gains shelf heap old new) (sym (append-nil called.dids)) called.gains; may = may };
        well = [];
        calls = (done, refl, refl);
        all_well = All-nil WentWell;
        bad = bad;
      }
  stops_one old new request answer may (inr none) bad =
      let done : Done = record { request = request; dids = []; answer = answer } in record {
        first = [];
        last = request;
        later = [];
        beginning = refl;
        worked = record { calls = done ∷ []; asked = refl; walk = (new.desk.facts, inr (refl, none.told, none.desk), refl); gains = none.gains; may = may };
        well = [];
        calls = (done, refl, refl);
        all_well = All-nil WentWell;
        bad = bad;
      }

  -- ---- calls behind others

  pub made_none : (ctx : Ctx) → MayCall (shelf_id shelf) heap ctx → Made shelf heap ctx [] ctx
  made_none ctx may = record { worked = record { calls = []; asked = refl; walk = refl; gains = gains_none shelf heap ctx; may = may }; well = All-nil WentWell }

  walk_both : (old mid new : Ctx) (first later : List Request) → (one : Worked shelf heap old first mid) → (two : Worked shelf heap mid later new) → Walk new.client old.desk.facts (one.calls ++ two.calls) new.desk.facts
  walk_both old mid new first later one two =
      walk_on new.client old.desk.facts one.calls mid.desk.facts two.calls new.desk.facts (subst (λ c. Walk c old.desk.facts one.calls mid.desk.facts) (sym two.gains.client) one.walk) two.walk

  gains_both : (old mid new : Ctx) (first later : List Request) → (one : Worked shelf heap old first mid) → (two : Worked shelf heap mid later new) → Gains shelf heap old new (dids_of (one.calls ++ two.calls))
  gains_both old mid new first later one two = subst (Gains shelf heap old new) (sym (dids_append one.calls two.calls)) (gains_more shelf heap old mid new (dids_of one.calls) (dids_of two.calls) one.gains two.gains)

  asked_both : (old mid new : Ctx) (first later : List Request) → (one : Worked shelf heap old first mid) → (two : Worked shelf heap mid later new) → requests_of (one.calls ++ two.calls) ≡ first ++ later
  asked_both old mid new first later one two = map-append (λ (d : Done). d.request) one.calls two.calls ∙ ap (λ l. l ++ requests_of two.calls) one.asked ∙ ap (λ l. first ++ l) two.asked

  pub made_on : (old mid new : Ctx) (first later : List Request) → Made shelf heap old first mid → Made shelf heap mid later new → Made shelf heap old (first ++ later) new
  made_on old mid new first later one two = record {
    worked = record {
      calls = one.worked.calls ++ two.worked.calls;
      asked = asked_both old mid new first later one.worked two.worked;
      walk = walk_both old mid new first later one.worked two.worked;
      gains = gains_both old mid new first later one.worked two.worked;
      may = two.worked.may;
    };
    well = All-append WentWell one.worked.calls two.worked.calls one.well two.well;
  }

  pub stops_on : (old mid new : Ctx) (first later : List Request) (answer : Answered) → Made shelf heap old first mid → Stops shelf heap mid later answer new → Stops shelf heap old (first ++ later) answer new
  stops_on old mid new first later answer one two =
      let until = two.first ++ two.last ∷ [] in record {
        first = first ++ two.first;
        last = two.last;
        later = two.later;
        beginning = ap (λ l. first ++ l) two.beginning ∙ sym (append_assoc first two.first (two.last ∷ two.later));
        worked = record {
          calls = one.worked.calls ++ two.worked.calls;
          asked = asked_both old mid new first until one.worked two.worked ∙ sym (append_assoc first two.first (two.last ∷ []));
          walk = walk_both old mid new first until one.worked two.worked;
          gains = gains_both old mid new first until one.worked two.worked;
          may = two.worked.may;
        };
        well = one.worked.calls ++ two.well;
        calls = (two.calls.0, ap (λ l. one.worked.calls ++ l) two.calls.1 ∙ sym (append_assoc one.worked.calls two.well (two.calls.0 ∷ [])), two.calls.2);
        all_well = All-append WentWell one.worked.calls two.well one.well two.all_well;
        bad = two.bad;
      }

  -- what would have come behind it
  pub stops_before : (old new : Ctx) (requests more : List Request) (answer : Answered) → Stops shelf heap old requests answer new → Stops shelf heap old (requests ++ more) answer new
  stops_before old new requests more answer one = record {
    first = one.first;
    last = one.last;
    later = one.later ++ more;
    beginning = ap (λ l. l ++ more) one.beginning ∙ append_assoc one.first (one.last ∷ one.later) more;
    worked = one.worked;
    well = one.well;
    calls = one.calls;
    all_well = one.all_well;
    bad = one.bad;
  }

-- ---- rounds

pub rounds_add : (live : List ℕ) (some more : ℕ) → rounds_over live (some + more) ≡ rounds_over live some ++ rounds_over live more
rounds_add live zero more = let none : 0 + more ≡ more = omega arith in ap (rounds_over live) none
rounds_add live (suc some) more =
    let one : suc some + more ≡ suc (some + more) = omega arith in
    ap (rounds_over live) one ∙ ap (λ l. live ++ l) (rounds_add live some more) ∙ sym (append_assoc live (rounds_over live some) (rounds_over live more))

pub decays_add : (now : ℕ) (live : List ℕ) (some more : ℕ) → decays now live (some + more) ≡ decays now live some ++ decays now live more
decays_add now live some more = ap (one_round now) (rounds_add live some more) ∙ map-append (λ i. Decay i now) (rounds_over live some) (rounds_over live more)

pub decays_one : (now : ℕ) (live : List ℕ) → decays now live 1 ≡ one_round now live
decays_one now live = ap (one_round now) (append-nil live)

pub decays_more : (now : ℕ) (live : List ℕ) (some : ℕ) → decays now live (some + 1) ≡ decays now live some ++ one_round now live
decays_more now live some = decays_add now live some 1 ∙ ap (λ l. decays now live some ++ l) (decays_one now live)

-- all rounds, from those that were made and one more
pub decays_split : (now : ℕ) (live : List ℕ) (some all : ℕ) → some < all → decays now live all ≡ (decays now live some ++ one_round now live) ++ decays now live (all - (some + 1))
decays_split now live some all low =
    let sum : all ≡ (some + 1) + (all - (some + 1)) = omega (arith, low) in
    ap (decays now live) sum ∙ decays_add now live (some + 1) (all - (some + 1)) ∙ ap (λ l. l ++ decays now live (all - (some + 1))) (decays_more now live some)

more_times : (r n : ℕ) → n + r * n ≡ suc r * n
more_times r n = omega (arith, suc-mul r n)

no_times : (n : ℕ) → 0 ≡ 0 * n
no_times n = omega arith

rounds_length : (live : List ℕ) (rounds : ℕ) → length (rounds_over live rounds) ≡ rounds * length live
rounds_length live zero = no_times (length live)
rounds_length live (suc rounds) = length-append live (rounds_over live rounds) ∙ ap (λ n. length live + n) (rounds_length live rounds) ∙ more_times rounds (length live)

-- how many calls that are
pub decays_length : (now : ℕ) (live : List ℕ) (rounds : ℕ) → length (decays now live rounds) ≡ rounds * length live
decays_length now live rounds = length-map (rounds_over live rounds) (λ i. Decay i now) ∙ rounds_length live rounds

-- ---- arenas

pub round_more : (now : ℕ) (arenas : List ℕ) (i : ℕ) → i < length arenas → one_round now (take (i + 1) arenas) ≡ one_round now (take i arenas) ++ one_round now (get_or arenas i 0 ∷ [])
round_more now arenas i low = ap (one_round now) (take_more arenas i 0 low) ∙ map-append (λ a. Decay a now) (take i arenas) (get_or arenas i 0 ∷ [])

-- a round, from the arenas that were decayed and one more
pub round_split : (now : ℕ) (arenas : List ℕ) (i : ℕ) → i < length arenas → one_round now arenas ≡ (one_round now (take i arenas) ++ one_round now (get_or arenas i 0 ∷ [])) ++ one_round now (drop (i + 1) arenas)
round_split now arenas i low =
    ap (one_round now) (sym (take-append-drop (i + 1) arenas)) ∙ map-append (λ a. Decay a now) (take (i + 1) arenas) (drop (i + 1) arenas)
    ∙ ap (λ l. l ++ one_round now (drop (i + 1) arenas)) (round_more now arenas i low)
