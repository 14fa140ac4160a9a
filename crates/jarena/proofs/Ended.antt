-- What a call did last, at its last point.
use Rattle.std.proofs.Common.{◌≡◌, ◌⊎◌, inl, inr, ℕ, List, [], ◌∷◌, ◌++◌, Option, None, Some, refl, ap, subst, arith}
use Rattle.std.proofs.lemmas.Bool.Decides.{nat_tests}
use Rattle.call_plan.specs.Clients.{DeskFacts}
use Rattle.call_plan.specs.Desks.{desk_fed}
use Rattle.call_plan.specs.Items.{Starved, Told as Heard}
use Rattle.call_plan.specs.Runs.{Moment, after, settle, step_next}
use Rattle.call_plan.specs.Stages.{Asks, Ends, Go, Next, Point, Tells, Turns}
use Rattle.call_plan.specs.Table.{step}
use Rattle.call_plan.specs.declared.needs.Answered.{Answered}
use Rattle.call_plan.specs.declared.needs.Answered.TheVariants.{NoMemory}
use Rattle.call_plan.specs.declared.needs.Request.{Request}
use Rattle.deeds.specs.Dids.{Did, IsWantedAt, Led, item_of, told_by}
use Rattle.heap_runs.specs.Meets.{AllMeet, Meets}
use Rattle.hook_api.specs.Asked.{AskFacts}
use Rattle.replay_run.proofs.Ways.{Leads, settle_leads, step_leads}
use Rattle.jarena.specs.Served.{turned, turned_last}

-- What a call of a request did last: at a point to which the request leads, it was wanted there, and it led to the answer.
pub record IsLast (c : ℕ) (request : Request) (dids : List Did) (answer : Answered) : Type 0 where
  pub before : List Did
  pub did : Did
  pub at : Moment
  pub point : Point
  pub is : dids ≡ before ++ did ∷ []
  pub goes : at.stage.next ≡ Go point
  pub wanted : IsWantedAt c at.stage.arena (Go point) did
  pub meets : Meets c (Go point) did
  pub leads : Leads request (Go point)
  pub ends : (settle at.request (desk_fed at.desk at.stage.arena at.stage.next (item_of did)) at.stage.arena (step point (item_of did))).next ≡ Ends answer

-- what is wanted waits at a point
point_of : (c arena : ℕ) (next : Next) (did : Did) → IsWantedAt c arena next did → (point : Point) × (next ≡ Go point)
point_of c arena (Go point) did wanted = (point, refl)
point_of c arena next did wanted = absurd wanted

next_leads : (c arena : ℕ) (next : Next) (did : Did) (request : Request) → IsWantedAt c arena next did → Leads request next → Leads request (step_next next (item_of did))
next_leads c arena (Go point) did request wanted leads = step_leads request point (item_of did) leads
next_leads c arena next did request wanted leads = absurd wanted

then_leads : (c : ℕ) (at : Moment) (did : Did) (request : Request) → IsWantedAt c at.stage.arena at.stage.next did → Leads request at.stage.next → Leads request (after at (item_of did)).stage.next
then_leads c at did request wanted leads =
    settle_leads request at.request (desk_fed at.desk at.stage.arena at.stage.next (item_of did)) at.stage.arena (step_next at.stage.next (item_of did)) (next_leads c at.stage.arena at.stage.next did request wanted leads)

-- one thing was done
one_last : (c : ℕ) (at : Moment) (did : Did) (request : Request) (answer : Answered) → Leads request at.stage.next → IsWantedAt c at.stage.arena at.stage.next did → Meets c at.stage.next did → (after at (item_of did)).stage.next ≡ Ends answer → IsLast c request (did ∷ []) answer
one_last c at did request answer leads wanted meets ends =
    let on = point_of c at.stage.arena at.stage.next did wanted in record {
      before = [];
      did = did;
      at = at;
      point = on.0;
      is = refl;
      goes = on.1;
      wanted = subst (λ n. IsWantedAt c at.stage.arena n did) on.1 wanted;
      meets = subst (λ n. Meets c n did) on.1 meets;
      leads = subst (Leads request) on.1 leads;
      ends = subst (λ n. (settle at.request (desk_fed at.desk at.stage.arena at.stage.next (item_of did)) at.stage.arena (step_next n (item_of did))).next ≡ Ends answer) on.1 ends;
    }

-- and another one before
more_last : (c : ℕ) (request : Request) (did : Did) (dids : List Did) (answer : Answered) → IsLast c request dids answer → IsLast c request (did ∷ dids) answer
more_last c request did dids answer last = record {
  before = did ∷ last.before;
  did = last.did;
  at = last.at;
  point = last.point;
  is = ap (λ (l : List Did). did ∷ l) last.is;
  goes = last.goes;
  wanted = last.wanted;
  meets = last.meets;
  leads = last.leads;
  ends = last.ends;
}

-- a call that has ended did nothing, or something last
pub last_of : (c : ℕ) (request : Request) (at : Moment) (last : Option (ℕ × ℕ)) (dids : List Did) (new : Moment) (answer : Answered) → Leads request at.stage.next → Led c at last dids new → AllMeet c at dids → new.stage.next ≡ Ends answer
    → (dids ≡ []) ⊎ IsLast c request dids answer
last_of c request at last [] new answer leads led met ends = inl refl
last_of c request at last (did ∷ []) new answer leads led met ends = inr (one_last c at did request answer leads led.0.wanted met.0 (subst (λ (m : Moment). m.stage.next ≡ Ends answer) led.1 ends))
last_of c request at last (did ∷ more ∷ dids) new answer leads led met ends =
    elim (last_of c request (after at (item_of did)) (told_by last did) (more ∷ dids) new answer (then_leads c at did request led.0.wanted leads) led.1 met.1 ends) [
      | inl none ↦ absurd cc
      | inr rest ↦ inr (more_last c request did (more ∷ dids) answer rest)
    ]

-- which turn it was, if it was one
pub turned_is : (before : List Did) (did : Did) → turned_last (before ++ did ∷ []) ≡ turned did
turned_is [] did = refl
turned_is (d ∷ []) did = refl
turned_is (d ∷ e ∷ before) did = turned_is (e ∷ before) did

-- ---- what ends a call

-- an answer to an ask doesn't
pub heard_ends : (of : Request) (desk : DeskFacts) (arena : ℕ) (point : Point) (asked : AskFacts) (answer : Answered) → (settle of desk arena (step point (Heard asked))).next ≡ Ends answer → ⊥
heard_ends of desk arena (Turns point) asked answer ends = cc
heard_ends of desk arena (Asks point None) asked answer ends = cc
heard_ends of desk arena (Asks point (Some heard)) asked answer ends = cc
heard_ends of desk arena (Tells span b) asked answer ends = cc

-- want of memory is told as such
pub starved_ends : (of : Request) (desk : DeskFacts) (arena : ℕ) (point : Point) (answer : Answered) → (settle of desk arena (step point Starved)).next ≡ Ends answer → answer ≡ NoMemory
starved_ends of desk arena point answer ends = grind (arith, nat_tests)
