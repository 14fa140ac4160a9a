-- How a call begins.
use Rattle.heap_runs.proofs.Words.{◌≡◌, ℕ, ◌<◌, false, List, Option, None, Some, refl, sym, ◌∙◌, ap, subst, Record, Request, Answered, Point, Next, Go, Ends, Stage, DeskFacts, CallFacts, HasRoomToHold, Moment, moment_at, named_call, begin, begin_turns, ended_by, asks_next, begin-is_call, begins_named, meant, ready, IsPointOrEnd, IsInRange, started, AreArenas, Comes, IsAtRest, starts-sit}
use Rattle.heap_runs.proofs.Needing.{ended_is, rests_of}

-- where a call goes on, it waits at a point
goes_on : (next : Next) → IsPointOrEnd next → ended_by next ≡ None → (point : Point) × (next ≡ Go point)
goes_on (Go point) place none = (point, refl)
goes_on (Ends answer) place none = absurd (cc)
goes_on next place none = absurd place

some_same : (a b : CallFacts) → Some a ≡ Some b → a ≡ b
some_same a b is = cc

none_not : (a : CallFacts) → None ≡ Some a → ⊥
none_not a is = absurd (cc)

-- A call of a client began, and stands where its request begins.
pub record Began (rs : List Record) (c : ℕ) (request : Request) (desk has : DeskFacts) (room : ℕ) (call : CallFacts) : Type 0 where
  pub client : call.client ≡ c
  pub comes : Comes false rs c (moment_at call has)
  pub enough : HasRoomToHold has room call.stage.next
  pub turns : asks_next (named_call has call).stage.next ≡ false
  pub moment : moment_at call has ≡ begin request desk

module _ (rs : List Record) (c : ℕ) (desk : DeskFacts) (request : Request) (arenas : AreArenas false rs) (few : c < 32) (rests : IsAtRest false rs c desk) (range : IsInRange request) where
  abbrev at : Moment
  at = begin request desk

  comes : Comes false rs c at
  comes = starts-sit false rs c desk request arenas few rests range

  -- where it has an answer, the client rests
  pub stays_at : (answer : Answered) → ended_by at.stage.next ≡ Some answer → IsAtRest false rs c at.desk
  stays_at answer is = rests_of rs c at answer (ended_is at.stage.next answer is) comes.1

  -- where it has none, the call that stands in its place
  abbrev here : CallFacts
  here = record { client = c; request = at.request; stage = at.stage }

  module _ (place : Option CallFacts) (placed : place ≡ started c at None at.stage.next) (none : ended_by at.stage.next ≡ None) where
    is_here : place ≡ Some here
    is_here =
        let on = goes_on at.stage.next (begin-is_call (meant request desk) (ready request desk)).0 none in
        placed ∙ ap (started c at None) on.1

    -- there is one
    pub stands_there : place ≡ None → ⊥
    stands_there is = none_not here (sym is ∙ is_here)

    -- it has the moment at which the request began, in which the regions are named that go back
    pub began : (call : CallFacts) → place ≡ Some call → (has : DeskFacts) (room : ℕ) → has ≡ at.desk → HasRoomToHold has room at.stage.next → Began rs c request desk has room call
    began call is has room left enough = record {
      client = ap (λ (k : CallFacts). k.client) same;
      comes = subst (Comes false rs c) (sym moment) comes;
      enough = subst (HasRoomToHold has room) (sym (ap (λ (k : CallFacts). k.stage.next) same)) enough;
      turns = ap (λ (s : Stage). asks_next s.next) named ∙ begin_turns request desk;
      moment = moment;
    }
      where
        same : call ≡ here
        same = some_same call here (sym is ∙ is_here)

        named : (named_call has call).stage ≡ at.stage
        named = ap (λ (k : CallFacts). (named_call has k).stage) same ∙ begins_named (meant request desk) (ready request desk) has

        moment : moment_at call has ≡ at
        moment = ap (λ (k : CallFacts). moment_at k has) same
            ∙ ap (λ (s : Stage). record { request = at.request; desk = has; stage = s }) (begins_named (meant request desk) (ready request desk) has)
            ∙ ap (λ (d : DeskFacts). record { request = at.request; desk = d; stage = at.stage }) left
