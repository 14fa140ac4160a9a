-- Chains of asks.
use Rattle.hook_api.proofs.Words.{◌≡◌, ◌≢◌, ℕ, ◌+◌, ◌==◌, Bool, true, false, List, [], ◌∷◌, ◌++◌, count_by, map, ap, subst, sym, refl, arith, append_assoc, append-nil, not, cond, filter, Option, Some, None, ◌≤◌, eqb-false, eqb-true, common_steps, sum_by-cons, Book, Kind, AskFacts, heard_in, capped, Account, Tells, AskStep, BoxState, BoxStep, PlanStep, Shelf, box_at, count_of, Heard, AskChain, AskChainAtEachBox, BoxChain, Chain, ChainAtEachBox, Event, EventStep, Made, PlanSet, TellsAll, asks_in, asks_of}

-- a chain and one more event
pub chain_extended : (old mid new : Shelf) (events : List Event) (event : Event)
    → Chain old events mid → EventStep mid event new → Chain old (events ++ event ∷ []) new
chain_extended old mid new [] event chain step = (new, subst (λ (s : Shelf). EventStep s event new) chain step, refl)
chain_extended old mid new (first ∷ events) event chain step =
    (chain.0, chain.1, chain_extended chain.0 mid new events event chain.2 step)

-- a chain of asks and one more ask
pub ask_chain_extended : (old mid new : Shelf) (asks : List AskFacts) (asked : AskFacts)
    → AskChain old asks mid → AskStep mid asked new → AskChain old (asks ++ asked ∷ []) new
ask_chain_extended old mid new [] asked chain step = (new, subst (λ (s : Shelf). AskStep s asked new) chain step, refl)
ask_chain_extended old mid new (first ∷ asks) asked chain step =
    (chain.0, chain.1, ask_chain_extended chain.0 mid new asks asked chain.2 step)

-- who tells and hears nothing has told what was told before
pub tells_none : (told : Option (List Heard)) → TellsAll told [] told
tells_none None = tt
tells_none (Some told) = sym (append-nil told)

-- who has told one ask and then others has told them all
pub tells_more : (old mid new : Option (List Heard)) (heard : Heard) (more : List Heard)
    → Tells old heard mid → TellsAll mid more new → TellsAll old (heard ∷ more) new
tells_more old mid None heard more first rest = tt
tells_more old None (Some all) heard more first rest = absurd rest
tells_more None (Some some) (Some all) heard more first rest = absurd first
tells_more (Some few) (Some some) (Some all) heard more first rest = grind (arith, common_steps, append_assoc)

-- a box that tells has told an ask exactly where no plan refused it
pub told_case : (old mid : BoxState) (asked : AskFacts) (more : List AskFacts) (new : Option (List Heard)) (planned : Bool)
    → BoxStep old asked mid → asked.planned ≡ planned → TellsAll mid.account.told (map heard_in more) new
    → TellsAll old.account.told (map heard_in (cond (not planned) (asked ∷ more) more)) new
told_case old mid asked more new true step is rest =
    subst (λ (a : Account). TellsAll a.told (map heard_in more) new) (step.held_back is) rest
told_case old mid asked more new false step is rest =
    tells_more old.account.told mid.account.told new (heard_in asked) (map heard_in more) (step.passed is).tells rest

-- a step never lets the count fall
pub count_case : (old mid : BoxState) (asked : AskFacts) (planned : Bool)
    → BoxStep old asked mid → asked.planned ≡ planned → count_of old ≤ count_of mid
count_case old mid asked true step is =
    let own : mid.account.refusals ≡ old.account.refusals = ap (λ (a : Account). a.refusals) (step.held_back is) in
    let planned : mid.book.planned ≡ capped (old.book.planned + 1) = rw is at step.planned_refusals in
    omega arith
count_case old mid asked false step is =
    let own : old.account.refusals ≤ mid.account.refusals = (step.passed is).never_falls in
    let planned : mid.book.planned ≡ old.book.planned = rw is at step.planned_refusals in
    omega arith

-- a step counts a planned refusal exactly where a plan refused the ask
pub planned_case : (old mid : BoxState) (asked : AskFacts) (more : List AskFacts) (new : ℕ) (planned : Bool)
    → BoxStep old asked mid → asked.planned ≡ planned
    → capped new ≡ capped (mid.book.planned + count_by (λ (a : AskFacts). a.planned) more)
    → capped new ≡ capped (old.book.planned + count_by (λ (a : AskFacts). a.planned) (asked ∷ more))
planned_case old mid asked more new true step is rest =
    let here : mid.book.planned ≡ capped (old.book.planned + 1) = rw is at step.planned_refusals in
    rw (sum_by-cons (λ (a : AskFacts). cond a.planned 1 0) asked more, is) (omega arith)
planned_case old mid asked more new false step is rest =
    let here : mid.book.planned ≡ old.book.planned = rw is at step.planned_refusals in
    rw (sum_by-cons (λ (a : AskFacts). cond a.planned 1 0) asked more, is) (omega arith)

-- no ask: nothing changes
pub box_chain_none : (old new : BoxState) → new ≡ old → BoxChain old [] new
box_chain_none old new same = record {
  places = refl;
  next_place = ap (λ (s : BoxState). s.book.next_place) same;
  counts = subst (λ (s : BoxState). count_of old ≤ count_of s) (sym same) (omega arith);
  planned = subst (λ (s : BoxState). capped s.book.planned ≡ capped (old.book.planned + 0)) (sym same) (omega arith);
  told = subst (λ (s : BoxState). TellsAll old.account.told [] s.account.told) (sym same) (tells_none old.account.told);
}

-- an ask of the box number comes first
pub box_chain_ask : (old mid new : BoxState) (asked : AskFacts) (asks : List AskFacts)
    → BoxStep old asked mid → BoxChain mid asks new → BoxChain old (asked ∷ asks) new
box_chain_ask old mid new asked asks step rest = record {
  places = rw (step.place, rest.places, step.next_place) refl;
  next_place = rw (← step.next_place) rest.next_place;
  counts = (
    omega arith,
    (let falls : count_of old ≤ count_of mid = count_case old mid asked asked.planned step refl in omega arith),
    rw step.after rest.counts,
  );
  planned = planned_case old mid asked asks new.book.planned asked.planned step refl rest.planned;
  told = told_case old mid asked (filter (λ asked. not asked.planned) asks) new.account.told asked.planned step refl rest.told;
}

-- a plan is set first
pub box_chain_plan : (old mid new : BoxState) (asks : List AskFacts)
    → mid.account ≡ old.account → mid.book.next_place ≡ old.book.next_place → mid.book.planned ≡ old.book.planned
    → BoxChain mid asks new → BoxChain old asks new
box_chain_plan old mid new asks account place planned rest = record {
  places = rw (← place) rest.places;
  next_place = rw (← place) rest.next_place;
  counts = rw (← account, ← planned) rest.counts;
  planned = rw (← planned) rest.planned;
  told = rw (← account) rest.told;
}

-- an ask of the shelf comes first, of this box number or of another
pub made_case : (n : ℕ) (old mid : Shelf) (new : BoxState) (asked : AskFacts) (asks : List AskFacts) (here : Bool)
    → AskStep old asked mid → (asked.box_no == n) ≡ here → BoxChain (box_at mid n) asks new
    → BoxChain (box_at old n) (cond here (asked ∷ asks) asks) new
made_case n old mid new asked asks true step is rest =
    let own : BoxStep (box_at old n) asked (box_at mid n) =
    let P : ℕ → Type 0 = λ k. BoxStep (box_at old k) asked (box_at mid k) in
    subst P (eqb-true asked.box_no n is) step.box in
    box_chain_ask (box_at old n) (box_at mid n) new asked asks own rest
made_case n old mid new asked asks false step is rest =
    let other : n ≢ asked.box_no = λ e. eqb-false asked.box_no n is (sym e) in
    subst (λ (s : BoxState). BoxChain s asks new) (step.others n other) rest

-- a plan is set on the shelf first, of this box number or of another
pub set_case : (n : ℕ) (old mid : Shelf) (new : BoxState) (box_no : ℕ) (kind : Kind) (nth : ℕ) (asks : List AskFacts) (here : Bool)
    → PlanStep old box_no kind nth mid → (box_no == n) ≡ here → BoxChain (box_at mid n) asks new
    → BoxChain (box_at old n) asks new
set_case n old mid new box_no kind nth asks true step is rest =
    let own : PlanStep old n kind nth mid =
    subst (λ (k : ℕ). PlanStep old k kind nth mid) (eqb-true box_no n is) step in
    box_chain_plan (box_at old n) (box_at mid n) new asks own.account
    (ap (λ (b : Book). b.next_place) own.book) (ap (λ (b : Book). b.planned) own.book) rest
set_case n old mid new box_no kind nth asks false step is rest =
    let other : n ≢ box_no = λ e. eqb-false box_no n is (sym e) in
    subst (λ (s : BoxState). BoxChain s asks new) (step.others n other) rest

-- a chain at one box number
pub chain_at_box : ChainAtEachBox
chain_at_box old new [] n chain =
    box_chain_none (box_at old n) (box_at new n) (ap (λ (s : Shelf). box_at s n) chain)
chain_at_box old new (Made asked ∷ events) n chain =
    made_case n old chain.0 (box_at new n) asked (asks_of n (asks_in events)) (asked.box_no == n) chain.1 refl
    (chain_at_box chain.0 new events n chain.2)
chain_at_box old new (PlanSet box_no kind nth ∷ events) n chain =
    set_case n old chain.0 (box_at new n) box_no kind nth (asks_of n (asks_in events)) (box_no == n) chain.1 refl
    (chain_at_box chain.0 new events n chain.2)

-- the asks of a chain of asks are those asks
pub asks_made : (asks : List AskFacts) → asks_in (map Made asks) ≡ asks
asks_made [] = refl
asks_made (asked ∷ asks) = ap (λ (rest : List AskFacts). asked ∷ rest) (asks_made asks)

-- a chain of asks at one box number
pub ask_chain_at_box : AskChainAtEachBox
ask_chain_at_box old new asks n chain =
    let P : List AskFacts → Type 0 = λ made. BoxChain (box_at old n) (asks_of n made) (box_at new n) in
    subst P (asks_made asks) (chain_at_box old new (map Made asks) n chain)
