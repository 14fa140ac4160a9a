-- A worker knows what it has to know of the names: those that its own calls have.
use Rattle.std.proofs.Common.{◌≡◌, ◌∙◌, ℕ, Bool, true, false, cond, ◌||◌, List, [], ◌∷◌, Option, None, Some, refl, sym, ap, subst}
use Rattle.std.specs.List.{AllByRecursion, list_any}
use Rattle.std.specs.Str.{bytes_eq}
use Rattle.call_plan.specs.declared.needs.Answered.{Answered}
use Rattle.call_plan.specs.declared.needs.Answered.TheVariants as answered
use Rattle.call_plan.specs.declared.needs.Given.TheVariants as given
use Rattle.call_plan.specs.declared.needs.Request.{Request}
use Rattle.call_plan.specs.declared.needs.Request.TheVariants as request
use Rattle.call_plan.specs.Clients.{DeskFacts, held_at}
use Rattle.thread_cache.specs.declared.Held.{Held}
use Rattle.trace_phase.specs.Apart.{AllApart, AreApart, names_it}
use Rattle.trace_phase.specs.declared.parts.PhaseCall.{PhaseCall}
use Rattle.trace_phase.specs.declared.parts.Work.{Work}
use Rattle.trace_phase.specs.declared.parts.PhaseCall.TheVariants.{Malloc, Memalign, Free, Publish, Take, Flush, Purge, Decay}
use Rattle.phase_run.specs.declared.names.Place.{Place}
use Rattle.phase_run.specs.Names.{named, place_in}
use Rattle.phase_run.specs.Requests.{binds, bound_by, bound_to, names_after, place_of, request_of}
use Rattle.phase_run.specs.Walks.{AgreeOn, WalksLines, WorkAtOnce, WorkInTurn, Worker}
use Rattle.phase_run.proofs.Places.{name_same, place_named, same_name}

-- ---- one call

-- its request is the same where its name lies at the same place
request_same : (now : ℕ) (names others : List (List ℕ × Place)) (call : PhaseCall) → ((name : List ℕ) → names_it name call ≡ true → place_in names name ≡ place_in others name)
    → request_of now names call ≡ request_of now others call
request_same now names others (Malloc name size) same = refl
request_same now names others (Memalign name align size) same = refl
request_same now names others (Free name) same = ap (λ (p : Place). request.Free p.addr) (same name (name_same name))
request_same now names others (Publish name) same = ap (λ (p : Place). request.Publish p.addr) (same name (name_same name))
request_same now names others (Take name) same = ap (λ (p : Place). request.Take p.addr p.arena) (same name (name_same name))
request_same now names others Flush same = refl
request_same now names others (Purge arena) same = refl
request_same now names others (Decay arena) same = refl

-- what it binds is the same whatever was bound before
abbrev put : List (List ℕ × Place) → Option (List ℕ × Place) → List (List ℕ × Place)
put names None = names
put names (Some (name, place)) = named names name place

abbrev bound_at : List ℕ → Option Held → Option (List ℕ × Place)
bound_at name None = None
bound_at name (Some region) = Some (name, place_of region)

abbrev bound : Option (List ℕ) → Answered → DeskFacts → Option (List ℕ × Place)
bound (Some name) (answered.Ok (given.Region addr class)) desk = bound_at name (held_at addr desk)
bound name answer desk = None

abbrev OwnsIt : PhaseCall → Option (List ℕ × Place) → Type 0
OwnsIt call None = Unit {0}
OwnsIt call (Some (name, place)) = names_it name call ≡ true

put_at : (names : List (List ℕ × Place)) (name : List ℕ) (region : Option Held) → bound_to names name region ≡ put names (bound_at name region)
put_at names name None = refl
put_at names name (Some region) = refl

put_by : (names : List (List ℕ × Place)) (name : Option (List ℕ)) (answer : Answered) (desk : DeskFacts) → bound_by names name answer desk ≡ put names (bound name answer desk)
put_by names None answer desk = refl
put_by names (Some name) (answered.Ok (given.Region addr class)) desk = put_at names name (held_at addr desk)
put_by names (Some name) answer desk = refl

own_at : (call : PhaseCall) (name : List ℕ) (region : Option Held) → names_it name call ≡ true → OwnsIt call (bound_at name region)
own_at call name None is = tt
own_at call name (Some region) is = is

own_by : (call : PhaseCall) (name : Option (List ℕ)) (answer : Answered) (desk : DeskFacts) → ((own : List ℕ) → name ≡ Some own → names_it own call ≡ true) → OwnsIt call (bound name answer desk)
own_by call None answer desk is = tt
own_by call (Some name) (answered.Ok (given.Region addr class)) desk is = own_at call name (held_at addr desk) (is name refl)
own_by call (Some name) answer desk is = tt

binds_own : (call : PhaseCall) (own : List ℕ) → binds call ≡ Some own → names_it own call ≡ true
binds_own (Malloc name size) own is = let same : name ≡ own = cc in subst (λ n. bytes_eq own n ≡ true) (sym same) (name_same own)
binds_own (Memalign name align size) own is = let same : name ≡ own = cc in subst (λ n. bytes_eq own n ≡ true) (sym same) (name_same own)
binds_own (Free name) own is = absurd cc
binds_own (Publish name) own is = absurd cc
binds_own (Take name) own is = absurd cc
binds_own Flush own is = absurd cc
binds_own (Purge arena) own is = absurd cc
binds_own (Decay arena) own is = absurd cc

-- names that agree on a name still do, and where it is no name of the call it lies where it lay
put_agrees : (names others : List (List ℕ × Place)) (what : Option (List ℕ × Place)) (name : List ℕ) → place_in names name ≡ place_in others name → place_in (put names what) name ≡ place_in (put others what) name
put_agrees names others None name same = same
put_agrees names others (Some (own, place)) name same =
    place_named name own place names ∙ ap (λ (p : Place). cond (bytes_eq name own) place p) same ∙ sym (place_named name own place others)

put_keeps : (names : List (List ℕ × Place)) (call : PhaseCall) (what : Option (List ℕ × Place)) (name : List ℕ) → OwnsIt call what → names_it name call ≡ false → place_in (put names what) name ≡ place_in names name
put_keeps names call None name own other = refl
put_keeps names call (Some (mine, place)) name own other = by (bytes_eq name mine) refl
  where
    by : (b : Bool) → bytes_eq name mine ≡ b → place_in (named names mine place) name ≡ place_in names name
    by true is = let no : true ≡ false = sym (subst (λ n. names_it n call ≡ true) (sym (same_name name mine is)) own) ∙ other in absurd cc
    by false is = place_named name mine place names ∙ ap (λ b. cond b place (place_in names name)) is

after_keeps : (names : List (List ℕ × Place)) (call : PhaseCall) (answer : Answered) (desk : DeskFacts) (name : List ℕ) → names_it name call ≡ false → place_in (names_after names call answer desk) name ≡ place_in names name
after_keeps names call answer desk name other =
    ap (λ ns. place_in ns name) (put_by names (binds call) answer desk) ∙ put_keeps names call (bound (binds call) answer desk) name (own_by call (binds call) answer desk (binds_own call)) other

neither_first : (a b : Bool) → (a || b) ≡ false → a ≡ false
neither_first true b is = is
neither_first false b is = refl

neither_rest : (a b : Bool) → (a || b) ≡ false → b ≡ false
neither_rest true b is = absurd cc
neither_rest false b is = is

-- ---- all calls

-- What is known behind calls: two lists of names tell the same of what they told the same of, and a name that no call has lies
-- where it lay.
pub record Behind (calls : List PhaseCall) (names others names' others' : List (List ℕ × Place)) : Type 0 where
  pub same : (name : List ℕ) → place_in names name ≡ place_in others name → place_in names' name ≡ place_in others' name
  pub kept : (name : List ℕ) → list_any (names_it name) calls ≡ false → (place_in names' name ≡ place_in names name) × (place_in others' name ≡ place_in others name)

module _ {D : Type 0} (asked : D → Request) (told : D → Answered) (IsDone : DeskFacts → D → DeskFacts → Type 0) where
  -- names that agree on the calls lead a worker the same way, and agree behind it on what they agreed on before
  pub walk_agrees : (now : ℕ) (names others : List (List ℕ × Place)) (had : DeskFacts) (calls : List PhaseCall) (dones : List D) (has : DeskFacts) (names' : List (List ℕ × Place)) → AgreeOn calls names others
      → WalksLines asked told IsDone now names had calls dones has names'
      → (others' : List (List ℕ × Place)) × WalksLines asked told IsDone now others had calls dones has others' × Behind calls names others names' others'
  walk_agrees now names others had [] [] has names' agree walk = (others, (walk.0, refl), record { same = λ name same. ap (λ ns. place_in ns name) walk.1 ∙ same; kept = λ name other. (ap (λ ns. place_in ns name) walk.1, refl) })
  walk_agrees now names others had [] (done ∷ dones) has names' agree walk = absurd walk
  walk_agrees now names others had (call ∷ calls) [] has names' agree walk = absurd walk
  walk_agrees now names others had (call ∷ calls) (done ∷ dones) has names' agree walk =
      let mid = walk.0 in
      let what = bound (binds call) (told done) mid in
      let ours = names_after names call (told done) mid in
      let theirs = names_after others call (told done) mid in
      let still : (name : List ℕ) → place_in names name ≡ place_in others name → place_in ours name ≡ place_in theirs name =
      λ name same. ap (λ ns. place_in ns name) (put_by names (binds call) (told done) mid) ∙ put_agrees names others what name same ∙ sym (ap (λ ns. place_in ns name) (put_by others (binds call) (told done) mid)) in
      let later = walk_agrees now ours theirs mid calls dones has names'
      (λ name is. still name (agree name (either (names_it name call) is))) walk.3 in (
        later.0,
        (mid, walk.1 ∙ request_same now names others call (λ name is. agree name (ap (λ b. b || list_any (names_it name) calls) is)), walk.2, later.1),
        record {
          same = λ name same. later.2.same name (still name same);
          kept = λ name other.
              let first = neither_first (names_it name call) (list_any (names_it name) calls) other in
              let rest = later.2.kept name (neither_rest (names_it name call) (list_any (names_it name) calls) other) in
              (rest.0 ∙ after_keeps names call (told done) mid name first, rest.1 ∙ after_keeps others call (told done) mid name first);
        },
      )
    where
      either : (a : Bool) {b : Bool} → b ≡ true → (a || b) ≡ true
      either true is = refl
      either false is = is

-- ---- all workers

-- names that no call of one client has lie where they lay, so the others' own names tell of their calls what those of the phase
-- tell behind it
agree_behind : (work other : Work) (own names mid : List (List ℕ × Place)) → AreApart work other → ((name : List ℕ) → list_any (names_it name) work.calls ≡ false → place_in mid name ≡ place_in names name)
    → AgreeOn other.calls own names → AgreeOn other.calls own mid
agree_behind work other own names mid apart kept agree name has = agree name has ∙ sym (kept name (by (list_any (names_it name) work.calls) refl))
  where
    by : (b : Bool) → list_any (names_it name) work.calls ≡ b → list_any (names_it name) work.calls ≡ false
    by true is = absurd (apart.names name is has)
    by false is = is

module _ {D : Type 0} (asked : D → Request) (told : D → Answered) (IsDone : ℕ → DeskFacts → D → DeskFacts → Type 0) where
  at_once_behind : (now : ℕ) (work : Work) (names mid : List (List ℕ × Place)) → ((name : List ℕ) → list_any (names_it name) work.calls ≡ false → place_in mid name ≡ place_in names name)
      → (works : List Work) (workers : List (Worker D)) → AllByRecursion (AreApart work) works → WorkAtOnce asked told IsDone now names works workers → WorkAtOnce asked told IsDone now mid works workers
  at_once_behind now work names mid kept [] [] apart at_once = tt
  at_once_behind now work names mid kept [] (worker ∷ workers) apart at_once = absurd at_once
  at_once_behind now work names mid kept (other ∷ works) [] apart at_once = absurd at_once
  at_once_behind now work names mid kept (other ∷ works) (worker ∷ workers) apart at_once =
      let own = at_once.0.0 in
      ((own, at_once.0.1, agree_behind work other own names mid apart.0 kept at_once.0.2, at_once.0.3), at_once_behind now work names mid kept works workers apart.1 at_once.1)

  -- the order of the workers of a phase doesn't matter: where no name stands in the calls of two clients, they did beside each
  -- other what they do one behind the other
  pub in_turn : (now : ℕ) (names : List (List ℕ × Place)) (works : List Work) (workers : List (Worker D)) → AllApart works → WorkAtOnce asked told IsDone now names works workers
      → (names' : List (List ℕ × Place)) × WorkInTurn asked told IsDone now names works workers names'
  in_turn now names [] [] apart at_once = (names, refl)
  in_turn now names [] (worker ∷ workers) apart at_once = absurd at_once
  in_turn now names (work ∷ works) [] apart at_once = absurd at_once
  in_turn now names (work ∷ works) (worker ∷ workers) apart at_once =
      let one = at_once.0 in
      let walked = walk_agrees asked told (IsDone work.client) now one.0 names worker.had work.calls worker.calls worker.has one.1 one.2 one.3 in
      let mid = walked.0 in
      let kept : (name : List ℕ) → list_any (names_it name) work.calls ≡ false → place_in mid name ≡ place_in names name = λ name other. (walked.2.kept name other).1 in
      let later = in_turn now mid works workers apart.1 (at_once_behind now work names mid kept works workers apart.0 at_once.1) in
      (later.0, (mid, walked.1, later.1))
