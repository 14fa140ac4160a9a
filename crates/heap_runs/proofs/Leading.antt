-- What a call of a context did, one thing more.
use Rattle.heap_runs.proofs.Words.{◌≡◌, ℕ, List, [], ◌∷◌, ◌++◌, Option, None, sym, refl, ap, ◌∙◌, subst, append_assoc, append-nil, All, All-append, All-nil, SharedShelf, Moment, Did, HasBox, IsAsPlanned, HaveNext, Led, asks_of, told_last, took_in, taken_in, asks_more, last_more, led_more, next_more, Ctx, SharedHeap, Gains, Runs, Steps, turns_of, AskFacts, counted_by, by_box, one_more, if◌then◌else◌, after, item_of}
use Rattle.deeds.specs.Dids.{told_by}
use Rattle.heap_runs.specs.Meets.{AllMeet, Meets}

pub took_more : (i : ℕ) (dids : List Did) (more : List Did) → took_in i (dids ++ more) ≡ took_in i dids ++ took_in i more
took_more i [] more = refl
took_more i (d ∷ dids) more = ap (λ l. taken_in i d ++ l) (took_more i dids more) ∙ sym (append_assoc (taken_in i d) (took_in i dids) (took_in i more))

pub counted_more : (refused : List ℕ) (asks more : List AskFacts) → counted_by (counted_by refused asks) more ≡ counted_by refused (asks ++ more)
counted_more refused [] more = refl
counted_more refused (a ∷ asks) more = counted_more (if by_box a then one_more a.box_no refused else refused) asks more

pub gains_more : {H : Type 0} (shelf : SharedShelf H) (heap : SharedHeap) (old mid new : Ctx) (dids more : List Did) → Gains shelf heap old mid dids → Gains shelf heap mid new more → Gains shelf heap old new (dids ++ more)
gains_more shelf heap old mid new dids more first later = record {
  client = later.client ∙ first.client;
  turns = λ i low. later.turns i low ∙ ap (λ l. l ++ took_in i more) (first.turns i low) ∙ append_assoc (turns_of heap old i) (took_in i dids) (took_in i more)
      ∙ ap (λ l. turns_of heap old i ++ l) (sym (took_more i dids more));
  asks = subst (λ l. HaveNext old.seat.places l new.seat.places) (sym (asks_more dids more)) (next_more old.seat.places (asks_of dids) (asks_of more) mid.seat.places new.seat.places first.asks later.asks);
  refused = later.refused ∙ ap (λ l. counted_by l (asks_of more)) first.refused ∙ counted_more old.seat.refused (asks_of dids) (asks_of more) ∙ ap (counted_by old.seat.refused) (sym (asks_more dids more));
  planned = subst (All (IsAsPlanned shelf)) (sym (asks_more dids more)) (All-append (IsAsPlanned shelf) (asks_of dids) (asks_of more) first.planned later.planned);
}

-- nothing was done
pub gains_none : {H : Type 0} (shelf : SharedShelf H) (heap : SharedHeap) (ctx : Ctx) → Gains shelf heap ctx ctx []
gains_none shelf heap ctx = record { client = refl; turns = λ i low. sym (append-nil (turns_of heap ctx i)); asks = refl; refused = refl; planned = All-nil (IsAsPlanned shelf) }

met_more : (c : ℕ) (at : Moment) (last : Option (ℕ × ℕ)) (dids : List Did) (from : Moment) (did : Did) → Led c at last dids from → AllMeet c at dids → Meets c from.stage.next did → AllMeet c at (dids ++ did ∷ [])
met_more c at last [] from did led met one = (subst (λ (m : Moment). Meets c m.stage.next did) led one, tt)
met_more c at last (d ∷ dids) from did led met one = (met.0, met_more c (after at (item_of d)) (told_by last d) dids from did led.1 met.1 one)

pub runs_more : {H : Type 0} (shelf : SharedShelf H) (heap : SharedHeap) (old mid new : Ctx) (at from to : Moment) (box box' : ℕ) → Runs shelf heap old mid at from box
    → ((last : Option (ℕ × ℕ)) → HasBox from.stage last box → Steps shelf heap mid new from last to box') → Runs shelf heap old new at to box'
runs_more shelf heap old mid new at from to box box' runs steps =
    let last = told_last None runs.dids in
    let step = steps last runs.box in record {
      dids = runs.dids ++ step.did ∷ [];
      led = led_more new.client at None runs.dids from step.did to (subst (λ c. Led c at None runs.dids from) (sym step.gains.client) runs.led) step.follows step.goes;
      met = met_more new.client at None runs.dids from step.did (subst (λ c. Led c at None runs.dids from) (sym step.gains.client) runs.led) (subst (λ c. AllMeet c at runs.dids) (sym step.gains.client) runs.met) step.meets;
      box = subst (λ l. HasBox to.stage l box') (sym (last_more None runs.dids step.did)) step.box;
      gains = gains_more shelf heap old mid new runs.dids (step.did ∷ []) runs.gains step.gains;
    }
