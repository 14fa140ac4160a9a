-- What a call did, one thing more.
use Rattle.std.proofs.Common.{◌≡◌, ℕ, List, [], ◌∷◌, ◌++◌, Option, refl, ap, ◌∙◌, subst, ◌+◌}
use Rattle.std.specs.Prelude.{slice_index, slice_set}
use Rattle.hook_api.specs.Asked.{AskFacts}
use Rattle.hook_api.specs.Counts.{capped}
use Rattle.call_plan.specs.Runs.{Moment, after}
use Rattle.deeds.specs.Dids.{Did, Took, Asked, Lacked, Follows, HaveNext, Led, asks_of, item_of, told_by, told_last}

pub led_more : (c : ℕ) (at : Moment) (last : Option (ℕ × ℕ)) (dids : List Did) (mid : Moment) (did : Did) (new : Moment) → Led c at last dids mid → Follows c mid (told_last last dids) did → new ≡ after mid (item_of did) →
    Led c at last (dids ++ did ∷ []) new
led_more c at last [] mid did new led follows goes = (subst (λ (m : Moment). Follows c m last did) led follows, goes ∙ ap (λ (m : Moment). after m (item_of did)) led)
led_more c at last (d ∷ dids) mid did new led follows goes = (led.0, led_more c (after at (item_of d)) (told_by last d) dids mid did new led.1 follows goes)

pub last_more : (last : Option (ℕ × ℕ)) (dids : List Did) (did : Did) → told_last last (dids ++ did ∷ []) ≡ told_by (told_last last dids) did
last_more last [] did = refl
last_more last (d ∷ dids) did = last_more (told_by last d) dids did

pub asks_more : (dids more : List Did) → asks_of (dids ++ more) ≡ asks_of dids ++ asks_of more
asks_more [] more = refl
asks_more (Asked arena asked ∷ dids) more = ap (λ l. asked ∷ l) (asks_more dids more)
asks_more (Took arena deed told ∷ dids) more = asks_more dids more
asks_more (Lacked ∷ dids) more = asks_more dids more

pub next_more : (old : List ℕ) (asks more : List AskFacts) (mid new : List ℕ) → HaveNext old asks mid → HaveNext mid more new → HaveNext old (asks ++ more) new
next_more old [] more mid new first later = subst (λ (places : List ℕ). HaveNext places more new) first later
next_more old (a ∷ asks) more mid new first later = (first.0, next_more (slice_set old a.box_no (capped (slice_index old a.box_no + 1))) asks more mid new first.1 later)
