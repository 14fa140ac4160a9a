-- What a realloc leaves its client while others free regions of it: it goes as it would alone, of a client that held what others left it.
use Rattle.replay_run.proofs.Words.{◌≡◌, ◌≢◌, inl, inr, ℕ, true, List, [], ◌∷◌, ◌++◌, Option, None, Some, refl, sym, ◌∙◌, ap, subst, Op, Reply, AskFacts, Held, DeskFacts, held_at, not_holding, Answered, Region, Item, Replied, ToldItem, Request, Point, Go, Ends, Moment, after, begin, WantAsk, WantTurn, want, is_marked}
use Rattle.std.proofs.lemmas.List.Elements.{Contains-append_left}
use Rattle.std.specs.Prelude.{nat_eq}
use Rattle.std.specs.Map.{lookup}
use Rattle.indexmap.specs.IndexMap.{insert_entry}
use Rattle.call_plan.specs.Clients.{holding}
use Rattle.call_plan.specs.Items.{Starved as FoundNoMemory}
use Rattle.call_plan.specs.Stages.{Stage}
use Rattle.call_plan.specs.declared.needs.Answered.TheVariants.{Ok, NoMemory, TooLarge}
use Rattle.call_plan.specs.declared.needs.Request.TheVariants.{Realloc}
use Rattle.deeds.proofs.Boxes.{asks_there, box_after, box_asked, box_lacked}
use Rattle.deeds.proofs.Leading.{last_more, led_more}
use Rattle.deeds.proofs.Reallocs.{reallocs-leave as calls-leave}
use Rattle.deeds.specs.Dids.{Did, Asked, Follows, HasBox, IsCall, IsWanted as IsWantedBy, IsWantedAt, Lacked, Led, Took, asks_next, deed_of, item_of, told_by, told_last}
use Rattle.deeds.specs.Reallocs.{AfterRealloc, AfterReallocOf, Remains, Rests}
use Rattle.replay_run.proofs.Holding.{Parts, insert_found, insert_others, insert_removed}
use Rattle.replay_run.proofs.Unheld.{after_apart, with_held}
use Rattle.replay_run.proofs.Ways.{Leads}
use Rattle.replay_run.specs.Reallocs.{IsLeftAt, IsStillHeld, ReallocLeaves}

-- ---- what is held, address by address

pub left_on : (freed : List ℕ) (had own has : DeskFacts) (at : ℕ) → held_at at has ≡ held_at at own → IsLeftAt freed had own at → IsLeftAt freed had has at
left_on freed had own has at same (inl stays) = inl (same ∙ stays)
left_on freed had own has at same (inr gone) = inr (gone.0, same ∙ gone.1)

-- where more were freed
pub left_more : (freed more : List ℕ) (had own : DeskFacts) (at : ℕ) → IsLeftAt freed had own at → IsLeftAt (freed ++ more) had own at
left_more freed more had own at (inl stays) = inl stays
left_more freed more had own at (inr gone) = inr (Contains-append_left freed more at gone.0, gone.1)

-- one more region is held
held_with : (region : Held) (base own : DeskFacts) → own.held ≡ (holding region base).held → (held_at region.addr own ≡ Some region) × ((at : ℕ) → at ≢ region.addr → held_at at own ≡ held_at at base)
held_with region base own holds = (
  ap (lookup (nat_eq region.addr)) holds ∙ insert_found region.addr region base.held,
  λ at other. ap (lookup (nat_eq at)) holds ∙ insert_others region.addr region base.held at other,
)

-- what one call by itself leaves of what its client had, where others left this of what that held before
module _ (addr size : ℕ) (old : Held) (freed : List ℕ) (had start own : DeskFacts) (found : held_at addr start ≡ Some old) (keyed : old.addr ≡ addr) (parts : Parts addr start)
    (others : (at : ℕ) → at ≢ addr → IsLeftAt freed had start at) (cached : start.cached ≡ had.cached) where
  still_held : Remains addr old start own → IsStillHeld addr old freed had own
  still_held remains =
      let new = held_with old (not_holding addr start) own remains.holds in record {
        holds = subst (λ a. held_at a own ≡ Some old) keyed new.0;
        others = λ at other. left_on freed had start own at (new.1 at (λ same. other (same ∙ keyed)) ∙ parts.stays at other) (others at other);
        cached = remains.cached ∙ cached;
      }

  pub after_leaves : (answer : Answered) → AfterRealloc addr size old start answer own → ReallocLeaves addr size old freed had answer own
  after_leaves (Ok (Region new class)) (sized, put) =
      let now = held_with put.region (not_holding addr start) own put.holds in (
        sized,
        record {
          region = put.region;
          there = put.there;
          sized = put.sized;
          holds = subst (λ a. held_at a own ≡ Some put.region) put.there now.0;
          gone = λ other. now.1 addr (λ same. other (sym (same ∙ put.there))) ∙ parts.gone;
          others = λ at other differ. left_on freed had start own at (now.1 at (λ same. differ (same ∙ put.there)) ∙ parts.stays at other) (others at other);
        },
      )
  after_leaves (Ok given) says = absurd says
  after_leaves TooLarge (large, same) = (
    large,
    record {
      holds = ap (held_at addr) same ∙ found;
      others = λ at other. left_on freed had start own at (ap (held_at at) same) (others at other);
      cached = ap (λ (d : DeskFacts). d.cached) same ∙ cached;
    },
  )
  after_leaves NoMemory (inl remains) = inl (still_held remains)
  after_leaves NoMemory (inr both) =
      let base : DeskFacts = holding old (not_holding addr start) in
      let now = held_with both.region base own both.holds in
      let past = held_with old (not_holding addr start) base refl in
      inr (record {
        region = both.region;
        sized = both.sized;
        holds = now.0;
        still = λ differ. now.1 addr (λ same. differ (sym same)) ∙ subst (λ a. held_at a base ≡ Some old) keyed past.0;
        others = λ at other differ. left_on freed had start own at (now.1 at differ ∙ past.1 at (λ same. other (same ∙ keyed)) ∙ parts.stays at other) (others at other);
      })
  after_leaves answer says = still_held says

-- ---- a call alone

-- what a client had that held these regions and the one to be resized
abbrev pub had_with : ℕ → Held → DeskFacts → List (ℕ × Held) → DeskFacts
had_with addr old had held = with_held (insert_entry nat_eq held addr old) had

-- An open realloc has come to a stage. Its client holds nothing at the address meanwhile, and at each other one what others left
-- it. The turns and asks of the call would have led there too, if it had held any other regions beside the one to be resized.
pub record Reached (c addr size : ℕ) (old : Held) (had : DeskFacts) (freed : List ℕ) (own : DeskFacts) (stage : Stage) : Type 0 where
  pub rests : Rests had
  pub found : held_at addr had ≡ Some old
  pub keyed : old.addr ≡ addr
  pub none : held_at addr own ≡ None
  pub left : (at : ℕ) → at ≢ addr → IsLeftAt freed had own at
  pub led : (held : List (ℕ × Held)) → lookup (nat_eq addr) held ≡ None → (box_no : ℕ) → (dids : List Did)
      × Led c (begin (Realloc addr size) (had_with addr old had held)) None dids (record { request = Realloc addr size; desk = with_held held own; stage = stage })
      × HasBox stage (told_last None dids) box_no

-- what a call is fed at a stage is of something that it does there, whichever box its turn tells
abbrev pub Feeds : ℕ → Stage → Item → Type 0
Feeds c stage item = (box_no : ℕ) → (before : ℕ) × ((request : Request) (desk : DeskFacts) (last : Option (ℕ × ℕ)) → HasBox stage last before → (did : Did) × (item_of did ≡ item)
    × Follows c (record { request = request; desk = desk; stage = stage }) last did × HasBox (after (record { request = request; desk = desk; stage = stage }) item).stage (told_by last did) box_no)

pub turn_feeds : (c : ℕ) (stage : Stage) (point : Point) (op : Op) (asked : Option AskFacts) (reply : Reply) → stage.next ≡ Go point → want point ≡ WantTurn op asked → Feeds c stage (Replied reply)
turn_feeds c stage point op asked reply at wants box_no =
    let did : Did = Took stage.arena (deed_of c (record { op = op; asked = asked }) None) (record { reply = reply; box_no = box_no }) in
    let wanted : IsWantedAt c stage.arena stage.next did = subst (λ n. IsWantedAt c stage.arena n did) (sym at) (subst (λ x. IsWantedBy c stage.arena x did) (sym wants) (refl, (None, refl))) in
    (0, λ request desk last has. (did, refl, record { wanted = wanted; box = tt }, box_after (record { request = request; desk = desk; stage = stage }) (Replied reply) box_no))

pub ask_feeds : (c : ℕ) (stage : Stage) (point : Point) (asked : AskFacts) → stage.next ≡ Go point → want point ≡ WantAsk asked.ask → Feeds c stage (ToldItem asked)
ask_feeds c stage point asked at wants box_no =
    let did : Did = Asked stage.arena asked in
    let wanted : IsWantedAt c stage.arena stage.next did = subst (λ n. IsWantedAt c stage.arena n did) (sym at) (subst (λ x. IsWantedBy c stage.arena x did) (sym wants) (refl, refl)) in (
      asked.box_no,
      λ request desk last has. (
        did,
        refl,
        record { wanted = wanted; box = has (ap asks_next at ∙ asks_there point asked.ask wants) },
        box_asked (record { request = request; desk = desk; stage = stage }) point asked.ask asked last box_no at wants,
      ),
    )

pub lack_feeds : (c : ℕ) (stage : Stage) (point : Point) (op : Op) (asked : Option AskFacts) → stage.next ≡ Go point → want point ≡ WantTurn op asked → is_marked op ≡ true → Feeds c stage FoundNoMemory
lack_feeds c stage point op asked at wants marked box_no =
    let wanted : IsWantedAt c stage.arena stage.next Lacked = subst (λ n. IsWantedAt c stage.arena n Lacked) (sym at) (subst (λ x. IsWantedBy c stage.arena x Lacked) (sym wants) marked) in
    (0, λ request desk last has. (Lacked, refl, record { wanted = wanted; box = tt }, box_lacked (record { request = request; desk = desk; stage = stage }) point last box_no at))

led_push : (c : ℕ) (start at : Moment) (item : Item) → Feeds c at.stage item → ((box_no : ℕ) → (dids : List Did) × Led c start None dids at × HasBox at.stage (told_last None dids) box_no) →
    (box_no : ℕ) → (dids : List Did) × Led c start None dids (after at item) × HasBox (after at item).stage (told_last None dids) box_no
led_push c start at item feeds led box_no =
    let feed = feeds box_no in
    let past = led feed.0 in
    let more = feed.1 at.request at.desk (told_last None past.0) past.2 in (
      past.0 ++ more.0 ∷ [],
      led_more c start None past.0 at more.0 (after at item) past.1 more.2 (sym (ap (after at) more.1)),
      subst (λ last. HasBox (after at item).stage last box_no) (sym (last_more None past.0 more.0)) more.3,
    )

module _ (c addr size : ℕ) (old : Held) (had : DeskFacts) (freed : List ℕ) (own : DeskFacts) (stage : Stage) (item : Item) (feeds : Feeds c stage item) (so : Reached c addr size old had freed own stage) where
  -- the call goes on
  pub step_open : (point : Point) → Leads (Realloc addr size) stage.next → let one : Moment = after (record { request = Realloc addr size; desk = own; stage = stage }) item in
      one.stage.next ≡ Go point → Reached c addr size old had freed one.desk one.stage
  step_open point leads goes =
      let one : Moment = after (record { request = Realloc addr size; desk = own; stage = stage }) item in
      let apart = after_apart addr size stage own item point leads goes in record {
        rests = so.rests;
        found = so.found;
        keyed = so.keyed;
        none = ap (lookup (nat_eq addr)) apart.0 ∙ so.none;
        left = λ at other. left_on freed had own one.desk at (ap (lookup (nat_eq at)) apart.0) (so.left at other);
        led = λ held none box_no.
            let start : Moment = begin (Realloc addr size) (had_with addr old had held) in
            subst (λ (m : Moment). (dids : List Did) × Led c start None dids m × HasBox m.stage (told_last None dids) box_no) (apart.1 held)
            (led_push c start (record { request = Realloc addr size; desk = with_held held own; stage = stage }) item feeds (so.led held none) box_no);
      }

  -- or it ends
  pub step_ends : (answer : Answered) → let one : Moment = after (record { request = Realloc addr size; desk = own; stage = stage }) item in
      one.stage.next ≡ Ends answer → ReallocLeaves addr size old freed had answer one.desk
  step_ends answer ends =
      let one : Moment = after (record { request = Realloc addr size; desk = own; stage = stage }) item in
      let start : DeskFacts = had_with addr old had own.held in
      let led = led_push c (begin (Realloc addr size) start) (record { request = Realloc addr size; desk = own; stage = stage }) item feeds (so.led own.held so.none) 0 in
      let call : IsCall c start (Realloc addr size) led.0 answer one.desk = record { last = one; led = led.1; ends = ends; leaves = refl } in
      let rests : Rests start = record { hand = so.rests.hand; gained = so.rests.gained; swapped = so.rests.swapped } in
      let removed = insert_removed addr old own.held so.none in
      let parts : Parts addr start = record {
        gone = ap (lookup (nat_eq addr)) removed ∙ so.none;
        stays = λ at other. ap (lookup (nat_eq at)) removed ∙ sym (insert_others addr old own.held at other);
      } in
      let found : held_at addr start ≡ Some old = insert_found addr old own.held in
      after_leaves addr size old freed had start one.desk found so.keyed parts (λ at other. left_on freed had own start at (insert_others addr old own.held at other) (so.left at other)) refl answer
      (subst (λ o. AfterReallocOf addr size o start answer one.desk) found (calls-leave c start addr size led.0 answer one.desk rests call))
