-- A valid call of a run of threads is served, unless a hook refused what it needed or answered wrongly.
use Rattle.std.proofs.Common.{◌≡◌, ◌∙◌, inl, inr, ℕ, ◌-◌, ◌<◌, ◌++◌, ◌∷◌, [], ◌||◌, Bool, true, false, List, Option, None, Some, refl, sym, ap, subst, arith, filter, map, nat_lt, length}
use Rattle.std.specs.List.{Contains, list_any}
use Rattle.std.specs.Option.{option_map, option_map_or}
use Rattle.std.specs.Prelude.{slice_index_or}
use Rattle.std.proofs.lemmas.List.Elements.{Contains-append_right}
use Rattle.arena_core.specs.Arenas.{entry_of}
use Rattle.call_plan.proofs.Reasons.{answers-have_causes}
use Rattle.call_plan.specs.Causes.{AllCame, BadCause, Came, CauseOf, RefusedCause}
use Rattle.call_plan.specs.Clients.{DeskFacts}
use Rattle.call_plan.specs.Desks.{desk_fed, meant, ready}
use Rattle.call_plan.specs.Items.{Item, Replied, Starved, Told as Heard}
use Rattle.call_plan.specs.Knows.{Knows, is_served}
use Rattle.call_plan.specs.Laws.{Moves, with_found}
use Rattle.call_plan.specs.Runs.{Moment, after, begin, settle}
use Rattle.call_plan.specs.Stages.{Ends, Go, Next, Point, Turns}
use Rattle.call_plan.specs.Table.{Want, WantAsk, WantTurn, step, want}
use Rattle.call_plan.specs.declared.needs.Answered.{Answered}
use Rattle.call_plan.specs.declared.needs.Answered.TheVariants.{Ok, Refused, BadAnswer, NoMemory, NotHeld, NoArena as NoSuchArena}
use Rattle.call_plan.specs.declared.needs.Request.{Request}
use Rattle.call_plan.specs.declared.needs.Request.TheVariants.{Malloc, Memalign, Free, Publish, Take, Flush, Cache, Purge, Decay, Time, Create, Bind}
use Rattle.call_plan.specs.declared.points.TurnPoint.TheVariants.{Filling, Looking, Owning}
use Rattle.deeds.specs.Dids.{Asked, Did, IsWanted, IsWantedAt, Lacked, Led, Took, item_of, told_by}
use Rattle.deeds.specs.declared.deeds.Deed.{Deed}
use Rattle.deeds.specs.declared.deeds.Told.{Told}
use Rattle.heap_runs.proofs.Columns.{get_some}
use Rattle.heap_runs.specs.Deals.{no_desk}
use Rattle.heap_runs.specs.Meets.{AllMeet, Meets, TurnMeets}
use Rattle.heap_runs.specs.Walks.{Done, dids_of}
use Rattle.heap_runs.specs.Ways.{took_in}
use Rattle.chunk_table.specs.declared.table.ChunkBook.{ChunkBook}
use Rattle.hook_api.specs.Hooks.{Answers}
use Rattle.hook_api.specs.declared.kept.Journal.{Journal}
use Rattle.hook_api.specs.declared.orders.Orders.{Orders}
use Rattle.phase_run.specs.Shifts.{IsMade}
use Rattle.phase_run.specs.Stands.{Stand, desk_in}
use Rattle.phase_run.specs.Threads.{AreCarried}
use Rattle.recorded_arena.specs.Records.{entries_of, opening_space}
use Rattle.replay_run.proofs.Getting.{PointGets}
use Rattle.replay_run.proofs.Served.{none_yet, region_live, untaken}
use Rattle.replay_run.proofs.Truths.{not_live}
use Rattle.replay_run.proofs.Ways.{CanGo, Leads, OwnsAt, begin_leads, no_arena_at, no_arena_reply, not_held_at}
use Rattle.replay_run.specs.Served.{IsHelped, IsMetBy, MayCome, Serves}
use Rattle.space_model.proofs.Pieces.{both_true}
use Rattle.space_model.proofs.Steps.{op_goes}
use Rattle.space_model.specs.Clients.{is_in}
use Rattle.space_model.specs.Holding.{is_published_at}
use Rattle.space_model.specs.Own.{mine}
use Rattle.space_model.specs.Region.{is_held_by}
use Rattle.space_model.specs.Sound.{IsQuiet, Sound}
use Rattle.space_model.specs.Step.{is_live, reply_to, stands, step_of}
use Rattle.space_model.specs.declared.Life.{Life}
use Rattle.space_model.specs.declared.Life.TheVariants.{Absent, Dying, Live}
use Rattle.space_model.specs.declared.Op.{Op}
use Rattle.space_model.specs.declared.Op.TheVariants.{TakeOver}
use Rattle.space_model.specs.declared.Reply.{Reply}
use Rattle.space_model.specs.declared.Reply.TheVariants.{Bad, NoArena, Nothing}
use Rattle.space_model.specs.declared.Space.{Space}
use Rattle.space_model.specs.declared.entries.Entry.{Entry}
use Rattle.trace_phase.specs.declared.parts.Part.{Part}
use Rattle.jarena.proofs.Ended.{heard_ends, last_of, starved_ends, turned_is}
use Rattle.jarena.proofs.TurnsMet.{IsTold, opening_sound, told_last_turn}
use Rattle.jarena.proofs.Walked.{MadeFrom, client_made, led_runs, made_behind}
use Rattle.jarena.specs.Served.{AllServed, IsServedCall, IsValidCall, MeetsNeeded, desk_behind, entries_in, items_of, met_behind, met_by, met_last, turned_last}

-- ---- what came of what a call did

came_at : (c arena : ℕ) (w : Want) (point : Point) (did : Did) → IsWanted c arena w did → Meets c (Go point) did → (s : Space) × (t : Space) × Sound s × Moves c s w (item_of did) t
came_at c arena (WantTurn op asked) point (Took a deed told) wanted meets =
    let chunk = wanted.1.0 in
    let same = ap (λ (d : Deed). (step_of meets.space c d.op).reply) wanted.1.1 in
    (meets.space, (step_of meets.space c (with_found chunk op)).after, meets.sound, (chunk, refl, meets.reply ∙ same))
came_at c arena (WantTurn op asked) point Lacked wanted meets = (opening_space 0, opening_space 0, opening_sound 0, (wanted, refl))
came_at c arena (WantTurn op asked) point (Asked a told) wanted meets = absurd wanted
came_at c arena (WantAsk ask) point (Asked a asked) wanted meets = (opening_space 0, opening_space 0, opening_sound 0, (wanted.1, subst (λ k. Answers k asked.answer) wanted.1 meets, refl))
came_at c arena (WantAsk ask) point (Took a deed told) wanted meets = absurd wanted
came_at c arena (WantAsk ask) point Lacked wanted meets = absurd wanted

came_one : (c arena : ℕ) (next : Next) (did : Did) → IsWantedAt c arena next did → Meets c next did → Came c next (item_of did)
came_one c arena (Go point) did wanted meets = came_at c arena (want point) point did wanted meets
came_one c arena next did wanted meets = absurd wanted

came_all : (c : ℕ) (at : Moment) (last : Option (ℕ × ℕ)) (dids : List Did) (new : Moment) → Led c at last dids new → AllMeet c at dids → AllCame c at (map item_of dids)
came_all c at last [] new led met = tt
came_all c at last (did ∷ dids) new led met = (came_one c at.stage.arena at.stage.next did led.0.wanted met.0, came_all c (after at (item_of did)) (told_by last did) dids new led.1 met.1)

caused : (c : ℕ) (had : DeskFacts) (done : Done) (has : DeskFacts) → IsMade c had done has → CauseOf had done.request (items_of done) done.answer
caused c had done has made =
    answers-have_causes c done.request had (items_of done) done.answer (came_all c (begin done.request had) None done.dids made.0.last made.0.led made.2)
    (subst (λ (m : Moment). m.stage.next ≡ Ends done.answer) (led_runs c (begin done.request had) None done.dids made.0.last made.0.led) made.0.ends)

-- ---- arenas that serve somebody are live

dead_live : (b : Bool) → b ≡ true → b ≡ false → ⊥
dead_live b is not = absurd cc

served_live : (s : Space) (c : ℕ) → Sound s → is_served (mine c s) ≡ true → is_live s.life ≡ true
served_live s c sound served = by s.life refl
  where
    none : s.regions ≡ [] → s.bound ≡ [] → ⊥
    none regions bound =
        dead_live (is_served (mine c s)) served
        (ap (λ bs. is_in c bs || list_any (λ _. true) (filter (is_held_by c) s.regions)) bound ∙ ap (λ rs. is_in c [] || list_any (λ _. true) (filter (is_held_by c) rs)) regions)

    by : (now : Life) → s.life ≡ now → is_live now ≡ true
    by Live is = refl
    by (Dying d) is = let quiet : IsQuiet (Dying d) s = subst (λ l. IsQuiet l s) is sound.quiet in absurd (none quiet.0 quiet.2)
    by Absent is = let quiet : IsQuiet Absent s = subst (λ l. IsQuiet l s) is sound.quiet in absurd (none quiet.0 quiet.2)

-- ---- what a reply tells of its turn

dead_there : (c : ℕ) (s : Space) (op : Op) (reply : Reply) → Sound s → stands s (entry_of c op) ≡ true → reply ≡ reply_to s (entry_of c op) → reply ≡ NoArena → is_live s.life ≡ false
dead_there c s op reply sound may told none = not_live c s _ op _ (op_goes c s op sound (both_true (nat_lt c 32) _ may).1).outcome (sym told ∙ none)

-- ---- what is so of the turn that answers a call

-- what a turn takes over is that of its point
takes_at : (c arena a at : ℕ) (frees past : Bool) (deed : Deed) (told : Told) → IsWanted c arena (want (Turns (Owning at frees past))) (Took a deed told) → deed.op ≡ TakeOver at
takes_at c arena a at frees past deed told wanted = ap (λ (d : Deed). d.op) wanted.1.1

taken_not : (c arena a : ℕ) (point : Point) (s : Space) (deed : Deed) (told : Told) (addr : ℕ) → told.reply ≡ Nothing → OwnsAt addr point → IsWanted c arena (want point) (Took a deed told) → told.reply ≡ reply_to s (entry_of c deed.op) → IsMetBy s c deed.op → ⊥
taken_not c arena a (Turns (Owning at frees past)) s deed told addr nothing owns wanted reply met =
    let op = takes_at c arena a at frees past deed told wanted in
    untaken s c at (ap (λ o. (step_of s c o).reply) (sym op) ∙ sym reply ∙ nothing) (subst (IsMetBy s c) op met)
taken_not c arena a point s deed told addr nothing owns wanted reply met = absurd (grind arith)

-- a call that gets a region knows that its client is a customer
gets_live : (c : ℕ) (s : Space) (point : Point) → Sound s → Knows (mine c s) point → PointGets point → CanGo point → is_live s.life ≡ true
gets_live c s (Turns (Filling wish count)) sound knows gets can = served_live s c sound knows.0.served
gets_live c s (Turns (Looking wish)) sound knows gets can = served_live s c sound knows.0.served
gets_live c s point sound knows gets can = absurd (grind arith)

-- one that takes a region over that is published meets a live arena
owns_live : (c arena a : ℕ) (s : Space) (point : Point) (deed : Deed) (told : Told) (addr index : ℕ) → Sound s → Leads (Take addr index) (Go point) → CanGo point → IsWanted c arena (want point) (Took a deed told) → IsMetBy s c deed.op → is_live s.life ≡ true
owns_live c arena a s (Turns (Owning at frees past)) deed told addr index sound leads can wanted met =
    region_live s (is_published_at at) sound (subst (IsMetBy s c) (takes_at c arena a at frees past deed told wanted) met)
owns_live c arena a s point deed told addr index sound leads can wanted met = absurd (grind arith)

-- no valid call is told that an arena isn't there
gone : (c arena a : ℕ) (had : DeskFacts) (items : List Item) (request : Request) (s : Space) (deed : Deed) (told : Told) (point : Point) → IsTold c s deed told → IsWanted c arena (want point) (Took a deed told) → TurnMeets c a (Go point) deed told
    → Leads request (Go point) → CanGo point → told.reply ≡ NoArena → IsValidCall c (Some (s, deed.op)) had items request → ⊥
gone c arena a had items request s deed told point is wanted meets leads can none valid =
    let dead : is_live s.life ≡ false = dead_there c s deed.op told.reply is.sound is.stands is.reply none in
    let lost : is_live meets.space.life ≡ false = dead_there c meets.space deed.op told.reply meets.sound meets.stands meets.reply none in
    by request leads valid dead lost
  where
    by : (request : Request) → Leads request (Go point) → IsValidCall c (Some (s, deed.op)) had items request → is_live s.life ≡ false → is_live meets.space.life ≡ false → ⊥
    by (Malloc size) leads valid dead lost = dead_live (is_live meets.space.life) (gets_live c meets.space point meets.sound meets.knows leads can) lost
    by (Memalign align size) leads valid dead lost = dead_live (is_live meets.space.life) (gets_live c meets.space point meets.sound meets.knows leads can) lost
    by (Take addr index) leads valid dead lost = dead_live (is_live s.life) (owns_live c arena a s point deed told addr index is.sound leads can wanted valid.1) dead
    by (Purge index) leads valid dead lost = dead_live (is_live s.life) valid.1 dead
    by (Decay index now) leads valid dead lost = dead_live (is_live s.life) valid.1 dead
    by (Time index rest ms now) leads valid dead lost = dead_live (is_live s.life) valid.1 dead
    by (Bind index) leads valid dead lost = dead_live (is_live s.life) valid.1 dead
    by request leads valid dead lost = absurd (grind (arith, leads, can, valid))

-- ---- what is so where an answer comes

-- what is seen of an answer: the turn that was told so didn't meet what the call needs
abbrev Seen : ℕ → Option (Space × Op) → DeskFacts → List Item → Request → Answered → Type 0
Seen c met had items request (NotHeld addr) = Contains items (Replied Nothing) → MeetsNeeded c met → ⊥
Seen c met had items request (NoSuchArena index) = Contains items (Replied NoArena) → IsValidCall c met had items request → ⊥
Seen c met had items request answer = Unit {0}

-- a valid request is carried out as it stands
plain : (c : ℕ) (met : Option (Space × Op)) (had : DeskFacts) (items : List Item) (request : Request) → IsValidCall c met had items request → meant request had ≡ request
plain c met had items (Malloc size) valid = refl
plain c met had items (Memalign align size) valid = refl
plain c met had items (Free addr) valid = refl
plain c met had items (Publish addr) valid = refl
plain c met had items (Take addr index) valid = refl
plain c met had items Flush valid = refl
plain c met had items (Cache on) valid = refl
plain c met had items (Create box_no dirty_ms muzzy_ms now) valid = refl
plain c met had items (Purge index) valid = refl
plain c met had items (Decay index now) valid = refl
plain c met had items (Time index rest ms now) valid = refl
plain c met had items (Bind index) valid = refl
plain c met had items request valid = absurd valid

-- so a valid call has no other answer
may : (c : ℕ) (met : Option (Space × Op)) (had : DeskFacts) (items : List Item) (request : Request) (answer : Answered) → CauseOf had request items answer → Seen c met had items request answer → IsValidCall c met had items request → MayCome answer
may c met had items request answer cause seen valid = grind (arith, cause, seen, valid)

-- nor a refusal or a wrong answer where the hooks helped
serves : (had : DeskFacts) (request : Request) (items : List Item) (answer : Answered) → CauseOf had request items answer → meant request had ≡ request → MayCome answer → IsHelped request items → Serves answer
serves had request items (Ok given) cause same comes helped = tt
serves had request items NoMemory cause same comes helped = tt
serves had request items (Refused asked) cause same comes helped =
    let why : RefusedCause request items asked = subst (λ r. RefusedCause r items asked) same cause in
    absurd (helped.granted why.wish why.earlier why.later asked why.wished why.told why.needed why.refused)
serves had request items (BadAnswer span why) cause same comes helped =
    let bad : BadCause request items span why = subst (λ r. BadCause r items span why) same cause in
    absurd (helped.fitting why (subst (λ xs. Contains xs (Replied (Bad why))) (sym bad.told) (Contains-append_right bad.earlier (Heard bad.asked ∷ Replied (Bad why) ∷ []) (Replied (Bad why)) (1, omega arith, refl))))
serves had request items answer cause same comes helped = absurd comes

seen_none : (c : ℕ) (met : Option (Space × Op)) (had : DeskFacts) (dids : List Did) (request : Request) (answer : Answered) → dids ≡ [] → Seen c met had (map item_of dids) request answer
seen_none c met had dids request (NotHeld addr) none = λ has needed. none_yet (Replied Nothing) (subst (λ (ds : List Did). Contains (map item_of ds) (Replied Nothing)) none has)
seen_none c met had dids request (NoSuchArena index) none = λ has valid. none_yet (Replied NoArena) (subst (λ (ds : List Did). Contains (map item_of ds) (Replied NoArena)) none has)
seen_none c met had dids request answer none = tt

-- where a turn answers, whose reply is that of its place in the journal
seen_turned : (c arena a : ℕ) (had desk : DeskFacts) (items : List Item) (request of : Request) (s : Space) (deed : Deed) (told : Told) (point : Point) (answer : Answered) → IsTold c s deed told → IsWanted c arena (want point) (Took a deed told) → TurnMeets c a (Go point) deed told
    → Leads (meant request had) (Go point) → (settle of desk arena (step point (Replied told.reply))).next ≡ Ends answer → Seen c (Some (s, deed.op)) had items request answer
seen_turned c arena a had desk items request of s deed told point (NotHeld addr) is wanted meets leads ends = λ has needed.
    let at = not_held_at of desk arena addr point told.reply ends in taken_not c arena a point s deed told addr at.0 at.1 wanted is.reply needed
seen_turned c arena a had desk items request of s deed told point (NoSuchArena index) is wanted meets leads ends = λ has valid.
    gone c arena a had items request s deed told point is wanted meets (subst (λ r. Leads r (Go point)) (plain c (Some (s, deed.op)) had items request valid) leads)
    (no_arena_at of desk arena index point told.reply ends) (no_arena_reply of desk arena index point told.reply ends) valid
seen_turned c arena a had desk items request of s deed told point answer is wanted meets leads ends = tt

-- where none does
seen_lost : (c : ℕ) (met : Option (Space × Op)) (had : DeskFacts) (items : List Item) (request : Request) (answer : Answered) → answer ≡ NoMemory → Seen c met had items request answer
seen_lost c met had items request (NotHeld addr) lost = absurd cc
seen_lost c met had items request (NoSuchArena index) lost = absurd cc
seen_lost c met had items request answer lost = tt

module _ (orders : List Orders) (parts : List Part) (last : Stand) (journals : List Journal) (book : ChunkBook) (carried : AreCarried orders parts last journals book)
    (c : ℕ) (few : c < 32) (earlier later : List Done) (done : Done) (among : slice_index_or carried.dones c [] ≡ earlier ++ done ∷ later) where
  abbrev had : DeskFacts
  had = desk_behind no_desk earlier

  abbrev met : Option (Space × Op)
  met = met_behind journals c earlier done

  made : (has : DeskFacts) × IsMade c had done has
  made = made_behind c no_desk earlier done later (desk_in last c) (subst (λ (ds : List Done). MadeFrom c no_desk ds (desk_in last c)) among (client_made orders parts carried.dones last carried.walks c few))

  -- a turn that was the last thing done was told what its place in the journal replies
  told_there : (before : List Did) (a : ℕ) (deed : Deed) (told : Told) → a < 32 → done.dids ≡ before ++ Took a deed told ∷ [] → IsTold c (met_last journals c (earlier ++ done ∷ []) a) deed told
  told_there before a deed told low is =
      let journal = get_some journals a (let count = carried.count in omega (arith, count, low)) in
      let of = carried.each a journal.0 journal.1 in
      let kept : entries_in journals a ≡ entries_of journal.0.kept = ap (λ (j : Option Journal). entries_of (option_map_or (λ (k : Journal). k.kept) j [])) journal.1 in
      subst (λ (es : List Entry). IsTold c (met_by c (length (took_in a (dids_of (earlier ++ done ∷ []))) - 1) (opening_space a) es) deed told) (sym kept)
      (told_last_turn carried.table c a journal.0.kept earlier later done before deed told of.stand (of.own c few ∙ ap (λ (ds : List Done). took_in a (dids_of ds)) among) is)

  seen_by : (before : List Did) (did : Did) (at : Moment) (point : Point) → done.dids ≡ before ++ did ∷ [] → IsWantedAt c at.stage.arena (Go point) did → Meets c (Go point) did → Leads (meant done.request had) (Go point)
      → (settle at.request (desk_fed at.desk at.stage.arena at.stage.next (item_of did)) at.stage.arena (step point (item_of did))).next ≡ Ends done.answer → Seen c met had (items_of done) done.request done.answer
  seen_by before (Took a deed told) at point is wanted meets leads ends =
      let there = met_last journals c (earlier ++ done ∷ []) a in
      let same : met ≡ Some (there, deed.op) = ap (option_map (λ (t : ℕ × Op). (met_last journals c (earlier ++ done ∷ []) t.0, t.1))) (ap turned_last is ∙ turned_is before (Took a deed told)) in
      subst (λ (m : Option (Space × Op)). Seen c m had (items_of done) done.request done.answer) (sym same)
      (seen_turned c at.stage.arena a had (desk_fed at.desk at.stage.arena at.stage.next (Replied told.reply)) (items_of done) done.request at.request there deed told point done.answer
      (told_there before a deed told meets.there is) wanted meets leads ends)
  seen_by before (Asked a asked) at point is wanted meets leads ends =
      absurd (heard_ends at.request (desk_fed at.desk at.stage.arena at.stage.next (Heard asked)) at.stage.arena point asked done.answer ends)
  seen_by before Lacked at point is wanted meets leads ends =
      seen_lost c met had (items_of done) done.request done.answer (starved_ends at.request (desk_fed at.desk at.stage.arena at.stage.next Starved) at.stage.arena point done.answer ends)

  seen : Seen c met had (items_of done) done.request done.answer
  seen =
      let call = made.1.0 in
      elim (last_of c (meant done.request had) (begin done.request had) None done.dids call.last done.answer (begin_leads (meant done.request had) (ready done.request had)) call.led made.1.2 call.ends) [
        | inl none ↦ seen_none c met had done.dids done.request done.answer none
        | inr one ↦ seen_by one.before one.did one.at one.point one.is one.wanted one.meets one.leads one.ends
      ]

  served : IsServedCall journals c earlier done
  served =
      let cause = caused c had done made.0 made.1 in record {
        caused = cause;
        fails = λ valid. may c met had (items_of done) done.request done.answer cause seen valid;
        helped = λ valid helped. serves had done.request (items_of done) done.answer cause (plain c met had (items_of done) done.request valid) (may c met had (items_of done) done.request done.answer cause seen valid) helped;
      }

-- each call of each client is served
pub carried_served : (orders : List Orders) (parts : List Part) (last : Stand) (journals : List Journal) (book : ChunkBook) → (carried : AreCarried orders parts last journals book) → AllServed journals carried.dones
carried_served orders parts last journals book carried c earlier later done few among = served orders parts last journals book carried c few earlier later done among
