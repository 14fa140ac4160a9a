-- What each operation does and what its reply tells, by one analysis of its cases.
use Rattle.std.proofs.Common.{◌≡◌, ℕ, ◌+◌, ◌^◌, ◌<◌, ◌≤◌, ◌≢◌, Bool, true, false, cond, IsTrue, List, ◌∷◌, ◌++◌, Some, refl, sym, ◌∙◌, ap, subst, arith, find, ◌&&◌, Result, Ok, Err, IfOk, OnOk, OnErr, ltb as nat_lt, []}
use Rattle.space_model.proofs.Words.{nat_tests, stands, fold_push, sum_by, Split, Answer, Entry, Op, Look, CutDone, GrowDone, CommitDone, Land, Back, PutLook, MergeDone, Fill, Advance, PurgeTake, LazyDone, Offer, OfferDone, DecommitDone, ForcedDone, Publish, TakeOver, Reset, Destroy, DestroyTake, Counts, Set, Widen, JoinDone, Trim, TrimDone, Reply, Part, Span, Space, IsPlaced, holders, is_flight_at, fit, is_live, step_of, space_after, reply_to, cut_stands, op_stands, Sound, granted_by, granted, Good, mine, flight, lost, won, BackNext, CountsCounted, CountsNoArena, LookNoArena, large_home, next_flight}
use Rattle.space_model.proofs.Lists.{find_has, find_passes}
use Rattle.space_model.proofs.Changes.{lawful_sound, lawful_others}
use Rattle.space_model.proofs.Moves.{live_is}
use Rattle.space_model.proofs.Pieces.{both_true, found_fits, live_and}
use Rattle.space_model.proofs.Outcomes.{Goes, goes, still_goes, live_goes, next_flies, align_some, look_at_goes, cut_goes, grow_goes, commit_goes, put_goes, merge_goes}
use Rattle.space_model.proofs.Fills.{land_goes, fill_goes}
use Rattle.space_model.proofs.Giving.{back_does}
use Rattle.space_model.proofs.Purges.{purge_take_goes, lazy_goes, decommit_goes, forced_goes, offer_goes, offer_done_goes}
use Rattle.space_model.proofs.Holdings.{publish_goes, take_over_goes}
use Rattle.space_model.proofs.Endings.{reset_goes, destroy_goes, destroy_take_goes}
use Rattle.space_model.proofs.Settings.{set_goes, trim_goes, advance_goes}
use Rattle.space_model.proofs.Resizes.{widen_goes, join_done_goes, trim_done_goes}

-- two extents in flight have no more pages than a number can be
pub joined_fits : (c : ℕ) (s : Space) (low high : Span) (p q : Part) → Sound s → find (is_flight_at c low) s.parts ≡ Some p →
    find (is_flight_at c high) s.parts ≡ Some q → p.span.pages + q.span.pages < 2 ^ 64
joined_fits c s low high p q sound e f =
    let at = (found_fits s (is_flight_at c low) p sound e).placed in
    let to = (found_fits s (is_flight_at c high) q sound f).placed in
    omega (arith, at.2, to.2)

-- ---- any operation

-- each operation that may stand goes in one of the ways in which it may
pub op_goes : (c : ℕ) (s : Space) (op : Op) → Sound s → op_stands s c op ≡ true → Goes c s op (step_of s c op)
op_goes c s (Look pages align) sound h =
    live_goes c s (Look pages align) _ sound (λ page before. refl, refl, refl) (λ h. LookNoArena h refl)
    (λ live. look_at_goes c s pages align (fit pages align s.parts) refl sound live (align_some align (both_true (nat_lt 0 pages) _ h).1))
op_goes c s (CutDone heard keep_low) sound h = let live = live_and s _ h in cut_goes c s heard keep_low heard.ask heard.answer refl sound live.0 live.1
op_goes c s (GrowDone heard found) sound h = let live = live_and s _ h in grow_goes c s heard found heard.ask heard.answer refl sound live.0 live.1
op_goes c s (CommitDone heard) sound h = let live = live_and s _ h in commit_goes c s heard heard.ask heard.answer refl sound live.0 live.1
op_goes c s (Land span class count) sound h = let live = live_and s _ h in land_goes c s span class count sound live.0 live.1
op_goes c s (Back addrs) sound h =
    goes sound (back_does c s addrs sound (live_is s.life (live_and s _ h).0)) (λ after. BackNext (next_flight c (step_of s c (Back addrs)).after.parts) (next_flies c (step_of s c (Back addrs)).after))
op_goes c s (PutLook span tries) sound h =
    let may = both_true (is_live s.life && nat_lt tries 3) _ h in put_goes c s span tries sound (live_and s _ may.0).0 may.1
op_goes c s (MergeDone heard own_low) sound h = let live = live_and s _ h in merge_goes c s heard own_low heard.ask heard.answer sound live.0 live.1
op_goes c s (Fill class count) sound h = fill_goes c s class count sound h
op_goes c s (Advance now) sound h = advance_goes c s now sound
op_goes c s (PurgeTake rest keep) sound h = purge_take_goes c s rest keep sound h
op_goes c s (LazyDone heard) sound h = let live = live_and s _ h in lazy_goes c s heard heard.ask heard.answer refl sound live.0 live.1
op_goes c s (Offer span) sound h = let live = live_and s _ h in offer_goes c s span sound live.0 live.1
op_goes c s (OfferDone heard found) sound h = let live = live_and s _ h in offer_done_goes c s heard found heard.ask heard.answer refl sound live.0 live.1
op_goes c s (DecommitDone heard) sound h = let live = live_and s _ h in decommit_goes c s heard heard.ask heard.answer refl sound live.0 live.1
op_goes c s (ForcedDone heard) sound h = forced_goes c s heard heard.ask heard.answer refl sound (live_and s _ h).1
op_goes c s (Publish addr) sound h = publish_goes c s addr sound (live_and s _ h).0
op_goes c s (TakeOver addr) sound h = take_over_goes c s addr sound
op_goes c s (Reset cached) sound h = reset_goes c s cached sound
op_goes c s (Destroy cached) sound h = destroy_goes c s cached sound h
op_goes c s DestroyTake sound h = destroy_take_goes c s sound h
op_goes c s Counts sound h =
    live_goes c s Counts _ sound (λ page before. refl, refl, refl) (λ h. CountsNoArena h refl)
    (λ live. still_goes c s Counts _ sound (λ page before. refl, refl, refl) (CountsCounted refl))
op_goes c s (Set setting) sound h = set_goes c s setting sound h
op_goes c s (Widen addr pages) sound h = widen_goes c s addr pages (large_home s c addr) sound (live_and s _ h).0
op_goes c s (JoinDone heard class) sound h = let live = live_and s _ h in join_done_goes c s heard class heard.ask heard.answer refl sound live.0 live.1
op_goes c s (Trim addr class) sound h = trim_goes c s addr class sound (live_and s _ h).0
op_goes c s (TrimDone heard class) sound h = let live = live_and s _ h in trim_done_goes c s heard class heard.ask heard.answer sound live.0 live.1

-- ---- any entry

-- What any step of a client keeps, where it replied so to the operation.
pub record StepKeeps (c : ℕ) (s : Space) (op : Op) (t : Space) (reply : Reply) : Type 0 where
  pub sound : Sound t
  pub pages : (page : ℕ) (before : Bool) → holders page s.parts ≡ cond before 1 0 → holders page t.parts ≡ cond (granted_by page before op reply) 1 0
  pub others : (d : ℕ) → d ≢ c → mine d t ≡ mine d s
  pub flew : sum_by (flight c) t.parts + lost op reply ≡ sum_by (flight c) s.parts + won c s op reply

pub op_keeps : (c : ℕ) (s : Space) (op : Op) → Sound s → op_stands s c op ≡ true → StepKeeps c s op (step_of s c op).after (step_of s c op).reply
op_keeps c s op sound h =
    let does = (op_goes c s op sound h).does in
    record { sound = lawful_sound does.lawful sound; pages = does.pages; others = λ d other. lawful_others does.lawful d other; flew = does.flew }

pub entry_keeps : (s : Space) (entry : Entry) → Sound s → stands s entry ≡ true →
    StepKeeps entry.client s entry.op (space_after s entry) (reply_to s entry)
entry_keeps s entry sound h = op_keeps entry.client s entry.op sound (both_true (nat_lt entry.client 32) _ h).1

-- an entry that may stand in a good space leaves a good one, for the longer journal
pub Good-step : (turns : List (Entry × Reply)) (s : Space) (entry : Entry) → Good turns s → stands s entry ≡ true →
    Good (turns ++ (entry, reply_to s entry) ∷ []) (space_after s entry)
Good-step turns s entry good h =
    let keeps = entry_keeps s entry good.sound h in record {
      sound = keeps.sound;
      pages = λ page. keeps.pages page (granted page turns) (good.pages page)
          ∙ ap (λ (b : Bool). cond b 1 0) (sym (fold_push (λ (before : Bool) (turn : Entry × Reply). granted_by page before turn.0.op turn.1) false turns (entry, reply_to s entry)));
    }

-- What a step's result leaves: the space after the entry, or the space as it was.
pub record Outcome {E : Type 0} (s t : Space) (entry : Entry) (r : Result Reply E) : Type 0 where
  pub after : OnOk r (t ≡ space_after s entry)
  pub told : IfOk r (λ told. told ≡ reply_to s entry)
  pub same : OnErr r (t ≡ s)

pub Outcome-sound : {E : Type 0} (s t : Space) (entry : Entry) (r : Result Reply E) → Outcome s t entry r → Sound s → IsTrue (stands s entry) → Sound t
Outcome-sound s t entry (Ok reply) out sound h = subst Sound (sym out.after) (entry_keeps s entry sound h).sound
Outcome-sound s t entry (Err e) out sound h = subst Sound (sym out.same) sound

pub Outcome-good : {E : Type 0} (s t : Space) (entry : Entry) (r : Result Reply E) → Outcome s t entry r → IsTrue (stands s entry) →
    (turns : List (Entry × Reply)) → Good turns s → IfOk r (λ told. Good (turns ++ (entry, told) ∷ []) t)
Outcome-good s t entry (Ok reply) out h turns good =
    subst (λ (told : Reply). Good (turns ++ (entry, told) ∷ []) t) (sym out.told)
    (subst (Good (turns ++ (entry, reply_to s entry) ∷ [])) (sym out.after) (Good-step turns s entry good h))
Outcome-good s t entry (Err e) out h turns good = tt

pub Outcome-others : {E : Type 0} (s t : Space) (entry : Entry) (r : Result Reply E) → Outcome s t entry r → Sound s → IsTrue (stands s entry) →
    (d : ℕ) → d ≢ entry.client → mine d t ≡ mine d s
Outcome-others s t entry (Ok reply) out sound h d other = ap (mine d) out.after ∙ (entry_keeps s entry sound h).others d other
Outcome-others s t entry (Err e) out sound h d other = ap (mine d) out.same
