-- What stands after each refused ask.
use Rattle.call_plan.proofs.Words.{◌≡◌, ℕ, ◌+◌, Bool, true, false, cond, Option, Some, ◌∙◌, ap, subst, arith, find, lost, won, is_flight_at, Stepped, whole_at, apart_at, next_flight, step_of, is_regranted, Replied, Refused, AskPoint, Skipping, Trimming, Growing, SplittingGrown, GrowingExactly, SplittingExact, Committing, Merging, PurgingLazily, Returning, Decommitting, Forcing, Asks, Next, Ends, Reply, Whole, Joined, Kept, Abandoned, Part, Space, Span, Sound, mine, AskFacts, ask_at, done_at, need_chunks, told, Alone, Flies, Idle, KnowsAsk, Keeps, flights_of, left_ask, stages_ask, with_found, AfterDalloc, AfterRefusal, HoldsExtent, Rests, RefusalsStand, Cutting, Extending, Sparing, Backing, Joining, move}
use Rattle.call_plan.proofs.Getting.{alone_found}
use Rattle.call_plan.proofs.Putting.{found_at}
use Rattle.call_plan.proofs.Rooms.{flown}
use Rattle.call_plan.proofs.Standing.{wants-stand}
use Rattle.call_plan.proofs.Steps.{steps-keep}
use Rattle.space_model.specs.declared.Answer.TheVariants as answers

-- an extent whose hook refused is put down whole
whole_told : (c : ℕ) (s : Space) (span : Span) (b : Bool) → Alone (mine c s) span b → (whole_at s (find (is_flight_at c span) s.parts)).reply ≡ Whole
whole_told c s span b alone = ap (λ o. (whole_at s o).reply) (alone_found c s span b alone)

chosen_reply : (v : Bool) (a b : Stepped) → (cond v a b).reply ≡ cond v a.reply b.reply
chosen_reply v a b = grind arith

-- what is known where the call goes on is what stands there
rests : (c : ℕ) (t : Space) (stage bound : ℕ) (next there : Next) → next ≡ there → Keeps c t stage bound next → (Keeps c t stage bound there → Idle (mine c t)) → Rests c t next there
rests c t stage bound next there is keeps idle = (is, idle (subst (Keeps c t stage bound) is keeps))

holds : (c : ℕ) (t : Space) (stage bound count : ℕ) (span : Span) (P : Part → Type 0) (next there : Next) → next ≡ there → flights_of c t ≡ count → Keeps c t stage bound next →
    (Keeps c t stage bound there → Flies (mine c t) span P) → HoldsExtent c t count span next there
holds c t stage bound count span P next there is counted keeps flies =
    let f = flies (subst (Keeps c t stage bound) is keeps) in (is, counted, record { part = f.part; found = f.found; is = tt; calm = f.calm })

module _ (c : ℕ) (s t : Space) (asked : AskFacts) (reply : Reply) (found : Option ℕ) (sound : Sound s) where
  -- the ask of a point was refused
  abbrev refused_at : AskPoint → AskFacts
  refused_at point = record asked { ask = ask_at point; answer = answers.Refused }

  -- so many extents are in flight after the reply to the turn that took the refusal in
  abbrev Flew : AskPoint → Reply → Type 0
  Flew point r = flights_of c t + lost (with_found found (done_at point asked)) r ≡ flights_of c s + won c s (with_found found (done_at point asked)) r

  stands_at : (point : AskPoint) → KnowsAsk (mine c s) point → reply ≡ (step_of s c (with_found found (done_at point (refused_at point)))).reply → Flew point reply →
      Keeps c t (stages_ask point) (left_ask (flights_of c s) point + 0) (told point asked reply) → AfterRefusal c s t found point asked (told point asked reply)
  stands_at (Skipping wish span b skip) (gets, alone, some, holds) r flew keeps = rests c t _ _ _ (need_chunks wish) (ap (told (Skipping wish span b skip) asked) (r ∙ whole_told c s span b alone)) keeps (λ k. k.0.0.1)
  stands_at (Trimming wish span b) (gets, alone, more) r flew keeps = rests c t _ _ _ (need_chunks wish) (ap (told (Trimming wish span b) asked) (r ∙ whole_told c s span b alone)) keeps (λ k. k.0.0.1)
  stands_at (Growing wish chunks) knows r flew keeps = rests c t _ _ _ (need_chunks wish) (ap (told (Growing wish chunks) asked) r) keeps (λ k. k.0.0.1)
  stands_at (SplittingGrown wish span b) (gets, alone, more) r flew keeps = rests c t _ _ _ (need_chunks wish) (ap (told (SplittingGrown wish span b) asked) (r ∙ whole_told c s span b alone)) keeps (λ k. k.0.0.1)
  stands_at (GrowingExactly wish) knows r flew keeps = rests c t _ _ _ (Ends (Refused asked)) (ap (told (GrowingExactly wish) asked) r) keeps (λ k. k)
  stands_at (SplittingExact wish span b) (gets, alone, more) r flew keeps = rests c t _ _ _ (Ends (Refused asked)) (ap (told (SplittingExact wish span b) asked) (r ∙ whole_told c s span b alone)) keeps (λ k. k)
  stands_at (Committing wish span) (gets, alone, pages) r flew keeps = rests c t _ _ _ (Ends (Refused asked)) (ap (told (Committing wish span) asked) (r ∙ whole_told c s span false alone)) keeps (λ k. k)
  stands_at (Merging low high true fresh later) (pair, is) r flew keeps =
      let at = found_at c s low pair.low_part sound pair.low_found in
      let to = found_at c s high pair.high_part sound pair.high_found in
      let joined : reply ≡ Joined low = r ∙ (λ i. (apart_at s true (at.found i) (to.found i)).reply) ∙ ap Joined at.spans in
      holds c t _ _ _ low _ _ _ (ap (told (Merging low high true fresh later) asked) joined) (omega (arith, subst (Flew (Merging low high true fresh later)) joined flew)) keeps (λ k. k.0.1)
  stands_at (Merging low high false fresh later) (pair, is) r flew keeps =
      let at = found_at c s low pair.low_part sound pair.low_found in
      let to = found_at c s high pair.high_part sound pair.high_found in
      let joined : reply ≡ Joined high = r ∙ (λ i. (apart_at s false (at.found i) (to.found i)).reply) ∙ ap Joined to.spans in
      holds c t _ _ _ high _ _ _ (ap (told (Merging low high false fresh later) asked) joined) (omega (arith, subst (Flew (Merging low high false fresh later)) joined flew)) keeps (λ k. k.0.1)
  stands_at (PurgingLazily span later) knows r flew keeps =
      holds c t _ _ _ span _ _ _ (ap (told (PurgingLazily span later) asked) r) (omega (arith, subst (Flew (PurgingLazily span later)) r flew)) keeps (λ k. k.0.0)
  stands_at (Returning span later) knows r flew keeps = by (is_regranted found span s.parts) (r ∙ chosen_reply (is_regranted found span s.parts) _ _)
    where
      by : (v : Bool) → reply ≡ cond v (Abandoned (next_flight c s.parts)) Kept → AfterDalloc c s t v span later (told (Returning span later) asked reply)
      by true e = (ap (told (Returning span later) asked) e, omega (arith, subst (Flew (Returning span later)) e flew))
      by false e = holds c t _ _ _ span _ _ _ (ap (told (Returning span later) asked) e) (omega (arith, subst (Flew (Returning span later)) e flew)) keeps (λ k. k.0.0.0)
  stands_at (Decommitting span later) knows r flew keeps =
      holds c t _ _ _ span _ _ _ (ap (told (Decommitting span later) asked) r) (omega (arith, subst (Flew (Decommitting span later)) r flew)) keeps (λ k. k.0.0.0)
  stands_at (Forcing span later) knows r flew keeps =
      holds c t _ _ _ span _ _ _ (ap (told (Forcing span later) asked) r) (omega (arith, subst (Flew (Forcing span later)) r flew)) keeps (λ k. k.0.1)
  stands_at (Cutting resize) knows r flew keeps = rests c t _ _ _ (move resize) (ap (told (Cutting resize) asked) r) keeps (λ k. k.0)
  stands_at (Extending resize) knows r flew keeps = rests c t _ _ _ (move resize) (ap (told (Extending resize) asked) r) keeps (λ k. k.0)
  stands_at (Sparing resize span b) (widens, alone, at, more) r flew keeps = rests c t _ _ _ (move resize) (ap (told (Sparing resize span b) asked) (r ∙ whole_told c s span b alone)) keeps (λ k. k.0)
  stands_at (Backing resize span) (widens, alone, at, pages) r flew keeps = rests c t _ _ _ (move resize) (ap (told (Backing resize span) asked) (r ∙ whole_told c s span false alone)) keeps (λ k. k.0)
  stands_at (Joining resize span) (widens, alone, at, pages) r flew keeps = rests c t _ _ _ (move resize) (ap (told (Joining resize span) asked) (r ∙ whole_told c s span true alone)) keeps (λ k. k.0)

pub refusals-stand : RefusalsStand
refusals-stand c s t point asked reply sound (knows, (is, kind)) refused (found, after, replied) =
    let stands = wants-stand c s (Asks point (Some asked)) sound (knows, (is, kind)) found in
    let keeps = steps-keep c s t (Asks point (Some asked)) (Replied reply) sound (knows, (is, kind)) (found, after, replied) in
    let r = subst (λ a. reply ≡ (step_of s c (with_found found (done_at point (record asked { ask = ask_at point; answer = a })))).reply) refused
    (subst (λ a. reply ≡ (step_of s c (with_found found (done_at point (record asked { ask = a })))).reply) is replied) in
    stands_at c s t asked reply found sound point knows r (flown c s t (with_found found (done_at point asked)) reply sound stands after replied) keeps
