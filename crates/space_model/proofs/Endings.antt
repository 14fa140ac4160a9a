-- What a reset, a destroy and the takes after it do.
use Rattle.std.proofs.Common.{true, false, ◌≡◌, ◌≢◌, ℕ, Bool, not, cond, IsTrue, List, ◌∷◌, length, refl, sym, ◌∙◌, ap, subst, arith, All, filter, find, ◌&&◌, ◌==◌, []}
use Rattle.space_model.proofs.Words.{nat_tests, sum_by, count_by, eqb-true, not-false, not-true, nil_from_length, All-weaker, All-append, All-filter, All-nil, All-head, filter_passes, Op, Reset, Destroy, DestroyTake, Reply, Noted, Nothing, Purge, Busy, Offered, Part, Life, Absent, Dying, Space, begins_at, is_active, is_flight, is_in_flight, is_listed, moved_to, turned, turned_in_order, homes, residents, is_held_by, is_held_by_other, is_dying, Stepped, stays, is_live, is_dirty_time_over, is_lazy, held_count, flight_count, if_free, emptied, after_reset, reset_stands, ended, after_destroy, doom_at, after_destroy_take, flight, Sound, IsQuiet, DestroyBusy, DestroyNoArena, DestroyNoted, DoomDoomed, DoomNothing, Outcome, ResetBusy, ResetNoArena, ResetNoted, ResetPurge}
use Rattle.space_model.proofs.Lists.{false_true, none_counted, nothing_left, nothing_sum, ones, sum_nothing, apart_count}
use Rattle.space_model.proofs.Mixes.{mix_sum, mixed_second, mixed_filter}
use Rattle.space_model.proofs.Settled.{Used}
use Rattle.space_model.proofs.Changes.{Does, Fits, all_fit, frame_does, own_frame, kept_frame, live_quiet, sound_ranges, go_does}
use Rattle.space_model.proofs.Pieces.{both_true, not_both, active_own}
use Rattle.space_model.proofs.Turned.{turned_does, All-turned}
use Rattle.space_model.proofs.Outcomes.{Goes, goes, still_goes, live_goes}
use Rattle.space_model.proofs.Moves.{live_is, Same}
use Rattle.space_model.specs.declared.parts.Rest.TheVariants as rests

-- ---- nobody else

-- three numbers that are nothing
abbrev Free : ℕ → ℕ → ℕ → Type 0
Free held flights threads = (held ≡ 0) × (flights ≡ 0) × (threads ≡ 0)

-- a step that only an arena makes which is in nobody's use
free_goes : (c : ℕ) (s : Space) (op : Op) (held flights threads : ℕ) (step : Stepped) → Sound s → Same c s op (Busy held flights threads) → Outcome c s s op (Busy held flights threads) →
    (Free held flights threads → Goes c s op step) → Goes c s op (if_free s held flights threads step)
free_goes c s op held flights threads step sound same busy free =
    elim (held == 0 && flights == 0 && threads == 0) as (λ b. (held == 0 && flights == 0 && threads == 0) ≡ b → Goes c s op (cond b step (stays s (Busy held flights threads)))) [
      | false ↦ λ h. still_goes c s op _ sound same busy
      | true ↦ λ h.
          let last = both_true (held == 0 && flights == 0) _ h in
          let first = both_true (held == 0) _ last.0 in
          free (eqb-true _ _ first.0, eqb-true _ _ first.1, eqb-true _ _ last.1)
    ] refl

-- where others hold no region, no other client does
others_hold_none : (c d cached : ℕ) (s : Space) → d ≢ c → held_count s c cached ≡ 0 → count_by (is_held_by d) s.regions ≡ 0
others_hold_none c d cached s other none =
    nothing_sum (λ r. ones (is_held_by d r)) s.regions
    (All-weaker (λ r. ones (is_held_by_other c r) ≡ 0) (λ r. ones (is_held_by d r) ≡ 0) (λ r h. grind (arith, nat_tests)) s.regions
    (sum_nothing (λ r. ones (is_held_by_other c r)) s.regions (omega (arith, none))))

-- ---- Reset

-- no active extent is in flight
none_active_flies : (d : ℕ) (parts : List Part) → count_by (λ p. is_flight d p.state) (filter (λ p. is_active p.state) parts) ≡ 0
none_active_flies d parts = apart_count (λ p. is_active p.state) (λ p. is_flight d p.state) parts (λ p h. active_own d p.state h)

-- an extent that fails a test which each active one passes serves nothing
unused : (test : Part → Bool) → ((p : Part) → IsTrue (is_active p.state) → test p ≡ true) → (parts : List Part) → All (Used []) (filter (λ p. not (test p)) parts)
unused test active parts =
    All-weaker (λ p. not (test p) ≡ true) (Used []) (λ p h act. absurd (false_true (subst (λ b. IsTrue (not b)) (active p act) h))) (filter (λ p. not (test p)) parts)
    (filter_passes (λ p. not (test p)) parts)

emptied_does : (c cached : ℕ) (s : Space) (reply : Reply) → Sound s → is_live s.life ≡ true → held_count s c cached ≡ 0 → Same c s (Reset cached) reply →
    Does c s (Reset cached) (record { after = (emptied s).after; reply = reply })
emptied_does c cached s reply sound live none same =
    let test : Part → Bool = λ p. is_active p.state in
    let t : Space = (emptied s).after in
    turned_does {test = test} {turn = moved_to rests.Dirty} {left = s.regions} (record {
      parts = refl;
      regions = refl;
      gone = mixed_second s.regions;
      same = λ p. refl;
      fits = λ p act fits. record { idle = refl; fits = record { placed = fits.placed; backed = λ h. fits.backed (grind arith) }; own = λ d other. refl };
      empty = All-nil (λ r. homes r (filter test s.parts) ≡ 0);
      served = unused test (λ p act. act) s.parts;
      nobody = λ d other. none_active_flies d s.parts;
      held = λ d other. others_hold_none c d cached s other none;
      ordered = λ i j d lower within. absurd (omega (arith, within));
      frame = kept_frame c s t.parts [] sound;
      quiet = live_quiet s t (live_is s.life live) refl;
    }) sound (Reset cached) reply same.0
    (omega (arith, nothing_sum (λ p. flight c (moved_to rests.Dirty p)) (filter test s.parts) (λ k d h. refl), none_active_flies c s.parts, same.1, same.2))

pub reset_goes : (c : ℕ) (s : Space) (cached : ℕ) → Sound s → Goes c s (Reset cached) (after_reset s c cached)
reset_goes c s cached sound =
    live_goes c s (Reset cached) _ sound (λ page before. refl, refl, refl) (λ h. ResetNoArena h refl)
    (λ live. free_goes c s (Reset cached) (held_count s c cached) (flight_count s c) 0 (emptied s) sound (λ page before. refl, refl, refl) (ResetBusy _ _ _ refl)
    (λ free. elim (is_dirty_time_over s) as (λ b. is_dirty_time_over s ≡ b → Goes c s (Reset cached) (record { after = (emptied s).after; reply = cond b (Purge (is_lazy s)) Noted })) [
      | true ↦ λ over. goes sound (emptied_does c cached s _ sound live free.0 (λ page before. refl, refl, refl)) (λ after. ResetPurge refl over)
      | false ↦ λ over. goes sound (emptied_does c cached s Noted sound live free.0 (λ page before. refl, refl, refl)) (λ after. ResetNoted refl)
    ] refl))

-- ---- Destroy

-- where others have no extent in flight, no other client does
others_fly_none : (c d : ℕ) (s : Space) → d ≢ c → flight_count s c ≡ 0 → count_by (λ p. is_flight d p.state) s.parts ≡ 0
others_fly_none c d s other none =
    nothing_sum (λ p. ones (is_flight d p.state)) s.parts
    (All-weaker (λ p. ones (is_in_flight p.state && not (is_flight c p.state)) ≡ 0) (λ p. ones (is_flight d p.state) ≡ 0) (λ p h. grind (arith, nat_tests)) s.parts
    (sum_nothing (λ p. ones (is_in_flight p.state && not (is_flight c p.state))) s.parts (omega (arith, none))))

-- a sum over some is within the sum over all
some_count : (f : Part → ℕ) (test : Part → Bool) (parts : List Part) → sum_by f parts ≡ 0 → sum_by f (filter test parts) ≡ 0
some_count f test parts none = omega (arith, none, mix_sum f (mixed_filter test parts))

-- no extent is in flight that is retained
still_retained : (test : Part → Bool) (parts : List Part) → ((p : Part) → not (test p) ≡ true → is_listed rests.Retained p.state ≡ true) →
    All (λ p. is_in_flight p.state ≡ false) (turned test (moved_to rests.Retained) parts)
still_retained test parts kept =
    All-append (λ p. is_in_flight p.state ≡ false) (filter (λ p. not (test p)) parts) (turned_in_order (moved_to rests.Retained) (filter test parts))
    (All-weaker (λ p. not (test p) ≡ true) (λ p. is_in_flight p.state ≡ false) (λ p h. grind (arith, kept p h)) (filter (λ p. not (test p)) parts)
    (filter_passes (λ p. not (test p)) parts))
    (All-turned (moved_to rests.Retained) (λ p. is_in_flight p.state ≡ false) [] (filter test parts) (All-nil (λ p. is_in_flight p.state ≡ false)) (λ k d h. refl))

ended_does : (c cached : ℕ) (s : Space) → Sound s → is_live s.life ≡ true → reset_stands s c cached ≡ true → Free (held_count s c cached) (flight_count s c) (length s.bound) →
    Does c s (Destroy cached) (ended s c)
ended_does c cached s sound live stands free =
    let test : Part → Bool = λ p. not (is_listed rests.Retained p.state) in
    let t : Space = (ended s c).after in
    let grounded : count_by (λ p. is_flight c p.state) s.parts ≡ 0 = none_counted (λ p. is_flight c p.state) s.parts (grind (arith, stands)) in
    let offered : count_by (λ (o : Offered). o.client == c) s.offers ≡ 0 = none_counted (λ o. o.client == c) s.offers (grind (arith, stands)) in
    let offers : s.offers ≡ [] = nothing_left (λ (o : Offered). o.client == c) s.offers offered (omega (arith, free.1)) in
    let bound : s.bound ≡ [] = nil_from_length s.bound free.2 in
    turned_does {test = test} {turn = moved_to rests.Retained} {left = s.regions} (record {
      parts = refl;
      regions = refl;
      gone = mixed_second s.regions;
      same = λ p. refl;
      fits = λ p h fits. record { idle = refl; fits = record { placed = fits.placed; backed = λ h. absurd (false_true h) }; own = λ d other. refl };
      empty = All-nil (λ r. homes r (filter test s.parts) ≡ 0);
      served = unused test (λ p act. grind arith) s.parts;
      nobody = λ d other. some_count (λ p. ones (is_flight d p.state)) test s.parts (others_fly_none c d s other free.1);
      held = λ d other. others_hold_none c d cached s other free.0;
      ordered = λ i j d lower within. absurd (omega (arith, within));
      frame = own_frame c s t sound (sound_ranges s sound) refl (λ d other. refl) (λ d other. refl)
          (λ d other. not_both d c other ∙ sym (ap (is_dying d) (live_is s.life live)));
      quiet = (refl, offers, bound, still_retained test s.parts (λ p h. not-false _ (not-true _ h)));
    }) sound (Destroy cached) Noted (λ page before. refl)
    (omega (arith, nothing_sum (λ p. flight c (moved_to rests.Retained p)) (filter test s.parts) (λ k d h. refl), some_count (flight c) test s.parts grounded))

pub destroy_goes : (c : ℕ) (s : Space) (cached : ℕ) → Sound s → reset_stands s c cached ≡ true → Goes c s (Destroy cached) (after_destroy s c cached)
destroy_goes c s cached sound stands =
    live_goes c s (Destroy cached) _ sound (λ page before. refl, refl, refl) (λ h. DestroyNoArena h refl)
    (λ live. free_goes c s (Destroy cached) (held_count s c cached) (flight_count s c) (length s.bound) (ended s c) sound (λ page before. refl, refl, refl) (DestroyBusy _ _ _ refl)
    (λ free. goes sound (ended_does c cached s sound live stands free) (λ after. DestroyNoted refl)))

-- ---- DestroyTake

-- an extent of a dying arena is nobody's flight
-- what is true of a dying arena
quiet_dying : (s : Space) (c : ℕ) → Sound s → s.life ≡ Dying c → IsQuiet (Dying c) s
quiet_dying s c sound is = subst (λ (l : Life). IsQuiet l s) is sound.quiet

doom_goes : (c : ℕ) (s : Space) (parts : List Part) → s.parts ≡ parts → Sound s → s.life ≡ Dying c → Goes c s DestroyTake (doom_at s parts)
doom_goes c s [] e sound is =
    let still = quiet_dying s c sound is in
    let t : Space = record s { life = Absent } in
    let frame = own_frame c s t sound (sound_ranges s sound) refl (λ d other. refl) (λ d other. refl) (λ d other. sym (ap (is_dying d) is ∙ not_both d c other)) in
    goes sound (frame_does c s t DestroyTake Nothing sound refl refl frame (still.0, still.1, still.2, e) (λ page before. refl) refl) (λ after. DoomNothing refl)
doom_goes c s (p ∷ ps) e sound is =
    let still = quiet_dying s c sound is in
    let gone = begins_at p.span.first in
    let stay : List Part = filter (λ q. not (gone q)) s.parts in
    let t : Space = (doom_at s (p ∷ ps)).after in
    let fits : Fits p = All-head Fits p ps (subst (All Fits) e (all_fit s sound)) in
    let grounded : is_in_flight p.state ≡ false = All-head (λ q. is_in_flight q.state ≡ false) p ps (subst (All (λ (q : Part). is_in_flight q.state ≡ false)) e still.3) in
    let used : Used s.regions p = All-head (Used s.regions) p ps (subst (All (Used s.regions)) e sound.used) in
    let idle : is_active p.state ≡ false = grind (arith, used, ap (residents p) still.0) in
    let lands : flight c p ≡ 0 = grind (arith, grounded) in
    goes sound (go_does c s t DestroyTake _ (λ q. true) p sound (ap (find (λ q. true)) e)
    (record { idle = idle; fits = fits; own = λ d other. grind (arith, grounded) }) refl refl (kept_frame c s t.parts s.regions sound)
    (subst (λ (l : Life). IsQuiet l t) (sym is)
    (still.0, still.1, still.2, All-append (λ q. is_in_flight q.state ≡ false) stay [] (All-filter (λ q. not (gone q)) (λ q. is_in_flight q.state ≡ false) s.parts still.3) (All-nil (λ q. is_in_flight q.state ≡ false))))
    (λ page before. refl) (omega (arith, lands))) (λ after. DoomDoomed p.span p.committed refl)

pub destroy_take_goes : (c : ℕ) (s : Space) → Sound s → is_dying c s.life ≡ true → Goes c s DestroyTake (after_destroy_take s)
destroy_take_goes c s sound h = doom_goes c s s.parts refl sound (grind (arith, nat_tests))
