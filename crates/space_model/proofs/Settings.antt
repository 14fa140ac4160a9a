-- What settings, moments and trims do: nothing to extents and regions.
use Rattle.std.proofs.Common.{true, false, ◌≡◌, ◌≢◌, ℕ, ◌+◌, ◌<◌, ◌≤◌, cond, List, ◌∷◌, ◌++◌, refl, sym, subst, arith, ℤ, pos, negsuc, ◌≤ℤ◌, All, AllPairs, rules, Some, None, ◌*◌, ◌/◌, ◌-◌, ◌&&◌, ◌==◌, ltb as nat_lt, leb as nat_le, []}
use Rattle.space_model.proofs.Words.{list_any, eqb-true, ltb-true, leb-true, nat_tests, All-weaker, All-push, all_pairs_push, Op, Set, Trim, Advance, Reply, Noted, Nothing, Setting, DirtyMs, MuzzyMs, HookBox, Bind, Unbind, GrowLimit, MakeLive, Added, Pace, Space, pages_end, pages_listed, with_new, passed, passed_if_any, advanced_in, advance_all, after_advance, new_pace, stays, is_live, with_client, without_client, is_absent, made_live, after_set, is_decay_time, setting_stands, after_trim, Sound, IsPaced, lost, won, AdvanceLimits, AdvanceNoArena, SetNoArena, SetNoted, SetNothing, TrimNoted, list_any-append, with_setting}
use Rattle.space_model.proofs.Sums.{listed_fit_space}
use Rattle.space_model.proofs.Changes.{Does, Plain, Ranges, frame_does, own_frame, range_frame, sound_ranges, live_quiet, kept_frame}
use Rattle.space_model.proofs.Pieces.{both_true}
use Rattle.space_model.proofs.Moves.{live_is}
use Rattle.space_model.proofs.Outcomes.{Goes, goes, still_goes, live_goes}
use Rattle.space_model.specs.declared.parts.Rest.TheVariants as rests

-- a new pace of a decay time is in range
pub new_paced : (ms : ℤ) (now : ℕ) → is_decay_time ms ≡ true → IsPaced (new_pace ms now)
new_paced ms now h = record {
  least = least_of ms h;
  most = most_of ms h;
  started = λ n e. omega arith;
  rising = λ i j d lower within. absurd (omega (arith, within));
  past = λ k d within. absurd (omega (arith, within));
  pages = λ k d within. absurd (omega (arith, within));
  left = omega arith;
}
  where
    least_of : (n : ℤ) → is_decay_time n ≡ true → negsuc 0 ≤ℤ n
    least_of (pos n) e = search rules
    least_of (negsuc n) e = let zero_is : n ≡ 0 = eqb-true n 0 e in subst (λ k. negsuc 0 ≤ℤ negsuc k) (sym zero_is) (search rules)

    most_of : (n : ℤ) → is_decay_time n ≡ true → n ≤ℤ pos 1000000000
    most_of (pos n) e = let le : n ≤ 1000000000 = leb-true n 1000000000 e in search rules
    most_of (negsuc n) e = search rules

-- ---- lists of clients

-- one more client changes nothing for another one
with_others : (d c : ℕ) (clients : List ℕ) → d ≢ c → list_any (λ b. b == d) (with_client c clients) ≡ list_any (λ b. b == d) clients
with_others d c clients other = grind (arith, nat_tests, list_any-append (λ b. b == d) clients (c ∷ []))

-- nor does one fewer
pub without_others : (d c : ℕ) (clients : List ℕ) → d ≢ c → list_any (λ b. b == d) (without_client c clients) ≡ list_any (λ b. b == d) clients
without_others d c [] other = refl
without_others d c (b ∷ bs) other = grind (arith, nat_tests, without_others d c bs other)

-- ---- Set and Trim

-- only what is in range changes
range_does : (c : ℕ) (s t : Space) (op : Op) → Sound s → is_live s.life ≡ true → t ≡ record s { dirty = t.dirty; muzzy = t.muzzy; box_no = t.box_no; grow_limit = t.grow_limit } →
    Ranges t.box_no t.dirty t.muzzy s.grow t.grow_limit → lost op Noted ≡ won c s op Noted → Plain op Noted → Does c s op (stays t Noted)
range_does c s t op sound live same ranges none plain =
    let u : Space = record s { dirty = t.dirty; muzzy = t.muzzy; box_no = t.box_no; grow_limit = t.grow_limit } in
    subst (λ (x : Space). Does c s op (stays x Noted)) (sym same)
    (frame_does c s u op Noted sound refl refl (range_frame c s u sound ranges refl refl refl refl) (live_quiet s u (live_is s.life live) refl) plain none)

-- only the lists of clients change
pub client_does : (c : ℕ) (s : Space) (bound trims : List ℕ) (op : Op) (reply : Reply) → Sound s → is_live s.life ≡ true →
    ((d : ℕ) → d ≢ c → list_any (λ b. b == d) bound ≡ list_any (λ b. b == d) s.bound) →
    ((d : ℕ) → d ≢ c → list_any (λ b. b == d) trims ≡ list_any (λ b. b == d) s.trims) → Plain op reply → lost op reply ≡ won c s op reply →
    Does c s op (stays (record s { bound = bound; trims = trims }) reply)
client_does c s bound trims op reply sound live kept shrinking plain none =
    let t : Space = record s { bound = bound; trims = trims } in
    frame_does c s t op reply sound refl refl (own_frame c s t sound (sound_ranges s sound) refl kept shrinking (λ d other. refl)) (live_quiet s t (live_is s.life live) refl) plain none

-- an index without an arena gets one
made_live_goes : (c : ℕ) (s : Space) (box_no : ℕ) (dirty_ms muzzy_ms : ℤ) (now : ℕ) → Sound s → setting_stands (MakeLive box_no dirty_ms muzzy_ms now) ≡ true →
    Goes c s (Set (MakeLive box_no dirty_ms muzzy_ms now)) (after_set s c (MakeLive box_no dirty_ms muzzy_ms now))
made_live_goes c s box_no dirty_ms muzzy_ms now sound h =
    let op : Op = Set (MakeLive box_no dirty_ms muzzy_ms now) in
    let t : Space = made_live s box_no dirty_ms muzzy_ms now in
    let last = both_true (nat_lt box_no 32 && is_decay_time dirty_ms) _ h in
    let first = both_true (nat_lt box_no 32) _ last.0 in
    elim (is_absent s.life) as (λ b. is_absent s.life ≡ b → Goes c s op (cond b (stays t Noted) (stays s Nothing))) [
      | false ↦ λ e. still_goes c s op Nothing sound (λ page before. refl, refl, refl) (SetNothing refl)
      | true ↦ λ e. goes sound (frame_does c s t op Noted sound refl refl (own_frame c s t sound (record {
        box = ltb-true _ _ first.0;
        dirty = new_paced dirty_ms now first.1;
        muzzy = new_paced muzzy_ms now last.1;
        grow = (omega arith, omega arith);
        grow_limit = (omega arith, omega arith);
      }) refl (λ d other. refl) (λ d other. refl) (λ d other. grind (arith, e))) tt (λ page before. refl) refl) (λ after. SetNoted)
    ] refl

change_does : (c : ℕ) (s : Space) (setting : Setting) → Sound s → is_live s.life ≡ true → setting_stands setting ≡ true → Does c s (Set setting) (stays (with_setting s c setting) Noted)
change_does c s (DirtyMs ms now) sound live h =
    range_does c s (record s { dirty = new_pace ms now }) _ sound live refl (record { box = sound.box; dirty = new_paced ms now h; muzzy = sound.muzzy; grow = sound.grow; grow_limit = sound.grow_limit }) refl (λ page before. refl)
change_does c s (MuzzyMs ms now) sound live h =
    range_does c s (record s { muzzy = new_pace ms now }) _ sound live refl (record { box = sound.box; dirty = sound.dirty; muzzy = new_paced ms now h; grow = sound.grow; grow_limit = sound.grow_limit }) refl (λ page before. refl)
change_does c s (HookBox box_no) sound live h =
    range_does c s (record s { box_no = box_no }) _ sound live refl (record { box = ltb-true _ _ h; dirty = sound.dirty; muzzy = sound.muzzy; grow = sound.grow; grow_limit = sound.grow_limit }) refl (λ page before. refl)
change_does c s (GrowLimit chunks) sound live h =
    let both = both_true (nat_le 1 chunks) _ h in
    range_does c s (record s { grow_limit = chunks }) _ sound live refl (record { box = sound.box; dirty = sound.dirty; muzzy = sound.muzzy; grow = sound.grow; grow_limit = (leb-true _ _ both.0, leb-true _ _ both.1) }) refl (λ page before. refl)
change_does c s Bind sound live h = client_does c s (with_client c s.bound) s.trims (Set Bind) Noted sound live (λ d other. with_others d c s.bound other) (λ d other. refl) (λ page before. refl) refl
change_does c s Unbind sound live h = client_does c s (without_client c s.bound) s.trims (Set Unbind) Noted sound live (λ d other. without_others d c s.bound other) (λ d other. refl) (λ page before. refl) refl
change_does c s (MakeLive box_no dirty_ms muzzy_ms now) sound live h = frame_does c s s (Set (MakeLive box_no dirty_ms muzzy_ms now)) Noted sound refl refl (kept_frame c s s.parts s.regions sound) sound.quiet (λ page before. refl) refl

pub set_goes : (c : ℕ) (s : Space) (setting : Setting) → Sound s → setting_stands setting ≡ true → Goes c s (Set setting) (after_set s c setting)
set_goes c s (MakeLive box_no dirty_ms muzzy_ms now) sound h = made_live_goes c s box_no dirty_ms muzzy_ms now sound h
set_goes c s setting sound h =
    live_goes c s (Set setting) _ sound (λ page before. refl, refl, refl) (λ h. SetNoArena h refl) (λ live. goes sound (change_does c s setting sound live h) (λ after. SetNoted))

pub trim_goes : (c : ℕ) (s : Space) (addr class : ℕ) → Sound s → is_live s.life ≡ true → Goes c s (Trim addr class) (after_trim s c)
trim_goes c s addr class sound live =
    goes sound (client_does c s s.bound (with_client c s.trims) (Trim addr class) Noted sound live (λ d other. refl) (λ d other. with_others d c s.trims other) (λ page before. refl) refl)
    (λ after. TrimNoted (grind (arith, nat_tests, list_any-append (λ b. b == c) s.trims (c ∷ []))))

-- ---- Advance

-- one more addition at a later epoch
added_paced : (pace : Pace) (epochs current : ℕ) → IsPaced pace → 0 < epochs → current ≤ pages_end - 512 →
    AllPairs (λ a b. a.epoch < b.epoch) (with_new pace (pace.epoch + epochs) current)
    × All (λ a. a.epoch ≤ pace.epoch + epochs) (with_new pace (pace.epoch + epochs) current)
    × All (λ a. a.pages ≤ pages_end - 512) (with_new pace (pace.epoch + epochs) current)
added_paced pace epochs current paced some fits =
    let new : Added = record { epoch = pace.epoch + epochs; pages = current - pace.left } in
    let past : All (λ (a : Added). a.epoch ≤ pace.epoch + epochs) pace.added =
    All-weaker (λ a. a.epoch ≤ pace.epoch) (λ a. a.epoch ≤ pace.epoch + epochs) (λ a h. omega (arith, h)) pace.added paced.past in
    elim (nat_lt pace.left current) as (λ b. let added = cond b (pace.added ++ new ∷ []) pace.added in
    AllPairs (λ a b. a.epoch < b.epoch) added × All (λ a. a.epoch ≤ pace.epoch + epochs) added × All (λ a. a.pages ≤ pages_end - 512) added) [
      | false ↦ (paced.rising, past, paced.pages)
      | true ↦ (
        all_pairs_push (λ (a b : Added). a.epoch < b.epoch) pace.added new paced.rising (λ k d h. omega (arith, paced.past k d h)),
        All-push (λ (a : Added). a.epoch ≤ pace.epoch + epochs) pace.added new past (omega arith),
        All-push (λ (a : Added). a.pages ≤ pages_end - 512) pace.added new paced.pages (omega (arith, fits)),
      )
    ]

-- the epochs that passed fit into the time that passed
epochs_fit : (epoch epochs start ms : ℕ) → epoch * ms * 5000 ≤ start → (epoch + epochs) * ms * 5000 ≤ start + epochs * (ms * 5000)
epochs_fit epoch epochs start ms h = grind (arith, h)

pub passed_paced : (pace : Pace) (ms epochs current : ℕ) → IsPaced pace → pace.ms ≡ pos ms → 0 < epochs → current ≤ pages_end - 512 → IsPaced (passed pace (ms * 5000) epochs current).pace
passed_paced pace ms epochs current paced is some fits =
    let added = added_paced pace epochs current paced some fits in record {
      least = paced.least;
      most = paced.most;
      started = λ n e. let same : ms ≡ n = cc (is, e) in
          subst (λ k. (pace.epoch + epochs) * k * 5000 ≤ pace.start + epochs * (ms * 5000)) same (epochs_fit pace.epoch epochs pace.start ms (paced.started ms is));
      rising = added.0;
      past = added.1;
      pages = added.2;
      left = omega (arith, fits);
    }

passed_if_paced : (pace : Pace) (ms epochs current : ℕ) → IsPaced pace → pace.ms ≡ pos ms → current ≤ pages_end - 512 → IsPaced (passed_if_any pace (ms * 5000) epochs current).pace
passed_if_paced pace ms epochs current paced is fits =
    elim (epochs == 0) as (λ b. (epochs == 0) ≡ b → IsPaced (cond b (record { pace = pace; limit = None }) (passed pace (ms * 5000) epochs current)).pace) [
      | true ↦ λ h. paced
      | false ↦ λ h. let some : 0 < epochs = grind (arith, nat_tests) in passed_paced pace ms epochs current paced is some fits
    ] refl

advanced_paced : (pace : Pace) (ms : ℤ) (now current : ℕ) → pace.ms ≡ ms → IsPaced pace → current ≤ pages_end - 512 → IsPaced (advanced_in ms pace now current).pace
advanced_paced pace (negsuc n) now current is paced fits = paced
advanced_paced pace (pos ms) now current is paced fits =
    elim (ms == 0) as (λ b. IsPaced (cond b (record { pace = pace; limit = Some 0 }) (passed_if_any pace (ms * 5000) ((now - pace.start) / (ms * 5000)) current)).pace)
    [ true ↦ paced | false ↦ passed_if_paced pace ms ((now - pace.start) / (ms * 5000)) current paced is fits ]

pub advance_goes : (c : ℕ) (s : Space) (now : ℕ) → Sound s → Goes c s (Advance now) (after_advance s now)
advance_goes c s now sound =
    let t : Space = (advance_all s now).after in
    live_goes c s (Advance now) _ sound (λ page before. refl, refl, refl) (λ h. AdvanceNoArena h refl)
    (λ live. goes sound (frame_does c s t (Advance now) _ sound refl refl (range_frame c s t sound (record {
      box = sound.box;
      dirty = advanced_paced s.dirty s.dirty.ms now (pages_listed rests.Dirty s.parts) refl sound.dirty (listed_fit_space rests.Dirty s sound);
      muzzy = advanced_paced s.muzzy s.muzzy.ms now (pages_listed rests.Muzzy s.parts) refl sound.muzzy (listed_fit_space rests.Muzzy s sound);
      grow = sound.grow;
      grow_limit = sound.grow_limit;
    }) refl refl refl refl) (live_quiet s t (live_is s.life live) refl) (λ page before. refl) refl) (λ after. AdvanceLimits _ _))
