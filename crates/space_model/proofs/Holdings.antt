-- Regions that change their holder alone.
use Rattle.std.proofs.Common.{true, false, ◌≡◌, ℕ, ◌%◌, ◌<◌, Bool, cond, IsTrue, List, ◌∷◌, Option, Some, None, refl, ◌∙◌, arith, All, filter, find, get_or, []}
use Rattle.space_model.proofs.Words.{nat_tests, sum_by, sum_by-cons, All-weaker, All-map, align_at, Publish, TakeOver, Noted, Nothing, Part, Region, Space, homes, houses, residents, held_anew, is_held_by, is_live, is_held_at, is_published_at, after_publish, take_over_at, after_take_over, Sound, IsInSlab, PublishNoted, TakeNoArena, TakeNothing, TakeOwned, holds_at}
use Rattle.space_model.proofs.Ordered.{ordered-held_anew}
use Rattle.space_model.proofs.Settled.{Settled, Used, LargeAt, SmallAt, covered, serves_by, sound_settled}
use Rattle.space_model.proofs.Changes.{regions_does}
use Rattle.space_model.proofs.Pieces.{both_true, not_both, held_by_one}
use Rattle.space_model.proofs.Outcomes.{Goes, goes, still_goes, live_goes}
use Rattle.space_model.proofs.Moves.{live_is}

-- the region with another holder, if it passes the test
abbrev anew : (Region → Bool) → Option ℕ → Region → Region
anew test holder r = cond (test r) (record r { holder = holder }) r

-- what is true of a region whoever holds it is true of it then
anew_is : (test : Region → Bool) (holder : Option ℕ) (Q : Region → Type 0) → ((r : Region) → Q r → Q (record r { holder = holder })) → (r : Region) → Q r → Q (anew test holder r)
anew_is test holder Q blind r here = elim (test r) as (λ b. Q (cond b (record r { holder = holder }) r)) [ true ↦ blind r here | false ↦ here ]

-- so of all regions
All-anew : (test : Region → Bool) (holder : Option ℕ) (Q : Region → Type 0) (regions : List Region) → ((r : Region) → Q r → Q (record r { holder = holder })) →
    All Q regions → All Q (held_anew test holder regions)
All-anew test holder Q regions blind all =
    All-map Q (anew test holder) regions (All-weaker Q (λ r. Q (anew test holder r)) (λ r h. anew_is test holder Q blind r h) regions all)

-- and sums over them
anew_sum : (test : Region → Bool) (holder : Option ℕ) (f : Region → ℕ) → ((r : Region) → f (record r { holder = holder }) ≡ f r) → (regions : List Region) →
    sum_by f (held_anew test holder regions) ≡ sum_by f regions
anew_sum test holder f blind [] = refl
anew_sum test holder f blind (r ∷ rs) =
    let here : f (anew test holder r) ≡ f r = anew_is test holder (λ q. f q ≡ f r) (λ q e. blind q ∙ e) r refl in
    omega (arith, here, sum_by-cons f (anew test holder r) (held_anew test holder rs), sum_by-cons f r rs, anew_sum test holder f blind rs)

-- the regions are settled as they were
anew_settled : (test : Region → Bool) (holder : Option ℕ) (parts : List Part) (regions : List Region) → Settled parts regions → Settled parts (held_anew test holder regions)
anew_settled test holder parts regions all =
    let after : List Region = held_anew test holder regions in
    let same : (p : Part) → residents p after ≡ residents p regions = λ p. anew_sum test holder (serves_by p) (λ r. refl) regions in record {
      home = All-anew test holder (λ r. homes r parts ≡ 1) regions (λ r h. h) all.home;
      used = All-weaker (Used regions) (Used after) (λ p h act. omega (arith, h act, same p)) parts all.used;
      large = All-anew test holder (λ r. All (LargeAt after r) parts) regions (λ r h. h)
          (All-weaker (λ r. All (LargeAt regions r) parts) (λ r. All (LargeAt after r) parts)
          (λ r h j e i home big. let was = h j e i home big in (was.0, same (get_or parts j e) ∙ was.1)) regions all.large);
      small = All-anew test holder (λ r. All (SmallAt after r) parts) regions
          (λ r h j e i home little. let slab = h j e i home little in record { pages = slab.pages; alike = slab.alike; place = slab.place })
          (All-weaker (λ r. All (SmallAt regions r) parts) (λ r. All (SmallAt after r) parts)
          (λ r h j e i home little. slab_anew (get_or parts j e) r (h j e i home little)) regions all.small);
      classes = All-anew test holder (λ r. r.class < 121) regions (λ r h. h) all.classes;
      aligned = All-anew test holder (λ r. r.addr % align_at r.class ≡ 0) regions (λ r h. h) all.aligned;
      apart = λ byte. omega (arith, anew_sum test holder (covered byte) (λ r. refl) regions, all.apart byte);
    }
  where
    slab_anew : (p : Part) (r : Region) → IsInSlab regions p r → IsInSlab (held_anew test holder regions) p r
    slab_anew p r slab = record {
      pages = slab.pages;
      alike = All-anew test holder (λ q. IsTrue (houses p q) → q.class ≡ r.class) regions (λ q h. h) slab.alike;
      place = slab.place;
    }

-- what a client holds stays, where it neither held nor holds what passes the test
anew_held : (d : ℕ) (test : Region → Bool) (holder : Option ℕ) (regions : List Region) → ((r : Region) → test r ≡ true → is_held_by d r ≡ false) →
    ((r : Region) → is_held_by d (record r { holder = holder }) ≡ false) → filter (is_held_by d) (held_anew test holder regions) ≡ filter (is_held_by d) regions
anew_held d test holder [] before after = refl
anew_held d test holder (r ∷ rs) before after = grind (arith, before r, after r, anew_held d test holder rs before after)

pub publish_goes : (c : ℕ) (s : Space) (addr : ℕ) → Sound s → is_live s.life ≡ true → Goes c s (Publish addr) (after_publish s c addr)
publish_goes c s addr sound live =
    let test = is_held_at c addr in
    goes sound (regions_does c s (Publish addr) Noted (held_anew test None s.regions) sound (live_is s.life live)
    (anew_settled test None s.parts s.regions (sound_settled s sound))
    (λ d other. anew_held d test None s.regions (λ r h. held_by_one c d r other (both_true (is_held_by c r) _ h).0) (λ r. refl))
    (ordered-held_anew test None s.regions sound.ordered) (λ page before. refl) refl) (λ after. PublishNoted)

take_over_at_goes : (c : ℕ) (s : Space) (addr : ℕ) (o : Option Region) → find (is_published_at addr) s.regions ≡ o → Sound s → is_live s.life ≡ true → Goes c s (TakeOver addr) (take_over_at s c addr o)
take_over_at_goes c s addr None e sound live = still_goes c s (TakeOver addr) Nothing sound (λ page before. refl, refl, refl) (TakeNothing refl)
take_over_at_goes c s addr (Some r) e sound live =
    let test = is_published_at addr in
    goes sound (regions_does c s (TakeOver addr) _ (held_anew test (Some c) s.regions) sound (live_is s.life live)
    (anew_settled test (Some c) s.parts s.regions (sound_settled s sound))
    (λ d other. anew_held d test (Some c) s.regions (λ q h. grind arith) (λ q. not_both d c other))
    (ordered-held_anew test (Some c) s.regions sound.ordered) (λ page before. refl) refl) (λ after. TakeOwned r.class (taken s.regions e))
  where
    taken : (regions : List Region) → find (is_published_at addr) regions ≡ Some r → holds_at c (held_anew (is_published_at addr) (Some c) regions) addr ≡ true
    taken [] k = absurd (cc)
    taken (q ∷ qs) k = grind (arith, nat_tests, taken qs)

pub take_over_goes : (c : ℕ) (s : Space) (addr : ℕ) → Sound s → Goes c s (TakeOver addr) (after_take_over s c addr)
take_over_goes c s addr sound =
    live_goes c s (TakeOver addr) _ sound (λ page before. refl, refl, refl) (λ h. TakeNoArena h refl) (λ live. take_over_at_goes c s addr (find (is_published_at addr) s.regions) refl sound live)
