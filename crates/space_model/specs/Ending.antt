-- How an arena is emptied and ended: no other client may have anything in it, nor the caller anything in its cache.
use Rattle.std.specs.Prelude.{ℕ, ◌+◌, Bool, ◌==◌, ◌&&◌, not, nat_le, List, [], ◌∷◌, length, count_by, if◌then◌else◌}
use Rattle.std.specs.List.{list_any}
use Rattle.space_model.specs.Types.{Reply, Noted, Nothing, Purge, Busy, Doomed, Part, Absent, Dying, Space}
use Rattle.space_model.specs.Part.{is_active, is_flight, is_in_flight, is_listed, moved_to, turned}
use Rattle.space_model.specs.Region.{is_held_by, is_held_by_other}
use Rattle.space_model.specs.Stepped.{Stepped, stays, replaced, if_live, is_dirty_time_over, is_lazy}
use Rattle.space_model.specs.declared.parts.Rest.TheVariants as rests

-- how many regions others hold or the client has cached
abbrev pub held_count : Space → ℕ → ℕ → ℕ
held_count space c cached = count_by (is_held_by_other c) space.regions + cached

-- how many extents others have in flight or have offered
abbrev pub flight_count : Space → ℕ → ℕ
flight_count space c =
    count_by (λ p. is_in_flight p.state && not (is_flight c p.state)) space.parts
    + count_by (λ o. not (o.client == c)) space.offers

-- a step that only an arena makes which is in nobody's use: one in use tells by what
abbrev pub if_free : Space → ℕ → ℕ → ℕ → Stepped → Stepped
if_free space held flights threads step =
    if held == 0 && flights == 0 && threads == 0 then step else stays space (Busy held flights threads)

-- ---- Reset

-- the reply after all regions were discarded: the dirty extents are to be purged where none may stay
abbrev pub reset_reply : Space → Reply
reset_reply space = if is_dirty_time_over space then Purge (is_lazy space) else Noted

-- all regions go, and each extent that served them is dirty
abbrev pub emptied : Space → Stepped
emptied space = record {
  after = record space { parts = turned (λ p. is_active p.state) (moved_to rests.Dirty) space.parts; regions = [] };
  reply = reset_reply space;
}

-- discards all regions
abbrev pub after_reset : Space → ℕ → ℕ → Stepped
after_reset space c cached =
    if_live space (if_free space (held_count space c cached) (flight_count space c) 0 (emptied space))

-- whether the client may end what is in the arena: it has no extent in flight and no offer, and has cached no more regions
-- than it holds
abbrev pub reset_stands : Space → ℕ → ℕ → Bool
reset_stands space c cached =
    not (list_any (λ p. is_flight c p.state) space.parts) && not (list_any (λ o. o.client == c) space.offers)
    && nat_le cached (count_by (is_held_by c) space.regions)

-- ---- Destroy

-- all regions go, each extent is retained, and the client is destroying the arena
abbrev pub ended : Space → ℕ → Stepped
ended space c = record {
  after = record space {
    life = Dying c;
    parts = turned (λ p. not (is_listed rests.Retained p.state)) (moved_to rests.Retained) space.parts;
    regions = [];
  };
  reply = Noted;
}

-- ends the arena
abbrev pub after_destroy : Space → ℕ → ℕ → Stepped
after_destroy space c cached =
    if_live space (if_free space (held_count space c cached) (flight_count space c) (length space.bound) (ended space c))

-- ---- DestroyTake

-- the oldest extent goes, and after the last one the arena is absent
abbrev pub doom_at : Space → List Part → Stepped
doom_at space [] = stays (record space { life = Absent }) Nothing
doom_at space (p ∷ parts) = replaced space p [] (Doomed p.span p.committed)

-- takes the oldest extent off an arena that is being destroyed
abbrev pub after_destroy_take : Space → Stepped
after_destroy_take space = doom_at space space.parts
