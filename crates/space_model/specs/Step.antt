-- What one entry does to an arena, and the reply to it: a total function, by cases on the operation.
use Rattle.std.specs.Prelude.{ℕ, ◌+◌, ◌-◌, ◌*◌, ◌%◌, min, max, Bool, true, false, ◌==◌, ◌&&◌, ◌||◌, not, nat_le, nat_lt, List, [], ◌∷◌, ◌++◌, length, filter, find, Option, None, Some, if◌then◌else◌}
use Rattle.std.specs.Bool.{beq}
use Rattle.std.specs.Int.{is_power_of_two}
use Rattle.std.specs.List.{list_any, list_all}
use Rattle.std.specs.Option.{option_map, option_or}
use Rattle.space_model.specs.Types.{Ask, Alloc, Commit, Split, Merge, Answer, Done, Placed, Entry, Op, Look, CutDone, GrowDone, CommitDone, Land, Back, PutLook, MergeDone, Fill, Advance, PurgeTake, LazyDone, Offer, OfferDone, DecommitDone, ForcedDone, Publish, TakeOver, Reset, Destroy, DestroyTake, Counts, Set, Widen, JoinDone, Trim, TrimDone, Reply, Noted, Took, Grow, Cut, Refused, Bad, Grown, Next, Beside, Purge, Joined, Counted, Why, OffSpace, Unaligned, Meets, Part, Region, Span, Dirty, Flight, Space}
use Rattle.space_model.specs.Span.{pages_end, max_series, end_of, chunk_span, chunks_of, chunks_in, meets, run_start}
pub use Rattle.space_model.specs.Part.{placed, next_flight}
use Rattle.space_model.specs.Part.{exchanged, begins_at, is_active, is_listed, is_flight_at, rest_of, listed, put_down, taken_out, turned, turned_in_order}
use Rattle.space_model.specs.Clients.{is_in}
use Rattle.space_model.specs.Region.{houses, is_held_by}
use Rattle.space_model.specs.Fit.{fit}
use Rattle.space_model.specs.Counts.{counts_of}
use Rattle.space_model.specs.Own.{is_dying}
pub use Rattle.space_model.specs.Stepped.{Stepped, stays, replaced, whole_at, is_live, low_piece, high_piece, joined, begins_either, found_passes, has_flight, is_yes_or_no}
use Rattle.space_model.specs.Stepped.{if_live, is_dirty_time_over, is_lazy}
pub use Rattle.space_model.specs.Slabs.{land_at, land_stands}
use Rattle.space_model.specs.Slabs.{after_fill, fill_stands}
use Rattle.space_model.specs.Pace.{after_advance}
use Rattle.space_model.specs.Purging.{after_purge_take, is_purgeable, after_lazy, lazy_stands, offer_at, after_offer, offer_stands, after_decommit, decommit_stands, forced_stands}
use Rattle.space_model.specs.Holding.{after_publish, after_take_over}
use Rattle.space_model.specs.Ending.{after_reset, after_destroy, reset_stands, after_destroy_take}
use Rattle.space_model.specs.Settings.{after_set, setting_stands}
use Rattle.space_model.specs.Resizing.{after_widen, widen_stands, after_join, join_stands, after_trim, trim_stands, after_trim_done, trim_done_stands}
use Rattle.space_model.specs.declared.asks.Answer.TheVariants as answers
use Rattle.space_model.specs.declared.parts.Rest.TheVariants as rests

-- ---- Look

-- the extent that was found leaves its list
abbrev pub look_at : Space → ℕ → ℕ → Option Part → Stepped
look_at space c align None = stays space (Grow (min space.grow space.grow_limit))
look_at space c align (Some p) =
    replaced space p (taken_out c p ∷ []) (Took p.span p.committed (run_start align p.span - p.span.first))

-- looks for the extent that serves a request
abbrev pub after_look : Space → ℕ → ℕ → ℕ → Stepped
after_look space c pages align =
    if_live space (look_at space c align (fit pages align space.parts))

-- ---- CutDone

-- the piece of a cut that stays in flight
abbrev pub kept_piece : Bool → ℕ → Part → Part
kept_piece keep_low left p = if keep_low then low_piece left p else high_piece left p

-- the piece of a cut that is put down
abbrev pub other_piece : Bool → ℕ → Part → Part
other_piece keep_low left p = if keep_low then high_piece left p else low_piece left p

-- the piece that stays in flight comes last, behind the other one
abbrev pub cut_at : Space → Bool → ℕ → Option Part → Stepped
cut_at space keep_low left None = stays space Noted
cut_at space keep_low left (Some p) =
    let kept : Part = kept_piece keep_low left p in
    replaced space p (put_down (other_piece keep_low left p) ∷ kept ∷ []) (Cut kept.span)

-- takes in the answer to a split
abbrev pub after_cut : Space → ℕ → Bool → Ask → Answer → Stepped
after_cut space c keep_low (Split span left) Done = cut_at space keep_low left (find (is_flight_at c span) space.parts)
after_cut space c keep_low (Split span left) answers.Refused = whole_at space (find (is_flight_at c span) space.parts)
after_cut space c keep_low ask answer = stays space Noted

-- ---- GrowDone

-- whether this is the chunk that was found in another arena
abbrev pub is_found : Option ℕ → ℕ → Bool
is_found None chunk = false
is_found (Some other) chunk = other == chunk

-- whether a chunk has an owner: it was found in another arena, or an extent of this one meets it
abbrev pub is_owned : Option ℕ → List Part → ℕ → Bool
is_owned found parts chunk = is_found found chunk || list_any (λ p. meets p.span (chunk_span chunk)) parts

-- whether all pages of the span are in the space
abbrev pub is_in_space : Span → Bool
is_in_space s = nat_le 512 s.first && nat_le (end_of s) pages_end

-- why an answered span can't be taken, or none: the least chunk with an owner is the one that is told
abbrev pub why_not : Option ℕ → ℕ → List Part → Span → Option Why
why_not found align parts s =
    if not (is_in_space s) then Some OffSpace
    else if not (s.first % align == 0) then Some Unaligned
    else option_map (λ chunk. Meets (chunk_span chunk)) (find (is_owned found parts) (chunks_of s))

-- a new extent, in flight to the retained ones
abbrev pub new_part : ℕ → Span → Bool → Part
new_part c s committed = record { span = s; state = Flight c rests.Retained; committed = committed }

-- the growth after one by a span: twice that, if it isn't larger already, within the most that there may be
abbrev pub grow_after : ℕ → Span → ℕ
grow_after grow s = max grow (min max_series (2 * chunks_in s))

-- the answered span joins the arena, unless something speaks against it
abbrev pub grow_unless : Space → ℕ → Span → Bool → Option Why → Stepped
grow_unless space c s committed (Some why) = stays space (Bad why)
grow_unless space c s committed None = record {
  after = record space { parts = space.parts ++ new_part c s committed ∷ []; grow = grow_after space.grow s };
  reply = Grown s committed;
}

-- takes in the answer to an alloc
abbrev pub after_grow : Space → ℕ → Option ℕ → Ask → Answer → Stepped
after_grow space c found (Alloc commit at pages align) answers.Refused = stays space Refused
after_grow space c found (Alloc commit at pages align) (Placed committed zeroed first) =
    let s : Span = record { first = first; pages = pages } in
    grow_unless space c s committed (why_not found align space.parts s)
after_grow space c found ask answer = stays space Noted

-- ---- CommitDone

-- the extent is committed from now on
abbrev pub commit_at : Space → Option Part → Stepped
commit_at space None = stays space Noted
commit_at space (Some p) = replaced space p (record p { committed = true } ∷ []) Noted

-- takes in the answer to a commit
abbrev pub after_commit : Space → ℕ → Ask → Answer → Stepped
after_commit space c (Commit span) Done = commit_at space (find (is_flight_at c span) space.parts)
after_commit space c (Commit span) answers.Refused = whole_at space (find (is_flight_at c span) space.parts)
after_commit space c ask answer = stays space Noted

-- ---- Back

-- whether the client gives the region back: it holds the region, and names its address
abbrev pub is_given_back : ℕ → List ℕ → Region → Bool
is_given_back c addrs r = is_held_by c r && list_any (λ addr. addr == r.addr) addrs

-- the regions that stay
abbrev pub staying : ℕ → List ℕ → List Region → List Region
staying c addrs regions = filter (λ r. not (is_given_back c addrs r)) regions

-- whether the extent is active and serves none of the regions
abbrev pub is_emptied : List Region → Part → Bool
is_emptied regions p = is_active p.state && not (list_any (houses p) regions)

-- the extents as the client takes them out, in order of address
abbrev pub taken_in_order : ℕ → List Part → List Part
taken_in_order c parts = turned_in_order (taken_out c) parts

-- these regions alone stay, and each extent that is emptied is in flight to the dirty ones
abbrev pub with_regions : Space → ℕ → List Region → Stepped
with_regions space c regions =
    let parts = turned (is_emptied regions) (taken_out c) space.parts in record {
      after = record space { parts = parts; regions = regions };
      reply = Next (next_flight c parts);
    }

-- the regions at the addresses go
abbrev pub after_back : Space → ℕ → List ℕ → Stepped
after_back space c addrs = with_regions space c (staying c addrs space.regions)

-- ---- PutLook

-- whether another extent is listed where the extent in flight belongs, and as committed
abbrev pub is_like : Part → Part → Bool
is_like p other = is_listed (rest_of p.state) other.state && beq other.committed p.committed

-- whether it begins where the extent in flight ends
abbrev pub is_right_of : Part → Part → Bool
is_right_of p other = is_like p other && other.span.first == end_of p.span

-- whether it ends where the extent in flight begins
abbrev pub is_left_of : Part → Part → Bool
is_left_of p other = is_like p other && end_of other.span == p.span.first

-- the neighbour that a merge may join to the extent: the right one at the first try, and the left one at the first two
abbrev pub neighbour : ℕ → Part → List Part → Option Part
neighbour tries p parts =
    option_or (if tries == 0 then find (is_right_of p) parts else None) (if nat_lt tries 2 then find (is_left_of p) parts else None)

-- whether the extent belongs to the dirty ones, and none of these may stay
abbrev pub is_purged : Space → Part → Bool
is_purged space p = is_listed (rest_of p.state) Dirty && is_dirty_time_over space

-- one extent in flight is put down, and the next one is told
abbrev pub put_at_rest : Space → ℕ → Part → Stepped
put_at_rest space c p =
    let parts = exchanged (begins_at p.span.first) space.parts (put_down p ∷ []) in
    record { after = record space { parts = parts }; reply = Next (next_flight c parts) }

-- the neighbour leaves its list; where there is none, the extent waits for its purge or is put down
abbrev pub put_beside : Space → ℕ → Part → Option Part → Stepped
put_beside space c p (Some other) = replaced space other (taken_out c other ∷ []) (Beside other.span)
put_beside space c p None =
    if is_purged space p then stays space (Purge (is_lazy space)) else put_at_rest space c p

-- looks for a neighbour of an extent in flight
abbrev pub put_at : Space → ℕ → ℕ → Option Part → Stepped
put_at space c tries None = stays space Noted
put_at space c tries (Some p) = put_beside space c p (neighbour tries p space.parts)

-- ---- MergeDone

-- two extents in flight are one from now on
abbrev pub join_at : Space → Option Part → Option Part → Stepped
join_at space (Some low) (Some high) = record {
  after = record space { parts = exchanged (begins_either low high) space.parts (joined low high ∷ []) };
  reply = Joined (joined low high).span;
}
join_at space low high = stays space Noted

-- the neighbour is put down again, and the extent that looked stays in flight
abbrev pub apart_at : Space → Bool → Option Part → Option Part → Stepped
apart_at space true (Some low) (Some high) = replaced space high (put_down high ∷ []) (Joined low.span)
apart_at space false (Some low) (Some high) = replaced space low (put_down low ∷ []) (Joined high.span)
apart_at space own_low low high = stays space Noted

-- takes in the answer to a merge
abbrev pub after_merge : Space → ℕ → Bool → Ask → Answer → Stepped
after_merge space c own_low (Merge low high) Done =
    join_at space (find (is_flight_at c low) space.parts) (find (is_flight_at c high) space.parts)
after_merge space c own_low (Merge low high) answers.Refused =
    apart_at space own_low (find (is_flight_at c low) space.parts) (find (is_flight_at c high) space.parts)
after_merge space c own_low ask answer = stays space Noted

-- ---- the step

-- what one entry does, by cases on its operation
abbrev pub step_of : Space → ℕ → Op → Stepped
step_of space c (Look pages align) = after_look space c pages align
step_of space c (CutDone heard keep_low) = after_cut space c keep_low heard.ask heard.answer
step_of space c (GrowDone heard found) = after_grow space c found heard.ask heard.answer
step_of space c (CommitDone heard) = after_commit space c heard.ask heard.answer
step_of space c (Land span class count) = land_at space c class count (find (is_flight_at c span) space.parts)
step_of space c (Back addrs) = after_back space c addrs
step_of space c (PutLook span tries) = put_at space c tries (find (is_flight_at c span) space.parts)
step_of space c (MergeDone heard own_low) = after_merge space c own_low heard.ask heard.answer
step_of space c (Fill class count) = after_fill space c class count
step_of space c (Advance now) = after_advance space now
step_of space c (PurgeTake rest keep) = after_purge_take space c rest keep
step_of space c (LazyDone heard) = after_lazy space c heard.ask heard.answer
step_of space c (Offer span) = offer_at space c (find (is_flight_at c span) space.parts)
step_of space c (OfferDone heard found) = after_offer space c found heard.ask heard.answer
step_of space c (DecommitDone heard) = after_decommit space c heard.ask heard.answer
step_of space c (ForcedDone heard) = stays space Noted
step_of space c (Publish addr) = after_publish space c addr
step_of space c (TakeOver addr) = after_take_over space c addr
step_of space c (Reset cached) = after_reset space c cached
step_of space c (Destroy cached) = after_destroy space c cached
step_of space c DestroyTake = after_destroy_take space
step_of space c Counts = if_live space (stays space (Counted (counts_of space)))
step_of space c (Set setting) = after_set space c setting
step_of space c (Widen addr pages) = after_widen space c addr pages
step_of space c (JoinDone heard class) = after_join space c class heard.ask heard.answer
step_of space c (Trim addr class) = after_trim space c
step_of space c (TrimDone heard class) = after_trim_done space c class heard.ask heard.answer

-- the space after an entry
abbrev pub space_after : Space → Entry → Space
space_after space entry = (step_of space entry.client entry.op).after

-- the reply to an entry
abbrev pub reply_to : Space → Entry → Reply
reply_to space entry = (step_of space entry.client entry.op).reply

-- ---- which entries may stand

-- whether the answer is one to an alloc
abbrev pub is_range_or_no : Answer → Bool
is_range_or_no Done = false
is_range_or_no answers.Refused = true
is_range_or_no (Placed committed zeroed first) = true

-- whether the client allocates from the arena, or holds a region of it
abbrev pub is_customer : Space → ℕ → Bool
is_customer space c = is_in c space.bound || list_any (is_held_by c) space.regions

-- whether the answer to a split may be taken in
abbrev pub cut_stands : Space → ℕ → Ask → Answer → Bool
cut_stands space c (Split span left) answer =
    is_yes_or_no answer && nat_lt 0 left && nat_lt left span.pages && has_flight space c span (λ _. true)
cut_stands space c ask answer = false

-- whether the answer to an alloc may be taken in
abbrev pub grow_stands : Space → ℕ → Ask → Answer → Bool
grow_stands space c (Alloc commit at pages align) answer =
    is_range_or_no answer && nat_lt 0 pages && is_power_of_two align && is_customer space c
grow_stands space c ask answer = false

-- whether the answer to a commit may be taken in
abbrev pub commit_stands : Space → ℕ → Ask → Answer → Bool
commit_stands space c (Commit span) answer = is_yes_or_no answer && has_flight space c span (λ p. not p.committed)
commit_stands space c ask answer = false

-- whether the addresses rise, from the least that the first may have on
abbrev pub rises_from : ℕ → List ℕ → Bool
rises_from least [] = true
rises_from least (addr ∷ addrs) = nat_le least addr && rises_from (addr + 1) addrs

-- whether the client holds a region at the address
abbrev pub holds_at : ℕ → List Region → ℕ → Bool
holds_at c regions addr = list_any (λ r. is_held_by c r && r.addr == addr) regions

-- whether regions may be given back: at least one, by rising addresses, and each is one that the client holds
abbrev pub back_stands : Space → ℕ → List ℕ → Bool
back_stands space c addrs = nat_lt 0 (length addrs) && rises_from 0 addrs && list_all (holds_at c space.regions) addrs

-- whether two extents may be merged: they belong to the same list, and are committed alike
abbrev pub may_merge : Part → Part → Bool
may_merge low high = is_listed (rest_of low.state) (listed (rest_of high.state)) && beq low.committed high.committed

-- whether both were found, and may be merged
abbrev pub both_merge : Option Part → Option Part → Bool
both_merge (Some low) (Some high) = may_merge low high
both_merge low high = false

-- whether the answer to a merge may be taken in
abbrev pub merge_stands : Space → ℕ → Ask → Answer → Bool
merge_stands space c (Merge low high) answer =
    is_yes_or_no answer && end_of low == high.first
    && both_merge (find (is_flight_at c low) space.parts) (find (is_flight_at c high) space.parts)
merge_stands space c ask answer = false

-- whether the operation may come next: of an arena that isn't live only one that then replies so, one that makes it live,
-- or one that takes an extent off, by the client that is destroying it
abbrev pub op_stands : Space → ℕ → Op → Bool
op_stands space c (Look pages align) = nat_lt 0 pages && is_power_of_two align
op_stands space c (CutDone heard keep_low) = is_live space.life && cut_stands space c heard.ask heard.answer
op_stands space c (GrowDone heard found) = is_live space.life && grow_stands space c heard.ask heard.answer
op_stands space c (CommitDone heard) = is_live space.life && commit_stands space c heard.ask heard.answer
op_stands space c (Land span class count) = is_live space.life && land_stands space c span class count
op_stands space c (Back addrs) = is_live space.life && back_stands space c addrs
op_stands space c (PutLook span tries) = is_live space.life && nat_lt tries 3 && has_flight space c span (λ _. true)
op_stands space c (MergeDone heard own_low) = is_live space.life && merge_stands space c heard.ask heard.answer
op_stands space c (Fill class count) = fill_stands class count
op_stands space c (Advance now) = true
op_stands space c (PurgeTake rest keep) = is_purgeable rest
op_stands space c (LazyDone heard) = is_live space.life && lazy_stands space c heard.ask heard.answer
op_stands space c (Offer span) = is_live space.life && has_flight space c span (λ _. true)
op_stands space c (OfferDone heard found) = is_live space.life && offer_stands space c heard.ask heard.answer
op_stands space c (DecommitDone heard) = is_live space.life && decommit_stands space c heard.ask heard.answer
op_stands space c (ForcedDone heard) = is_live space.life && forced_stands space c heard.ask heard.answer
op_stands space c (Publish addr) = is_live space.life && holds_at c space.regions addr
op_stands space c (TakeOver addr) = true
op_stands space c (Reset cached) = reset_stands space c cached
op_stands space c (Destroy cached) = reset_stands space c cached
op_stands space c DestroyTake = is_dying c space.life
op_stands space c Counts = true
op_stands space c (Set setting) = setting_stands setting
op_stands space c (Widen addr pages) = is_live space.life && widen_stands space c addr pages
op_stands space c (JoinDone heard class) = is_live space.life && join_stands space c class heard.ask heard.answer
op_stands space c (Trim addr class) = is_live space.life && trim_stands space c addr class
op_stands space c (TrimDone heard class) = is_live space.life && trim_done_stands space c class heard.ask heard.answer

-- whether the entry may come next
abbrev pub stands : Space → Entry → Bool
stands space entry = nat_lt entry.client 32 && op_stands space entry.client entry.op
