-- How a large region is resized in place: joined with pages behind it, or cut.
use Rattle.std.specs.Prelude.{ℕ, ◌+◌, ◌-◌, ◌%◌, Bool, false, ◌==◌, ◌&&◌, not, nat_le, nat_lt, List, [], ◌∷◌, find, filter, Option, None, Some, if◌then◌else◌}
use Rattle.std.specs.List.{list_any}
use Rattle.std.specs.Option.{option_and_then, option_map}
use Rattle.size_classes.specs.Classes.{pages_at}
use Rattle.space_model.specs.Types.{Ask, Split, Merge, Answer, Done, Noted, Nothing, Took, Landed, Cut, Whole, Part, Region, Space}
use Rattle.space_model.specs.Span.{pages_end, end_of, has_page, same_span}
use Rattle.space_model.specs.Part.{exchanged, begins_at, is_unused, is_flight_at, taken_out}
use Rattle.space_model.specs.Region.{address_of, houses, inserted, is_held_by, starts_at}
use Rattle.space_model.specs.Stepped.{Stepped, stays, replaced, whole_at, low_piece, high_piece, joined, begins_either, found_passes, has_flight, is_yes_or_no}
use Rattle.space_model.specs.Clients.{is_in, with_client, without_client}
use Rattle.space_model.specs.declared.asks.Answer.TheVariants as answers

-- whether the class is large
abbrev pub is_large_class : ℕ → Bool
is_large_class class = nat_le 36 class && nat_lt class 121

-- whether it is the client's large region at the address
abbrev pub is_large_at : ℕ → ℕ → Region → Bool
is_large_at c addr r = is_held_by c r && starts_at addr r && nat_le 36 r.class

-- a region with the extent that serves it
abbrev pub with_home : List Part → Region → Option (Region × Part)
with_home parts r = option_map (λ p. (r, p)) (find (λ p. houses p r) parts)

-- the client's large region at an address, with the extent that serves it
abbrev pub large_home : Space → ℕ → ℕ → Option (Region × Part)
large_home space c addr = option_and_then (with_home space.parts) (find (is_large_at c addr) space.regions)

-- whether the client has a large region at the address, whose extent passes a test
abbrev pub has_large : Space → ℕ → ℕ → (Part → Bool) → Bool
has_large space c addr test = found_passes test (option_map (λ home. home.1) (large_home space c addr))

-- the regions after one has taken another class
abbrev pub reclassed : Region → ℕ → List Region → List Region
reclassed r class regions = inserted (record r { class = class }) (filter (λ q. not (starts_at r.addr q)) regions)

-- ---- Widen

-- whether the extent is unused, begins at the page and has so many pages
abbrev pub is_spare : ℕ → ℕ → Part → Bool
is_spare page pages p = is_unused p.state && begins_at page p && nat_le pages p.span.pages

-- whether a chunk begins at the page, in the space, and no extent has the page
abbrev pub is_open : List Part → ℕ → Bool
is_open parts page = page % 512 == 0 && nat_lt page pages_end && not (list_any (λ p. has_page page p.span) parts)

-- the extent behind the page leaves its list; where there is none, the hooks may be asked for one, if a chunk begins there
abbrev pub widen_by : Space → ℕ → ℕ → Option Part → Stepped
widen_by space c page (Some p) = replaced space p (taken_out c p ∷ []) (Took p.span p.committed 0)
widen_by space c page None = stays space (if is_open space.parts page then Noted else Nothing)

-- looks for the pages that the region's extent lacks
abbrev pub widen_at : Space → ℕ → ℕ → Option (Region × Part) → Stepped
widen_at space c pages None = stays space Noted
widen_at space c pages (Some home) =
    let s = home.1.span in widen_by space c (end_of s) (find (is_spare (end_of s) (pages - s.pages)) space.parts)

-- looks for pages behind a large region
abbrev pub after_widen : Space → ℕ → ℕ → ℕ → Stepped
after_widen space c addr pages = widen_at space c pages (large_home space c addr)

-- whether the client has a large region at the address in an extent of fewer pages
abbrev pub widen_stands : Space → ℕ → ℕ → ℕ → Bool
widen_stands space c addr pages = has_large space c addr (λ p. nat_lt p.span.pages pages)

-- ---- JoinDone

-- two extents are one from now on, and the region takes the class
abbrev pub widened_at : Space → ℕ → Option (Region × Part) → Option Part → Stepped
widened_at space class (Some home) (Some high) = record {
  after = record space {
    parts = exchanged (begins_either home.1 high) space.parts (joined home.1 high ∷ []);
    regions = reclassed home.0 class space.regions;
  };
  reply = Landed home.0.addr 1;
}
widened_at space class home high = stays space Noted

-- takes in the answer to a merge of a large region's extent with the extent in flight behind it
abbrev pub after_join : Space → ℕ → ℕ → Ask → Answer → Stepped
after_join space c class (Merge low high) Done =
    widened_at space class (large_home space c (address_of low.first)) (find (is_flight_at c high) space.parts)
after_join space c class (Merge low high) answers.Refused = whole_at space (find (is_flight_at c high) space.parts)
after_join space c class ask answer = stays space Noted

-- whether the answer to such a merge may be taken in: together the extents have the pages of the large class
abbrev pub join_stands : Space → ℕ → ℕ → Ask → Answer → Bool
join_stands space c class (Merge low high) answer =
    is_yes_or_no answer && is_large_class class && low.pages + high.pages == pages_at class && end_of low == high.first
    && has_large space c (address_of low.first) (λ p. same_span p.span low) && has_flight space c high (λ p. p.committed)
join_stands space c class ask answer = false

-- ---- Trim

-- the client begins to shrink a large region
abbrev pub after_trim : Space → ℕ → Stepped
after_trim space c = stays (record space { trims = with_client c space.trims }) Noted

-- whether the client may: it has a large region at the address, the large class has fewer pages, and it shrinks no other
abbrev pub trim_stands : Space → ℕ → ℕ → ℕ → Bool
trim_stands space c addr class =
    is_large_class class && not (is_in c space.trims) && has_large space c addr (λ p. nat_lt (pages_at class) p.span.pages)

-- ---- TrimDone

-- the extent is two from now on: the low one serves the region, which takes the class, and the high one is in flight
abbrev pub trimmed_at : Space → ℕ → ℕ → ℕ → Option (Region × Part) → Stepped
trimmed_at space c left class None = stays space Noted
trimmed_at space c left class (Some home) =
    let high : Part = taken_out c (high_piece left home.1) in record {
      after = record space {
        parts = exchanged (begins_at home.1.span.first) space.parts (low_piece left home.1 ∷ high ∷ []);
        regions = reclassed home.0 class space.regions;
      };
      reply = Cut high.span;
    }

-- takes in the answer to a split of a large region's extent, which ends the client's shrinking
abbrev pub trim_answered : Space → ℕ → ℕ → Ask → Answer → Stepped
trim_answered space c class (Split span left) Done =
    trimmed_at space c left class (large_home space c (address_of span.first))
trim_answered space c class (Split span left) answers.Refused = stays space Whole
trim_answered space c class ask answer = stays space Noted

-- the client shrinks no region any more
abbrev pub after_trim_done : Space → ℕ → ℕ → Ask → Answer → Stepped
after_trim_done space c class ask answer =
    trim_answered (record space { trims = without_client c space.trims }) c class ask answer

-- whether the answer to such a split may be taken in: the low piece has the pages of the large class
abbrev pub trim_done_stands : Space → ℕ → ℕ → Ask → Answer → Bool
trim_done_stands space c class (Split span left) answer =
    is_yes_or_no answer && is_in c space.trims && is_large_class class && left == pages_at class && nat_lt left span.pages
    && has_large space c (address_of span.first) (λ p. same_span p.span span)
trim_done_stands space c class ask answer = false
