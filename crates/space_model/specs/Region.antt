-- The allocations of an arena: their bytes, their homes, and their order.
use Rattle.std.specs.Prelude.{ℕ, ◌+◌, ◌*◌, Bool, false, ◌==◌, ◌&&◌, not, List, nat_le, nat_lt, map, fold, count_by, Option, None, Some, is_none, if◌then◌else◌}
use Rattle.std.specs.List.{insert, list_any, position_or_len, range_with_len}
use Rattle.size_classes.specs.Classes.{size_at, pages_at}
use Rattle.space_model.specs.Types.{Span, Part, Region}
use Rattle.space_model.specs.Span.{end_of}
use Rattle.space_model.specs.Part.{is_active}

-- the address of a page's first byte
abbrev pub address_of : ℕ → ℕ
address_of page = 4096 * page

-- whether the region has the byte
abbrev pub covers : ℕ → Region → Bool
covers byte r = nat_le r.addr byte && nat_lt byte (r.addr + size_at r.class)

-- how many regions have the byte
abbrev pub sharers : ℕ → List Region → ℕ
sharers byte regions = count_by (covers byte) regions

-- whether the client holds the region
abbrev pub is_held_by : ℕ → Region → Bool
is_held_by client r = holds r.holder
  where
    holds : Option ℕ → Bool
    holds None = false
    holds (Some c) = c == client

-- whether a client other than this one holds the region
abbrev pub is_held_by_other : ℕ → Region → Bool
is_held_by_other client r = holds r.holder
  where
    holds : Option ℕ → Bool
    holds None = false
    holds (Some c) = not (c == client)

-- whether nobody holds the region
abbrev pub is_published : Region → Bool
is_published r = is_none r.holder

-- whether the region begins at the address
abbrev pub starts_at : ℕ → Region → Bool
starts_at addr r = r.addr == addr

-- whether all bytes of the region lie in the span
abbrev pub lies_in : Span → Region → Bool
lies_in s r = nat_le (address_of s.first) r.addr && nat_le (r.addr + size_at r.class) (address_of (end_of s))

-- whether the extent serves the region: it is active and committed, and the region lies in it
abbrev pub houses : Part → Region → Bool
houses p r = is_active p.state && p.committed && lies_in p.span r

-- how many extents serve the region
abbrev pub homes : Region → List Part → ℕ
homes r parts = count_by (λ p. houses p r) parts

-- how many regions the extent serves
abbrev pub residents : Part → List Region → ℕ
residents p regions = count_by (houses p) regions

-- whether the region starts the extent and has all of it
abbrev pub fills : Part → Region → Bool
fills p r = r.addr == address_of p.span.first && p.span.pages == pages_at r.class

-- the regions with one more, which stands before the first at a higher address
abbrev pub inserted : Region → List Region → List Region
inserted r regions = insert regions (position_or_len (λ q. nat_lt r.addr q.addr) regions) r

-- the regions with more, each in its place
abbrev pub landing : List Region → List Region → List Region
landing come regions = fold (λ landed r. inserted r landed) regions come

-- the regions after those that pass a test have another holder
abbrev pub held_anew : (Region → Bool) → Option ℕ → List Region → List Region
held_anew test holder regions = map (λ r. if test r then record r { holder = holder } else r) regions

-- the region of a class at an address, held by the client
abbrev pub region_of : ℕ → ℕ → ℕ → Region
region_of c class addr = record { addr = addr; class = class; holder = Some c }

-- the first so many regions of a class from an address on, held by the client
abbrev pub regions_from : ℕ → ℕ → ℕ → ℕ → List Region
regions_from c class addr count = map (λ i. region_of c class (addr + i * size_at class)) (range_with_len 0 count)

-- whether the extent is a slab of the class: it serves a region of it
abbrev pub is_slab : ℕ → List Region → Part → Bool
is_slab class regions p = list_any (λ r. r.class == class && houses p r) regions
