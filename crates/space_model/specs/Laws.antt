-- What is said of every arena and every journal: the statements of the laws.
use Rattle.std.specs.Prelude.{◌≡◌, ◌≢◌, ℕ, ◌+◌, ◌*◌, ◌/◌, ◌%◌, ◌-◌, ◌<◌, ◌≤◌, IsTrue, List, [], ◌∷◌, ◌++◌, All, AllPairs, Any}
use Rattle.std.specs.List.{sum_by}
use Rattle.size_classes.specs.Classes.{align_at}
use Rattle.space_model.specs.declared.counts.Counts.{Counts}
use Rattle.space_model.specs.Types.{Entry, Reply, Space}
use Rattle.space_model.specs.Span.{has_page, pages_end}
use Rattle.space_model.specs.Part.{is_active}
use Rattle.space_model.specs.Region.{covers, lies_in}
use Rattle.space_model.specs.Step.{space_after, reply_to, stands}
use Rattle.space_model.specs.Sound.{Sound}
use Rattle.space_model.specs.Journal.{Good, replay, all_stand, turns_of, granted}
use Rattle.space_model.specs.Own.{mine}
use Rattle.space_model.specs.Outcome.{Outcome}
use Rattle.space_model.specs.Flights.{flights, lost, won}
use Rattle.space_model.specs.Opening.{first_space, absent_space}
use Rattle.space_model.specs.Counts.{bytes_of, counts_of}

-- an entry that may stand at a good space leaves a good one, for the longer journal
abbrev pub EntriesKeepGood : Type 0
EntriesKeepGood = (turns : List (Entry × Reply)) (s : Space) (entry : Entry) → Good turns s → IsTrue (stands s entry) →
    Good (turns ++ (entry, reply_to s entry) ∷ []) (space_after s entry)

-- an entry that may stand at a sound space changes nothing that another client owns
abbrev pub EntriesKeepOthers : Type 0
EntriesKeepOthers = (s : Space) (entry : Entry) (client : ℕ) → Sound s → IsTrue (stands s entry) → client ≢ entry.client →
    mine client (space_after s entry) ≡ mine client s

-- an entry that may stand at a sound space goes in one of the ways in which its operation may
abbrev pub RepliesTellOutcome : Type 0
RepliesTellOutcome = (s : Space) (entry : Entry) → Sound s → IsTrue (stands s entry) →
    Outcome entry.client s (space_after s entry) entry.op (reply_to s entry)

-- and its client has as many extents in flight as before, without those that it lost and with those that it won
abbrev pub RepliesTellFlights : Type 0
RepliesTellFlights = (s : Space) (entry : Entry) → Sound s → IsTrue (stands s entry) →
    flights entry.client (space_after s entry) + lost entry.op (reply_to s entry)
    ≡ flights entry.client s + won entry.client s entry.op (reply_to s entry)

-- a journal of arena 0 whose entries may stand leaves a good space
abbrev pub FirstReplaysAreGood : Type 0
FirstReplaysAreGood = (entries : List Entry) → IsTrue (all_stand first_space entries) →
    Good (turns_of first_space entries) (replay first_space entries)

-- and so does one of an index without an arena
abbrev pub AbsentReplaysAreGood : Type 0
AbsentReplaysAreGood = (entries : List Entry) → IsTrue (all_stand absent_space entries) →
    Good (turns_of absent_space entries) (replay absent_space entries)

-- entries that may stand from a good space on leave a good one, for the longer journal
abbrev pub ReplaysKeepGood : Type 0
ReplaysKeepGood = (turns : List (Entry × Reply)) (s : Space) (entries : List Entry) → Good turns s → IsTrue (all_stand s entries) →
    Good (turns ++ turns_of s entries) (replay s entries)

-- what a client owns stays as it is while others make entries
abbrev pub ReplaysKeepOthers : Type 0
ReplaysKeepOthers = (s : Space) (entries : List Entry) (client : ℕ) → Sound s → IsTrue (all_stand s entries) →
    All (λ e. client ≢ e.client) entries → mine client (replay s entries) ≡ mine client s

-- no page is in two extents
abbrev pub PartsAreApart : Type 0
PartsAreApart = (s : Space) → Sound s →
    AllPairs (λ p q. (page : ℕ) → ¬ (IsTrue (has_page page p.span) × IsTrue (has_page page q.span))) s.parts

-- no byte is in two regions
abbrev pub RegionsAreApart : Type 0
RegionsAreApart = (s : Space) → Sound s →
    AllPairs (λ q r. (byte : ℕ) → ¬ (IsTrue (covers byte q) × IsTrue (covers byte r))) s.regions

-- the regions stand by address, each above the one before it
abbrev pub RegionsRise : Type 0
RegionsRise = (s : Space) → Sound s → AllPairs (λ q r. q.addr < r.addr) s.regions

-- each region lies in an extent that is active and committed
abbrev pub RegionsHaveHomes : Type 0
RegionsHaveHomes = (s : Space) → Sound s →
    All (λ r. Any (λ p. IsTrue (is_active p.state) × IsTrue p.committed × IsTrue (lies_in p.span r)) s.parts) s.regions

-- the page of each byte of a region is granted
abbrev pub RegionsAreGranted : Type 0
RegionsAreGranted = (turns : List (Entry × Reply)) (s : Space) → Good turns s →
    All (λ r. (byte : ℕ) → IsTrue (covers byte r) → IsTrue (granted (byte / 4096) turns)) s.regions

-- the address of each region is a multiple of its class's alignment
abbrev pub RegionsAreAligned : Type 0
RegionsAreAligned = (s : Space) → Sound s → All (λ r. r.addr % align_at r.class ≡ 0) s.regions

-- the mapped bytes are those that are active, dirty, muzzy and in flight
abbrev pub MappedIsSum : Type 0
MappedIsSum = (s : Space) → let n : Counts = counts_of s in n.mapped ≡ n.active + n.dirty + n.muzzy + n.flight

-- and those of all extents but retained ones
abbrev pub MappedIsUnretained : Type 0
MappedIsUnretained = (s : Space) → let n : Counts = counts_of s in n.mapped + n.retained ≡ sum_by bytes_of s.parts

-- the bytes of all extents are at most those of the space
abbrev pub BytesFitSpace : Type 0
BytesFitSpace = (s : Space) → Sound s → sum_by bytes_of s.parts ≤ 4096 * (pages_end - 512)
