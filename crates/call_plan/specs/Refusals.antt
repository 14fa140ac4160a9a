-- What stands after each refused ask: what a call wants next, and what its client has in flight.
use Rattle.std.specs.Prelude.{◌≡◌, ℕ, ◌+◌, ◌-◌, Bool, true, false, Option, None, Some}
use Rattle.space_model.specs.Step.{next_flight}
use Rattle.space_model.specs.Purging.{is_regranted}
use Rattle.call_plan.specs.Words.{AfterFlight, Replied, Refused, AskPoint, Skipping, Trimming, Growing, SplittingGrown, GrowingExactly, SplittingExact, Committing, Merging, PurgingLazily, Returning, Decommitting, Forcing, Cutting, Extending, Sparing, Backing, Joining, Offering, Turns, Asks, Next, Go, Ends, Reply, Space, Span, Sound, mine, AskFacts}
use Rattle.call_plan.specs.Table.{look_on, move, need_chunks, put_next, put_purged, step, want}
use Rattle.call_plan.specs.Knows.{Flies, Idle, Knows}
use Rattle.call_plan.specs.Laws.{Moves, flights_of}
use Rattle.space_model.specs.declared.Answer.TheVariants as answers

-- the call goes on there, and nothing is in flight or offered
abbrev pub Rests : ℕ → Space → Next → Next → Type 0
Rests c t next there = (next ≡ there) × Idle (mine c t)

-- the call goes on there, so many extents are in flight, this one among them, and nothing is offered
abbrev pub HoldsExtent : ℕ → Space → ℕ → Span → Next → Next → Type 0
HoldsExtent c t count span next there = (next ≡ there) × (flights_of c t ≡ count) × Flies (mine c t) span (λ part. Unit {0})

-- a dalloc leaves the extent to the client, which goes on with its decommit; where its pages have an owner again it is
-- given up, and the client goes on with the next one that it has in flight
abbrev pub AfterDalloc : ℕ → Space → Space → Bool → Span → AfterFlight → Next → Type 0
AfterDalloc c s t false span later next = HoldsExtent c t (flights_of c s + 1) span next (Go (Asks (Decommitting span later) None))
AfterDalloc c s t true span later next = (next ≡ put_next later (next_flight c s.parts)) × (flights_of c t ≡ flights_of c s)

-- The table of refusals, from a space to the one behind the turn that took the refusal in, with the chunk that was found
-- to speak against it. Of a malloc: a split leaves the extent whole and nobody's, and just as many chunks as are needed
-- are asked for; where these were granted, and for a commit and the alloc of them, that is the end. Of an extent that is
-- put down or purged: a merge leaves the neighbour to the arena, a purge or a decommit leaves the extent as it was, and a
-- dalloc leaves it to the client, unless that chunk was found or an extent of the arena meets it. Of a region that is resized:
-- another one takes its place.
abbrev pub AfterRefusal : ℕ → Space → Space → Option ℕ → AskPoint → AskFacts → Next → Type 0
AfterRefusal c s t found (Skipping wish span is_committed skip) asked next = Rests c t next (need_chunks wish)
AfterRefusal c s t found (Trimming wish span is_committed) asked next = Rests c t next (need_chunks wish)
AfterRefusal c s t found (Growing wish chunks) asked next = Rests c t next (need_chunks wish)
AfterRefusal c s t found (SplittingGrown wish span is_committed) asked next = Rests c t next (need_chunks wish)
AfterRefusal c s t found (GrowingExactly wish) asked next = Rests c t next (Ends (Refused asked))
AfterRefusal c s t found (SplittingExact wish span is_committed) asked next = Rests c t next (Ends (Refused asked))
AfterRefusal c s t found (Committing wish span) asked next = Rests c t next (Ends (Refused asked))
AfterRefusal c s t found (Merging low high true fresh later) asked next = HoldsExtent c t (flights_of c s - 1) low next (look_on low true fresh later)
AfterRefusal c s t found (Merging low high false fresh later) asked next = HoldsExtent c t (flights_of c s - 1) high next (look_on high false fresh later)
AfterRefusal c s t found (PurgingLazily span later) asked next = HoldsExtent c t (flights_of c s) span next (Go (Turns (Offering span later)))
AfterRefusal c s t found (Returning span later) asked next = AfterDalloc c s t (is_regranted found span s.parts) span later next
AfterRefusal c s t found (Decommitting span later) asked next = HoldsExtent c t (flights_of c s) span next (Go (Asks (Forcing span later) None))
AfterRefusal c s t found (Forcing span later) asked next = HoldsExtent c t (flights_of c s) span next (put_purged span later)
AfterRefusal c s t found (Cutting resize) asked next = Rests c t next (move resize)
AfterRefusal c s t found (Extending resize) asked next = Rests c t next (move resize)
AfterRefusal c s t found (Sparing resize span is_committed) asked next = Rests c t next (move resize)
AfterRefusal c s t found (Backing resize span) asked next = Rests c t next (move resize)
AfterRefusal c s t found (Joining resize span) asked next = Rests c t next (move resize)

-- what stands once a refusal of an ask was taken in is what the table of refusals says
abbrev pub RefusalsStand : Type 0
RefusalsStand = (c : ℕ) (s t : Space) (point : AskPoint) (asked : AskFacts) (reply : Reply) → Sound s → Knows (mine c s) (Asks point (Some asked))
    → asked.answer ≡ answers.Refused → (moves : Moves c s (want (Asks point (Some asked))) (Replied reply) t) → AfterRefusal c s t moves.0 point asked (step (Asks point (Some asked)) (Replied reply))
