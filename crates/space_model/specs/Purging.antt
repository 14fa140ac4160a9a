-- How unused extents are purged: taken out of their list by age, purged lazily, offered, decommitted, or purged by force.
use Rattle.std.specs.Prelude.{ℕ, Bool, true, false, ◌==◌, ◌&&◌, ◌||◌, nat_lt, List, [], ◌∷◌, ◌++◌, find, count_by, Option, None, Some, is_some, if◌then◌else◌}
use Rattle.std.specs.Bool.{beq}
use Rattle.std.specs.List.{list_any, position_or_len, remove}
use Rattle.space_model.specs.Types.{Ask, Dalloc, Decommit, PurgeLazy, PurgeForced, Answer, Done, Noted, Nothing, Next, Taken, Lazy, Kept, Abandoned, Decommitted, Offered, Part, Rest, Span, Flight, Space}
use Rattle.space_model.specs.Span.{same_span, meets}
use Rattle.space_model.specs.Part.{exchanged, begins_at, is_listed, is_flight_at, listed, rest_of, taken_out, next_flight, pages_listed}
use Rattle.space_model.specs.Stepped.{Stepped, stays, replaced, if_live, is_lazy, has_flight, is_yes_or_no}
use Rattle.space_model.specs.declared.asks.Answer.TheVariants as answers
use Rattle.space_model.specs.declared.parts.Rest.TheVariants as rests

-- ---- PurgeTake

-- how many extents are listed among those of the rest
abbrev pub count_listed : Rest → List Part → ℕ
count_listed rest parts = count_by (λ p. is_listed rest p.state) parts

-- the extent leaves its list to be purged
abbrev pub purge_at : Space → ℕ → Rest → Option Part → Stepped
purge_at space c rest None = stays space Nothing
purge_at space c rest (Some p) =
    replaced space p (taken_out c p ∷ [])
    (Taken p.span (is_listed rest (listed rests.Dirty) && is_lazy space) (count_listed rest space.parts))

-- takes the oldest extent of the rest out, where more pages are listed than may stay
abbrev pub after_purge_take : Space → ℕ → Rest → ℕ → Stepped
after_purge_take space c rest keep =
    if_live space
    (if nat_lt keep (pages_listed rest space.parts) then purge_at space c rest (find (λ p. is_listed rest p.state) space.parts)
    else stays space Nothing)

-- whether extents of the rest can be purged
abbrev pub is_purgeable : Rest → Bool
is_purgeable rests.Dirty = true
is_purgeable rests.Muzzy = true
is_purgeable rests.Retained = false

-- ---- LazyDone

-- the extent belongs to the muzzy ones from now on
abbrev pub lazy_at : Space → ℕ → Option Part → Stepped
lazy_at space c None = stays space Noted
lazy_at space c (Some p) = replaced space p (record p { state = Flight c rests.Muzzy } ∷ []) (Lazy true)

-- takes in the answer to a lazy purge
abbrev pub after_lazy : Space → ℕ → Ask → Answer → Stepped
after_lazy space c (PurgeLazy span) Done = lazy_at space c (find (is_flight_at c span) space.parts)
after_lazy space c (PurgeLazy span) answers.Refused = stays space (Lazy false)
after_lazy space c ask answer = stays space Noted

-- whether the answer to a lazy purge may be taken in: the extent belongs to the dirty ones
abbrev pub lazy_stands : Space → ℕ → Ask → Answer → Bool
lazy_stands space c (PurgeLazy span) answer =
    is_yes_or_no answer && has_flight space c span (λ p. is_listed rests.Dirty (listed (rest_of p.state)))
lazy_stands space c ask answer = false

-- ---- Offer

-- the offer that a client makes of an extent
abbrev pub offer_of : ℕ → Part → Offered
offer_of c p = record { client = c; span = p.span; committed = p.committed }

-- the extent is the arena's no more, and the client asks the hook to take it
abbrev pub offer_at : Space → ℕ → Option Part → Stepped
offer_at space c None = stays space Noted
offer_at space c (Some p) = record {
  after = record space {
    parts = exchanged (begins_at p.span.first) space.parts [];
    offers = space.offers ++ offer_of c p ∷ [];
  };
  reply = Noted;
}

-- ---- OfferDone

-- whether it is the client's offer of the span, committed or not
abbrev pub is_offer : ℕ → Span → Bool → Offered → Bool
is_offer c span committed o = o.client == c && same_span o.span span && beq o.committed committed

-- the offers without the first such one
abbrev pub without_offer : ℕ → Span → Bool → List Offered → List Offered
without_offer c span committed offers = remove offers (position_or_len (is_offer c span committed) offers)

-- whether the pages have an owner again: a chunk of another arena was found, or an extent of this one meets them
abbrev pub is_regranted : Option ℕ → Span → List Part → Bool
is_regranted found span parts = is_some found || list_any (λ p. meets p.span span) parts

-- an offer whose hook refused is an extent again, in flight to the retained ones, unless its pages have an owner again
abbrev pub keep_offer : Space → ℕ → Option ℕ → Span → Bool → Stepped
keep_offer space c found span committed =
    if is_regranted found span space.parts then stays space (Abandoned (next_flight c space.parts))
    else record {
      after = record space {
        parts = space.parts ++ record { span = span; state = Flight c rests.Retained; committed = committed } ∷ [];
      };
      reply = Kept;
    }

-- takes in the answer to the dalloc of an offer, which is no offer any more
abbrev pub after_offer : Space → ℕ → Option ℕ → Ask → Answer → Stepped
after_offer space c found (Dalloc span committed) Done =
    stays (record space { offers = without_offer c span committed space.offers }) (Next (next_flight c space.parts))
after_offer space c found (Dalloc span committed) answers.Refused =
    keep_offer (record space { offers = without_offer c span committed space.offers }) c found span committed
after_offer space c found ask answer = stays space Noted

-- whether the answer to a dalloc may be taken in: the client has offered just that
abbrev pub offer_stands : Space → ℕ → Ask → Answer → Bool
offer_stands space c (Dalloc span committed) answer =
    is_yes_or_no answer && list_any (is_offer c span committed) space.offers
offer_stands space c ask answer = false

-- ---- DecommitDone

-- the extent isn't committed any more
abbrev pub decommit_at : Space → Option Part → Stepped
decommit_at space None = stays space Noted
decommit_at space (Some p) = replaced space p (record p { committed = false } ∷ []) (Decommitted true)

-- takes in the answer to a decommit
abbrev pub after_decommit : Space → ℕ → Ask → Answer → Stepped
after_decommit space c (Decommit span) Done = decommit_at space (find (is_flight_at c span) space.parts)
after_decommit space c (Decommit span) answers.Refused = stays space (Decommitted false)
after_decommit space c ask answer = stays space Noted

-- whether the answer to a decommit may be taken in: the extent is committed, and belongs to the retained ones
abbrev pub decommit_stands : Space → ℕ → Ask → Answer → Bool
decommit_stands space c (Decommit span) answer =
    is_yes_or_no answer
    && has_flight space c span (λ p. p.committed && is_listed rests.Retained (listed (rest_of p.state)))
decommit_stands space c ask answer = false

-- ---- ForcedDone

-- whether the answer to a forced purge may be taken in; it changes nothing
abbrev pub forced_stands : Space → ℕ → Ask → Answer → Bool
forced_stands space c (PurgeForced span) answer = is_yes_or_no answer && has_flight space c span (λ _. true)
forced_stands space c ask answer = false
