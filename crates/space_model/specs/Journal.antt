-- The journal of an arena: its entries in order, what they leave, and which pages the hooks granted in them.
use Rattle.std.specs.Prelude.{◌≡◌, ℕ, Bool, true, false, ◌&&◌, ◌||◌, not, List, [], ◌∷◌, fold, if◌then◌else◌}
use Rattle.std.specs.List.{flat_map}
use Rattle.space_model.specs.Types.{Ask, Dalloc, Entry, Op, GrowDone, Offer, OfferDone, DestroyTake, Reply, Grown, Kept, Abandoned, Doomed, Span, Space}
use Rattle.space_model.specs.Span.{has_page}
use Rattle.space_model.specs.Part.{holders}
use Rattle.space_model.specs.Step.{space_after, reply_to, stands}
use Rattle.space_model.specs.Sound.{Sound}

-- the space that a journal leaves
abbrev pub replay : Space → List Entry → Space
replay space entries = fold space_after space entries

-- whether each entry of a journal may stand where it comes
abbrev pub all_stand : Space → List Entry → Bool
all_stand space [] = true
all_stand space (e ∷ es) = stands space e && all_stand (space_after space e) es

-- the entries of a journal with their replies
abbrev pub turns_of : Space → List Entry → List (Entry × Reply)
turns_of space [] = []
turns_of space (e ∷ es) = (e, reply_to space e) ∷ turns_of (space_after space e) es

-- whether the page is in the span of a dalloc
abbrev pub is_in_dalloc : ℕ → Ask → Bool
is_in_dalloc page (Dalloc span committed) = has_page page span
is_in_dalloc page ask = false

-- whether a page is granted after an operation with its reply, where it was before or not: an alloc grants its pages, an
-- offer gives them up, an offer that the hook refused is granted again, and what is to be destroyed is given up
abbrev pub granted_by : ℕ → Bool → Op → Reply → Bool
granted_by page before (GrowDone heard found) (Grown span committed) = before || has_page page span
granted_by page before (Offer span) reply = before && not (has_page page span)
granted_by page before (OfferDone heard found) Kept = before || is_in_dalloc page heard.ask
granted_by page before DestroyTake (Doomed span committed) = before && not (has_page page span)
granted_by page before op reply = before

-- whether the hooks granted a page in the turns, and it wasn't given back
abbrev pub granted : ℕ → List (Entry × Reply) → Bool
granted page turns = fold (λ before turn. granted_by page before turn.0.op turn.1) false turns

-- the span of an offer that a turn gave up, if it did
abbrev pub given_up_by : Op → Reply → List Span
given_up_by (OfferDone heard found) (Abandoned next) = spans_of heard.ask
  where
    spans_of : Ask → List Span
    spans_of (Dalloc span committed) = span ∷ []
    spans_of ask = []
given_up_by op reply = []

-- the spans that were given up in the turns, since their pages had an owner again when a hook opted out of their dalloc
abbrev pub abandoned : List (Entry × Reply) → List Span
abandoned turns = flat_map (λ turn. given_up_by turn.0.op turn.1) turns

-- The space is sound, and its pages are just those that the hooks granted in the turns.
pub record Good (turns : List (Entry × Reply)) (s : Space) : Type 0 where
  pub sound : Sound s
  pub pages : (page : ℕ) → holders page s.parts ≡ (if granted page turns then 1 else 0)
