-- What a step gives, and the words that the operations share.
use Rattle.std.specs.Prelude.{◌≡◌, ℕ, ◌+◌, ◌-◌, Bool, true, false, ◌||◌, not, List, [], ◌∷◌, find, pos, Option, None, Some, Result, IfOk, OnOk, OnErr, if◌then◌else◌}
use Rattle.std.specs.Ordering.{int_eq}
use Rattle.space_model.specs.Types.{Answer, Placed, Reply, NoArena, Noted, Whole, Part, Span, Life, Live, Space}
use Rattle.space_model.specs.Part.{exchanged, begins_at, is_flight_at, put_down}

-- The space after an entry, and the reply to it.
pub record Stepped : Type 0 where
  pub after : Space
  pub reply : Reply

-- A step was made and its reply told, or memory was wanting and the space is as it was.
abbrev pub IsMade : {E : Type 0} → Space → Space → Result Reply E → Stepped → Type 0
IsMade s t result step = record {
  after : OnOk result (t ≡ step.after);
  reply : IfOk result (λ told. told ≡ step.reply);
  err : OnErr result (t ≡ s);
}

-- nothing changes
abbrev pub stays : Space → Reply → Stepped
stays space reply = record { after = space; reply = reply }

-- one extent goes, and pieces come last
abbrev pub replaced : Space → Part → List Part → Reply → Stepped
replaced space p pieces reply =
    record { after = record space { parts = exchanged (begins_at p.span.first) space.parts pieces }; reply = reply }

-- an extent in flight whose hook refused is put down whole
abbrev pub whole_at : Space → Option Part → Stepped
whole_at space None = stays space Noted
whole_at space (Some p) = replaced space p (put_down p ∷ []) Whole

-- whether the arena serves requests
abbrev pub is_live : Life → Bool
is_live Live = true
is_live _ = false

-- a step that only a live arena makes: any other has no arena to reply
abbrev pub if_live : Space → Stepped → Stepped
if_live space step = if is_live space.life then step else stays space NoArena

-- the pages of an extent below a cut
abbrev pub low_piece : ℕ → Part → Part
low_piece left p = record p { span = record { first = p.span.first; pages = left } }

-- the pages of an extent above a cut
abbrev pub high_piece : ℕ → Part → Part
high_piece left p = record p { span = record { first = p.span.first + left; pages = p.span.pages - left } }

-- the pages of two extents side by side, as one
abbrev pub joined : Part → Part → Part
joined low high = record low { span = record { first = low.span.first; pages = low.span.pages + high.span.pages } }

-- whether the extent begins where one of the two does
abbrev pub begins_either : Part → Part → Part → Bool
begins_either low high p = begins_at low.span.first p || begins_at high.span.first p

-- whether no dirty extent may stay
abbrev pub is_dirty_time_over : Space → Bool
is_dirty_time_over space = int_eq space.dirty.ms (pos 0)

-- whether muzzy extents may stay, so that a dirty one is purged lazily first
abbrev pub is_lazy : Space → Bool
is_lazy space = not (int_eq space.muzzy.ms (pos 0))

-- whether something was found and passes the test
abbrev pub found_passes : (Part → Bool) → Option Part → Bool
found_passes test None = false
found_passes test (Some p) = test p

-- whether the client has an extent in flight with just this span, and it passes the test
abbrev pub has_flight : Space → ℕ → Span → (Part → Bool) → Bool
has_flight space c span test = found_passes test (find (is_flight_at c span) space.parts)

-- whether the answer is one to an ask other than alloc
abbrev pub is_yes_or_no : Answer → Bool
is_yes_or_no (Placed committed zeroed first) = false
is_yes_or_no answer = true
