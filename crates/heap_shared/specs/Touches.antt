-- The span whose chunks are released after an operation, by its reply.
use Rattle.std.specs.Prelude.{Option, None, Some}
use Rattle.space_model.specs.declared.entries.Reply.{Reply}
use Rattle.space_model.specs.declared.entries.Reply.TheVariants.{Doomed as WasDoomed}
use Rattle.space_model.specs.declared.parts.Span.{Span}
use Rattle.heap_shared.specs.declared.claims.Touch.{Touch}
use Rattle.heap_shared.specs.declared.claims.Touch.TheVariants.{Known, Doomed}

-- the span that an operation touches of which this much is known before its reply
abbrev pub touched_with : Touch → Reply → Option Span
touched_with (Known span) reply = span
touched_with Doomed (WasDoomed span committed) = Some span
touched_with Doomed reply = None
