use Rattle.trace_text.proofs.Words.{◌≡◌, ◌∙◌, Ok, sym, client_of, decimal_of}
use Rattle.trace_text.proofs.Pieces.{malloc_said}
use Rattle.trace_text.proofs.usual.malloc.Goals as goal

pub returns-in-Ok-decimal-clause-value : goal.returns-in-Ok-decimal-clause-value
returns-in-Ok-decimal-clause-value c =
    let client : client_of c.in_ok-word.word.now ≡ Ok c.in-Ok.client = cc in
    let number : decimal_of c.in_ok-name.digits.now ≡ Ok c.in-Ok-decimal.size = cc in
    malloc_said _ _ _ _ _ _ _ _ _ _ c.in_ok-word.ensures client c.in_ok-verb.ensures.parts (c.is_malloc.ensures c.if-not-is_malloc.false) c.in_ok-name.ensures.parts c.in_ok-name.ensures.front
    c.name_end.ensures.named (sym c.begins_name.ensures ∙ c.if-begins_name.true) number
