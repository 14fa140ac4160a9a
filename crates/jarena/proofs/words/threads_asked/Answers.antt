use Rattle.std.proofs.Common.{string_bytes}
use Rattle.jarena.proofs.OneWord.{one_text, two_texts}
use Rattle.jarena.proofs.words.threads_asked.Goals as goal

pub returns-in-len1 : goal.returns-in-len1
returns-in-len1 c =
    (one_text string_bytes c.args.words.now c.word-item.result c.as_str.result.now _ c.eq.result c.in-len1.len_at_least c.in-len1.len_below c.word-item.is c.as_str.ensures.value c.eq.ensures).0 c.if-eq.true

pub returns-in-len2 : goal.returns-in-len2
returns-in-len2 c =
    let word = c.word-item-then-words-lt3 in
    let option = c.option-item in
    two_texts string_bytes c.args.words.now word.result option.result c.as_str-then-words-lt3.result.now c.as_str-then-eq-2.result.now _ _ c.eq-then-words-lt3.result c.eq-then-eq-2.result
    c.in-len2.len_at_least c.in-len2.len_below word.is c.as_str-then-words-lt3.ensures.value c.eq-then-words-lt3.ensures c.if-eq-2.true option.is c.as_str-then-eq-2.ensures.value c.eq-then-eq-2.ensures c.if-eq-3.true
