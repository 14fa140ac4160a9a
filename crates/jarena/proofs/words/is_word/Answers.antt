use Rattle.std.proofs.Common.{string_bytes}
use Rattle.jarena.proofs.OneWord.{one_text}
use Rattle.jarena.proofs.words.is_word.Goals as goal

pub returns-in-len1 : goal.returns-in-len1
returns-in-len1 c =
    one_text string_bytes c.args.words.now c.word-item.result c.as_str.result.now _ c.eq.result
    c.in-len1.len_at_least c.in-len1.len_below c.word-item.is c.as_str.ensures.value c.eq.ensures
