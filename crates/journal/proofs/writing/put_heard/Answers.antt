use Rattle.std.proofs.Common.{[], ◌∷◌, map}
use Rattle.std.proofs.lemmas.Result.{on_ok_weaker}
use Rattle.journal.specs.Asks.{answer_words, ask_words}
use Rattle.journal.specs.Entries.{token_word}
use Rattle.journal.specs.Labels.{label_word}
use Rattle.journal.proofs.Puts.{puts_four}
use Rattle.journal.proofs.writing.put_heard.Goals as goal

pub returns : goal.returns
returns c = on_ok_weaker c.put_all-2.result (λ h. puts_four (label_word c.args.label ∷ []) (ask_words c.args.heard.ask) (answer_words c.args.heard.answer) (map token_word c.args.tokens.now) c.args.out.now.items c.put_all.new.out.items c.put_ask.new.out.items c.put_answer.new.out.items c.put_all-2.new.out.items c.in_ok-put_all.ensures c.in_ok-put_ask.ensures c.in_ok-put_answer.ensures h) c.put_all-2.ensures
