use Rattle.text_words.proofs.Cuts.{some_words}
use Rattle.text_words.proofs.words.Words.is_empty.Goals as goal

pub returns-clause-no : goal.returns-clause-no
returns-clause-no c told = rw (← c.self.view_is, told) (some_words c.self.inside.separator c.self.inside.left.now)
